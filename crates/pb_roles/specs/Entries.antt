-- Which role entries are one and the same: a role is taken once for each way in which it is asked for
-- (Ansible's documentation, "Roles", Running a role multiple times in one play).
use Rattle.std.specs.Prelude.{Bool, true, false, ◌&&◌, List, Option, Some, None}
use Rattle.std.specs.List.{list_any}
use Rattle.std.specs.Str.{bytes_eq}
use Rattle.pb_value.specs.Datum.{Datum, dict, members_of}
use Rattle.pb_operators.specs.Values.{same}
use Rattle.pb_role_entries.specs.declared.entry.EntryAsWritten.{EntryAsWritten}
use Rattle.pb_role_entries.specs.declared.entry.RoleEntry.{RoleEntry}
use Rattle.pb_roles.specs.declared.entry_key.EntryKey.{EntryKey}

-- what tells an entry from others: its name, its parameters, and what is written at `vars`, `when` and `tags`
abbrev pub key_of : RoleEntry → EntryKey
key_of entry = record { name = entry.name; params = dict (members_of entry.params); as_written = entry.as_written }

-- values of a key, as they are written: a key that isn't there is like another one that isn't there alone
abbrev pub are_same : Option Datum → Option Datum → Bool
are_same None None = true
are_same (Some a) (Some b) = same a b
are_same _ _ = false

-- whether `vars`, `when` and `tags` are written the same in both
abbrev pub are_written_alike : EntryAsWritten → EntryAsWritten → Bool
are_written_alike a b = are_same a.vars b.vars && (are_same a.when b.when && are_same a.tags b.tags)

-- one name, and the same parameters, `vars`, `when` and `tags`
abbrev pub is_again : EntryKey → EntryKey → Bool
is_again a b = bytes_eq a.name b.name && (same a.params b.params && are_written_alike a.as_written b.as_written)

-- whether one of those that came is the same as this one
abbrev pub has_come : EntryKey → List EntryKey → Bool
has_come entry came = list_any (is_again entry) came
