-- Worked examples: each is proved by computing both sides.
use Rattle.std.specs.Prelude.{◌≡◌, refl, true, false, [], ◌∷◌, List, map, count_by}
use Rattle.std.specs.List.{sum}
use Rattle.pb_tree.specs.declared.tree.Status.{Status}
use Rattle.pb_tree.specs.declared.tree.Status.TheVariants as status
use Rattle.pb_lanes.specs.declared.kind.CountKind.TheVariants.{Okay, Changed, Skipped, Failed as HasFailed}
use Rattle.pb_lanes.specs.Codes.{code_of, status_of, is_status}
use Rattle.pb_lanes.specs.Bytes.{is_byte}
use Rattle.pb_lanes.specs.ColumnsOf.{ColumnsOf, hosts_in, column, no_counts, bumped, with_count, has_some}

-- four hosts
abbrev four : List Status
four = status.Active ∷ status.Gone ∷ status.Active ∷ status.Failed ∷ []

active : map (is_status status.Active) four ≡ true ∷ false ∷ true ∷ false ∷ []
active = refl

-- a host that is gone hasn't failed
failed : map (is_status status.Failed) four ≡ false ∷ false ∷ false ∷ true ∷ []
failed = refl

none_halted : count_by (is_status status.Halted) four ≡ 0
none_halted = refl

as_bytes : map code_of four ≡ 0 ∷ 3 ∷ 0 ∷ 1 ∷ []
as_bytes = refl

halted_as_byte : code_of status.Halted ≡ 2
halted_as_byte = refl

as_statuses : map status_of (0 ∷ 3 ∷ 0 ∷ 1 ∷ []) ≡ four
as_statuses = refl

-- comparing the bytes says which hosts are active
active_bytes : map (is_byte 0) (0 ∷ 3 ∷ 0 ∷ 1 ∷ []) ≡ map (is_status status.Active) four
active_bytes = refl

-- of three hosts the last one has two tasks that went well, of which one changed something
abbrev two_okay : ColumnsOf
two_okay = bumped Changed 2 (bumped Okay 2 (bumped Okay 2 (no_counts 3)))

three_hosts : hosts_in two_okay ≡ 3
three_hosts = refl

okay : column Okay two_okay ≡ 0 ∷ 0 ∷ 2 ∷ []
okay = refl

changed : column Changed two_okay ≡ 0 ∷ 0 ∷ 1 ∷ []
changed = refl

none_skipped : column Skipped two_okay ≡ 0 ∷ 0 ∷ 0 ∷ []
none_skipped = refl

total : sum (column Okay two_okay) ≡ 2
total = refl

some_okay : has_some (column Okay two_okay) ≡ true
some_okay = refl

none_failed : has_some (column HasFailed two_okay) ≡ false
none_failed = refl

-- a count that is put down replaces the one that was there, and no other
put_skipped : column Skipped (with_count Skipped 1 7 two_okay) ≡ 0 ∷ 7 ∷ 0 ∷ []
put_skipped = refl

put_okay : column Okay (with_count Okay 2 7 two_okay) ≡ 0 ∷ 0 ∷ 7 ∷ []
put_okay = refl

others_stay : column Okay (with_count Skipped 2 7 two_okay) ≡ column Okay two_okay
others_stay = refl
