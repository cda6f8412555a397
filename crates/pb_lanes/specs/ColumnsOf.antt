-- Seven lists of counts.
use Rattle.std.specs.Prelude.{◌≡◌, ◌<◌, ◌+◌, ◌^◌, ℕ, nat_eq, Bool, not, List, length, replicate, slice_index, slice_set}
use Rattle.std.specs.List.{list_any}
use Rattle.pb_lanes.specs.declared.kind.CountKind.{CountKind}
use Rattle.pb_lanes.specs.declared.kind.CountKind.TheVariants.{Okay, Changed, Unreachable, Failed, Skipped, Rescued, Ignored}

-- for each kind the counts of the hosts, by their numbers
pub record ColumnsOf : Type 0 where
  pub ok : List ℕ
  pub changed : List ℕ
  pub unreachable : List ℕ
  pub failed : List ℕ
  pub skipped : List ℕ
  pub rescued : List ℕ
  pub ignored : List ℕ

-- how many hosts there are
abbrev pub hosts_in : ColumnsOf → ℕ
hosts_in columns = length columns.ok

-- the counts of a kind
abbrev pub column : CountKind → ColumnsOf → List ℕ
column Okay columns = columns.ok
column Changed columns = columns.changed
column Unreachable columns = columns.unreachable
column Failed columns = columns.failed
column Skipped columns = columns.skipped
column Rescued columns = columns.rescued
column Ignored columns = columns.ignored

-- so many hosts, of which no task counts yet
abbrev pub no_counts : ℕ → ColumnsOf
no_counts hosts =
    record {
      ok = replicate hosts 0;
      changed = replicate hosts 0;
      unreachable = replicate hosts 0;
      failed = replicate hosts 0;
      skipped = replicate hosts 0;
      rescued = replicate hosts 0;
      ignored = replicate hosts 0;
    }

-- one more task of a host, in one column
abbrev pub one_more : ℕ → List ℕ → List ℕ
one_more host counts = slice_set counts host (slice_index counts host + 1)

-- one more task of a host, under a kind
abbrev pub bumped : CountKind → ℕ → ColumnsOf → ColumnsOf
bumped Okay host columns = record columns { ok = one_more host columns.ok }
bumped Changed host columns = record columns { changed = one_more host columns.changed }
bumped Unreachable host columns = record columns { unreachable = one_more host columns.unreachable }
bumped Failed host columns = record columns { failed = one_more host columns.failed }
bumped Skipped host columns = record columns { skipped = one_more host columns.skipped }
bumped Rescued host columns = record columns { rescued = one_more host columns.rescued }
bumped Ignored host columns = record columns { ignored = one_more host columns.ignored }

-- so many tasks of a host, under a kind
abbrev pub with_count : CountKind → ℕ → ℕ → ColumnsOf → ColumnsOf
with_count Okay host count columns = record columns { ok = slice_set columns.ok host count }
with_count Changed host count columns = record columns { changed = slice_set columns.changed host count }
with_count Unreachable host count columns = record columns { unreachable = slice_set columns.unreachable host count }
with_count Failed host count columns = record columns { failed = slice_set columns.failed host count }
with_count Skipped host count columns = record columns { skipped = slice_set columns.skipped host count }
with_count Rescued host count columns = record columns { rescued = slice_set columns.rescued host count }
with_count Ignored host count columns = record columns { ignored = slice_set columns.ignored host count }

-- whether a count isn't 0
abbrev pub is_some_count : ℕ → Bool
is_some_count count = not (nat_eq count 0)

-- whether some host has a count that isn't 0
abbrev pub has_some : List ℕ → Bool
has_some counts = list_any is_some_count counts

-- each column has a count for each host, of fewer than 2^32
pub record AreOfHosts (columns : ColumnsOf) : Type 0 where
  pub few : hosts_in columns < 2 ^ 32
  pub each : (kind : CountKind) → length (column kind columns) ≡ hosts_in columns
