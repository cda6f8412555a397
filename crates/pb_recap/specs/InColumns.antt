-- The counts of all hosts: seven columns as a list of each host's counts.
use Rattle.std.specs.Prelude.{ℕ, zero, suc, ◌+◌, ◌<◌, List, [], ◌∷◌, length, slice_index, slice_set}
use Rattle.pb_lanes.specs.declared.kind.CountKind.{CountKind}
use Rattle.pb_lanes.specs.ColumnsOf.{ColumnsOf, hosts_in, column}
use Rattle.pb_host.specs.declared.host.Counts.{Counts}

-- the counts of a host, by its number
abbrev pub counts_of : ColumnsOf → ℕ → Counts
counts_of columns h =
    record {
      ok = slice_index columns.ok h;
      changed = slice_index columns.changed h;
      unreachable = slice_index columns.unreachable h;
      failed = slice_index columns.failed h;
      skipped = slice_index columns.skipped h;
      rescued = slice_index columns.rescued h;
      ignored = slice_index columns.ignored h;
    }

-- of so many hosts, whose first has the number h
abbrev pub rows_from : ColumnsOf → ℕ → ℕ → List Counts
rows_from columns h zero = []
rows_from columns h (suc n) = counts_of columns h ∷ rows_from columns (h + 1) n

-- of all hosts, in the order of their numbers
abbrev pub rows_of : ColumnsOf → List Counts
rows_of columns = rows_from columns 0 (hosts_in columns)

-- each column has a count of the host with a number
abbrev pub HasHost : ColumnsOf → ℕ → Type 0
HasHost columns h = (kind : CountKind) → h < length (column kind columns)

-- these counts of a host in place of those that it has
abbrev pub with_counts : ℕ → Counts → ColumnsOf → ColumnsOf
with_counts h counts columns =
    record {
      ok = slice_set columns.ok h counts.ok;
      changed = slice_set columns.changed h counts.changed;
      unreachable = slice_set columns.unreachable h counts.unreachable;
      failed = slice_set columns.failed h counts.failed;
      skipped = slice_set columns.skipped h counts.skipped;
      rescued = slice_set columns.rescued h counts.rescued;
      ignored = slice_set columns.ignored h counts.ignored;
    }
