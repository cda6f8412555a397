-- The counts of a host by their kinds, and the exit status. The kinds are those of pb_lanes.
pub use Rattle.pb_lanes.specs.declared.kind.CountKind.{CountKind}
pub use Rattle.pb_lanes.specs.declared.kind.CountKind.TheVariants.{Okay, Changed, Unreachable, Failed, Skipped, Rescued, Ignored}
use Rattle.std.specs.Prelude.{ℕ, nat_lt, Bool, ◌||◌, List, slice_get, if◌then◌else◌}
use Rattle.std.specs.List.{list_any}
use Rattle.std.specs.Option.{option_map_or}
use Rattle.pb_host.specs.declared.host.Counts.{Counts}

abbrev pub count_of : CountKind → Counts → ℕ
count_of Okay counts = counts.ok
count_of Changed counts = counts.changed
count_of Unreachable counts = counts.unreachable
count_of Failed counts = counts.failed
count_of Skipped counts = counts.skipped
count_of Rescued counts = counts.rescued
count_of Ignored counts = counts.ignored

-- of the host with a number
abbrev pub count_at : CountKind → List Counts → ℕ → ℕ
count_at kind counts h = option_map_or (count_of kind) (slice_get counts h) 0

-- some task of a host counts under this kind
abbrev pub has : CountKind → Counts → Bool
has kind counts = nat_lt 0 (count_of kind counts)

-- some task of a host counts, under whatever kind
abbrev pub has_count : Counts → Bool
has_count counts =
    has Okay counts || has Changed counts || has Unreachable counts || has Failed counts || has Skipped counts || has Rescued counts || has Ignored counts

-- 2 where some task failed, 4 where none failed and some host could not be reached, else 0
abbrev pub status_of : List Counts → ℕ
status_of counts = if list_any (has Failed) counts then 2 else (if list_any (has Unreachable) counts then 4 else 0)
