-- The line of statistics over members that stand in the order of their names.
use Rattle.std.specs.Prelude.{ℕ, List, [], ◌∷◌, codes}
use Rattle.std.specs.Borrow.{Bor}
use Rattle.serde_json.specs.Data.{Data, string, object, Members, no_members, member}
use Rattle.pb_ids.specs.declared.numbers.HostNo.{HostNo}
use Rattle.pb_lanes.specs.ColumnsOf.{ColumnsOf}
use Rattle.pb_host.specs.declared.host.Counts.{Counts}
use Rattle.pb_recap.specs.InColumns.{counts_of}
use Rattle.pb_recap.specs.Stats.{counts_data}

-- a name that stands beside a host's number, with the counts of that host
abbrev pub named_in : ColumnsOf → Bor (List ℕ) × HostNo → List ℕ × Counts
named_in columns host = (host.0.now, counts_of columns host.1.0)

-- hosts as they stand, each with its counts
abbrev pub members_of : List (List ℕ × Counts) → Members
members_of [] = no_members
members_of (host ∷ hosts) = member host.0 (counts_data host.1) (members_of hosts)

-- the line of statistics, as JSON, with these members for its hosts
abbrev pub line_with : Members → Data
line_with ms =
    object
    (member (codes "event") (string (codes "playbook_on_stats"))
    (member (codes "stats") (object ms) no_members))
