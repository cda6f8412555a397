-- The line of statistics: compact JSON of an object with the event's name and, for each host that has a count, its seven counts. Keys stand in byte order.
use Rattle.std.specs.Prelude.{ℕ, List, [], ◌∷◌, ◌++◌, codes}
use Rattle.serde_json.specs.Data.{Data, unsigned, number, string, object, Members, no_members, member, put}
use Rattle.serde_json.specs.Written.{compact_text}
use Rattle.pb_host.specs.declared.host.Counts.{Counts}
use Rattle.pb_recap.specs.Hosts.{hosts_with_count}

-- a count under its name, in front of other members
abbrev pub counted_as : List ℕ → ℕ → Members → Members
counted_as name count rest = member name (number (unsigned count)) rest

-- the seven counts of a host as JSON
abbrev pub counts_data : Counts → Data
counts_data counts =
    object
    (counted_as (codes "changed") counts.changed
    (counted_as (codes "failed") counts.failed
    (counted_as (codes "ignored") counts.ignored
    (counted_as (codes "ok") counts.ok
    (counted_as (codes "rescued") counts.rescued
    (counted_as (codes "skipped") counts.skipped
    (counted_as (codes "unreachable") counts.unreachable no_members)))))))

-- the members, with those of the hosts put in
abbrev pub with_hosts : Members → List (List ℕ × Counts) → Members
with_hosts ms [] = ms
with_hosts ms (host ∷ hosts) = with_hosts (put host.0 (counts_data host.1) ms) hosts

unfoldable pub line_data : List (List ℕ) → List Counts → Data
line_data names all =
    object
    (member (codes "event") (string (codes "playbook_on_stats"))
    (member (codes "stats") (object (with_hosts no_members (hosts_with_count names all))) no_members))

-- the text of the line, with its end; names and counts stand in host order
abbrev pub stats_line : List (List ℕ) → List Counts → List ℕ
stats_line names all = compact_text (line_data names all) ++ 10 ∷ []
