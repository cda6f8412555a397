-- How far a state's numbers can have come: a host counts each place of a play once, and sends 101 jobs at most for each item of its task there.
use Rattle.std.specs.Prelude.{◌≡◌, ℕ, ◌+◌, ◌*◌, ◌≤◌, ◌<◌, Bool, true, false, ◌&&◌, ◌||◌, not, List, [], ◌∷◌, length, min, sum_by, Option, Some, None, if◌then◌else◌}
use Rattle.std.specs.Bool.{OnTrue}
use Rattle.pb_tree.specs.Tree.{size_of}
use Rattle.pb_tree.specs.Walk.{one_halted}
use Rattle.pb_ids.specs.declared.numbers.Ticket.{Ticket}
use Rattle.pb_task_vars.specs.FromItems.{max_items}
use Rattle.pb_host.specs.declared.host.Running.{Running}
use Rattle.pb_host.specs.Attempts.{rank}
use Rattle.pb_hosts.specs.Batches.{has_batch_left}
use Rattle.pb_host.specs.Host.{HostOf}
use Rattle.pb_host.specs.Ends.{IsAtMost}

-- the places at which a host was in the open batch
abbrev pub run_places : Option Running → ℕ
run_places None = 0
run_places (Some r) = 1

-- one job, where one is out under a ticket
abbrev pub out_jobs : Option Ticket → ℕ
out_jobs None = 0
out_jobs (Some ticket) = 1

-- of a task that runs, the attempts before the next one may have been sent, and the next one where a job is out
abbrev pub running_jobs : Option Running → ℕ
running_jobs None = 0
running_jobs (Some r) = min (101 * length r.items) (rank r.items + out_jobs r.out)

-- how many items the task has that a host runs; none where it runs nothing
abbrev pub running_items : Option Running → ℕ
running_items None = 0
running_items (Some r) = length r.items

-- The plays that a host has behind it: also the one that is under way, where its batch has closed, or where it isn't one of the play's hosts.
abbrev pub plays_behind : Bool → ℕ → HostOf → ℕ
plays_behind under_way play row = if under_way && not row.awaits_batch then play + 1 else play

-- a host in the open batch is one of the play's hosts, and one outside of it has neither answered nor started anything
abbrev pub IsPlacedIn : Bool → HostOf → Type 0
IsPlacedIn true row = row.awaits_batch ≡ true
IsPlacedIn false row = length (one_halted row.answers) + run_places row.running ≡ 0

-- while a batch is open, and while none is, of a play that goes on or not
abbrev pub IsWithin : (is_open goes_on : Bool) → ℕ → HostOf → Type 0
IsWithin true goes_on play row =
    IsAtMost row.counts (16384 * plays_behind true play row + length (one_halted row.answers)) × (length (one_halted row.answers) + run_places row.running ≤ 16384)
    × (size_of row.tree ≤ 16384) × (running_items row.running ≤ max_items) × IsPlacedIn row.in_batch row
IsWithin false goes_on play row = IsAtMost row.counts (16384 * plays_behind goes_on play row)

-- the same of all these hosts
abbrev pub AllWithin : (is_open goes_on : Bool) → ℕ → List HostOf → Type 0
AllWithin is_open goes_on play [] = Unit {0}
AllWithin is_open goes_on play (row ∷ rows) = IsWithin is_open goes_on play row × AllWithin is_open goes_on play rows

-- the most jobs of one task that a host sends: 101 for each item
abbrev pub max_jobs : ℕ
max_jobs = 101 * max_items

-- the most jobs that a host can have sent
abbrev pub most_jobs : (is_open goes_on : Bool) → ℕ → HostOf → ℕ
most_jobs true goes_on play row = max_jobs * (16384 * plays_behind true play row + length (one_halted row.answers)) + running_jobs row.running
most_jobs false goes_on play row = max_jobs * (16384 * plays_behind goes_on play row)

-- how far a state has come at most: in what its hosts have counted, in plays, hosts and batches, and in the jobs that were sent
pub record IsBounded (is_open : Bool) (batch : ℕ) (sizes_left : List ℕ) (play sends : ℕ) (rows : List HostOf) : Type 0 where
  pub counts : AllWithin is_open (has_batch_left sizes_left) play rows
  pub plays : play ≤ 256
  pub under_way : OnTrue (is_open || has_batch_left sizes_left) (play < 256)
  pub hosts : length rows ≤ 1048576
  -- a play has as many batches as hosts at most
  pub batches : batch + length sizes_left ≤ 1048576
  pub jobs : sends ≤ sum_by (most_jobs is_open (has_batch_left sizes_left) play) rows
