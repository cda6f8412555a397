-- How much is left to be done: a number that falls at each event but a command.
use Rattle.std.specs.Prelude.{ℕ, ◌+◌, ◌-◌, ◌*◌, Bool, true, false, List, [], ◌∷◌, length, drop, Option, Some, None, sum_by, slice_get, if◌then◌else◌}
use Rattle.std.specs.Option.{option_map_or}
use Rattle.pb_ids.specs.declared.numbers.Ticket.{Ticket}
use Rattle.pb_tree.specs.Tree.{size_of}
use Rattle.pb_tree.specs.Walk.{one_halted}
use Rattle.pb_task_vars.specs.FromItems.{max_items}
use Rattle.pb_host.specs.declared.host.Running.{Running}
use Rattle.pb_plan.specs.Plan.{PlayOf, PlanOf}
use Rattle.pb_hosts.specs.Batches.{has_batch_left}
use Rattle.pb_host.specs.Host.{HostOf, next_place}
use Rattle.pb_host.specs.Attempts.{rank}
use Rattle.pb_state.specs.State.{State}
use Rattle.pb_hosts.specs.Hosts.{least_place}
use Rattle.pb_state.specs.Machine.{open_play, same_place}

-- a task is started, and each of its items is sent and comes back, 101 times at most
abbrev pub most_events : ℕ
most_events = 2 * (101 * max_items) + 1

-- of one host: an answer at most for each place of its tree
abbrev pub places_left : HostOf → ℕ
places_left row = size_of row.tree - length (one_halted row.answers)

-- of a host that runs nothing, by its next place: nothing is left where it has none
abbrev pub place_work : HostOf → Option ℕ → ℕ
place_work row None = 0
place_work row (Some p) = most_events * places_left row

-- of a task that runs: the sends and the reports of the attempts from the next one on, and what is behind it
abbrev pub out_work : Option Ticket → ℕ
out_work None = 0
out_work (Some ticket) = 1

abbrev pub items_work : Running → ℕ
items_work r = 2 * (101 * length r.items - rank r.items) - out_work r.out

abbrev pub running_work : HostOf → Option Running → ℕ
running_work row None = place_work row (next_place row)
running_work row (Some r) = items_work r + most_events * (places_left row - 1)

-- of one host in the open batch, whether it runs a task or not
abbrev pub row_work : HostOf → ℕ
row_work row = running_work row row.running

-- of a batch that hasn't opened, for n hosts at most
abbrev pub batch_work : ℕ → PlayOf → ℕ
batch_work n play = 3 + 2 * (n * (most_events * size_of play.tree))

-- of batches of these sizes
abbrev pub batches_work : ℕ → List ℕ → PlayOf → ℕ
batches_work n sizes play = length sizes * batch_work n play

-- of plays that haven't begun: each has as many batches as hosts at most
abbrev pub later_work : ℕ → List PlayOf → ℕ
later_work n [] = 0
later_work n (play ∷ plays) = n * batch_work n play + later_work n plays

-- a turn is due where the current place isn't the least
abbrev pub is_place : Option ℕ → Option ℕ → Bool
is_place None None = true
is_place None (Some q) = false
is_place (Some p) q = same_place (Some p) q

-- one event more where a turn is due
abbrev pub turn_work : Option ℕ → Option ℕ → ℕ
turn_work place least = if is_place place least then 0 else 1

-- of the play that is under way, and has this number, the batches of these sizes, and the plays behind it; for n hosts at most
abbrev pub rest_work : PlanOf → ℕ → List ℕ → ℕ → PlayOf → ℕ
rest_work plan n sizes number play = batches_work n sizes play + later_work n (drop (number + 1) plan.plays)

-- where no batch is open: of the play that goes on and those behind it, or else of the plays that haven't begun
abbrev pub between_work : PlanOf → State → ℕ
between_work plan s =
    if has_batch_left s.sizes_left then option_map_or (rest_work plan (length s.rows) s.sizes_left s.play) (slice_get plan.plays s.play) 0
    else later_work (length s.rows) (drop s.play plan.plays)

-- of a state in this open play, or where no batch is open
abbrev pub work_in : PlanOf → State → Option PlayOf → ℕ
work_in plan s None = between_work plan s
work_in plan s (Some play) =
    2 * sum_by row_work s.rows + 1 + turn_work s.place (least_place s.rows) + rest_work plan (length s.rows) s.sizes_left s.play play

-- how much is left to be done in a state
abbrev pub work : PlanOf → State → ℕ
work plan s = work_in plan s (open_play plan s)
