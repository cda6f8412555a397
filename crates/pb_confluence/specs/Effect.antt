-- The whole effect of a task on one host, where what comes of its jobs is fixed: the host starts it, and each attempt at its items comes back at once.
use Rattle.std.specs.Prelude.{ℕ, zero, suc, ◌-◌, ◌*◌, List, length, Option, Some, None, if◌then◌else◌}
use Rattle.std.specs.Option.{option_map_or}
use Rattle.pb_outcome.specs.declared.item.Item.{Item}
use Rattle.pb_outcome.specs.declared.outcome.Form.{Form}
use Rattle.pb_plan.specs.Plan.{PlayOf, PlanOf}
use Rattle.pb_task_vars.specs.Results.{items_at}
use Rattle.pb_host.specs.Attempts.{rank}
use Rattle.pb_host.specs.declared.host.Running.{Running}
use Rattle.pb_host.specs.Host.{HostOf, is_at, progressed, reported}
use Rattle.pb_state.specs.Jobs.{row_job}
use Rattle.pb_confluence.specs.Fixed.{Fixed, outcome_of}

-- how many attempts at most are still to come back: an item may be tried 101 times
abbrev pub attempts_left : List Item → ℕ
attempts_left items = 101 * length items - rank items

-- what comes of the next job of a host; which ticket it has is nothing to it
abbrev pub outcome_for : PlanOf → Fixed → ℕ → PlayOf → HostOf → Form
outcome_for plan f number play row = outcome_of f (row_job plan number (record { 0 = row.host }) (record { 0 = zero }) play row)

-- the attempt that is next of the task that a host runs comes back: its item has its result then, or is tried again
abbrev pub item_back : PlanOf → Fixed → ℕ → PlayOf → HostOf → HostOf
item_back plan f number play row = reported plan play (outcome_for plan f number play row) row

-- and so many of them, one after another; where the task has ended nothing comes back
abbrev pub items_back : PlanOf → Fixed → ℕ → PlayOf → ℕ → HostOf → HostOf
items_back plan f number play zero row = row
items_back plan f number play (suc n) row = option_map_or (λ (r : Running). items_back plan f number play n (item_back plan f number play row)) row.running row

-- what a host runs comes to its end
abbrev pub played_out : PlanOf → Fixed → ℕ → PlayOf → Option Running → HostOf → HostOf
played_out plan f number play None row = row
played_out plan f number play (Some r) row = items_back plan f number play (attempts_left r.items) row

-- the task at a place as it starts on a host: what it sees is the plan and what the host has learnt
abbrev pub started : PlanOf → PlayOf → ℕ → HostOf → HostOf
started plan play p row = progressed plan.inventory play p (items_at plan play row.host row.facts p) row

-- the task at a place as a whole: a host starts it, and it comes to its end
abbrev pub whole : PlanOf → Fixed → ℕ → PlayOf → ℕ → HostOf → HostOf
whole plan f number play p row = played_out plan f number play (started plan play p row).running (started plan play p row)

-- what a place does to one host by itself: a host that runs a task ends it, one that stands there starts the task and ends it, and any other is as it was
abbrev pub completed : PlanOf → Fixed → ℕ → PlayOf → ℕ → Option Running → HostOf → HostOf
completed plan f number play p None row = if is_at p row then whole plan f number play p row else row
completed plan f number play p (Some r) row = played_out plan f number play (Some r) row

-- the same, where what the host runs is read off its row
abbrev pub complete : PlanOf → Fixed → ℕ → PlayOf → ℕ → HostOf → HostOf
complete plan f number play p row = completed plan f number play p row.running row
