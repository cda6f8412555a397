-- A task that is over ends.
use Rattle.std.proofs.Common.{◌≡◌, ◌∙◌, Bool, true, Option, Some, None, sym, ap}
use Rattle.std.specs.Prelude.{if◌then◌else◌}
use Rattle.std.specs.Option.{option_map_or}
use Rattle.pb_value.specs.Datum.{Datum}
use Rattle.pb_inventory.specs.InventoryOf.{InventoryOf}
use Rattle.pb_facts.specs.Facts.{FactsOf}
use Rattle.pb_outcome.specs.Items.{is_over, result_of}
use Rattle.pb_task_vars.specs.FromPlan.{PlayOf}
use Rattle.pb_task_vars.specs.Learning.{facts_after_end}
use Rattle.pb_task_vars.specs.Results.{variable_at}
use Rattle.pb_host.specs.declared.host.Running.{Running}
use Rattle.pb_host.specs.declared.step_result.TaskEnd.{TaskEnd}
use Rattle.pb_host.specs.Back.{finish_run, went_on, went_with}
use Rattle.pb_host.specs.Handlers.{notified_by}
use Rattle.pb_host.specs.Host.{HostOf, ended, finished, task_at}

-- the row of a host whose task is over
pub row_ended : (inventory : InventoryOf) (play : PlayOf) (row new : HostOf) (r : Running) (task : TaskEnd) (shown : Datum) (known : FactsOf) → row.running ≡ Some r → is_over r.items ≡ true
    → task ≡ task_at play r.place r.items → shown ≡ result_of (variable_at play r.place) r.items
    → known ≡ facts_after_end inventory play r.place (Some row.host) task.result shown r.items row.facts
    → new ≡ finished (finish_run play r.place task row.running) task (notified_by play r.place task) known row → new ≡ went_on inventory play row
row_ended inventory play row new r task shown known runs over t s k n =
    n
    ∙ ap (λ (running : Option Running). finished (finish_run play r.place task running) task (notified_by play r.place task) known row) runs
    ∙ ap (λ (facts : FactsOf). finished (finish_run play r.place task (Some r)) task (notified_by play r.place task) facts row) k
    ∙ ap (λ (one : Datum). finished (finish_run play r.place task (Some r)) task (notified_by play r.place task) (facts_after_end inventory play r.place (Some row.host) task.result one r.items row.facts) row) s
    ∙ ap (λ (end : TaskEnd). finished (finish_run play r.place end (Some r)) end (notified_by play r.place end) (facts_after_end inventory play r.place (Some row.host) end.result (result_of (variable_at play r.place) r.items) r.items row.facts) row) t
    ∙ sym (ap (λ (b : Bool). if b then ended inventory play r.place r.items row else record row { running = Some (record { place = r.place; items = r.items; out = None }) }) over)
    ∙ sym (ap (λ (running : Option Running). option_map_or (went_with inventory play row) running row) runs)
