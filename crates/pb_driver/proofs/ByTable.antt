-- What a table gives is fixed for each job.
use Rattle.std.proofs.Common.{◌≡◌, ◌∙◌, inl, inr, ℕ, List, [], ◌∷◌, refl, sym, ap, subst}
use Rattle.std.specs.Prelude.{◌&&◌, Bool, Option, Some, None, option_map, slice_get, unwrap_or, if◌then◌else◌}
use Rattle.std.specs.Option.{option_map_or}
use Rattle.pb_ids.specs.Dotted.{dotted}
use Rattle.pb_ids.specs.declared.numbers.HostNo.{HostNo}
use Rattle.pb_ids.specs.declared.numbers.Ticket.{Ticket}
use Rattle.pb_inventory.specs.InventoryOf.{InventoryOf}
use Rattle.pb_outcome.specs.Items.{next_item}
use Rattle.pb_outcome.specs.declared.cause.Cause.TheVariants.{OutOfMemory}
use Rattle.pb_outcome.specs.declared.job.Call.{Call}
use Rattle.pb_outcome.specs.declared.job.Job.{Job}
use Rattle.pb_outcome.specs.declared.job.Report.{Report}
use Rattle.pb_outcome.specs.declared.outcome.Form.{Form}
use Rattle.pb_outcome.specs.declared.outcome.Form.TheVariants.{NotStarted}
use Rattle.pb_plan.specs.Plan.{PlayOf, PlanOf}
use Rattle.pb_runner.specs.declared.table.Row.{Row}
use Rattle.pb_runner.specs.declared.table.Table.{Table}
use Rattle.pb_runner.specs.Table.{TableGives, answer, first_outcome, fits, number_fits, text_fits}
use Rattle.pb_tree.specs.Tree.{path_at}
use Rattle.pb_host.specs.declared.host.Running.{Running}
use Rattle.pb_host.specs.Calls.{call_in, delegate_in}
use Rattle.pb_host.specs.Host.{HostOf}
use Rattle.pb_state.specs.declared.event.Event.{Event}
use Rattle.pb_state.specs.declared.event.Event.TheVariants.{Open, Start, Send, Report as Reported, Turn, Close, Stop, Forks}
use Rattle.pb_state.specs.Jobs.{AttemptOf, connector_for, item_job, job_in, job_of, job_with, named_job, next_attempt, placed_job, row_job, running_job}
use Rattle.pb_state.specs.Machine.{after, open_play}
use Rattle.pb_state.specs.State.{State}
use Rattle.pb_engine.specs.Laws.{asked_of, IsFixedAt}
use Rattle.pb_driver.specs.ByTable.{allows_all, given_by, job_again, IsUnrefusedAt, TablesFixOutcomes}
use Rattle.pb_driver.specs.Driven.{IsAnswer, IsAnswerAt}

-- ---- a job has the name of its host
abbrev HasName : PlanOf → Job → Type 0
HasName plan job = slice_get plan.inventory.hosts job.host.0 ≡ Some job.name

module _ (plan : PlanOf) (number : ℕ) (host : HostNo) (ticket : Ticket) (job : Job) where
  by_name : (item : AttemptOf) (delegate : Option (List ℕ)) (call : Call) (path : List ℕ) (found : Option (List ℕ)) → slice_get plan.inventory.hosts host.0 ≡ found
      → option_map (λ (name : List ℕ). job_with number host ticket item call name (unwrap_or delegate name) (connector_for plan.inventory host.0 delegate) path) found ≡ Some job → HasName plan job
  by_name item delegate call path None there is = cc
  by_name item delegate call path (Some name) there is =
      let same : job_with number host ticket item call name (unwrap_or delegate name) (connector_for plan.inventory host.0 delegate) path ≡ job = cc in
      subst (λ (j : Job). HasName plan j) same there

  by_path : (item : AttemptOf) (delegate : Option (List ℕ)) (call : Call) (path : Option (List ℕ)) → option_map_or (named_job plan number host ticket item delegate call) path None ≡ Some job → HasName plan job
  by_path item delegate call None is = cc
  by_path item delegate call (Some path) is = by_name item delegate call path (slice_get plan.inventory.hosts host.0) refl is

  by_call : (play : PlayOf) (p : ℕ) (item : AttemptOf) (delegate : Option (List ℕ)) (call : Option Call) → option_map_or (placed_job plan number host ticket play p item delegate) call None ≡ Some job → HasName plan job
  by_call play p item delegate None is = cc
  by_call play p item delegate (Some call) is = by_path item delegate call (path_at play.tree p) is

  by_item : (play : PlayOf) (r : Running) (next : Option ℕ) → option_map_or (item_job plan number host ticket play r) next None ≡ Some job → HasName plan job
  by_item play r None is = cc
  by_item play r (Some n) is = by_call play r.place (next_attempt play r n) (delegate_in r.items n) (call_in r.items n) is

  by_running : (play : PlayOf) (running : Option Running) → option_map_or (running_job plan number host ticket play) running None ≡ Some job → HasName plan job
  by_running play None is = cc
  by_running play (Some r) is = by_item play r (next_item r.items) is

  by_row : (play : PlayOf) (row : Option HostOf) → option_map_or (row_job plan number host ticket play) row None ≡ Some job → HasName plan job
  by_row play None is = cc
  by_row play (Some row) is = by_running play row.running is

by_play : (plan : PlanOf) (s : State) (host : HostNo) (ticket : Ticket) (job : Job) (play : Option PlayOf) → option_map_or (job_in plan s host ticket) play None ≡ Some job → HasName plan job
by_play plan s host ticket job None is = cc
by_play plan s host ticket job (Some play) is = by_row plan s.play host ticket job play (slice_get s.rows host.0) is

-- ---- so a table gives the same for what is asked of it
fits_again : (inventory : InventoryOf) (job : Job) (row : Row) → slice_get inventory.hosts job.host.0 ≡ Some job.name → fits (job_again inventory (asked_of job)) row ≡ fits job row
fits_again inventory job row is =
    ap
    (λ (name : Option (List ℕ)).
    number_fits row.attempt job.attempt
    && (text_fits row.host (unwrap_or name []) && (number_fits row.item job.item && (text_fits row.place (dotted job.place) && number_fits row.play job.play.0))))
    is

first_again : (inventory : InventoryOf) (job : Job) (rows : List Row) → slice_get inventory.hosts job.host.0 ≡ Some job.name → first_outcome (job_again inventory (asked_of job)) rows ≡ first_outcome job rows
first_again inventory job [] is = refl
first_again inventory job (row ∷ rows) is =
    ap (λ (b : Bool). if b then Some row.outcome else first_outcome (job_again inventory (asked_of job)) rows) (fits_again inventory job row is)
    ∙ ap (λ (later : Option Form). if fits job row then Some row.outcome else later) (first_again inventory job rows is)

given_again : (inventory : InventoryOf) (table : Table) (job : Job) → slice_get inventory.hosts job.host.0 ≡ Some job.name → given_by inventory table (asked_of job) ≡ answer table job
given_again inventory table job is = ap (λ (o : Option Form). unwrap_or o table.default) (first_again inventory job table.rows is)

-- ---- along a trail
fixed_job : (table : Table) (plan : PlanOf) (job : Job) (outcome : Form) → HasName plan job → TableGives table job outcome → (outcome ≡ NotStarted OutOfMemory → answer table job ≡ NotStarted OutOfMemory)
    → outcome ≡ given_by plan.inventory table (asked_of job)
fixed_job table plan job outcome named (inl is) unrefused = is ∙ sym (given_again plan.inventory table job named)
fixed_job table plan job outcome named (inr is) unrefused = is ∙ sym (unrefused is) ∙ sym (given_again plan.inventory table job named)

fixed_report : (table : Table) (plan : PlanOf) (s : State) (r : Report) (found : Option Job) → job_of plan s r.host r.ticket ≡ found → IsAnswer allows_all (TableGives table) plan s r → IsUnrefusedAt table plan s (Reported r)
    → IsFixedAt plan (given_by plan.inventory table) s (Reported r)
fixed_report table plan s r None there answers unrefused = let both : None ≡ Some answers.job = sym there ∙ answers.is_out in cc
fixed_report table plan s r (Some job) there answers unrefused =
    let same : answers.job ≡ job = (let both : Some answers.job ≡ Some job = sym answers.is_out ∙ there in cc) in
    rw there
    (
    fixed_job table plan job r.outcome (by_play plan s r.host r.ticket job (open_play plan s) there) (subst (λ (j : Job). TableGives table j r.outcome) same answers.given) (rw there at unrefused)
    )

fixed_at : (table : Table) (plan : PlanOf) (s : State) (e : Event) → IsAnswerAt (IsAnswer allows_all (TableGives table)) plan s e → IsUnrefusedAt table plan s e → IsFixedAt plan (given_by plan.inventory table) s e
fixed_at table plan s Open answers unrefused = tt
fixed_at table plan s (Start h) answers unrefused = tt
fixed_at table plan s (Send h item attempt ticket) answers unrefused = tt
fixed_at table plan s (Reported r) answers unrefused = fixed_report table plan s r (job_of plan s r.host r.ticket) refl answers unrefused
fixed_at table plan s Turn answers unrefused = tt
fixed_at table plan s Close answers unrefused = tt
fixed_at table plan s Stop answers unrefused = tt
fixed_at table plan s (Forks n) answers unrefused = tt

pub tables_fix_outcomes : TablesFixOutcomes
tables_fix_outcomes table plan s [] answers unrefused = tt
tables_fix_outcomes table plan s (e ∷ es) answers unrefused =
    (fixed_at table plan s e answers.0 unrefused.0, tables_fix_outcomes table plan (after plan s e) es answers.1 unrefused.1)
