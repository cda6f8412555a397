-- Worked runs of delegated tasks: where their jobs go, and whose their facts are.
use Rattle.std.specs.Prelude.{◌≡◌, ℕ, pos, true, false, List, [], ◌∷◌, map, codes, Option, Some, refl}
use Rattle.pb_value.specs.Datum.{Datum, int, text, list, items_of}
use Rattle.pb_facts.specs.Facts.{FactsOf, no_facts}
use Rattle.pb_outcome.specs.declared.job.Call.TheVariants as call
use Rattle.pb_outcome.specs.declared.job.Job.{Job}
use Rattle.pb_places.specs.Place.{PlaceOf, place_of, bare_task}
use Rattle.pb_plan.specs.Plan.{PlanOf, bare_inventory, bare_plan, bare_play, bare_tree}
use Rattle.pb_play.specs.declared.modules.Module.TheVariants.{SetFact, Shell}
use Rattle.pb_play.specs.declared.task.Task.{Task}
use Rattle.pb_state.specs.declared.event.Event.TheVariants.{Open, Start}
use Rattle.pb_host.specs.FactRows.{on_facts}
use Rattle.pb_state.specs.Jobs.{job_of}
use Rattle.pb_host.specs.Host.{HostOf}
use Rattle.pb_state.specs.Run.{state_after_under}
use Rattle.pb_state.specs.State.{State}

-- a play of one task for the first of two hosts, which connects to the second by a program
abbrev plan_of : PlaceOf → PlanOf
plan_of place =
    record (bare_plan (codes "a" ∷ codes "b" ∷ []) (bare_play (codes "a") (bare_tree 0 1 0) (place ∷ []) (true ∷ false ∷ []) ∷ [])) {
      inventory =
          record (bare_inventory (codes "a" ∷ codes "b" ∷ [])) {
            host_vars = (codes "b", (codes "pb_connector", list (items_of (text (codes "conn") ∷ []))) ∷ []) ∷ [];
          };
    }

abbrev started : PlaceOf → State
started place = state_after_under (plan_of place) 5 5 (Open ∷ Start (record { 0 = 0 }) ∷ [])

abbrev to : List ℕ → PlaceOf → PlaceOf
to name place = record place { delegate_to = Some name }

-- ---- jobs
abbrev runs : PlaceOf
runs = place_of (bare_task (codes "shell") (Shell (codes "run")))

abbrev sent : PlaceOf → Option Job
sent place = job_of (plan_of place) (started place) (record { 0 = 0 }) (record { 0 = 0 })

abbrev job : List ℕ → List (List ℕ) → Job
job target connector =
    record {
      ticket = record { 0 = 0 };
      host = record { 0 = 0 };
      name = codes "a";
      play = record { 0 = 0 };
      place = 1 ∷ [];
      item = 0;
      attempt = 1;
      delay = 0;
      target = target;
      connector = connector;
      call = call.Shell (codes "run");
    }

-- the job goes to the delegate, by the words that connect to it, and stays the job of the host that runs the task
goes_to_delegate : sent (to (codes "b") runs) ≡ Some (job (codes "b") (codes "conn" ∷ []))
unfolding on_facts
goes_to_delegate = refl

stays_at_home : sent runs ≡ Some (job (codes "a") [])
unfolding on_facts
stays_at_home = refl

-- a name that is no host's has no words
goes_to_no_host : sent (to (codes "z") runs) ≡ Some (job (codes "z") [])
unfolding on_facts
goes_to_no_host = refl

-- ---- facts
abbrev sets : Task
sets = bare_task (codes "set_fact") (SetFact ((codes "x", int (pos 1)) ∷ []))

abbrev gives : Task → PlaceOf
gives task = record (place_of task) { delegate_facts = true }

abbrev learnt : PlaceOf → List FactsOf
learnt place = map (λ (row : HostOf). row.facts) (started place).rows

abbrev x_is_one : FactsOf
x_is_one = record no_facts { set = (codes "x", int (pos 1)) ∷ [] }

-- where facts are delegated they are the delegate's, and else those of the host that ran the task
delegate_learns : learnt (to (codes "b") (gives sets)) ≡ no_facts ∷ x_is_one ∷ []
unfolding on_facts
delegate_learns = refl

not_delegated_facts : learnt (to (codes "b") (place_of sets)) ≡ x_is_one ∷ no_facts ∷ []
unfolding on_facts
not_delegated_facts = refl

not_delegated_task : learnt (gives sets) ≡ x_is_one ∷ no_facts ∷ []
unfolding on_facts
not_delegated_task = refl

-- so they are where a host delegates to itself
delegates_to_itself : learnt (to (codes "a") (gives sets)) ≡ x_is_one ∷ no_facts ∷ []
unfolding on_facts
delegates_to_itself = refl

-- a name that is no host's is given nothing
nobody_learns : learnt (to (codes "z") (gives sets)) ≡ no_facts ∷ no_facts ∷ []
unfolding on_facts
nobody_learns = refl

-- what is registered stays with the host that ran the task
abbrev names : PlaceOf → List (List (List ℕ))
names place = map (λ (facts : FactsOf). map (λ (e : List ℕ × Datum). e.0) facts.set) (learnt place)

result_stays : names (to (codes "b") (gives (record sets { register = Some (codes "r") }))) ≡ (codes "r" ∷ []) ∷ (codes "x" ∷ []) ∷ []
unfolding on_facts
result_stays = refl
