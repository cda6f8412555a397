-- Where nothing stands round a task, its place has what its own keys say.
use Rattle.std.proofs.Common.{◌≡◌, Bool, false, List, [], refl, ap}
use Rattle.std.specs.Prelude.{Option, Some, None, unwrap_or}
use Rattle.pb_layers.specs.Scope.{or_else}
use Rattle.pb_handlers.specs.Naming.{notified_from}
use Rattle.pb_handlers.specs.declared.naming.HandlerNames.{HandlerNames}
use Rattle.pb_places.specs.Place.{no_role, place_of}
use Rattle.pb_play.specs.Couplings.{uncoupled}
use Rattle.pb_play.specs.declared.couplings.Couplings.{Couplings}
use Rattle.pb_play.specs.declared.task.Task.{Task as OneTask}
use Rattle.pb_roles.specs.Building.{InheritedOf, inner_couplings, placed}

or_none : {A : Type 0} (own : Option A) → or_else own None ≡ own
or_none (Some x) = refl
or_none None = refl

-- what isn't said outside is what the inner keys say
inner_alone : {A : Type 0} (own outer : Option A) (first : A) → unwrap_or outer first ≡ first → unwrap_or (or_else own outer) first ≡ unwrap_or own first
inner_alone (Some x) outer first e = refl
inner_alone None outer first e = e

inner_uncoupled : (outer own : Couplings) → outer ≡ uncoupled → inner_couplings outer own ≡ own
inner_uncoupled outer own e =
    rw e λ i. record {
      any_errors_fatal = or_none own.any_errors_fatal i;
      delegate_facts = or_none own.delegate_facts i;
      delegate_to = or_none own.delegate_to i;
      run_once = or_none own.run_once i;
    }

pub plain_place : (inherited : InheritedOf) (is_caught : Bool) (names : List HandlerNames) (task : OneTask) → inherited.keys.conditions ≡ [] → inherited.block_vars ≡ [] → inherited.role ≡ no_role → is_caught ≡ false
    → unwrap_or inherited.keys.ignore_errors false ≡ false → unwrap_or inherited.keys.throttle 0 ≡ 0 → inherited.keys.couplings ≡ uncoupled → notified_from task.notify 0 names ≡ []
    → placed names inherited is_caught None task ≡ place_of task
plain_place inherited is_caught names task conditions vars role caught ignores throttle couplings notified =
    let ignore_errors = inner_alone task.ignore_errors inherited.keys.ignore_errors false ignores in
    let at_once = inner_alone task.throttle inherited.keys.throttle 0 throttle in
    let coupled = inner_uncoupled inherited.keys.couplings task.couplings couplings in
    let fatal : or_else task.couplings.any_errors_fatal inherited.keys.couplings.any_errors_fatal ≡ task.couplings.any_errors_fatal = ap (λ (c : Couplings). c.any_errors_fatal) coupled in
    let gives : or_else task.couplings.delegate_facts inherited.keys.couplings.delegate_facts ≡ task.couplings.delegate_facts = ap (λ (c : Couplings). c.delegate_facts) coupled in
    let to : or_else task.couplings.delegate_to inherited.keys.couplings.delegate_to ≡ task.couplings.delegate_to = ap (λ (c : Couplings). c.delegate_to) coupled in
    let once : or_else task.couplings.run_once inherited.keys.couplings.run_once ≡ task.couplings.run_once = ap (λ (c : Couplings). c.run_once) coupled in
    rw (conditions, vars, role, caught, ignore_errors, at_once, fatal, gives, to, once, notified) refl
