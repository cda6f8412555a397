-- A host that runs has a job: a task that runs is at a place, and its next item has a call.
use Rattle.std.proofs.Common.{◌≡◌, ℕ, zero, suc, ◌<◌, Bool, true, false, List, [], ◌∷◌, length, refl, ◌∙◌, ap, arith}
use Rattle.std.specs.Prelude.{Option, Some, None, slice_get, is_some, option_map, unwrap_or}
use Rattle.std.specs.Option.{option_map_or}
use Rattle.pb_ids.specs.declared.numbers.HostNo.{HostNo}
use Rattle.pb_ids.specs.declared.numbers.Ticket.{Ticket}
use Rattle.pb_tree.specs.Tree.{TreeOf, paths, path_at, size_of}
use Rattle.pb_tree.proofs.Paths.{length_paths}
use Rattle.pb_outcome.specs.declared.job.Call.{Call}
use Rattle.pb_outcome.specs.Items.{next_item}
use Rattle.pb_plan.specs.Plan.{PlayOf, PlanOf}
use Rattle.pb_host.specs.declared.host.Running.{Running}
use Rattle.pb_host.specs.Calls.{call_in, delegate_in}
use Rattle.pb_host.specs.Host.{HostOf}
use Rattle.pb_host.specs.Runs.{is_running}
use Rattle.pb_host.proofs.InOrder.{goes_on_at, has_call}
use Rattle.pb_hosts.specs.Hosts.{at_row}
use Rattle.pb_state.specs.Jobs.{AttemptOf, job_of, job_in, row_job, running_job, item_job, placed_job, connector_for, job_with, next_attempt as attempt_of_job}
use Rattle.pb_state.specs.Machine.{open_play}
use Rattle.pb_state.specs.State.{State}
use Rattle.pb_state.proofs.Held.{IsHeld, IsHeldTask, AreHeld, places_in}

pub row_runs : (test : Running → Bool) (running : Option Running) → option_map_or test running false ≡ true → is_some running ≡ true
row_runs test None e = cc
row_runs test (Some r) e = refl

pub at_runs : (test : HostOf → Bool) → ((row : HostOf) → test row ≡ true → is_running row ≡ true) → (rows : List HostOf) (h : ℕ) → at_row test rows h ≡ true → at_row is_running rows h ≡ true
at_runs test runs [] h e = cc
at_runs test runs (row ∷ rows) zero e = runs row e
at_runs test runs (row ∷ rows) (suc h) e = at_runs test runs rows h e

-- a task that runs is at a place
placed_running : (size sends : ℕ) (running : Option Running) → is_some running ≡ true → IsHeldTask size sends running → 0 < size
placed_running size sends None e held = cc
placed_running size sends (Some r) e held = omega (arith, held.0)

pub placed_row : (size sends : ℕ) (rows : List HostOf) (h : ℕ) → at_row is_running rows h ≡ true → AreHeld size sends rows → 0 < size
placed_row size sends [] h e held = cc
placed_row size sends (row ∷ rows) zero e held = placed_running size sends row.running e held.0
placed_row size sends (row ∷ rows) (suc h) e held = placed_row size sends rows h e held.1

-- a host that runs has its job
get_some : {X : Type 0} (xs : List X) (i : ℕ) → i < length xs → is_some (slice_get xs i) ≡ true
get_some [] i b = absurd (omega (arith, b))
get_some (x ∷ xs) zero b = refl
get_some (x ∷ xs) (suc i) b = get_some xs i (omega (arith, b))

row_within : (test : HostOf → Bool) (rows : List HostOf) (h : ℕ) → at_row test rows h ≡ true → h < length rows
row_within test [] h e = cc
row_within test (row ∷ rows) zero e = omega arith
row_within test (row ∷ rows) (suc h) e = let rest = row_within test rows h e in omega (arith, rest)

named_some : (plan : PlanOf) (number : ℕ) (host : HostNo) (ticket : Ticket) (item : AttemptOf) (delegate : Option (List ℕ)) (call : Call) (path : Option (List ℕ)) (name : Option (List ℕ)) → is_some path ≡ true → is_some name ≡ true
    → is_some (option_map_or (λ (p : List ℕ). option_map (λ (n : List ℕ). job_with number host ticket item call n (unwrap_or delegate n) (connector_for plan.inventory host.0 delegate) p) name) path None) ≡ true
named_some plan number host ticket item delegate call None name e f = cc
named_some plan number host ticket item delegate call (Some path) None e f = cc
named_some plan number host ticket item delegate call (Some path) (Some name) e f = refl

path_some : (tree : TreeOf) (p : ℕ) → p < size_of tree → is_some (path_at tree p) ≡ true
path_some tree p b = get_some (paths tree) p (rw (length_paths tree.handlers tree.nodes) b)

-- the job of an item that has a call
call_job : (plan : PlanOf) (number : ℕ) (host : HostNo) (ticket : Ticket) (play : PlayOf) (r : Running) (n : ℕ) (call : Call) (found : Option Call) → host.0 < length plan.inventory.hosts → r.place < size_of play.tree → found ≡ Some call → is_some (option_map_or (placed_job plan number host ticket play r.place (attempt_of_job play r n) (delegate_in r.items n)) found None) ≡ true
call_job plan number host ticket play r n call None b below e = cc
call_job plan number host ticket play r n call (Some c) b below e =
    named_some plan number host ticket (attempt_of_job play r n) (delegate_in r.items n) c (path_at play.tree r.place) (slice_get plan.inventory.hosts host.0) (path_some play.tree r.place below) (get_some plan.inventory.hosts host.0 b)

next_job : (plan : PlanOf) (number : ℕ) (host : HostNo) (ticket : Ticket) (play : PlayOf) (r : Running) (n : ℕ) (call : Call) (next : Option ℕ) → host.0 < length plan.inventory.hosts → r.place < size_of play.tree → next ≡ Some n → call_in r.items n ≡ Some call → is_some (option_map_or (item_job plan number host ticket play r) next None) ≡ true
next_job plan number host ticket play r n call None b below e f = cc
next_job plan number host ticket play r n call (Some m) b below e f =
    let same : m ≡ n = cc in
    call_job plan number host ticket play r m call (call_in r.items m) b below (ap (call_in r.items) same ∙ f)

task_job : (plan : PlanOf) (number sends : ℕ) (host : HostNo) (ticket : Ticket) (play : PlayOf) (running : Option Running) → host.0 < length plan.inventory.hosts → is_some running ≡ true → IsHeldTask (size_of play.tree) sends running → is_some (option_map_or (running_job plan number host ticket play) running None) ≡ true
task_job plan number sends host ticket play None b e held = cc
task_job plan number sends host ticket play (Some r) b e held =
    let next = goes_on_at r.items held.2 in
    let sent = has_call r.items next.0 next.1 in
    next_job plan number host ticket play r next.0 sent.0 (next_item r.items) b held.0 next.1 sent.1

row_has_job : (plan : PlanOf) (number sends : ℕ) (host : HostNo) (ticket : Ticket) (play : PlayOf) (rows : List HostOf) (h : ℕ) → host.0 < length plan.inventory.hosts → at_row is_running rows h ≡ true → AreHeld (size_of play.tree) sends rows → is_some (option_map_or (row_job plan number host ticket play) (slice_get rows h) None) ≡ true
row_has_job plan number sends host ticket play [] h b e held = cc
row_has_job plan number sends host ticket play (row ∷ rows) zero b e held = task_job plan number sends host ticket play row.running b e held.0
row_has_job plan number sends host ticket play (row ∷ rows) (suc h) b e held = row_has_job plan number sends host ticket play rows h b e held.1

job_found : (plan : PlanOf) (s : State) (host : HostNo) (ticket : Ticket) (found : Option PlayOf) → host.0 < length plan.inventory.hosts → at_row is_running s.rows host.0 ≡ true → AreHeld (places_in found) s.sends s.rows → is_some (option_map_or (job_in plan s host ticket) found None) ≡ true
job_found plan s host ticket None b e held = absurd (let some = placed_row 0 s.sends s.rows host.0 e held in omega (arith, some))
job_found plan s host ticket (Some play) b e held = row_has_job plan s.play s.sends host ticket play s.rows host.0 b e held

pub runs_job : (plan : PlanOf) (s : State) (host : HostNo) (ticket : Ticket) → IsHeld plan s → at_row is_running s.rows host.0 ≡ true → is_some (job_of plan s host ticket) ≡ true
runs_job plan s host ticket held e =
    let within = row_within is_running s.rows host.0 e in
    job_found plan s host ticket (open_play plan s) (omega (arith, within, held.hosts)) e held.tasks
