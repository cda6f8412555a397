-- The recap of a run with one event more is that of the run with the task that the event finished.
use Rattle.std.proofs.Common.{◌≡◌, ℕ, zero, suc, ◌+◌, Bool, true, false, List, [], ◌∷◌, ◌++◌, length, replicate, refl, sym, ap, ◌∙◌, arith}
use Rattle.std.specs.Prelude.{Option, Some, None, slice_get, slice_set}
use Rattle.std.specs.Option.{option_map_or}
use Rattle.std.proofs.lemmas.Bool.{eq-eqb, ne_eqb}
use Rattle.pb_host.specs.declared.step_result.TaskEnd.{TaskEnd}
use Rattle.pb_state.specs.declared.event.Event.{Event}
use Rattle.pb_host.specs.declared.host.Counts.{Counts}
use Rattle.pb_plan.specs.Plan.{PlanOf}
use Rattle.pb_host.specs.Ends.{more}
use Rattle.pb_host.specs.Host.{none_counted}
use Rattle.pb_state.specs.State.{State}
use Rattle.pb_state.specs.Machine.{after, first_state}
use Rattle.pb_state.specs.Run.{state_from, IsStep, state_after, IsRun}
use Rattle.pb_lanes.specs.declared.kind.CountKind.{CountKind}
use Rattle.pb_lanes.specs.declared.kind.CountKind.TheVariants.{Okay, Changed, Unreachable, Failed, Skipped, Rescued, Ignored}
use Rattle.pb_recap.specs.Counting.{with_task, with_finished}
use Rattle.pb_recap.specs.Recap.{FinishedTask, finished_in, finishes, counts_under, counted, count_from, counts_from, hosts_from, recap}
use Rattle.pb_recap.proofs.Counted.{seven}
use Rattle.pb_recap.proofs.Formed.{one}

-- no task is finished before the first event
pub none_hosts : (plan : PlanOf) (s : State) (h : ℕ) (hosts : List (List ℕ)) → replicate (length hosts) none_counted ≡ hosts_from plan s [] h hosts
none_hosts plan s h [] = refl
none_hosts plan s h (host ∷ hosts) = ap (λ (rest : List Counts). none_counted ∷ rest) (none_hosts plan s (h + 1) hosts)

pub new_is_recap : (plan : PlanOf) (counts : List Counts) → counts ≡ replicate (length plan.inventory.hosts) none_counted → (pool : ℕ) → counts ≡ recap plan pool []
new_is_recap plan counts e pool = e ∙ none_hosts plan (first_state plan plan.forks pool) 0 plan.inventory.hosts

-- a count by one event more
count_more : (plan : PlanOf) (s : State) (es : List Event) (e : Event) (h : ℕ) (kind : CountKind)
    → count_from plan s (es ++ e ∷ []) h kind ≡ counted h kind (finishes plan (state_from plan s es) e) + count_from plan s es h kind
count_more plan s [] e h kind = refl
count_more plan s (d ∷ es) e h kind = omega (arith, count_more plan (after plan s d) es e h kind)

-- the counts that have these numbers
abbrev tally : (CountKind → ℕ) → Counts
tally f = record { ok = f Okay; changed = f Changed; unreachable = f Unreachable; failed = f Failed; skipped = f Skipped; rescued = f Rescued; ignored = f Ignored }

tally_same : (f g : CountKind → ℕ) → ((kind : CountKind) → f kind ≡ g kind) → tally f ≡ tally g
tally_same f g e = seven (tally f) _ _ _ _ _ _ _ (e Okay) (e Changed) (e Unreachable) (e Failed) (e Skipped) (e Rescued) (e Ignored)

cons_same : (a b : Counts) (cs ds : List Counts) → a ≡ b → cs ≡ ds → a ∷ cs ≡ b ∷ ds
cons_same a b cs ds e f = rw (e, f) refl

-- where the event finishes no task of the host
counts_stay : (plan : PlanOf) (s : State) (es : List Event) (e : Event) (h : ℕ) → ((kind : CountKind) → counted h kind (finishes plan (state_from plan s es) e) ≡ 0)
    → counts_from plan s (es ++ e ∷ []) h ≡ counts_from plan s es h
counts_stay plan s es e h none =
    tally_same (λ kind. count_from plan s (es ++ e ∷ []) h kind) (λ kind. count_from plan s es h kind) (λ kind. omega (arith, count_more plan s es e h kind, none kind))

none_counts : (h : ℕ) (kind : CountKind) (found : Option FinishedTask) → found ≡ None → counted h kind found ≡ 0
none_counts h kind found e = rw e refl

other_counts : (n h : ℕ) (task : TaskEnd) (kind : CountKind) (found : Option FinishedTask) → found ≡ Some (record { host = n; task = task }) → (n ≡ h → ⊥) → counted h kind found ≡ 0
other_counts n h task kind found e other = rw (e, ne_eqb n h other) refl

hosts_stay : (plan : PlanOf) (s : State) (es : List Event) (e : Event) (h : ℕ) (hosts : List (List ℕ)) → ((k : ℕ) (kind : CountKind) → counted (h + k) kind (finishes plan (state_from plan s es) e) ≡ 0)
    → hosts_from plan s es h hosts ≡ hosts_from plan s (es ++ e ∷ []) h hosts
hosts_stay plan s es e h [] none = refl
hosts_stay plan s es e h (host ∷ hosts) none =
    let here : (kind : CountKind) → counted h kind (finishes plan (state_from plan s es) e) ≡ 0 =
    λ kind. ap (λ n. counted n kind (finishes plan (state_from plan s es) e)) (let at : h ≡ h + 0 = omega arith in at) ∙ none 0 kind in
    let sizes_left : (k : ℕ) (kind : CountKind) → counted ((h + 1) + k) kind (finishes plan (state_from plan s es) e) ≡ 0 =
    λ k kind. ap (λ n. counted n kind (finishes plan (state_from plan s es) e)) (let at : (h + 1) + k ≡ h + suc k = omega arith in at) ∙ none (suc k) kind in
    cons_same _ _ _ _ (sym (counts_stay plan s es e h here)) (hosts_stay plan s es e (h + 1) hosts sizes_left)

-- where it finishes one of the host
more_is : (b : Bool) (n : ℕ) → more b n ≡ one b + n
more_is true n = omega arith
more_is false n = omega arith

task_tally : (task : TaskEnd) (f : CountKind → ℕ) → with_task task (tally f) ≡ tally (λ kind. one (counts_under kind task) + f kind)
task_tally task f =
    seven (with_task task (tally f)) _ _ _ _ _ _ _ (more_is (counts_under Okay task) (f Okay)) (more_is (counts_under Changed task) (f Changed))
    (more_is (counts_under Unreachable task) (f Unreachable)) (more_is (counts_under Failed task) (f Failed)) (more_is (counts_under Skipped task) (f Skipped))
    (more_is (counts_under Rescued task) (f Rescued)) (more_is (counts_under Ignored task) (f Ignored))

own_counts : (n h : ℕ) (task : TaskEnd) (kind : CountKind) (found : Option FinishedTask) → found ≡ Some (record { host = n; task = task }) → n ≡ h → counted h kind found ≡ one (counts_under kind task)
own_counts n h task kind found e own = rw (e, eq-eqb n h own) refl

counts_rise : (plan : PlanOf) (s : State) (es : List Event) (e : Event) (n h : ℕ) (task : TaskEnd) → finishes plan (state_from plan s es) e ≡ Some (record { host = n; task = task }) → n ≡ h
    → with_task task (counts_from plan s es h) ≡ counts_from plan s (es ++ e ∷ []) h
counts_rise plan s es e n h task found own =
    task_tally task (λ kind. count_from plan s es h kind)
    ∙ tally_same (λ kind. one (counts_under kind task) + count_from plan s es h kind) (λ kind. count_from plan s (es ++ e ∷ []) h kind)
    (λ kind. omega (arith, count_more plan s es e h kind, own_counts n h task kind (finishes plan (state_from plan s es) e) found own))

-- the counts of the host at a position, changed
abbrev changed_at : List Counts → ℕ → (Counts → Counts) → List Counts
changed_at all i f = option_map_or (λ c. slice_set all i (f c)) (slice_get all i) all

changed_later : (c : Counts) (all : List Counts) (i : ℕ) (f : Counts → Counts) (found : Option Counts) → slice_get all i ≡ found → changed_at (c ∷ all) (suc i) f ≡ c ∷ changed_at all i f
changed_later c all i f None e = rw e refl
changed_later c all i f (Some d) e = rw e refl

hosts_rise : (plan : PlanOf) (s : State) (es : List Event) (e : Event) (n h i : ℕ) (task : TaskEnd) (hosts : List (List ℕ)) → finishes plan (state_from plan s es) e ≡ Some (record { host = n; task = task }) → n ≡ h + i
    → changed_at (hosts_from plan s es h hosts) i (with_task task) ≡ hosts_from plan s (es ++ e ∷ []) h hosts
hosts_rise plan s es e n h i task [] found at = refl
hosts_rise plan s es e n h zero task (host ∷ hosts) found at =
    let here : n ≡ h = omega (arith, at) in
    let sizes_left : (k : ℕ) (kind : CountKind) → counted ((h + 1) + k) kind (finishes plan (state_from plan s es) e) ≡ 0 =
    λ k kind. other_counts n ((h + 1) + k) task kind (finishes plan (state_from plan s es) e) found (λ same. omega (arith, here, same)) in
    cons_same _ _ _ _ (counts_rise plan s es e n h task found here) (hosts_stay plan s es e (h + 1) hosts sizes_left)
hosts_rise plan s es e n h (suc i) task (host ∷ hosts) found at =
    let here : (kind : CountKind) → counted h kind (finishes plan (state_from plan s es) e) ≡ 0 =
    λ kind. other_counts n h task kind (finishes plan (state_from plan s es) e) found (λ same. omega (arith, at, same)) in
    let next : n ≡ (h + 1) + i = omega (arith, at) in
    changed_later (counts_from plan s es h) (hosts_from plan s es (h + 1) hosts) i (with_task task) (slice_get (hosts_from plan s es (h + 1) hosts) i) refl
    ∙ cons_same _ _ _ _ (sym (counts_stay plan s es e h here)) (hosts_rise plan s es e n (h + 1) i task hosts found next)

by_finished : (plan : PlanOf) (s : State) (es : List Event) (e : Event) (hosts : List (List ℕ)) (found : Option FinishedTask) → finishes plan (state_from plan s es) e ≡ found
    → with_finished found (hosts_from plan s es 0 hosts) ≡ hosts_from plan s (es ++ e ∷ []) 0 hosts
by_finished plan s es e hosts None is = hosts_stay plan s es e 0 hosts (λ k kind. none_counts (0 + k) kind (finishes plan (state_from plan s es) e) is)
by_finished plan s es e hosts (Some t) is = hosts_rise plan s es e t.host 0 t.host t.task hosts is (let at : t.host ≡ 0 + t.host = omega arith in at)

-- counting the events of a run one after another gives the recap of the run
pub counts_one_more : (plan : PlanOf) (s : State) (e : Event) (old new : List Counts) → new ≡ with_finished (finished_in s e) old
    → (pool : ℕ) (trail : List Event) (before : State) → IsRun plan pool trail before → IsStep plan before e s → old ≡ recap plan pool trail → new ≡ recap plan pool (trail ++ e ∷ [])
counts_one_more plan s e old new counts pool trail before run step is =
    let same : s ≡ after plan (state_after plan pool trail) e = step.1 ∙ ap (λ (b : State). after plan b e) (sym run.ends) in
    counts ∙ ap (λ (t : State). with_finished (finished_in t e) old) same ∙ ap (λ all. with_finished (finishes plan (state_after plan pool trail) e) all) is
    ∙ by_finished plan (first_state plan plan.forks pool) trail e plan.inventory.hosts (finishes plan (state_after plan pool trail) e) refl
