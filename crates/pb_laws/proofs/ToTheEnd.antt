-- Whatever was begun can be brought to its end: the work that is left falls with each event, and where nothing else can happen a job that is out comes back.
use Rattle.std.proofs.Common.{◌≡◌, ◌<◌, ◌+◌, ℕ, zero, suc, Bool, true, false, ◌||◌, List, [], ◌∷◌, ◌++◌, refl, sym, ◌∙◌, ap, subst, inl, inr, arith}
use Rattle.std.specs.Prelude.{Option, Some, None, IfSome, is_some, slice_get}
use Rattle.std.specs.List.{list_any}
use Rattle.std.specs.Option.{option_map_or}
use Rattle.pb_ids.specs.declared.numbers.HostNo.{HostNo}
use Rattle.pb_ids.specs.declared.numbers.Ticket.{Ticket}
use Rattle.pb_confluence.specs.Fixed.{Fixed, IsFixedAt, asked_of}
use Rattle.pb_outcome.specs.declared.job.Job.{Job}
use Rattle.pb_outcome.specs.declared.job.Report.{Report}
use Rattle.pb_plan.specs.Plan.{PlanOf}
use Rattle.pb_host.specs.declared.host.Running.{Running}
use Rattle.pb_host.specs.Host.{HostOf}
use Rattle.pb_host.specs.Runs.{is_out, is_running}
use Rattle.pb_hosts.specs.Hosts.{at_row}
use Rattle.pb_state.specs.declared.event.Event.{Event}
use Rattle.pb_state.specs.declared.event.Event.TheVariants.{Open, Start, Send, Report as Reported, Turn, Close, Stop, Forks}
use Rattle.pb_state.specs.Jobs.{job_of}
use Rattle.pb_state.specs.Machine.{possible, after, first_state}
use Rattle.pb_state.specs.Run.{IsQuiet, IsRun, is_command, is_move, is_report, legal_from, state_from}
use Rattle.pb_state.specs.State.{State}
use Rattle.pb_state.specs.Work.{work}
use Rattle.pb_state.proofs.HasJob.{runs_job}
use Rattle.pb_state.proofs.Held.{IsHeld, going_run, held_run}
use Rattle.pb_state.proofs.StepNumbers.{and_left, and_right}
use Rattle.pb_state.proofs.Quiet.{over_at}
use Rattle.pb_state.proofs.Stands.{both}
use Rattle.pb_state.proofs.Steps.{forks_stay}
use Rattle.pb_state.proofs.Trails.{run_more}
use Rattle.pb_state.proofs.WorkFalls.{falls_if}
use Rattle.pb_laws.specs.JobsOut.{IsOut, tasks}
use Rattle.pb_laws.specs.States.{IsWay}
use Rattle.pb_laws.proofs.Acting.{moves_or_quiet}
use Rattle.pb_laws.proofs.JobsStay.{job_host, report_may}
use Rattle.pb_laws.proofs.TaskTelling.{task_there}

abbrev Way : PlanOf → Fixed → State → Type 0
Way plan f s = (more : List Event) × IsWay plan f s more

-- ---- a job that is out comes back with what is fixed for it
record IsOutAt (rows : List HostOf) (h : ℕ) : Type 0 where
  row : HostOf
  task : Running
  ticket : Ticket
  there : slice_get rows h ≡ Some row
  runs : row.running ≡ Some task
  out : task.out ≡ Some ticket

row_out : (running : Option Running) → option_map_or (λ (r : Running). is_some r.out) running false ≡ true → (r : Running) × (t : Ticket) × (running ≡ Some r) × (r.out ≡ Some t)
row_out None e = cc
row_out (Some r) e = ticket r.out refl e
  where
    ticket : (out : Option Ticket) → r.out ≡ out → is_some out ≡ true → (q : Running) × (t : Ticket) × (Some r ≡ Some q) × (q.out ≡ Some t)
    ticket None o e = cc
    ticket (Some t) o e = (r, t, refl, o)

one_further : (row : HostOf) (rows : List HostOf) (h : ℕ) → IsOutAt rows h → IsOutAt (row ∷ rows) (suc h)
one_further row rows h at = record { row = at.row; task = at.task; ticket = at.ticket; there = at.there; runs = at.runs; out = at.out }

some_out : (rows : List HostOf) → list_any is_out rows ≡ true → (h : ℕ) × IsOutAt rows h
some_out [] e = cc
some_out (row ∷ rows) e = by_row (is_out row) refl e (some_out rows)
  where
    by_row : (b : Bool) → is_out row ≡ b → (b || list_any is_out rows) ≡ true → (list_any is_out rows ≡ true → (h : ℕ) × IsOutAt rows h) → (h : ℕ) × IsOutAt (row ∷ rows) h
    by_row true is e rest = let at = row_out row.running is in (0, record { row = row; task = at.0; ticket = at.1; there = refl; runs = at.2; out = at.3 })
    by_row false is e rest = let there = rest e in (suc there.0, one_further row rows there.0 there.1)

runs_there : (rows : List HostOf) (h : ℕ) (row : HostOf) (r : Running) → slice_get rows h ≡ Some row → row.running ≡ Some r → at_row is_running rows h ≡ true
runs_there rows h row r there is = rw (there, is) refl

some_job : (found : Option Job) → is_some found ≡ true → (x : Job) × (found ≡ Some x)
some_job None e = cc
some_job (Some x) e = (x, refl)

record HasOut (plan : PlanOf) (s : State) : Type 0 where
  job : Job
  out : IsOut plan s job

out_is : (plan : PlanOf) (s : State) (h : HostNo) (r : Running) (t : Ticket) (x : Job) → slice_get (tasks s) h.0 ≡ Some (Some r) → r.out ≡ Some t → job_of plan s h t ≡ Some x → x.host ≡ h → x.ticket ≡ t → IsOut plan s x
out_is plan s h r t x task out is host ticket = (
  r,
  subst (λ (k : HostNo). slice_get (tasks s) k.0 ≡ Some (Some r)) (sym host) task,
  out ∙ ap Some (sym ticket),
  subst (λ (k : HostNo). job_of plan s k x.ticket ≡ Some x) (sym host) (subst (λ (u : Ticket). job_of plan s h u ≡ Some x) (sym ticket) is),
)

out_job : (plan : PlanOf) (s : State) (h : HostNo) → IsHeld plan s → IsOutAt s.rows h.0 → HasOut plan s
out_job plan s h held at =
    let found = some_job (job_of plan s h at.ticket) (runs_job plan s h at.ticket held (runs_there s.rows h.0 at.row at.task at.there at.runs)) in
    let same = job_host plan s h at.ticket found.0 found.1 in
    record { job = found.0; out = out_is plan s h at.task at.ticket found.0 (task_there s h.0 at.row at.task at.there at.runs) at.out found.1 same.0 same.1 }

its_job : (plan : PlanOf) (s : State) (x : Job) → IsOut plan s x → job_of plan s x.host x.ticket ≡ Some x
its_job plan s x out = out.3

-- the report of a job, as it is fixed
abbrev report_of : Fixed → Job → Report
report_of f x = record { ticket = x.ticket; host = x.host; item = x.item; attempt = x.attempt; outcome = f (asked_of x) }

tells_fixed : (f : Fixed) (x : Job) (found : Option Job) → found ≡ Some x → IfSome found (λ (job : Job). f (asked_of x) ≡ f (asked_of job))
tells_fixed f x None is = cc
tells_fixed f x (Some y) is = let same : x ≡ y = cc in ap (λ (job : Job). f (asked_of job)) same

comes_back : (plan : PlanOf) (f : Fixed) (s : State) → IsHeld plan s → list_any is_out s.rows ≡ true → (r : Report) × (possible plan s (Reported r) ≡ true) × IsFixedAt plan f s (Reported r)
comes_back plan f s held any =
    let at = some_out s.rows any in
    let found = out_job plan s (record { 0 = at.0 }) held at.1 in
    let x = found.job in
    (report_of f x, report_may plan s x (report_of f x) found.out (refl, refl, refl, refl), tells_fixed f x (job_of plan s x.host x.ticket) (its_job plan s x found.out))

-- ---- one event more
own_move : (e : Event) → is_move e ≡ true → is_command e ≡ false
own_move Open m = refl
own_move (Start h) m = refl
own_move (Send h item attempt ticket) m = refl
own_move (Reported r) m = cc
own_move Turn m = refl
own_move Close m = refl
own_move Stop m = cc
own_move (Forks n) m = cc

no_report : (e : Event) → is_move e ≡ true → is_report e ≡ true → ⊥
no_report Open m r = cc
no_report (Start h) m r = cc
no_report (Send h item attempt ticket) m r = cc
no_report (Reported x) m r = cc
no_report Turn m r = cc
no_report Close m r = cc
no_report Stop m r = cc
no_report (Forks n) m r = cc

move_fixed : (plan : PlanOf) (f : Fixed) (s : State) (e : Event) → is_move e ≡ true → IsFixedAt plan f s e
move_fixed plan f s Open m = tt
move_fixed plan f s (Start h) m = tt
move_fixed plan f s (Send h item attempt ticket) m = tt
move_fixed plan f s (Reported r) m = cc
move_fixed plan f s Turn m = tt
move_fixed plan f s Close m = tt
move_fixed plan f s Stop m = tt
move_fixed plan f s (Forks n) m = tt

neither : (a b : Bool) → a ≡ false → b ≡ false → (a || b) ≡ false
neither true b e g = e
neither false b e g = g

way_by : (plan : PlanOf) (f : Fixed) (s : State) (e : Event) → possible plan s e ≡ true → is_command e ≡ false → (is_report e ≡ true → IsQuiet plan s) → IsFixedAt plan f s e → Way plan f (after plan s e) → Way plan f s
way_by plan f s e may own quiet fixed rest =
    let way = rest.1 in (
      e ∷ rest.0,
      record {
        legal = both (possible plan s e) (legal_from plan (after plan s e) rest.0) may way.legal;
        eager = (quiet, way.eager);
        own = neither (is_command e) (list_any is_command rest.0) own way.own;
        fixed = (fixed, way.fixed);
        finished = way.finished;
      },
    )

at_end : (plan : PlanOf) (f : Fixed) (s : State) → IsQuiet plan s → list_any is_out s.rows ≡ false → Way plan f s
at_end plan f s quiet none = ([], record { legal = refl; eager = tt; own = refl; fixed = tt; finished = record { over = over_at plan s quiet none; none_out = none } })

-- ---- and so on, as long as work is left
abbrev Ahead : PlanOf → ℕ → Fixed → ℕ → Type 0
Ahead plan pool f n = (trail : List Event) (s : State) → IsRun plan pool trail s → 0 < s.forks → work plan s < n → Way plan f s

goes_by : (plan : PlanOf) (pool : ℕ) (f : Fixed) (n : ℕ) (trail : List Event) (s : State) (e : Event) → IsRun plan pool trail s → 0 < s.forks → work plan s < suc n → Ahead plan pool f n → possible plan s e ≡ true → is_command e ≡ false → Way plan f (after plan s e)
goes_by plan pool f n trail s e run some less ahead may own =
    let falls = falls_if plan s e may some own in
    ahead (trail ++ e ∷ []) (after plan s e) (run_more plan pool trail s e run may) (forks_stay plan s e may some) (omega (arith, falls, less))

goes_back : (plan : PlanOf) (pool : ℕ) (f : Fixed) (n : ℕ) (trail : List Event) (s : State) → IsRun plan pool trail s → 0 < s.forks → work plan s < suc n → Ahead plan pool f n → IsQuiet plan s → (out : Bool) → list_any is_out s.rows ≡ out → Way plan f s
goes_back plan pool f n trail s run some less ahead quiet false is = at_end plan f s quiet is
goes_back plan pool f n trail s run some less ahead quiet true is =
    let back = comes_back plan f s (held_run plan pool trail s run) is in
    way_by plan f s (Reported back.0) back.1 refl (λ report. quiet) back.2 (goes_by plan pool f n trail s (Reported back.0) run some less ahead back.1 refl)

goes_step : (plan : PlanOf) (pool : ℕ) (f : Fixed) (n : ℕ) (trail : List Event) (s : State) → IsRun plan pool trail s → 0 < s.forks → work plan s < suc n → Ahead plan pool f n → Way plan f s
goes_step plan pool f n trail s run some less ahead =
    elim (moves_or_quiet plan s (going_run plan pool trail s run)) [
      | inl move ↦
          way_by plan f s move.0 move.2 (own_move move.0 move.1) (λ report. absurd (no_report move.0 move.1 report)) (move_fixed plan f s move.0 move.1)
          (goes_by plan pool f n trail s move.0 run some less ahead move.2 (own_move move.0 move.1))
      | inr quiet ↦ goes_back plan pool f n trail s run some less ahead quiet (list_any is_out s.rows) refl
    ]

goes_on : (plan : PlanOf) (pool : ℕ) (f : Fixed) (n : ℕ) → Ahead plan pool f n
goes_on plan pool f zero trail s run some less = absurd (omega (arith, less))
goes_on plan pool f (suc n) trail s run some less = goes_step plan pool f n trail s run some less (goes_on plan pool f n)

pub has_way : (plan : PlanOf) (pool : ℕ) (f : Fixed) (trail : List Event) (s : State) → IsRun plan pool trail s → 0 < s.forks → (more : List Event) × IsWay plan f s more
has_way plan pool f trail s run some = goes_on plan pool f (suc (work plan s)) trail s run some (omega arith)

-- some host may run in each run that began so
forks_from : (plan : PlanOf) (s : State) (es : List Event) → legal_from plan s es ≡ true → 0 < s.forks → 0 < (state_from plan s es).forks
forks_from plan s [] legal some = some
forks_from plan s (e ∷ es) legal some =
    forks_from plan (after plan s e) es (and_right (possible plan s e) _ legal) (forks_stay plan s e (and_left (possible plan s e) _ legal) some)

pub some_fork : (plan : PlanOf) (pool : ℕ) (trail : List Event) (s : State) → IsRun plan pool trail s → 0 < plan.forks → 0 < s.forks
some_fork plan pool trail s run some = subst (λ (t : State). 0 < t.forks) run.ends (forks_from plan (first_state plan plan.forks pool) trail run.legal some)
