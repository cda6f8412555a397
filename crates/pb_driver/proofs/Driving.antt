-- A driver's turn.
use Rattle.std.proofs.Common.{◌≡◌, ℕ, ◌-◌, ◌≤◌, Bool, true, false, List, [], ◌∷◌, ◌++◌, length, refl, sym, ◌∙◌, ap, arith, append_assoc, length-append}
use Rattle.std.proofs.lemmas.Bool.{ltb-true}
use Rattle.std.proofs.lemmas.List.{append-nil}
use Rattle.std.specs.Prelude.{Option, Some, None, slice_get, nat_lt, if◌then◌else◌, Result, Ok, Err}
use Rattle.std.specs.List.{list_any}
use Rattle.pb_ids.specs.declared.numbers.HostNo.{HostNo}
use Rattle.pb_ids.specs.declared.numbers.Ticket.{Ticket}
use Rattle.pb_outcome.specs.declared.job.Job.{Job}
use Rattle.pb_outcome.specs.declared.job.Report.{Report}
use Rattle.pb_state.specs.declared.event.Event.{Event}
use Rattle.pb_state.specs.declared.event.Event.TheVariants.{Open, Start, Send, Report as Reported, Turn, Close, Stop, Forks}
use Rattle.pb_host.specs.declared.host.Counts.{Counts}
use Rattle.pb_plan.specs.Plan.{PlanOf}
use Rattle.pb_state.specs.State.{State}
use Rattle.pb_host.specs.Runs.{is_out}
use Rattle.pb_state.specs.Machine.{possible, after, first_state, attempt_at, item_at}
use Rattle.pb_state.specs.Jobs.{job_of}
use Rattle.pb_hosts.specs.Oldest.{oldest_out}
use Rattle.pb_state.specs.Run.{IsEager, IsQuiet, state_from, is_report, is_command}
use Rattle.pb_state.proofs.Once.{nothing_twice}
use Rattle.pb_state.proofs.Trails.{legal_more}
use Rattle.pb_engine.specs.EngineOf.{EngineOf, Takes, taken, IsSound, LessWork, engine_of}
use Rattle.pb_engine.specs.declared.fault.EngineFault.{EngineFault}
use Rattle.pb_engine.specs.declared.fault.EngineFault.TheVariants.{PoolTooSmall}
use Rattle.pb_engine.specs.Choice.{NextIs, MovesBy, answer_of}
use Rattle.pb_engine.specs.declared.engine.Next.{Next}
use Rattle.pb_engine.specs.declared.engine.Next.TheVariants.{Sent, Moved, Waiting, Finished}
use Rattle.pb_hosts.proofs.OldestOut.{some_oldest}
use Rattle.pb_engine.proofs.Waits.{job_in_run, oldest_in_run}
use Rattle.pb_engine.specs.Refusals.{refusal_of}
use Rattle.pb_events.specs.Lines.{lines_of, start_line}
use Rattle.pb_recap.specs.Recap.{recap}
use Rattle.pb_driver.specs.Taken.{with_more}
use Rattle.pb_driver.specs.Output.{lines_from, end_lines}
use Rattle.pb_driver.specs.declared.given.Given.{Given}
use Rattle.pb_driver.specs.Commanded.{IsObeyed, run_with}
use Rattle.pb_driver.specs.Driven.{Answers, IsAnswerAt, IsAnswered, TakesOne, TakesOwn, HasBegun, IsSame, IsFresh, IsBegunBy, HasEnded, IsWhole, Keeps, last_lines, lines_of_trail}
use Rattle.pb_driver.proofs.Pieces.{more_more}

-- an event that the machine takes by itself is no report and no command
pub own_report : (plan : PlanOf) (s : State) (e : Event) (next : Next) → answer_of plan s e ≡ Some next → is_report e ≡ false
own_report plan s Open next a = refl
own_report plan s (Start h) next a = refl
own_report plan s (Send h item attempt ticket) next a = refl
own_report plan s (Reported r) next a = cc
own_report plan s Turn next a = refl
own_report plan s Close next a = refl
own_report plan s Stop next a = refl
own_report plan s (Forks n) next a = refl

own_command : (plan : PlanOf) (s : State) (e : Event) (next : Next) → answer_of plan s e ≡ Some next → is_command e ≡ false
own_command plan s Open next a = refl
own_command plan s (Start h) next a = refl
own_command plan s (Send h item attempt ticket) next a = refl
own_command plan s (Reported r) next a = refl
own_command plan s Turn next a = refl
own_command plan s Close next a = refl
own_command plan s Stop next a = cc
own_command plan s (Forks n) next a = cc

pub no_report : (answers : Answers) (plan : PlanOf) (s : State) (e : Event) → is_report e ≡ false → IsAnswerAt answers plan s e
no_report answers plan s Open m = tt
no_report answers plan s (Start h) m = tt
no_report answers plan s (Send h item attempt ticket) m = tt
no_report answers plan s (Reported r) m = cc
no_report answers plan s Turn m = tt
no_report answers plan s Close m = tt
no_report answers plan s Stop m = tt
no_report answers plan s (Forks n) m = tt

-- an answer of `next` that took an event took one
moves_by : {P : Type 0} (picks : P → List Bool → ℕ → P → Type 0) (old_picker new_picker : P) (answers : Answers) (old new : EngineOf) (next : Next) → MovesBy picks old_picker new_picker old new next → TakesOne answers old new
moves_by picks old_picker new_picker answers old new next m =
    let none = own_report old.plan old.state m.0 next m.1.answer in
    record {
      event = m.0;
      takes = m.1.takes;
      eager = λ is. let wrong : true ≡ false = sym is ∙ none in cc;
      answer = no_report answers old.plan old.state m.0 none;
      uncommanded = own_command old.plan old.state m.0 next m.1.answer;
    }

pub moves_sent : {P : Type 0} (picks : P → List Bool → ℕ → P → Type 0) (old_picker new_picker : P) (answers : Answers) (old new : EngineOf) (job : Job) → NextIs picks old_picker new_picker old new (Sent job) → TakesOne answers old new
moves_sent picks old_picker new_picker answers old new job m = moves_by picks old_picker new_picker answers old new (Sent job) m

pub moves_one : {P : Type 0} (picks : P → List Bool → ℕ → P → Type 0) (old_picker new_picker : P) (answers : Answers) (old new : EngineOf) → NextIs picks old_picker new_picker old new Moved → TakesOne answers old new
moves_one picks old_picker new_picker answers old new m = moves_by picks old_picker new_picker answers old new Moved m

pub less_sent : {P : Type 0} (picks : P → List Bool → ℕ → P → Type 0) (old_picker new_picker : P) (old new : EngineOf) (job : Job) → NextIs picks old_picker new_picker old new (Sent job) → LessWork old new
less_sent picks old_picker new_picker old new job m = m.1.work

pub less_next : {P : Type 0} (picks : P → List Bool → ℕ → P → Type 0) (old_picker new_picker : P) (old new : EngineOf) → NextIs picks old_picker new_picker old new Moved → LessWork old new
less_next picks old_picker new_picker old new m = m.1.work

pub over_next : {P : Type 0} (picks : P → List Bool → ℕ → P → Type 0) (old_picker new_picker : P) (old new : EngineOf) → NextIs picks old_picker new_picker old new Finished → (new ≡ old) × HasEnded old.plan old.state
over_next picks old_picker new_picker old new m = (m.0, record { finished = m.1; over = m.2 })

-- where `next` waits the engine is as it was, a job is out, and the machine has nothing else to do
pub waits_quiet : {P : Type 0} (picks : P → List Bool → ℕ → P → Type 0) (old_picker new_picker : P) (old new : EngineOf) → NextIs picks old_picker new_picker old new Waiting → IsQuiet new.plan new.state
waits_quiet picks old_picker new_picker old new m = rw m.0 m.1

pub waits_out : {P : Type 0} (picks : P → List Bool → ℕ → P → Type 0) (old_picker new_picker : P) (old new : EngineOf) → NextIs picks old_picker new_picker old new Waiting → list_any is_out new.state.rows ≡ true
waits_out picks old_picker new_picker old new m = rw m.0 m.2

pub waits_same : {P : Type 0} (picks : P → List Bool → ℕ → P → Type 0) (old_picker new_picker : P) (old new : EngineOf) → NextIs picks old_picker new_picker old new Waiting → new ≡ old
waits_same picks old_picker new_picker old new m = m.0

-- the report of a job that was out
pub takes_report : (answers : Answers) (old new : EngineOf) (r : Report) → Takes old new (Reported r) → IsQuiet old.plan old.state → answers old.plan old.state r → TakesOne answers old new
takes_report answers old new r takes quiet answer = record {
  event = Reported r;
  takes = takes;
  eager = λ report. quiet;
  answer = answer;
  uncommanded = refl;
}

-- one event more
eager_more : (plan : PlanOf) (s : State) (es : List Event) (e : Event) → IsEager plan s es → (is_report e ≡ true → IsQuiet plan (state_from plan s es)) → IsEager plan s (es ++ e ∷ [])
eager_more plan s [] e a b = (b, tt)
eager_more plan s (d ∷ es) e a b = (a.0, eager_more plan (after plan s d) es e a.1 b)

answered_more : (answers : Answers) (plan : PlanOf) (s : State) (es : List Event) (e : Event) → IsAnswered answers plan s es → IsAnswerAt answers plan (state_from plan s es) e → IsAnswered answers plan s (es ++ e ∷ [])
answered_more answers plan s [] e a b = (b, tt)
answered_more answers plan s (d ∷ es) e a b = (a.0, answered_more answers plan (after plan s d) es e a.1 b)

pub lines_more : (plan : PlanOf) (s : State) (es : List Event) (e : Event) → lines_from plan s (es ++ e ∷ []) ≡ lines_from plan s es ++ lines_of plan (after plan (state_from plan s es) e) e
lines_more plan s [] e = append-nil (lines_of plan (after plan s e) e)
lines_more plan s (d ∷ es) e = ap (λ t. lines_of plan (after plan s d) d ++ t) (lines_more plan (after plan s d) es e) ∙ sym (append_assoc (lines_of plan (after plan s d) d) _ _)

pub last_is : (xs : List Event) (e : Event) (n : ℕ) → n ≡ length xs → slice_get (xs ++ e ∷ []) n ≡ Some e
last_is [] e n h = rw h refl
last_is (x ∷ xs) e n h = rw h (last_is xs e (length xs) refl)

pub last_at : (old : EngineOf) (e : Event) → last_lines (taken old e) ≡ lines_of old.plan (after old.plan old.state e) e
last_at old e =
    let there : length (old.trail ++ e ∷ []) - 1 ≡ length old.trail = simp length-append (omega arith) in
    rw (there, last_is old.trail e (length old.trail) refl) refl

begun_at : (answers : Answers) (old : EngineOf) (e : Event) → IsSound old → HasBegun answers old → possible old.plan old.state e ≡ true → (is_report e ≡ true → IsQuiet old.plan old.state) → IsAnswerAt answers old.plan old.state e → HasBegun answers (taken old e)
begun_at answers old e sound begun may eager answer = record {
  legal = legal_more old.plan (first_state old.plan old.plan.forks old.pool) old.trail e begun.legal (rw sound.ends may);
  once = nothing_twice old.plan old.plan.forks old.pool (old.trail ++ e ∷ []) (legal_more old.plan (first_state old.plan old.plan.forks old.pool) old.trail e begun.legal (rw sound.ends may));
  eager = eager_more old.plan (first_state old.plan old.plan.forks old.pool) old.trail e begun.eager (rw sound.ends eager);
  answered = answered_more answers old.plan (first_state old.plan old.plan.forks old.pool) old.trail e begun.answered (rw sound.ends answer);
}

pub begun_one : (answers : Answers) (old new : EngineOf) → IsSound old → HasBegun answers old → TakesOne answers old new → HasBegun answers new
begun_one answers old new sound begun one = rw one.takes.1 (begun_at answers old one.event sound begun one.takes.0 one.eager one.answer)

pub begun_same : (answers : Answers) (old new : EngineOf) → new ≡ old → HasBegun answers old → HasBegun answers new
begun_same answers old new same begun = rw same begun

-- the lines of one event more
keeps_at : (old : EngineOf) (e : Event) (t : Option (List ℕ)) → IsSound old → Keeps old (taken old e) t (with_more t (last_lines (taken old e)))
keeps_at old e t sound = λ base before.
    rw (before, last_at old e, lines_more old.plan (first_state old.plan old.plan.forks old.pool) old.trail e, sound.ends)
    (more_more base (lines_from old.plan (first_state old.plan old.plan.forks old.pool) old.trail) (lines_of old.plan (after old.plan old.state e) e))

pub keeps_one : (answers : Answers) (old new : EngineOf) (t t' : Option (List ℕ)) → IsSound old → TakesOne answers old new → t' ≡ with_more t (last_lines new) → Keeps old new t t'
keeps_one answers old new t t' sound one its_lines = rw (its_lines, one.takes.1) (keeps_at old one.event t sound)

pub keeps_same : (old new : EngineOf) (t : Option (List ℕ)) → new ≡ old → Keeps old new t t
keeps_same old new t same = rw same (λ base before. before)

pub same_one : (answers : Answers) (old new : EngineOf) → TakesOne answers old new → IsSound new → IsSame old new
same_one answers old new one sound = record { plan = ap (λ (v : EngineOf). v.plan) one.takes.1; pool = ap (λ (v : EngineOf). v.pool) one.takes.1; run = sound }

pub same_same : (old new : EngineOf) → new ≡ old → IsSound new → IsSame old new
same_same old new same sound = record { plan = ap (λ (v : EngineOf). v.plan) same; pool = ap (λ (v : EngineOf). v.pool) same; run = sound }

-- a whole run
three_more : (t : Option (List ℕ)) (a b c : List ℕ) → with_more (with_more (with_more t a) b) c ≡ with_more t (a ++ b ++ c)
three_more t a b c = ap (λ (u : Option (List ℕ)). with_more u c) (more_more t a b) ∙ more_more t (a ++ b) c

pub none_more : (t : Option (List ℕ)) → t ≡ with_more t []
none_more None = refl
none_more (Some t) = ap Some (sym (append-nil t))

pub fresh_lines : (old : EngineOf) (t : Option (List ℕ)) → IsFresh old → t ≡ with_more t (lines_of_trail old)
fresh_lines old t fresh = rw fresh.1 (none_more t)

pub empty_begun : (answers : Answers) (plan : PlanOf) (pool : ℕ) (commands : List Given) → IsBegunBy answers plan pool commands []
empty_begun answers plan pool commands = record { legal = refl; eager = tt; once = record { starts = tt; sends = tt }; answered = tt; obeyed = (run_with plan pool commands [], refl) }

pub fresh_begun : (answers : Answers) (old : EngineOf) → IsFresh old → HasBegun answers old
fresh_begun answers old fresh = record { legal = rw fresh.1 refl; eager = rw fresh.1 tt; once = rw fresh.1 (record { starts = tt; sends = tt }); answered = rw fresh.1 tt }

-- a run that is finished, with its end, is whole
pub whole : (answers : Answers) (commands : List Given) (old new : EngineOf) (t0 t1 t2 t3 : Option (List ℕ)) (counts : List Counts) → IsFresh old → t1 ≡ with_more t0 (start_line (length old.plan.plays)) → Keeps old new t1 t2 → HasBegun answers new → IsObeyed new.plan new.pool commands new.trail → IsSame old new → HasEnded new.plan new.state → t3 ≡ with_more t2 (end_lines new.plan counts) → counts ≡ recap new.plan new.pool new.trail → IsWhole answers old.plan old.pool commands new.trail t0 t3
whole answers commands old new t0 t1 t2 t3 counts fresh started keeps begun obeyed same last ended counted =
    let lines = keeps t1 (fresh_lines old t1 fresh) in
    rw (← same.plan, ← same.pool)
    (record {
      legal = begun.legal;
      eager = begun.eager;
      once = begun.once;
      answered = begun.answered;
      obeyed = obeyed;
      finished = rw same.run.ends last.finished;
      over = rw same.run.ends last.over;
      written =
          ended ∙ ap (λ (c : List Counts). with_more t2 (end_lines new.plan c)) counted
          ∙ ap (λ (u : Option (List ℕ)). with_more u (end_lines new.plan (recap new.plan new.pool new.trail))) lines
          ∙ ap (λ (u : Option (List ℕ)). with_more (with_more u (lines_of_trail new)) (end_lines new.plan (recap new.plan new.pool new.trail))) (started ∙ ap (λ (p : PlanOf). with_more t0 (start_line (length p.plays))) (sym same.plan))
          ∙ three_more t0 (start_line (length new.plan.plays)) (lines_of_trail new) (end_lines new.plan (recap new.plan new.pool new.trail));
    })

abbrev value_or : Result EngineOf EngineFault → EngineOf → EngineOf
value_or (Ok engine) other = engine
value_or (Err e) other = other

abbrev is_value : Result EngineOf EngineFault → Bool
is_value (Ok engine) = true
is_value (Err e) = false

made_at : (plan : PlanOf) (pool : ℕ) (engine : EngineOf) (b : Bool) (made : EngineOf) → (if b then Err PoolTooSmall else Ok made) ≡ Ok engine → made ≡ engine
made_at plan pool engine true made e = let wrong : false ≡ true = ap is_value e in cc
made_at plan pool engine false made e = ap (λ r. value_or r engine) e

pub made_is : (plan : PlanOf) (pool : ℕ) (engine : EngineOf) → engine_of plan pool ≡ Ok engine → record { plan = plan; pool = pool; state = first_state plan plan.forks pool; trail = [] } ≡ engine
made_is plan pool engine e = made_at plan pool engine (nat_lt pool plan.forks) (record { plan = plan; pool = pool; state = first_state plan plan.forks pool; trail = [] }) e

pub made_of : (plan : PlanOf) (pool : ℕ) (engine : EngineOf) → engine_of plan pool ≡ Ok engine → (engine.plan ≡ plan) × (engine.pool ≡ pool)
made_of plan pool engine e =
    let same = made_at plan pool engine (nat_lt pool plan.forks) (record { plan = plan; pool = pool; state = first_state plan plan.forks pool; trail = [] }) e in
    (sym (ap (λ (v : EngineOf). v.plan) same), sym (ap (λ (v : EngineOf). v.pool) same))

-- a pool that isn't too small
small_by : (plan : PlanOf) (pool : ℕ) (fault : EngineFault) (made : EngineOf) (b : Bool) → nat_lt pool plan.forks ≡ b → plan.forks ≤ pool → (if b then Err PoolTooSmall else Ok made) ≡ Err fault → ⊥
small_by plan pool fault made true is le e = let low = ltb-true pool plan.forks is in omega (arith, low, le)
small_by plan pool fault made false is le e = let wrong : true ≡ false = ap is_value e in cc

pub not_small : (plan : PlanOf) (pool : ℕ) (fault : EngineFault) → plan.forks ≤ pool → engine_of plan pool ≡ Err fault → ⊥
not_small plan pool fault le e = small_by plan pool fault (record { plan = plan; pool = pool; state = first_state plan plan.forks pool; trail = [] }) (nat_lt pool plan.forks) refl le e

-- where a job is out in a run, the oldest one is there, its job is, and its report is taken
pub oldest_found : (s : State) → oldest_out s.rows ≡ None → list_any is_out s.rows ≡ true → ⊥
oldest_found s none out = let no = some_oldest s.rows none in cc

pub job_found : (engine : EngineOf) (host : HostNo) (ticket : Ticket) → IsSound engine → oldest_out engine.state.rows ≡ Some (host, ticket) → job_of engine.plan engine.state host ticket ≡ None → ⊥
job_found engine host ticket sound oldest none = job_in_run engine.plan engine.pool engine.trail engine.state (host, ticket) sound oldest none

pub oldest_waits : (engine : EngineOf) (r : Report) → IsSound engine → oldest_out engine.state.rows ≡ Some (r.host, r.ticket) → item_at engine.state r.host.0 ≡ Some r.item → attempt_at engine.state r.host.0 ≡ r.attempt → refusal_of engine.state r ≡ None
oldest_waits engine r sound oldest next attempt = oldest_in_run engine.plan engine.pool engine.trail engine.state r sound oldest next attempt

-- the report that comes where `next` waits
pub waits_took : {P : Type 0} (picks : P → List Bool → ℕ → P → Type 0) (old_picker new_picker : P) (answers : Answers) (old mid new : EngineOf) → NextIs picks old_picker new_picker old mid Waiting → TakesOne answers mid new → TakesOne answers old new
waits_took picks old_picker new_picker answers old mid new m one = rw (← m.0) one

-- an event that was taken is no command
pub takes_own : (answers : Answers) (old new : EngineOf) → TakesOne answers old new → TakesOwn old new
takes_own answers old new one = (one.event, one.takes, one.uncommanded)

pub waits_less : {P : Type 0} (picks : P → List Bool → ℕ → P → Type 0) (old_picker new_picker : P) (old mid new : EngineOf) → NextIs picks old_picker new_picker old mid Waiting → LessWork mid new → LessWork old new
waits_less picks old_picker new_picker old mid new m less = rw (← m.0) less
