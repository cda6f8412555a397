-- An engine that took commands, and nothing else: its run, its lines, its answers and what is left to do are as before.
use Rattle.std.proofs.Common.{◌≡◌, ℕ, Bool, true, false, List, [], ◌∷◌, ◌++◌, refl, sym, ◌∙◌, ap, subst, append_assoc}
use Rattle.std.proofs.lemmas.List.{append-nil}
use Rattle.std.specs.Prelude.{Option, ◌<◌}
use Rattle.pb_state.specs.declared.event.Event.{Event}
use Rattle.pb_state.specs.declared.event.Event.TheVariants.{Open, Start, Send, Report as Reported, Turn, Close, Stop, Forks}
use Rattle.pb_plan.specs.Plan.{PlanOf}
use Rattle.pb_state.specs.State.{State}
use Rattle.pb_state.specs.Machine.{after, first_state}
use Rattle.pb_state.specs.Run.{IsEager, state_from, is_report, is_command}
use Rattle.pb_state.specs.Work.{work}
use Rattle.pb_state.proofs.Trails.{state_both}
use Rattle.pb_engine.specs.declared.command.Command.{Command}
use Rattle.pb_engine.specs.declared.command.Command.TheVariants.{Stop as ToStop, Forks as ToForks}
use Rattle.pb_engine.specs.Commands.{event_for}
use Rattle.pb_engine.specs.EngineOf.{EngineOf, Takes, IsSound, LessWork}
use Rattle.pb_engine.proofs.Runs.{once_in_run}
use Rattle.pb_events.specs.Lines.{lines_of}
use Rattle.pb_driver.specs.declared.given.Given.{Given}
use Rattle.pb_driver.specs.Taken.{with_more}
use Rattle.pb_driver.specs.Output.{lines_from}
use Rattle.pb_driver.specs.Cut.{Breaks}
use Rattle.pb_engine.specs.Laws.{has_mail}
use Rattle.pb_driver.specs.Mails.{Mail, mail_in, mails_from, mails_in, GoesAlong}
use Rattle.pb_driver.specs.Commanded.{is_taken}
use Rattle.pb_driver.specs.Driven.{Answers, IsAnswered, HasBegun, Keeps, AreCommands, TakesCommands, lines_of_trail}
use Rattle.pb_driver.proofs.Driving.{no_report}
use Rattle.pb_driver.proofs.Cutting.{all_short}
use Rattle.pb_driver.proofs.Going.{no_mail}

-- a command is no report, has no lines, and leaves as much to do as before
pub is_for : (command : Command) → is_command (event_for command) ≡ true
is_for ToStop = refl
is_for (ToForks n) = refl

command_report : (e : Event) → is_command e ≡ true → is_report e ≡ false
command_report Open c = refl
command_report (Start h) c = refl
command_report (Send h item attempt ticket) c = refl
command_report (Reported r) c = cc
command_report Turn c = refl
command_report Close c = refl
command_report Stop c = refl
command_report (Forks n) c = refl

pub command_mail : (e : Event) → is_command e ≡ true → has_mail e ≡ false
command_mail Open c = refl
command_mail (Start h) c = refl
command_mail (Send h item attempt ticket) c = cc
command_mail (Reported r) c = cc
command_mail Turn c = refl
command_mail Close c = refl
command_mail Stop c = refl
command_mail (Forks n) c = refl

no_lines : (plan : PlanOf) (s : State) (e : Event) → is_command e ≡ true → lines_of plan s e ≡ []
no_lines plan s Open c = cc
no_lines plan s (Start h) c = cc
no_lines plan s (Send h item attempt ticket) c = cc
no_lines plan s (Reported r) c = cc
no_lines plan s Turn c = cc
no_lines plan s Close c = cc
no_lines plan s Stop c = refl
no_lines plan s (Forks n) c = refl

no_work : (plan : PlanOf) (s : State) (e : Event) → is_command e ≡ true → work plan (after plan s e) ≡ work plan s
no_work plan s Open c = cc
no_work plan s (Start h) c = cc
no_work plan s (Send h item attempt ticket) c = cc
no_work plan s (Reported r) c = cc
no_work plan s Turn c = cc
no_work plan s Close c = cc
no_work plan s Stop c = refl
no_work plan s (Forks n) c = refl

work_behind : (plan : PlanOf) (s : State) (cs : List Event) → AreCommands cs → work plan (state_from plan s cs) ≡ work plan s
work_behind plan s [] c = refl
work_behind plan s (e ∷ es) c = work_behind plan (after plan s e) es c.1 ∙ no_work plan s e c.0

lines_none : (plan : PlanOf) (s : State) (cs : List Event) → AreCommands cs → lines_from plan s cs ≡ []
lines_none plan s [] c = refl
lines_none plan s (e ∷ es) c = ap (λ (l : List ℕ). l ++ lines_from plan (after plan s e) es) (no_lines plan (after plan s e) e c.0) ∙ lines_none plan (after plan s e) es c.1

lines_behind : (plan : PlanOf) (s : State) (es cs : List Event) → AreCommands cs → lines_from plan s (es ++ cs) ≡ lines_from plan s es
lines_behind plan s [] cs c = lines_none plan s cs c
lines_behind plan s (e ∷ es) cs c = ap (λ l. lines_of plan (after plan s e) e ++ l) (lines_behind plan (after plan s e) es cs c)

mails_none : (plan : PlanOf) (s : State) (cs : List Event) → AreCommands cs → mails_from plan s cs ≡ []
mails_none plan s [] c = refl
mails_none plan s (e ∷ es) c =
    ap (λ (l : List Mail). l ++ mails_from plan (after plan s e) es) (no_mail plan s e (command_mail e c.0)) ∙ mails_none plan (after plan s e) es c.1

mails_behind : (plan : PlanOf) (s : State) (es cs : List Event) → AreCommands cs → mails_from plan s (es ++ cs) ≡ mails_from plan s es
mails_behind plan s [] cs c = mails_none plan s cs c
mails_behind plan s (e ∷ es) cs c = ap (λ l. mail_in plan s e ++ l) (mails_behind plan (after plan s e) es cs c)

eager_none : (plan : PlanOf) (s : State) (cs : List Event) → AreCommands cs → IsEager plan s cs
eager_none plan s [] c = tt
eager_none plan s (e ∷ es) c = (λ is. let wrong : true ≡ false = sym is ∙ command_report e c.0 in cc, eager_none plan (after plan s e) es c.1)

eager_behind : (plan : PlanOf) (s : State) (es cs : List Event) → AreCommands cs → IsEager plan s es → IsEager plan s (es ++ cs)
eager_behind plan s [] cs c eager = eager_none plan s cs c
eager_behind plan s (e ∷ es) cs c eager = (eager.0, eager_behind plan (after plan s e) es cs c eager.1)

answered_none : (answers : Answers) (plan : PlanOf) (s : State) (cs : List Event) → AreCommands cs → IsAnswered answers plan s cs
answered_none answers plan s [] c = tt
answered_none answers plan s (e ∷ es) c = (no_report answers plan s e (command_report e c.0), answered_none answers plan (after plan s e) es c.1)

answered_behind : (answers : Answers) (plan : PlanOf) (s : State) (es cs : List Event) → AreCommands cs → IsAnswered answers plan s es → IsAnswered answers plan s (es ++ cs)
answered_behind answers plan s [] cs c answered = answered_none answers plan s cs c
answered_behind answers plan s (e ∷ es) cs c answered = (answered.0, answered_behind answers plan (after plan s e) es cs c answered.1)

-- what an engine keeps that took commands
pub begun_behind : (answers : Answers) (old new : EngineOf) → TakesCommands old new → HasBegun answers old → HasBegun answers new
begun_behind answers old new took begun = record {
  legal = took.same.run.legal;
  eager = rw (took.trail, took.same.plan, took.same.pool) (eager_behind old.plan (first_state old.plan old.plan.forks old.pool) old.trail took.events took.commands begun.eager);
  once = once_in_run new.plan new.pool new.trail new.state took.same.run;
  answered = rw (took.trail, took.same.plan, took.same.pool) (answered_behind answers old.plan (first_state old.plan old.plan.forks old.pool) old.trail took.events took.commands begun.answered);
}

lines_same : (old new : EngineOf) → TakesCommands old new → lines_of_trail new ≡ lines_of_trail old
lines_same old new took = rw (took.trail, took.same.plan, took.same.pool) (lines_behind old.plan (first_state old.plan old.plan.forks old.pool) old.trail took.events took.commands)

mails_same : (old new : EngineOf) → TakesCommands old new → mails_in new ≡ mails_in old
mails_same old new took = rw (took.trail, took.same.plan, took.same.pool) (mails_behind old.plan (first_state old.plan old.plan.forks old.pool) old.trail took.events took.commands)

work_same : (old new : EngineOf) → IsSound old → TakesCommands old new → work new.plan new.state ≡ work old.plan old.state
work_same old new sound took =
    ap (λ (s : State). work new.plan s) (sym took.same.run.ends)
    ∙ rw (took.trail, took.same.plan, took.same.pool)
    (ap (λ (s : State). work old.plan s) (state_both old.plan (first_state old.plan old.plan.forks old.pool) old.trail took.events ∙ ap (λ (s : State). state_from old.plan s took.events) sound.ends)
    ∙ work_behind old.plan old.state took.events took.commands)

-- one event more behind commands
pub keeps_behind : (old mid new : EngineOf) (t u : Option (List ℕ)) → TakesCommands old mid → Keeps mid new t u → Keeps old new t u
keeps_behind old mid new t u took keeps = λ base before. keeps base (before ∙ ap (λ l. with_more base l) (sym (lines_same old mid took)))

pub breaks_commanded : (old new : EngineOf) (t : Option (List ℕ)) → TakesCommands old new → Breaks old new t t
breaks_commanded old new t took = λ base before. all_short new base t (before ∙ ap (λ l. with_more base l) (sym (lines_same old new took)))

pub along_behind : {H : Type 0} (went : H → List Mail → H → Type 0) (old mid new : EngineOf) (r s : H) → TakesCommands old mid → GoesAlong went mid new r s → GoesAlong went old new r s
along_behind {H} went old mid new r s took along = λ base was. along base (subst (λ mails. went base mails r) (sym (mails_same old mid took)) was)

pub less_behind : (old mid new : EngineOf) → IsSound old → TakesCommands old mid → LessWork mid new → LessWork old new
less_behind old mid new sound took less = subst (λ (n : ℕ). work new.plan new.state < n) (work_same old mid sound took) less

-- no command, and one more
pub commands_none : (old : EngineOf) → IsSound old → TakesCommands old old
commands_none old sound = record { same = record { plan = refl; pool = refl; run = sound }; events = []; commands = tt; trail = sym (append-nil old.trail) }

are_more : (cs : List Event) (e : Event) → AreCommands cs → is_command e ≡ true → AreCommands (cs ++ e ∷ [])
are_more [] e c is = (is, tt)
are_more (d ∷ cs) e c is = (c.0, are_more cs e c.1 is)

commands_one : (old mid new : EngineOf) (e : Event) → IsSound new → TakesCommands old mid → Takes mid new e → is_command e ≡ true → TakesCommands old new
commands_one old mid new e sound took takes is = record {
  same = record { plan = ap (λ (v : EngineOf). v.plan) takes.1 ∙ took.same.plan; pool = ap (λ (v : EngineOf). v.pool) takes.1 ∙ took.same.pool; run = sound };
  events = took.events ++ e ∷ [];
  commands = are_more took.events e took.commands is;
  trail = ap (λ (v : EngineOf). v.trail) takes.1 ∙ ap (λ t. t ++ e ∷ []) took.trail ∙ append_assoc old.trail took.events (e ∷ []);
}

commands_by : (b : Bool) (old mid new : EngineOf) (given : Given) → b ≡ is_taken mid.plan mid.pool mid.state given → IsSound new → TakesCommands old mid
    → (is_taken mid.plan mid.pool mid.state given ≡ true → Takes mid new (event_for given.command)) → (is_taken mid.plan mid.pool mid.state given ≡ false → new ≡ mid) → TakesCommands old new
commands_by true old mid new given is sound took taken refused = commands_one old mid new (event_for given.command) sound took (taken (sym is)) (is_for given.command)
commands_by false old mid new given is sound took taken refused = rw (refused (sym is)) took

pub commands_more : (old mid new : EngineOf) (given : Given) → IsSound new → TakesCommands old mid → (is_taken mid.plan mid.pool mid.state given ≡ true → Takes mid new (event_for given.command))
    → (is_taken mid.plan mid.pool mid.state given ≡ false → new ≡ mid) → TakesCommands old new
commands_more old mid new given sound took taken refused = commands_by (is_taken mid.plan mid.pool mid.state given) old mid new given refl sound took taken refused
