-- What a crew knows of its engine, from event to event.
use Rattle.std.proofs.Common.{◌≡◌, ℕ, Bool, List, [], ◌∷◌, ◌++◌, refl, sym, ◌∙◌, ap, subst, append_assoc}
use Rattle.std.proofs.lemmas.List.{append-nil}
use Rattle.pb_outcome.specs.declared.job.Job.{Job}
use Rattle.pb_outcome.specs.declared.job.Report.{Report}
use Rattle.pb_state.specs.declared.event.Event.{Event}
use Rattle.pb_state.specs.declared.event.Event.TheVariants.{Report as Reported}
use Rattle.pb_engine.specs.EngineOf.{EngineOf, Takes, IsSound}
use Rattle.pb_engine.specs.Choice.{NextIs}
use Rattle.pb_engine.specs.declared.engine.Next.TheVariants.{Sent as ToSend, Moved, Waiting}
use Rattle.pb_driver.specs.Crews.{AreSilent, FitsSince, HasFitEnd, HasSent}
use Rattle.pb_driver.specs.Driven.{AreCommands, HasEnded, TakesCommands}
use Rattle.pb_driver.proofs.Commanding.{command_mail}
use Rattle.pb_driver.proofs.Going.{moved_mail, sent_by}

-- now
pub since_now : (fits : EngineOf → Type 0) (engine : EngineOf) → IsSound engine → fits engine → FitsSince fits engine
since_now fits engine sound was =
    record { old = engine; events = []; was = was; sound = sound; silent = tt; plan = refl; pool = refl; trail = sym (append-nil engine.trail); run = sound }

-- where the engine is as it was
pub since_as : (fits : EngineOf → Type 0) (old new : EngineOf) → new ≡ old → FitsSince fits old → FitsSince fits new
since_as fits old new same since = subst (FitsSince fits) (sym same) since

-- some silent events more
silent_both : (es ds : List Event) → AreSilent es → AreSilent ds → AreSilent (es ++ ds)
silent_both [] ds a b = b
silent_both (e ∷ es) ds a b = (a.0, silent_both es ds a.1 b)

since_more : (fits : EngineOf → Type 0) (old new : EngineOf) (es : List Event) → FitsSince fits old → AreSilent es → new.plan ≡ old.plan → new.pool ≡ old.pool → new.trail ≡ old.trail ++ es → IsSound new
    → FitsSince fits new
since_more fits old new es since silent plan pool trail sound = record {
  old = since.old;
  events = since.events ++ es;
  was = since.was;
  sound = since.sound;
  silent = silent_both since.events es since.silent silent;
  plan = plan ∙ since.plan;
  pool = pool ∙ since.pool;
  trail = trail ∙ ap (λ t. t ++ es) since.trail ∙ append_assoc since.old.trail since.events es;
  run = sound;
}

-- the machine took an event of its own that is no send
pub since_moved : {P : Type 0} (picks : P → List Bool → ℕ → P → Type 0) (old_picker new_picker : P) (fits : EngineOf → Type 0) (old new : EngineOf) → NextIs picks old_picker new_picker old new Moved
    → FitsSince fits old → IsSound new → FitsSince fits new
since_moved picks old_picker new_picker fits old new m since sound =
    since_more fits old new (m.0 ∷ []) since (moved_mail old.plan old.state m.0 m.1.answer, tt)
    (ap (λ (v : EngineOf). v.plan) m.1.takes.1) (ap (λ (v : EngineOf). v.pool) m.1.takes.1) (ap (λ (v : EngineOf). v.trail) m.1.takes.1) sound

-- or waits
pub since_waits : {P : Type 0} (picks : P → List Bool → ℕ → P → Type 0) (old_picker new_picker : P) (fits : EngineOf → Type 0) (old new : EngineOf) → NextIs picks old_picker new_picker old new Waiting
    → FitsSince fits old → FitsSince fits new
since_waits picks old_picker new_picker fits old new m since = since_as fits old new m.0 since

-- or sent a job
pub has_sent : {P : Type 0} (picks : P → List Bool → ℕ → P → Type 0) (old_picker new_picker : P) (fits : EngineOf → Type 0) (old new : EngineOf) (job : Job) → NextIs picks old_picker new_picker old new (ToSend job)
    → FitsSince fits old → HasSent fits new job
has_sent picks old_picker new_picker fits old new job m since =
    let by = sent_by old.plan old.state m.0 job m.1.answer in
    record { old = old; host = by.0; item = by.1; attempt = by.2; ticket = by.3; since = since; takes = subst (λ (e : Event). Takes old new e) by.4 m.1.takes; is = by.5 }

-- a report was taken
pub since_taken : (fits : EngineOf → Type 0) (old new : EngineOf) (r : Report) → ((next : EngineOf) → Takes old next (Reported r) → fits next) → Takes old new (Reported r) → IsSound new → FitsSince fits new
since_taken fits old new r fit takes sound = since_now fits new sound (fit new takes)

-- commands were given
silent_commands : (cs : List Event) → AreCommands cs → AreSilent cs
silent_commands [] c = tt
silent_commands (e ∷ es) c = (command_mail e c.0, silent_commands es c.1)

pub since_commanded : (fits : EngineOf → Type 0) (old new : EngineOf) → TakesCommands old new → FitsSince fits old → FitsSince fits new
since_commanded fits old new took since = since_more fits old new took.events since (silent_commands took.events took.commands) took.same.plan took.same.pool took.trail took.same.run

-- a run is finished
pub fit_end : (fits : EngineOf → Type 0) (engine : EngineOf) → FitsSince fits engine → HasEnded engine.plan engine.state → HasFitEnd fits
fit_end fits engine since ended = record { engine = engine; since = since; finished = ended.finished }
