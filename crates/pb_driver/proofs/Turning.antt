-- What the steps of a driver hand on, one behind the other.
use Rattle.std.proofs.Common.{◌≡◌, ℕ, List, [], length, refl, sym, ◌∙◌, ap}
use Rattle.std.specs.Prelude.{◌≢◌, Option, Ok}
use Rattle.pb_plan.specs.Plan.{PlanOf}
use Rattle.pb_state.specs.declared.event.Event.{Event}
use Rattle.pb_host.specs.declared.host.Counts.{Counts}
use Rattle.pb_engine.specs.EngineOf.{EngineOf, IsSound, engine_of}
use Rattle.pb_events.specs.Lines.{start_line}
use Rattle.pb_recap.specs.Recap.{recap}
use Rattle.pb_driver.specs.declared.driver.RunFault.{RunFault}
use Rattle.pb_driver.specs.declared.driver.RunFault.TheVariants.{Memory, Closed}
use Rattle.pb_driver.specs.declared.given.Given.{Given}
use Rattle.pb_driver.specs.Taken.{with_more}
use Rattle.pb_driver.specs.Output.{end_lines}
use Rattle.pb_driver.specs.Commanded.{IsObeyed, IsObeyedTo}
use Rattle.pb_driver.specs.Crews.{FitsSince}
use Rattle.pb_driver.specs.Cut.{IsPart}
use Rattle.pb_driver.specs.Failing.{failures_by}
use Rattle.pb_driver.specs.Driven.{Answers, HasBegun, HasEnded, IsBegunBy, IsFresh, IsSame, TakesCommands, TakesOne, last_lines}
use Rattle.pb_driver.specs.Mails.{Mail, GoesAlong, GoesOver}
use Rattle.pb_driver.specs.Turning.{Stands, GoesOn, BreaksOff, RunsOut, RunsTo}
use Rattle.pb_driver.proofs.Driving.{begun_one, begun_same, empty_begun, fresh_begun, keeps_one, keeps_same, made_of, same_one, same_same, whole}
use Rattle.pb_driver.proofs.Cutting.{breaks_after, breaks_one, breaks_same, cut_end, cut_fresh, cut_none, cut_turns}
use Rattle.pb_driver.proofs.Failing.{failed_as, memory_quiet}
use Rattle.pb_driver.proofs.Going.{along_both, done_over, gone_along, gone_over, fresh_over, none_over, over_along, over_both}
use Rattle.pb_driver.proofs.Commanding.{along_behind, begun_behind, breaks_commanded, keeps_behind}
use Rattle.pb_driver.proofs.Crewing.{fit_end, since_now, since_commanded}
use Rattle.pb_driver.proofs.Obeying.{obeyed_front}

memory_closed : (fault : RunFault) → fault ≡ Memory → fault ≢ Closed
memory_closed fault memory = λ closed. let wrong : Memory ≡ Closed = sym memory ∙ closed in cc

pub same_both : (a b c : EngineOf) → IsSame a b → IsSame b c → IsSame a c
same_both a b c first second = record { plan = second.plan ∙ first.plan; pool = second.pool ∙ first.pool; run = second.run }

-- ---- where a run stands
pub stands_fresh : (answers : Answers) (fits : EngineOf → Type 0) (engine : EngineOf) → IsFresh engine → IsSound engine → fits engine → Stands answers fits engine
stands_fresh answers fits engine fresh sound fit = record { begun = fresh_begun answers engine fresh; since = since_now fits engine sound fit }

pub stands_one : (answers : Answers) (fits : EngineOf → Type 0) (old new : EngineOf) → IsSound old → HasBegun answers old → TakesOne answers old new → FitsSince fits new → Stands answers fits new
stands_one answers fits old new sound begun one since = record { begun = begun_one answers old new sound begun one; since = since }

pub stands_same : (answers : Answers) (fits : EngineOf → Type 0) (old new : EngineOf) → HasBegun answers old → new ≡ old → FitsSince fits new → Stands answers fits new
stands_same answers fits old new begun same since = record { begun = begun_same answers old new same begun; since = since }

pub stands_commanded : (answers : Answers) (fits : EngineOf → Type 0) (old new : EngineOf) → TakesCommands old new → Stands answers fits old → Stands answers fits new
stands_commanded answers fits old new took stands = record { begun = begun_behind answers old new took stands.begun; since = since_commanded fits old new took stands.since }

pub ended_as : (old new : EngineOf) → new ≡ old → HasEnded old.plan old.state → HasEnded new.plan new.state
ended_as old new same ended = rw same ended

-- ---- that it went on
module _ {H : Type 0} (went : H → List Mail → H → Type 0) where
  pub on_same : (old new : EngineOf) (before after : H) (t : Option (List ℕ)) (m : ℕ) → new ≡ old → IsSound new → GoesAlong went old new before after → GoesOn went old new before after t t m m
  on_same old new before after t m same sound along = record { same = same_same old new same sound; keeps = keeps_same old new t same; mails = along; quiet = refl }

  pub on_none : (engine : EngineOf) (hand : H) (t : Option (List ℕ)) (m : ℕ) → IsSound engine → GoesOn went engine engine hand hand t t m m
  on_none engine hand t m sound = on_same engine engine hand hand t m refl sound (λ base was. was)

  -- by one event, with its lines
  pub on_one : (answers : Answers) (old new : EngineOf) (before after : H) (t u : Option (List ℕ)) (m n : ℕ) → IsSound old → IsSound new → TakesOne answers old new → GoesAlong went old new before after
      → u ≡ with_more t (last_lines new) → n ≡ m → GoesOn went old new before after t u m n
  on_one answers old new before after t u m n was sound one along its_lines quiet =
      record { same = same_one answers old new one sound; keeps = keeps_one answers old new t u was one its_lines; mails = along; quiet = quiet }

  -- by commands
  pub on_commanded : (old new : EngineOf) (hand : H) (t : Option (List ℕ)) (m : ℕ) → TakesCommands old new → GoesOn went old new hand hand t t m m
  on_commanded old new hand t m took =
      record { same = took.same; keeps = keeps_behind old new new t t took (λ base was. was); mails = along_behind went old new new hand hand took (λ base was. was); quiet = refl }

  pub on_both : (a b c : EngineOf) (r s v : H) (t u w : Option (List ℕ)) (m n o : ℕ) → GoesOn went a b r s t u m n → GoesOn went b c s v u w n o → GoesOn went a c r v t w m o
  on_both a b c r s v t u w m n o first second = record {
    same = same_both a b c first.same second.same;
    keeps = λ base was. second.keeps base (first.keeps base was);
    mails = along_both went a b c r s v first.mails second.mails;
    quiet = second.quiet ∙ first.quiet;
  }

-- ---- that it couldn't
module _ {H : Type 0} (answers : Answers) (went : H → List Mail → H → Type 0) where
  pub off_same : (old new : EngineOf) (before after : H) (t : Option (List ℕ)) (m : ℕ) (fault : RunFault) → HasBegun answers old → new ≡ old → IsSound new → GoesOver answers went old new before after fault → fault ≡ Memory
      → BreaksOff answers went old new before after t t m m fault
  off_same old new before after t m fault begun same sound over memory = record {
    same = same_same old new same sound;
    begun = begun_same answers old new same begun;
    breaks = breaks_same old new t same;
    lost = over;
    failed = memory_quiet fault m memory;
    opened = memory_closed fault memory;
  }

  -- one event was taken, and its lines weren't written
  pub off_one : (old new : EngineOf) (before after : H) (t u : Option (List ℕ)) (m n : ℕ) (fault : RunFault) → IsSound old → IsSound new → HasBegun answers old → TakesOne answers old new → GoesAlong went old new before after
      → IsPart t u (last_lines new) → n ≡ failures_by fault m → fault ≢ Closed → BreaksOff answers went old new before after t u m n fault
  off_one old new before after t u m n fault was sound begun one along part failed opened = record {
    same = same_one answers old new one sound;
    begun = begun_one answers old new was begun one;
    breaks = breaks_one answers old new t u was one part;
    lost = over_along answers went old new before after fault along;
    failed = failed;
    opened = opened;
  }

  -- behind some commands memory was refused
  pub off_commanded : (old new : EngineOf) (hand : H) (t : Option (List ℕ)) (m : ℕ) (fault : RunFault) → HasBegun answers old → TakesCommands old new → fault ≡ Memory → BreaksOff answers went old new hand hand t t m m fault
  off_commanded old new hand t m fault begun took memory = record {
    same = took.same;
    begun = begun_behind answers old new took begun;
    breaks = breaks_commanded old new t took;
    lost = over_along answers went old new hand hand fault (along_behind went old new new hand hand took (λ base was. was));
    failed = memory_quiet fault m memory;
    opened = memory_closed fault memory;
  }

  pub off_both : (a b c : EngineOf) (r s v : H) (t u w : Option (List ℕ)) (m n o : ℕ) (fault : RunFault) → GoesOn went a b r s t u m n → BreaksOff answers went b c s v u w n o fault → BreaksOff answers went a c r v t w m o fault
  off_both a b c r s v t u w m n o fault first second = record {
    same = same_both a b c first.same second.same;
    begun = second.begun;
    breaks = breaks_after a b c t u w first.keeps second.breaks;
    lost = over_both answers went a b c r s v fault first.mails second.lost;
    failed = second.failed ∙ failed_as fault m n first.quiet;
    opened = second.opened;
  }

-- ---- a whole run, and the beginning of one
begun_as : (answers : Answers) (commands : List Given) (old new : EngineOf) → IsSame old new → HasBegun answers new → IsObeyedTo new.plan new.pool commands new.trail → IsBegunBy answers old.plan old.pool commands new.trail
begun_as answers commands old new same begun obeyed =
    rw (← same.plan, ← same.pool) (record { legal = begun.legal; eager = begun.eager; once = begun.once; answered = begun.answered; obeyed = obeyed })

pub counted_as : (old new : EngineOf) (counts : List Counts) → IsSame old new → counts ≡ recap new.plan new.pool new.trail → counts ≡ recap old.plan old.pool new.trail
counted_as old new counts same counted = rw (← same.plan, ← same.pool) counted

module _ {H : Type 0} (answers : Answers) (went : H → List Mail → H → Type 0) (commands : List Given) where
  -- the first line wasn't written
  pub to_start : (old : EngineOf) (hand : H) (t u : Option (List ℕ)) (m n : ℕ) (fault : RunFault) → IsFresh old → went hand [] hand → IsPart t u (start_line (length old.plan.plays)) → n ≡ failures_by fault m → fault ≢ Closed
      → RunsTo answers went old.plan old.pool commands old.trail hand hand t u m n fault
  to_start old hand t u m n fault fresh none part failed opened = record {
    begun = rw fresh.1 (empty_begun answers old.plan old.pool commands);
    cut = cut_fresh old t u fresh part;
    lost = fresh_over answers went old hand fault fresh none;
    failed = failed;
    opened = opened;
  }

  -- its turns broke off
  pub to_turns : (old new : EngineOf) (before after : H) (t u v : Option (List ℕ)) (m n o : ℕ) (fault : RunFault) → IsFresh old → went before [] before → u ≡ with_more t (start_line (length old.plan.plays)) → n ≡ m
      → BreaksOff answers went old new before after u v n o fault → IsObeyedTo new.plan new.pool commands new.trail → RunsTo answers went old.plan old.pool commands new.trail before after t v m o fault
  to_turns old new before after t u v m n o fault fresh none started quiet off front = record {
    begun = begun_as answers commands old new off.same off.begun front;
    cut = cut_turns old new t u v fresh started off.breaks off.same;
    lost = gone_over answers went old new before after fault fresh none off.lost off.same;
    failed = off.failed ∙ failed_as fault m n quiet;
    opened = off.opened;
  }

  -- its end wasn't written
  pub to_end : (fits : EngineOf → Type 0) (old new : EngineOf) (before after : H) (t u v w : Option (List ℕ)) (m n o p : ℕ) (fault : RunFault) → IsFresh old → went before [] before
      → u ≡ with_more t (start_line (length old.plan.plays)) → n ≡ m → GoesOn went old new before after u v n o → Stands answers fits new → HasEnded new.plan new.state → IsObeyed new.plan new.pool commands new.trail
      → IsPart v w (end_lines new.plan (recap new.plan new.pool new.trail)) → p ≡ failures_by fault o → fault ≢ Closed → RunsTo answers went old.plan old.pool commands new.trail before after t w m p fault
  to_end fits old new before after t u v w m n o p fault fresh none started quiet on stands ended obeyed part failed opened = record {
    begun = begun_as answers commands old new on.same stands.begun (obeyed_front commands new new (record { plan = refl; pool = refl; run = on.same.run }) obeyed);
    cut = cut_end old new t u v w (recap new.plan new.pool new.trail) fresh started on.keeps ended.finished on.same refl part;
    lost = done_over answers went old new before after fault fresh none on.mails on.same;
    failed = failed ∙ failed_as fault m o (on.quiet ∙ quiet);
    opened = opened;
  }

  -- it came to its end
  pub runs_out : (fits : EngineOf → Type 0) (old new : EngineOf) (before after : H) (t u v w : Option (List ℕ)) (m n o p : ℕ) (counts : List Counts) → IsFresh old → went before [] before
      → u ≡ with_more t (start_line (length old.plan.plays)) → n ≡ m → GoesOn went old new before after u v n o → Stands answers fits new → HasEnded new.plan new.state → IsObeyed new.plan new.pool commands new.trail
      → w ≡ with_more v (end_lines new.plan counts) → counts ≡ recap new.plan new.pool new.trail → p ≡ o → RunsOut answers fits went old.plan old.pool commands new.trail before after t w m p
  runs_out fits old new before after t u v w m n o p counts fresh none started quiet on stands ended obeyed its_lines counted still = record {
    whole = whole answers commands old new t u v w counts fresh started on.keeps stands.begun obeyed on.same ended its_lines counted;
    mails = gone_along went old new before after fresh none on.mails on.same;
    last = fit_end fits new stands.since ended;
    quiet = still ∙ on.quiet ∙ quiet;
  }

  -- as the plan's run
  pub out_of : (fits : EngineOf → Type 0) (plan : PlanOf) (pool : ℕ) (engine : EngineOf) (new_trail trail : List Event) (before after : H) (t u : Option (List ℕ)) (m n : ℕ) → engine_of plan pool ≡ Ok engine
      → RunsOut answers fits went engine.plan engine.pool commands new_trail before after t u m n → trail ≡ new_trail → RunsOut answers fits went plan pool commands trail before after t u m n
  out_of fits plan pool engine new_trail trail before after t u m n made run is =
      let from = made_of plan pool engine made in
      rw (is, ← from.0, ← from.1) run

  pub to_of : (plan : PlanOf) (pool : ℕ) (engine : EngineOf) (new_trail trail : List Event) (before after : H) (t u : Option (List ℕ)) (m n : ℕ) (fault : RunFault) → engine_of plan pool ≡ Ok engine
      → RunsTo answers went engine.plan engine.pool commands new_trail before after t u m n fault → trail ≡ new_trail → RunsTo answers went plan pool commands trail before after t u m n fault
  to_of plan pool engine new_trail trail before after t u m n fault made run is =
      let from = made_of plan pool engine made in
      rw (is, ← from.0, ← from.1) run

  -- where no engine was made
  pub to_none : (plan : PlanOf) (pool : ℕ) (hand : H) (t : Option (List ℕ)) (m : ℕ) → went hand [] hand → RunsTo answers went plan pool commands [] hand hand t t m m Memory
  to_none plan pool hand t m none = record {
    begun = empty_begun answers plan pool commands;
    cut = cut_none plan pool t;
    lost = none_over answers went plan pool hand Memory none;
    failed = refl;
    opened = memory_closed Memory refl;
  }
