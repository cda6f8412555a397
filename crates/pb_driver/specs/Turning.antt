-- What each step of a driver hands on to the one above it: where a run stands, that it went on from one moment to a later one, or that it couldn't.
use Rattle.std.specs.Prelude.{◌≡◌, ◌≢◌, ℕ, List, Option}
use Rattle.pb_plan.specs.Plan.{PlanOf}
use Rattle.pb_state.specs.declared.event.Event.{Event}
use Rattle.pb_engine.specs.EngineOf.{EngineOf}
use Rattle.pb_driver.specs.declared.driver.RunFault.{RunFault}
use Rattle.pb_driver.specs.declared.driver.RunFault.TheVariants.{Closed}
use Rattle.pb_driver.specs.declared.given.Given.{Given}
use Rattle.pb_driver.specs.Crews.{FitsSince, HasFitEnd}
use Rattle.pb_driver.specs.Cut.{Breaks, IsCut}
use Rattle.pb_driver.specs.Failing.{failures_by}
use Rattle.pb_driver.specs.Driven.{Answers, HasBegun, IsBegunBy, IsSame, IsWhole, Keeps}
use Rattle.pb_driver.specs.Mails.{Mail, GoesAlong, GoesOver, HasGoneTo, mails_of}

-- an engine has the beginning of a run, and its crew knows of it
pub record Stands (answers : Answers) (fits : EngineOf → Type 0) (engine : EngineOf) : Type 0 where
  pub begun : HasBegun answers engine
  pub since : FitsSince fits engine

-- a run went on: its lines and its mails stand behind those before, and no call of the writer failed
pub record GoesOn {H : Type 0} (went : H → List Mail → H → Type 0) (old new : EngineOf) (before after : H) (taken taken_after : Option (List ℕ)) (failures failures_after : ℕ) : Type 0 where
  pub same : IsSame old new
  pub keeps : Keeps old new taken taken_after
  pub mails : GoesAlong went old new before after
  pub quiet : failures_after ≡ failures

-- it couldn't go on, by this fault
pub record BreaksOff {H : Type 0} (answers : Answers) (went : H → List Mail → H → Type 0) (old new : EngineOf) (before after : H) (taken taken_after : Option (List ℕ)) (failures failures_after : ℕ) (fault : RunFault) : Type 0 where
  pub same : IsSame old new
  pub begun : HasBegun answers new
  pub breaks : Breaks old new taken taken_after
  pub lost : GoesOver answers went old new before after fault
  pub failed : failures_after ≡ failures_by fault failures
  pub opened : fault ≢ Closed

-- a whole run of a plan, with what went to its crew and came from it
pub record RunsOut {H : Type 0} (answers : Answers) (fits : EngineOf → Type 0) (went : H → List Mail → H → Type 0) (plan : PlanOf) (pool : ℕ) (commands : List Given) (trail : List Event) (before after : H) (taken taken_after : Option (List ℕ)) (failures failures_after : ℕ) : Type 0 where
  pub whole : IsWhole answers plan pool commands trail taken taken_after
  pub mails : went before (mails_of plan pool trail) after
  pub last : HasFitEnd fits
  pub quiet : failures_after ≡ failures

-- the beginning of one, which couldn't go on by this fault
pub record RunsTo {H : Type 0} (answers : Answers) (went : H → List Mail → H → Type 0) (plan : PlanOf) (pool : ℕ) (commands : List Given) (trail : List Event) (before after : H) (taken taken_after : Option (List ℕ)) (failures failures_after : ℕ) (fault : RunFault) : Type 0 where
  pub begun : IsBegunBy answers plan pool commands trail
  pub cut : IsCut plan pool trail taken taken_after
  pub lost : HasGoneTo answers (λ mails. went before mails after) plan pool trail fault
  pub failed : failures_after ≡ failures_by fault failures
  pub opened : fault ≢ Closed
