-- What is said of a trail that is looked at in place of a run.
use Rattle.std.specs.Prelude.{◌≡◌, ◌⊎◌, ℕ, true, false, List, ◌++◌, Option, None, Some, Ok, Err, codes, decimal}
use Rattle.pb_state.specs.declared.event.Event.{Event}
use Rattle.pb_plan.specs.Plan.{PlanOf}
use Rattle.pb_audit.specs.Audit.{is_legal, IsFirstIllegal}
use Rattle.pb_audit.specs.Names.{word_of}
use Rattle.pb_audit.specs.Reading.{trail_in}
use Rattle.pb_audit.specs.declared.fault.TrailFault.{TrailFault}
use Rattle.pb_audit.specs.declared.name.EventName.{EventName}
use Rattle.pb_driver.specs.Cut.{IsPart}
use Rattle.pb_driver.specs.Taken.{with_more}

-- the first step that isn't legal, counted from 0, with its event's name
abbrev pub illegal_text : ℕ → EventName → List ℕ
illegal_text step name = codes "illegal: step " ++ decimal step ++ codes ", " ++ word_of name ++ codes "\n"

-- what is said of a trail, with the exit status: that it is a legal run of the plan, or its first event that isn't possible where it stands
abbrev pub IsVerdict : PlanOf → List Event → (text : List ℕ) → (status : ℕ) → Type 0
IsVerdict plan trail text status =
    ((is_legal plan trail ≡ true) × (text ≡ codes "legal\n") × (status ≡ 0))
    ⊎ ((is_legal plan trail ≡ false) × (step : ℕ) × (name : EventName) × IsFirstIllegal plan trail step name × (text ≡ illegal_text step name) × (status ≡ 2))

-- bytes tell a trail, and what is said of it was written
pub record IsAudited (bytes : List ℕ) (plan : PlanOf) (before after : Option (List ℕ)) (status : ℕ) : Type 0 where
  pub trail : List Event
  pub text : List ℕ
  pub read : trail_in bytes ≡ Ok trail
  pub verdict : IsVerdict plan trail text status
  pub written : after ≡ with_more before text

-- bytes tell a trail, and a beginning of what is said of it was written
pub record IsAuditCut (bytes : List ℕ) (plan : PlanOf) (before after : Option (List ℕ)) : Type 0 where
  pub trail : List Event
  pub text : List ℕ
  pub status : ℕ
  pub read : trail_in bytes ≡ Ok trail
  pub verdict : IsVerdict plan trail text status
  pub part : IsPart before after text

-- a trail's bytes have this first fault
unfoldable pub IsBadTrail : Option (List ℕ) → TrailFault → Type 0
IsBadTrail None e = ⊥
IsBadTrail (Some bytes) e = trail_in bytes ≡ Err e
