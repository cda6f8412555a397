-- What a runner that starts programs gives, and what was started, from whether a call has words.
use Rattle.std.proofs.Common.{◌≡◌, ◌≢◌, ℕ, Bool, true, false, IsTrue, ◌↔◌, List, [], ◌∷◌, sym, refl}
use Rattle.std.proofs.lemmas.List.{append-nil}
use Rattle.std.specs.Prelude.{Option}
use Rattle.pb_outcome.specs.declared.cause.Cause.TheVariants.{CannotStart}
use Rattle.pb_outcome.specs.declared.job.Job.{Job}
use Rattle.pb_outcome.specs.declared.outcome.Form.{Form}
use Rattle.pb_outcome.specs.declared.outcome.Form.TheVariants.{NotStarted}
use Rattle.pb_runner.specs.History.{with_more, none_more}
use Rattle.pb_runner.specs.Launch.{Launch}
use Rattle.pb_runner.specs.Local.{LocalAllows, LocalGives, IsLaunched, IsStarted, own_words}
use Rattle.pb_runner.specs.LocalRan.{LocalRan}

-- what can't start
pub gives_none : (facts : Option (List ℕ)) (job : Job) (outcome : Form) → outcome ≡ NotStarted CannotStart → LocalGives facts job outcome
gives_none facts job outcome is = record { allowed = rw is tt; unstarted = λ none. is }

-- what came of a call that has words
pub gives_started : (facts : Option (List ℕ)) (job : Job) (outcome : Form) (empty : Bool) → (IsTrue empty ↔ (own_words facts job.call ≡ [])) → empty ≡ false → LocalAllows job outcome
    → LocalGives facts job outcome
gives_started facts job outcome empty is filled allowed = record { allowed = allowed; unstarted = λ none. let has : empty ≡ true = is.1 none in cc }

-- one job was run, and this was started for it
ran_one : (facts facts_after : Option (List ℕ)) (job : Job) (outcome : Form) (before after : Option (List Launch)) (launches : List Launch) → facts_after ≡ facts → after ≡ with_more before launches
    → IsLaunched facts job outcome launches → LocalRan facts before ((job, outcome) ∷ []) facts_after after
ran_one facts facts_after job outcome before after launches same known launched =
    (same, record { launches = launches; launched = known; each = (launches, [], sym (append-nil launches), launched, refl) })

launched_none : (facts : Option (List ℕ)) (job : Job) (outcome : Form) → own_words facts job.call ≡ [] → outcome ≡ NotStarted CannotStart → IsLaunched facts job outcome []
launched_none facts job outcome none is = record { wordless = λ e. (refl, is); worded = λ some. absurd (some none) }

pub ran_none : (facts : Option (List ℕ)) (job : Job) (outcome : Form) (known : Option (List Launch)) (empty : Bool) → (IsTrue empty ↔ (own_words facts job.call ≡ [])) → empty ≡ true
    → outcome ≡ NotStarted CannotStart → LocalRan facts known ((job, outcome) ∷ []) facts known
ran_none facts job outcome known empty is none cannot = ran_one facts facts job outcome known known [] refl (none_more known) (launched_none facts job outcome (is.0 none) cannot)

launched_some : (facts : Option (List ℕ)) (job : Job) (outcome : Form) (launches : List Launch) → own_words facts job.call ≢ [] → IsStarted facts job outcome launches
    → IsLaunched facts job outcome launches
launched_some facts job outcome launches some started = record { wordless = λ none. absurd (some none); worded = λ e. started }

pub ran_started : (facts facts_after : Option (List ℕ)) (job : Job) (outcome : Form) (before after : Option (List Launch)) (empty : Bool) → (IsTrue empty ↔ (own_words facts job.call ≡ []))
    → empty ≡ false → facts_after ≡ facts → (launches : List Launch) × (after ≡ with_more before launches) × IsStarted facts job outcome launches
    → LocalRan facts before ((job, outcome) ∷ []) facts_after after
ran_started facts facts_after job outcome before after empty is filled same started =
    ran_one facts facts_after job outcome before after started.0 same started.1
    (launched_some facts job outcome started.0 (λ none. let has : empty ≡ true = is.1 none in cc) started.2)
