-- What a runner that starts programs has run: what its launcher tells of it.
use Rattle.std.specs.Prelude.{◌≡◌, ℕ, List, [], ◌∷◌, ◌++◌, Option, refl}
use Rattle.std.proofs.Common.{ap, sym, ◌∙◌, subst, append_assoc}
use Rattle.pb_outcome.specs.declared.job.Job.{Job}
use Rattle.pb_outcome.specs.declared.outcome.Form.{Form}
use Rattle.pb_runner.specs.History.{with_more, none_more, more_more}
use Rattle.pb_runner.specs.Launch.{Launch}
use Rattle.pb_runner.specs.Local.{IsLaunched}

-- what was started for jobs, one after another
abbrev pub AreLaunched : Option (List ℕ) → List (Job × Form) → List Launch → Type 0
AreLaunched facts [] launches = launches ≡ []
AreLaunched facts (job ∷ jobs) launches =
    (first : List Launch) × (rest : List Launch) × (launches ≡ first ++ rest) × IsLaunched facts job.0 job.1 first × AreLaunched facts jobs rest

-- what was started is what was started for these jobs, by a runner with this facts program
pub record HasStarted (facts : Option (List ℕ)) (before : Option (List Launch)) (jobs : List (Job × Form)) (after : Option (List Launch)) : Type 0 where
  pub launches : List Launch
  pub launched : after ≡ with_more before launches
  pub each : AreLaunched facts jobs launches

-- the facts program is the same, and the jobs' programs were started
abbrev pub LocalRan : Option (List ℕ) → Option (List Launch) → List (Job × Form) → Option (List ℕ) → Option (List Launch) → Type 0
LocalRan facts before jobs facts_after after = (facts_after ≡ facts) × HasStarted facts before jobs after

-- nothing was run
pub local_none : (facts : Option (List ℕ)) (known : Option (List Launch)) → LocalRan facts known [] facts known
local_none facts known = (refl, record { launches = []; launched = none_more known; each = refl })

-- what was started for some jobs, and behind it what was started for more, was started for all of them
both_launched : (facts : Option (List ℕ)) (first more : List (Job × Form)) (launches behind : List Launch) → AreLaunched facts first launches → AreLaunched facts more behind
    → AreLaunched facts (first ++ more) (launches ++ behind)
both_launched facts [] more launches behind a b = subst (λ l. AreLaunched facts more (l ++ behind)) (sym a) b
both_launched facts (job ∷ jobs) more launches behind a b =
    (a.0, a.1 ++ behind, ap (λ l. l ++ behind) a.2 ∙ append_assoc a.0 a.1 behind, a.3, both_launched facts jobs more a.1 behind a.4 b)

-- some jobs were run, and then more
pub local_more : (facts facts_mid facts_after : Option (List ℕ)) (before mid after : Option (List Launch)) (first more : List (Job × Form))
    → LocalRan facts before first facts_mid mid → LocalRan facts_mid mid more facts_after after → LocalRan facts before (first ++ more) facts_after after
local_more facts facts_mid facts_after before mid after first more a b = (
  b.0 ∙ a.0,
  record {
    launches = a.1.launches ++ b.1.launches;
    launched = b.1.launched ∙ ap (λ t. with_more t b.1.launches) a.1.launched ∙ more_more before a.1.launches b.1.launches;
    each = both_launched facts first more a.1.launches b.1.launches a.1.each (subst (λ f. AreLaunched f more b.1.launches) a.0 b.1.each);
  },
)
