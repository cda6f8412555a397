-- What was offered, taken, answered and collected, as lists.
use Rattle.std.specs.Prelude.{◌≡◌, ◌==◌, ℕ, ◌+◌, ◌^◌, ◌<◌, ◌≤◌, cond, List, [], ◌∷◌, ◌++◌, map}
use Rattle.pb_outcome.specs.declared.job.Job.{Job}
use Rattle.pb_outcome.specs.declared.job.Report.{Report}
use Rattle.pb_outcome.specs.declared.outcome.Form.{Form}
use Rattle.pb_forks.specs.declared.views.Entry.{Entry}
use Rattle.pb_forks.specs.declared.views.Entry.TheVariants.{Offered, Collected}

-- the jobs that were offered to fork j, in order
abbrev pub offers_of : ℕ → List Entry → List Job
offers_of j [] = []
offers_of j (Offered f x ∷ es) = cond (f == j) (x ∷ offers_of j es) (offers_of j es)
offers_of j (Collected f r ∷ es) = offers_of j es

-- the reports that were collected from fork j, in order
abbrev pub collects_of : ℕ → List Entry → List Report
collects_of j [] = []
collects_of j (Offered f x ∷ es) = collects_of j es
collects_of j (Collected f r ∷ es) = cond (f == j) (r ∷ collects_of j es) (collects_of j es)

abbrev pub job_tickets : List Job → List ℕ
job_tickets xs = map (λ x. x.ticket.0) xs

abbrev pub report_tickets : List Report → List ℕ
report_tickets rs = map (λ r. r.ticket.0) rs

-- the ticket is above those of all offers
abbrev pub IsAbove : List Entry → ℕ → Type 0
IsAbove [] t = Unit {0}
IsAbove (Offered f x ∷ es) t = (x.ticket.0 < t) × IsAbove es t
IsAbove (Collected f r ∷ es) t = IsAbove es t

-- the tickets of all offers rise, from `low` on, and stay below 2 ^ 62
abbrev pub Rises : ℕ → List Entry → Type 0
Rises low [] = Unit {0}
Rises low (Offered f x ∷ es) = (low ≤ x.ticket.0) × (x.ticket.0 < 2 ^ 62) × Rises (x.ticket.0 + 1) es
Rises low (Collected f r ∷ es) = Rises low es

-- the report is for the job, and the runner's relation allows its outcome
abbrev pub Fits : (Job → Form → Type 0) → Job → Report → Type 0
Fits allows x r = (r.ticket ≡ x.ticket) × (r.host ≡ x.host) × (r.item ≡ x.item) × (r.attempt ≡ x.attempt) × allows x r.outcome

-- each job has its report, in order
abbrev pub Answered : (Job → Form → Type 0) → List Job → List Report → Type 0
Answered allows [] [] = Unit {0}
Answered allows [] (r ∷ rs) = ⊥
Answered allows (x ∷ xs) [] = ⊥
Answered allows (x ∷ xs) (r ∷ rs) = Fits allows x r × Answered allows xs rs

-- each report is for the job at its place; the last jobs may be without one
abbrev pub AnsweredSoFar : (Job → Form → Type 0) → List Job → List Report → Type 0
AnsweredSoFar allows xs rs = (done : List Job) × (left : List Job) × (xs ≡ done ++ left) × Answered allows done rs

module _ {A : Type 0} where
  abbrev pub IsBeginning : List A → List A → Type 0
  IsBeginning xs ys = (left : List A) × (ys ≡ xs ++ left)

  abbrev pub EndsIn : List A → A → Type 0
  EndsIn xs x = (before : List A) × (xs ≡ before ++ x ∷ [])

-- the report is for the last of the jobs
abbrev pub FitsLast : (Job → Form → Type 0) → List Job → Report → Type 0
FitsLast allows xs r = (before : List Job) × (x : Job) × (xs ≡ before ++ x ∷ []) × Fits allows x r
