-- A worker's jobs, one after another.
use Rattle.std.proofs.Common.{◌≡◌, List, [], ◌∷◌, ◌++◌, map, sym, ◌∙◌, ap, append_assoc}
use Rattle.std.proofs.lemmas.List.{append-nil, map-append}
use Rattle.pb_outcome.specs.declared.job.Job.{Job}
use Rattle.pb_outcome.specs.declared.job.Report.{Report}
use Rattle.pb_outcome.specs.declared.outcome.Form.{Form}
use Rattle.pb_forks.specs.declared.views.ForkView.{ForkView}
use Rattle.pb_forks.specs.Views.{TookLast, SawShut, answered_one}
use Rattle.pb_runner.specs.Served.{HasServed, job_run, report_of}

-- jobs that were run, and then more: the law of a runner
abbrev RanMore : {R : Type 0} → (R → List (Job × Form) → R → Type 0) → Type 0
RanMore {R} has_run = (old mid new : R) (first more : List (Job × Form)) → has_run old first mid → has_run mid more new → has_run old (first ++ more) new

-- nothing was taken
pub served_none : {R : Type 0} (has_run : R → List (Job × Form) → R → Type 0) (runner : R) (p : ForkView) → has_run runner [] runner → HasServed has_run runner runner p p
served_none {R} has_run runner p none = ([], none, sym (append-nil p.takes), sym (append-nil p.answers))

-- one job more
put_behind : {A B : Type 0} (f : A → B) (xs : List B) (ys : List A) (y : A) → (xs ++ map f ys) ++ f y ∷ [] ≡ xs ++ map f (ys ++ y ∷ [])
put_behind f xs ys y = append_assoc xs (map f ys) (f y ∷ []) ∙ ap (λ l. xs ++ l) (sym (map-append f ys (y ∷ [])))

pub served_one : {R : Type 0} (has_run : R → List (Job × Form) → R → Type 0) (before mid after : R) (p q took new : ForkView) (x : Job) (outcome : Form) (r : Report) → RanMore has_run
    → HasServed has_run before mid p q → TookLast q x took → has_run mid ((x, outcome) ∷ []) after → r ≡ report_of (x, outcome) → new ≡ answered_one r took
    → HasServed has_run before after p new
served_one {R} has_run before mid after p q took new x outcome r more served last ran is answered =
    let runs = served.0 in
    let between = last.0 in
    let stays = last.1 in
    let takes : new.takes ≡ q.takes ++ x ∷ [] = ap (λ (v : ForkView). v.takes) (answered ∙ ap (λ (v : ForkView). answered_one r v) last.3) ∙ ap (λ l. l ++ x ∷ []) stays.0 in
    let answers : new.answers ≡ q.answers ++ r ∷ [] = ap (λ (v : ForkView). v.answers) (answered ∙ ap (λ (v : ForkView). answered_one r v) last.3) ∙ ap (λ l. l ++ r ∷ []) stays.1 in (
      runs ++ (x, outcome) ∷ [],
      more before mid after runs ((x, outcome) ∷ []) served.1 ran,
      takes ∙ ap (λ l. l ++ x ∷ []) served.2 ∙ put_behind job_run p.takes runs (x, outcome),
      answers ∙ ap (λ l. q.answers ++ l ∷ []) is ∙ ap (λ l. l ++ report_of (x, outcome) ∷ []) served.3 ∙ put_behind report_of p.answers runs (x, outcome),
    )

-- the fork is shut
pub served_shut : {R : Type 0} (has_run : R → List (Job × Form) → R → Type 0) (before after : R) (p q new : ForkView) → HasServed has_run before after p q → SawShut q new → HasServed has_run before after p new
served_shut {R} has_run before after p q new served saw = (
  served.0,
  served.1,
  ap (λ (v : ForkView). v.takes) saw.2 ∙ saw.1.0 ∙ served.2,
  ap (λ (v : ForkView). v.answers) saw.2 ∙ saw.1.1 ∙ served.3,
)
