-- What a runner in this thread ran.
use Rattle.std.proofs.Common.{◌≡◌, ℕ, List, [], ◌∷◌, ◌++◌, refl, sym, ◌∙◌, ap, subst, inl, inr}
use Rattle.std.specs.Prelude.{Option, Some, None}
use Rattle.std.specs.Option.{option_map_or}
use Rattle.pb_outcome.specs.declared.job.Job.{Job}
use Rattle.pb_outcome.specs.declared.job.Report.{Report}
use Rattle.pb_outcome.specs.declared.outcome.Form.{Form}
use Rattle.pb_plan.specs.Plan.{PlanOf}
use Rattle.pb_state.specs.declared.event.Event.{Event}
use Rattle.pb_state.specs.declared.event.Event.TheVariants.{Open, Start, Send, Report as Reported, Turn, Close, Stop, Forks}
use Rattle.pb_state.specs.State.{State}
use Rattle.pb_state.specs.Machine.{after, first_state}
use Rattle.pb_state.specs.Jobs.{job_of}
use Rattle.pb_driver.specs.declared.driver.RunFault.{RunFault}
use Rattle.pb_driver.specs.declared.given.Given.{Given}
use Rattle.pb_driver.specs.Crews.{HasRunMail, GivesSame, among_both}
use Rattle.pb_driver.specs.Driven.{IsAnswer, IsWhole, IsWholeRun, IsBegun, IsBegunBy}
use Rattle.pb_driver.specs.Mails.{Goes, Comes, mail_in, mails_from, mails_of, answers_among, HasGoneTo}
use Rattle.pb_driver.specs.Ran.{answer_in, answers_from, IsRanTo}

-- the jobs that come back are those that the reports answer
sent_among : (found : Option Job) → answers_among (option_map_or (λ (job : Job). Goes job ∷ []) found []) ≡ []
sent_among None = refl
sent_among (Some job) = refl

came_among : (outcome : Form) (found : Option Job) → answers_among (option_map_or (λ (job : Job). Comes job outcome ∷ []) found []) ≡ option_map_or (λ (job : Job). (job, outcome) ∷ []) found []
came_among outcome None = refl
came_among outcome (Some job) = refl

in_among : (plan : PlanOf) (s : State) (e : Event) → answers_among (mail_in plan s e) ≡ answer_in plan s e
in_among plan s Open = refl
in_among plan s (Start h) = refl
in_among plan s (Send h item attempt ticket) = sent_among (job_of plan s h ticket)
in_among plan s (Reported r) = came_among r.outcome (job_of plan s r.host r.ticket)
in_among plan s Turn = refl
in_among plan s Close = refl
in_among plan s Stop = refl
in_among plan s (Forks n) = refl

from_among : (plan : PlanOf) (s : State) (es : List Event) → answers_among (mails_from plan s es) ≡ answers_from plan s es
from_among plan s [] = refl
from_among plan s (e ∷ es) =
    among_both (mail_in plan s e) (mails_from plan (after plan s e) es) ∙ ap (λ l. l ++ answers_among (mails_from plan (after plan s e) es)) (in_among plan s e)
    ∙ ap (λ l. answer_in plan s e ++ l) (from_among plan (after plan s e) es)

-- a report of this runner, whichever moment of it is asked
pub answer_first : {R : Type 0} (allows : Job → Form → Type 0) (gives : R → Job → Form → Type 0) (first runner : R) (plan : PlanOf) (s : State) (r : Report) → GivesSame gives first runner
    → IsAnswer allows (gives runner) plan s r → IsAnswer allows (gives first) plan s r
answer_first {R} allows gives first runner plan s r same answer =
    record { job = answer.job; is_out = answer.is_out; oldest = answer.oldest; allowed = answer.allowed; given = (same answer.job r.outcome).0 answer.given }

pub gives_since : {R : Type 0} (gives : R → Job → Form → Type 0) (first old new : R) → GivesSame gives first old → GivesSame gives old new → GivesSame gives first new
gives_since {R} gives first old new a b = λ job outcome. (λ g. (a job outcome).0 ((b job outcome).0 g), λ g. (b job outcome).1 ((a job outcome).1 g))

pub gives_self : {R : Type 0} (gives : R → Job → Form → Type 0) (first runner : R) → first ≡ runner → GivesSame gives first runner
gives_self {R} gives first runner is = λ job outcome. (λ g. subst (λ (r : R). gives r job outcome) (sym is) g, λ g. subst (λ (r : R). gives r job outcome) is g)

-- the whole run, and one that couldn't go on
pub whole_run : {R : Type 0} (allows : Job → Form → Type 0) (gives : R → Job → Form → Type 0) (ran : R → List (Job × Form) → R → Type 0) (plan : PlanOf) (pool : ℕ) (commands : List Given) (trail : List Event) (t u : Option (List ℕ)) (first old new : R)
    → first ≡ old → IsWhole (IsAnswer allows (gives first)) plan pool commands trail t u → HasRunMail gives ran old (mails_of plan pool trail) new
    → IsWholeRun allows (gives old) (λ jobs. ran old jobs new) plan pool commands trail t u
whole_run {R} allows gives ran plan pool commands trail t u first old new is whole gone =
    let run = subst (λ (r : R). IsWhole (IsAnswer allows (gives r)) plan pool commands trail t u) is whole in
    record {
      legal = run.legal;
      eager = run.eager;
      once = run.once;
      answered = run.answered;
      obeyed = run.obeyed;
      finished = run.finished;
      over = run.over;
      ran = subst (λ jobs. ran old jobs new) (from_among plan (first_state plan plan.forks pool) trail) gone.0;
      written = run.written;
    }

pub begun_run : {R : Type 0} (allows : Job → Form → Type 0) (gives : R → Job → Form → Type 0) (plan : PlanOf) (pool : ℕ) (commands : List Given) (trail : List Event) (first old : R)
    → first ≡ old → IsBegunBy (IsAnswer allows (gives first)) plan pool commands trail → IsBegun allows (gives old) plan pool commands trail
begun_run {R} allows gives plan pool commands trail first old is begun = subst (λ (r : R). IsBegunBy (IsAnswer allows (gives r)) plan pool commands trail) is begun

pub ran_to : {R : Type 0} (allows : Job → Form → Type 0) (gives : R → Job → Form → Type 0) (ran : R → List (Job × Form) → R → Type 0) (plan : PlanOf) (pool : ℕ) (trail : List Event) (fault : RunFault) (first old new : R)
    → HasGoneTo (IsAnswer allows (gives first)) (λ mails. HasRunMail gives ran old mails new) plan pool trail fault → IsRanTo (λ jobs. ran old jobs new) plan pool trail fault
ran_to {R} allows gives ran plan pool trail fault first old new (inl gone) = inl (subst (λ jobs. ran old jobs new) (from_among plan (first_state plan plan.forks pool) trail) gone.0)
ran_to {R} allows gives ran plan pool trail fault first old new (inr (memory, lost)) =
    inr (
      memory,
      (
        lost.1,
        lost.0.outcome,
        (lost.0.host, lost.0.ticket, lost.3.oldest, lost.2),
        subst (λ jobs. ran old jobs new)
            (among_both (mails_of plan pool trail) (Comes lost.1 lost.0.outcome ∷ []) ∙ ap (λ l. l ++ (lost.1, lost.0.outcome) ∷ []) (from_among plan (first_state plan plan.forks pool) trail)) lost.4.0,
      ),
    )
