-- What whoever runs a run's jobs knows of its engine.
use Rattle.std.specs.Prelude.{◌≡◌, ◌↔◌, ◌+◌, ℕ, Some, false, List, [], ◌∷◌, ◌++◌, length, map, refl}
use Rattle.std.proofs.Common.{ap, sym, subst, ◌∙◌, append_assoc}
use Rattle.std.proofs.lemmas.List.{append-nil, map-append}
use Rattle.pb_ids.specs.declared.numbers.HostNo.{HostNo}
use Rattle.pb_ids.specs.declared.numbers.Ticket.{Ticket}
use Rattle.pb_outcome.specs.declared.job.Job.{Job}
use Rattle.pb_outcome.specs.declared.outcome.Form.{Form}
use Rattle.pb_forks.specs.Views.{idle_forks, jobs_out}
use Rattle.pb_forks.specs.declared.seats.MainSeat.{MainSeat}
use Rattle.pb_forks.specs.declared.views.MainView.{MainView}
use Rattle.pb_forks.specs.Seats.{main_view, IsSameMain}
use Rattle.pb_state.specs.declared.event.Event.{Event}
use Rattle.pb_state.specs.declared.event.Event.TheVariants.{Send}
use Rattle.pb_state.specs.Jobs.{job_of}
use Rattle.pb_state.specs.Run.{IsFinished}
use Rattle.pb_engine.specs.EngineOf.{EngineOf, Takes, IsSound}
use Rattle.pb_engine.specs.Laws.{has_mail}
use Rattle.pb_driver.specs.Mails.{Mail, Goes, Comes, AreWithin, answers_among, letter_at, letter_of}

-- events without mail
abbrev pub AreSilent : List Event → Type 0
AreSilent [] = Unit {0}
AreSilent (e ∷ es) = (has_mail e ≡ false) × AreSilent es

-- what was known of an engine, which took no event with mail since
pub record FitsSince (fits : EngineOf → Type 0) (engine : EngineOf) : Type 0 where
  pub old : EngineOf
  pub events : List Event
  pub was : fits old
  pub sound : IsSound old
  pub silent : AreSilent events
  pub plan : engine.plan ≡ old.plan
  pub pool : engine.pool ≡ old.pool
  pub trail : engine.trail ≡ old.trail ++ events
  pub run : IsSound engine

-- it is known of an engine whose run is finished
pub record HasFitEnd (fits : EngineOf → Type 0) : Type 0 where
  pub engine : EngineOf
  pub since : FitsSince fits engine
  pub finished : IsFinished engine.plan engine.state

-- the engine sent this job
pub record HasSent (fits : EngineOf → Type 0) (engine : EngineOf) (job : Job) : Type 0 where
  pub old : EngineOf
  pub host : HostNo
  pub item : ℕ
  pub attempt : ℕ
  pub ticket : Ticket
  pub since : FitsSince fits old
  pub takes : Takes old engine (Send host item attempt ticket)
  pub is : job_of old.plan old.state host ticket ≡ Some job

-- the answers among two lists of mails are those of the first, and then those of the second
pub among_both : (first more : List Mail) → answers_among (first ++ more) ≡ answers_among first ++ answers_among more
among_both [] more = refl
among_both (Goes job ∷ mails) more = among_both mails more
among_both (Comes job outcome ∷ mails) more = ap (λ l. (job, outcome) ∷ l) (among_both mails more)

-- what a runner gives stays the same
abbrev pub GivesSame : {R : Type 0} → (R → Job → Form → Type 0) → R → R → Type 0
GivesSame {R} gives old new = (job : Job) (outcome : Form) → gives new job outcome ↔ gives old job outcome

-- a runner in this thread ran exactly the jobs that came back
abbrev pub HasRunMail : {R : Type 0} → (R → Job → Form → Type 0) → (R → List (Job × Form) → R → Type 0) → R → List Mail → R → Type 0
HasRunMail {R} gives ran old mails new = ran old (answers_among mails) new × GivesSame gives old new

-- without mails a runner has run nothing
pub run_none : {R : Type 0} (gives : R → Job → Form → Type 0) (ran : R → List (Job × Form) → R → Type 0) (runner : R) → ran runner [] runner → HasRunMail gives ran runner [] runner
run_none {R} gives ran runner none = (none, λ job outcome. (λ g. g, λ g. g))

-- what was run for some mails, and then for more, was run for all of them
pub run_more : {R : Type 0} (gives : R → Job → Form → Type 0) (ran : R → List (Job × Form) → R → Type 0)
    → ((old mid new : R) (first more : List (Job × Form)) → ran old first mid → ran mid more new → ran old (first ++ more) new)
    → (old mid new : R) (first more : List Mail) → HasRunMail gives ran old first mid → HasRunMail gives ran mid more new → HasRunMail gives ran old (first ++ more) new
run_more {R} gives ran law old mid new first more a b = (
  subst (λ jobs. ran old jobs new) (sym (among_both first more)) (law old mid new (answers_among first) (answers_among more) a.0 b.0),
  λ job outcome. (λ g. (a.1 job outcome).0 ((b.1 job outcome).0 g), λ g. (b.1 job outcome).1 ((a.1 job outcome).1 g)),
)

-- what a main seat has seen of each fork, and where its mail went
abbrev pub StaysWithin : MainView → MainView → Type 0
StaysWithin m n = (length n.seen ≡ length m.seen) × (AreWithin (length m.seen) m.log → AreWithin (length m.seen) n.log)

-- the main seat of a pool offered and collected exactly this, and shut no fork
abbrev pub HasPosted : MainSeat → List Mail → MainSeat → Type 0
HasPosted old mails new =
    IsSameMain old new × (idle_forks (main_view new) + jobs_out (main_view new) ≡ idle_forks (main_view old) + jobs_out (main_view old))
    × (map letter_at (main_view new).log ≡ map letter_at (main_view old).log ++ map letter_of mails) × StaysWithin (main_view old) (main_view new)

-- without mails a main seat has offered and collected nothing
pub posted_none : (main : MainSeat) → HasPosted main [] main
posted_none main = (refl, refl, sym (append-nil (map letter_at (main_view main).log)), (refl, λ within. within))

pub stays_more : (m n o : MainView) → StaysWithin m n → StaysWithin n o → StaysWithin m o
stays_more m n o a b = (b.0 ∙ a.0, λ within. subst (λ (k : ℕ). AreWithin k o.log) a.0 (b.1 (subst (λ (k : ℕ). AreWithin k n.log) (sym a.0) (a.1 within))))

-- what was posted for some mails, and then for more, was posted for all of them
pub posted_more : (old mid new : MainSeat) (first more : List Mail) → HasPosted old first mid → HasPosted mid more new → HasPosted old (first ++ more) new
posted_more old mid new first more a b = (
  b.0 ∙ a.0,
  b.1 ∙ a.1,
  b.2 ∙ ap (λ l. l ++ map letter_of more) a.2 ∙ append_assoc (map letter_at (main_view old).log) (map letter_of first) (map letter_of more)
      ∙ ap (λ l. map letter_at (main_view old).log ++ l) (sym (map-append letter_of first more)),
  stays_more (main_view old) (main_view mid) (main_view new) a.3 b.3,
)
