-- What a run in a pool answers, as it is handed out.
use Rattle.std.proofs.Common.{◌≡◌, ℕ, List, [], length, map, refl, subst, sym, ap, ◌∙◌}
use Rattle.std.specs.Prelude.{Option, Some, Result, Ok, Err, IfOk, IfErr, OnOk}
use Rattle.pb_forks.specs.declared.seats.MainSeat.{MainSeat}
use Rattle.pb_forks.specs.declared.seats.Pool.{Pool}
use Rattle.pb_forks.specs.declared.views.Entry.{Entry}
use Rattle.pb_forks.specs.Seats.{main_view, forks_of}
use Rattle.pb_outcome.specs.declared.job.Report.{Report}
use Rattle.pb_outcome.specs.declared.job.Job.{Job}
use Rattle.pb_outcome.specs.declared.outcome.Form.{Form}
use Rattle.pb_plan.specs.Plan.{PlanOf}
use Rattle.pb_host.specs.declared.host.Counts.{Counts}
use Rattle.pb_state.specs.declared.event.Event.{Event}
use Rattle.pb_driver.specs.declared.driver.RunFault.{RunFault}
use Rattle.pb_driver.specs.declared.driver.RunFault.TheVariants.{Closed}
use Rattle.pb_driver.specs.declared.given.Given.{Given}
use Rattle.pb_driver.specs.Driven.{IsWorkersAnswer}
use Rattle.pb_driver.specs.Mails.{AreMails, AreWithin, letter_at}
use Rattle.pb_driver.specs.Workers.{AllShut, AreShut, HasItsShare, HaveShares, IsRunInPool, IsSpread, IsStoppedInPool}
use Rattle.pb_driver.proofs.Driving.{empty_begun}
use Rattle.pb_driver.proofs.Cutting.{cut_none}

-- what follows where it is Ok, and of what is there where it isn't
pub ok_then : {X Y : Type 0} (r : Result X Y) (P Q : Type 0) → (P → Q) → OnOk r P → OnOk r Q
ok_then (Ok x) P Q f p = f p
ok_then (Err y) P Q f p = tt

pub err_then : {X Y : Type 0} (r : Result X Y) (P Q : Y → Type 0) → ((y : Y) → P y → Q y) → IfErr r P → IfErr r Q
err_then (Ok x) P Q f p = tt
err_then (Err y) P Q f p = f y p

-- the same of an equal result
pub ok_as : {X Y : Type 0} (r other : Result X Y) (P Q : X → Type 0) → r ≡ other → ((x : X) → P x → Q x) → IfOk other P → IfOk r Q
ok_as r (Ok x) P Q is f p = subst (λ s. IfOk s Q) (sym is) (f x p)
ok_as r (Err y) P Q is f p = subst (λ s. IfOk s Q) (sym is) tt

pub err_as : {X Y : Type 0} (r other : Result X Y) (P Q : Y → Type 0) → r ≡ other → ((y : Y) → P y → Q y) → IfErr other P → IfErr r Q
err_as r (Ok x) P Q is f p = subst (λ s. IfErr s Q) (sym is) tt
err_as r (Err y) P Q is f p = subst (λ s. IfErr s Q) (sym is) (f y p)

-- the pool has as many forks as there are runners
pub run_at : (allows : Job → Form → Type 0) (plan : PlanOf) (k n : ℕ) (commands : List Given) (trail : List Event) (counts : List Counts) (status : ℕ) (log : List Entry) (before after : Option (List ℕ)) → k ≡ n
    → IsRunInPool allows plan k commands trail counts status log before after → IsRunInPool allows plan n commands trail counts status log before after
run_at allows plan k n commands trail counts status log before after same run = subst (λ (m : ℕ). IsRunInPool allows plan m commands trail counts status log before after) same run

pub stopped_at : (allows : Job → Form → Type 0) (plan : PlanOf) (k n : ℕ) (commands : List Given) (fault : RunFault) (trail : List Event) (log : List Entry) (before after : Option (List ℕ)) (failures failures_after : ℕ) → k ≡ n
    → IsStoppedInPool allows plan k commands fault trail log before after failures failures_after → IsStoppedInPool allows plan n commands fault trail log before after failures failures_after
stopped_at allows plan k n commands fault trail log before after failures failures_after same stopped =
    subst (λ (m : ℕ). IsStoppedInPool allows plan m commands fault trail log before after failures failures_after) same stopped

-- what the writer is at the end is what came back
pub ok_ended : {X Y A : Type 0} (r other : Result X Y) (P Q : X → A → Type 0) (a b : A) → r ≡ other → a ≡ b → ((x : X) → P x a → Q x a) → IfOk other (λ x. P x a) → IfOk r (λ x. Q x b)
ok_ended {X} {Y} {A} r other P Q a b is same f p = subst (λ (c : A). IfOk r (λ x. Q x c)) same (ok_as r other (λ x. P x a) (λ x. Q x a) is f p)

pub err_ended : {X Y A : Type 0} (r other : Result X Y) (P Q : Y → A → Type 0) (a b : A) → r ≡ other → a ≡ b → ((y : Y) → P y a → Q y a) → IfErr other (λ y. P y a) → IfErr r (λ y. Q y b)
err_ended {X} {Y} {A} r other P Q a b is same f p = subst (λ (c : A). IfErr r (λ y. Q y c)) same (err_as r other (λ y. P y a) (λ y. Q y a) is f p)

pub quiet_ended : {X Y A : Type 0} (r other : Result X Y) (Q : A → Type 0) (a b : A) → r ≡ other → a ≡ b → OnOk other (Q a) → OnOk r (Q b)
quiet_ended {X} {Y} {A} r other Q a b is same p = subst (λ (c : A). OnOk r (Q c)) same (subst (λ s. OnOk s (Q a)) (sym is) p)

-- no worker was started
pub closed_stopped : (allows : Job → Form → Type 0) (plan : PlanOf) (k : ℕ) (commands : List Given) (log : List Entry) (t : Option (List ℕ)) (failures : ℕ) → log ≡ [] → IsStoppedInPool allows plan k commands Closed [] log t t failures failures
closed_stopped allows plan k commands log t failures none =
    record {
      begun = empty_begun (IsWorkersAnswer allows) plan k commands;
      cut = cut_none plan k t;
      later = ([], ap (map letter_at) none);
      failed = refl;
      closed = λ e. (refl, none, refl);
    }

-- ---- the pool at the beginning and at the end
pub shut_unused : {N : Type 0} (pool : Pool N) (old new : MainSeat) → AllShut pool old new → (main_view old).log ≡ [] → AreShut (forks_of pool) (main_view new) × ((main_view new).log ≡ [])
shut_unused pool old new shut none = (λ j lt. shut.1.4 j lt, shut.1.0 ∙ none)

pub within_none : (k : ℕ) (log : List Entry) → log ≡ [] → AreWithin k log
within_none k log none = subst (AreWithin k) (sym none) refl

some_same : {X : Type 0} (x y : X) → Some x ≡ Some y → x ≡ y
some_same x y e = cc

-- nothing went to the runners
pub spread_none : {N : Type 0} (ran : N → List (Job × Form) → N → Type 0) (olds : List N) (plan : PlanOf) → ((r : N) → ran r [] r) → IsSpread ran olds olds plan [] []
spread_none {N} ran olds plan none = record {
  log = [];
  mails = refl;
  within = refl;
  many = refl;
  each = λ j old new e f. subst (λ (r : N). HasItsShare ran old r [] j) (some_same old new (sym e ∙ f)) ([], none old, refl, refl);
}

-- what went and came is spread over the runners
pub spread_by : {N : Type 0} (ran : N → List (Job × Form) → N → Type 0) (olds news : List N) (plan : PlanOf) (k : ℕ) (trail : List Event) (later : List Report) (log : List Entry) → k ≡ length olds → AreMails plan k trail later log → AreWithin k log → length news ≡ k
    → HaveShares ran olds news log → IsSpread ran olds news plan trail later
spread_by ran olds news plan k trail later log same mails within many shares = record {
  log = log;
  mails = subst (λ (n : ℕ). AreMails plan n trail later log) same mails;
  within = subst (λ (n : ℕ). AreWithin n log) same within;
  many = many ∙ same;
  each = shares;
}

pub closed_later : {N : Type 0} (ran : N → List (Job × Form) → N → Type 0) (olds news : List N) (plan : PlanOf) (k : ℕ) (log : List Entry) → k ≡ length olds → log ≡ [] → length news ≡ k → HaveShares ran olds news log → IsSpread ran olds news plan [] []
closed_later ran olds news plan k log same none many shares = spread_by ran olds news plan k [] [] log same (ap (map letter_at) none) (within_none k log none) many shares
