-- The workers of a pool: what each of them did, and what is said of a run by all of them.
use Rattle.std.specs.Prelude.{◌≡◌, ◌<◌, ◌≤◌, ℕ, List, [], ◌∷◌, ◌++◌, length, map, reverse, slice_get, vec_capacity, Option, Some}
use Rattle.std.specs.declared.thread.PromisedHandle.{PromisedHandle}
use Rattle.pb_forks.specs.declared.views.Entry.{Entry}
use Rattle.pb_forks.specs.declared.views.MainView.{MainView}
use Rattle.pb_forks.specs.declared.seats.Pool.{Pool}
use Rattle.pb_forks.specs.declared.seats.ForkSeat.{ForkSeat}
use Rattle.pb_forks.specs.declared.seats.MainSeat.{MainSeat}
use Rattle.pb_forks.specs.Logs.{offers_of, collects_of}
use Rattle.pb_forks.specs.Views.{idle_forks, upto, WasShut}
use Rattle.pb_forks.specs.Seats.{fork_view, main_view, last_seen, number, forks_of, IsForkOf, IsFreshOf, IsMainOf, IsSameFork, IsSameMain}
use Rattle.pb_outcome.specs.declared.job.Job.{Job}
use Rattle.pb_outcome.specs.declared.job.Report.{Report}
use Rattle.pb_outcome.specs.declared.outcome.Form.{Form}
use Rattle.pb_runner.specs.Served.{HasServed, job_run, report_of}
use Rattle.pb_plan.specs.Plan.{PlanOf}
use Rattle.pb_host.specs.declared.host.Counts.{Counts}
use Rattle.pb_state.specs.declared.event.Event.{Event}
use Rattle.pb_driver.specs.declared.driver.RunFault.{RunFault}
use Rattle.pb_driver.specs.declared.driver.RunFault.TheVariants.{Closed}
use Rattle.pb_driver.specs.declared.given.Given.{Given}
use Rattle.pb_driver.specs.declared.threads.Staff.{Staff}
use Rattle.pb_driver.specs.declared.workers.Back.{Back}
use Rattle.pb_driver.specs.declared.workers.Worker.{Worker}
use Rattle.pb_driver.specs.Cut.{IsCut}
use Rattle.pb_driver.specs.Failing.{failures_by}
use Rattle.pb_driver.specs.Driven.{IsBegunBy, IsRecapped, IsWhole, IsWorkersAnswer}
use Rattle.pb_driver.specs.Mails.{AreMails, AreWithin}

-- ---- a pool before its run, and at its end
-- no job is out
abbrev pub IsIdleMain : {N : Type 0} → Pool N → MainSeat → Type 0
IsIdleMain pool main = IsMainOf pool main × (idle_forks (main_view main) ≡ forks_of pool)

-- a main seat that did nothing yet, of k forks
abbrev pub IsUnused : ℕ → MainView → Type 0
IsUnused k m = (m.log ≡ []) × (idle_forks m ≡ k)

-- each fork was shut, and nothing else was done
abbrev pub AllShut : {N : Type 0} → Pool N → MainSeat → MainSeat → Type 0
AllShut pool old new = IsSameMain old new × WasShut (forks_of pool) (main_view old) (main_view new)

-- each of k forks is shut
abbrev pub AreShut : ℕ → MainView → Type 0
AreShut k m = (j : ℕ) → j < k → last_seen m j ≡ 4

module _ {N : Type 0} where
  abbrev pub seat_of : Worker N → ForkSeat
  seat_of w = w.seat

  abbrev pub runner_of : Worker N → N
  runner_of w = w.runner

  -- their seats are of this pool
  abbrev pub AreWorkersOf : Pool N → List (Worker N) → Type 0
  AreWorkersOf pool [] = Unit {0}
  AreWorkersOf pool (w ∷ ws) = IsForkOf pool w.seat × AreWorkersOf pool ws

  -- the worker that a thread was started for
  abbrev pub began : PromisedHandle (Worker N) (Back N) → Worker N
  began h = h.promise.before.value

  -- what a worker did: its seat is the same fork's still, its runner ran exactly the jobs that the seat took, in their order, and the seat answered each with what came of it
  abbrev pub IsWorkOf : (N → List (Job × Form) → N → Type 0) → Worker N → Worker N → Type 0
  IsWorkOf ran before after = IsSameFork before.seat after.seat × HasServed ran before.runner after.runner (fork_view before.seat) (fork_view after.seat)

  -- the same of each of them, in order
  abbrev pub AreWorks : (N → List (Job × Form) → N → Type 0) → List (Worker N) → List (Worker N) → Type 0
  AreWorks ran [] [] = Unit {0}
  AreWorks ran [] (w ∷ ws) = ⊥
  AreWorks ran (v ∷ vs) [] = ⊥
  AreWorks ran (v ∷ vs) (w ∷ ws) = IsWorkOf ran v w × AreWorks ran vs ws

  -- of all workers the last ones have threads, the last of all the first one; before them those that were tried and are back, and before these the others, which nothing happened to
  abbrev pub IsStarted : (N → List (Job × Form) → N → Type 0) → List (Worker N) → List (Worker N) → List (PromisedHandle (Worker N) (Back N)) → Type 0
  IsStarted ran all left handles =
      (rest : List (Worker N)) × (tried : List (Worker N)) × (back : List (Worker N)) × AreWorks ran tried back × (left ≡ rest ++ back) × (all ≡ (rest ++ tried) ++ reverse (map began handles))

  -- each fork of the pool has a worker, the last one first, whose seat did nothing yet
  abbrev pub AreFresh : Pool N → List (Worker N) → Type 0
  AreFresh pool [] = Unit {0}
  AreFresh pool (w ∷ ws) = IsFreshOf pool w.seat × AreFresh pool ws

  abbrev pub ArePaired : Pool N → List (Worker N) → Type 0
  ArePaired pool ws = AreFresh pool ws × (map (λ (w : Worker N). number w.seat) ws ≡ reverse (upto (forks_of pool)))

  -- nothing was done yet, and there is room for their threads
  abbrev pub IsReady : Pool N → Staff N → Type 0
  IsReady pool staff =
      IsMainOf pool staff.main × IsUnused (forks_of pool) (main_view staff.main) × ArePaired pool staff.workers.items × (staff.handles.items ≡ [])
      × (length staff.workers.items ≤ vec_capacity staff.handles)

  -- each worker did its work, and each fork is shut
  abbrev pub IsLeft : (N → List (Job × Form) → N → Type 0) → Pool N → List (Worker N) → MainSeat → List (Worker N) → Type 0
  IsLeft ran pool before main after =
      IsMainOf pool main × AreWorks ran before after × AreShut (forks_of pool) (main_view main) × AreWithin (forks_of pool) (main_view main).log

  -- ---- what each fork's runner ran, of all that went and came
  -- exactly the jobs that went to fork j, in their order; and what came from it is what came of them
  abbrev pub HasItsShare : (N → List (Job × Form) → N → Type 0) → N → N → List Entry → ℕ → Type 0
  HasItsShare ran old new log j = (runs : List (Job × Form)) × ran old runs new × (map job_run runs ≡ offers_of j log) × (map report_of runs ≡ collects_of j log)

  -- each runner, in the order of the forks
  abbrev pub HaveShares : (N → List (Job × Form) → N → Type 0) → List N → List N → List Entry → Type 0
  HaveShares ran olds news log = (j : ℕ) (old new : N) → slice_get olds j ≡ Some old → slice_get news j ≡ Some new → HasItsShare ran old new log j

-- a trail's jobs are spread over the runners: each job of its sends went to one fork, and each report came from one, in the trail's order, and after them the later reports; and each fork's runner
-- ran its share and nothing else
pub record IsSpread {N : Type 0} (ran : N → List (Job × Form) → N → Type 0) (olds news : List N) (plan : PlanOf) (trail : List Event) (later : List Report) : Type 0 where
  pub log : List Entry
  pub mails : AreMails plan (length olds) trail later log
  pub within : AreWithin (length olds) log
  pub many : length news ≡ length olds
  pub each : HaveShares ran olds news log

-- ---- a run by workers, as it is handed out
-- a whole run by the workers of a pool of k forks
pub record IsRunInPool (allows : Job → Form → Type 0) (plan : PlanOf) (k : ℕ) (commands : List Given) (trail : List Event) (counts : List Counts) (status : ℕ) (log : List Entry) (before after : Option (List ℕ)) : Type 0 where
  pub run : IsWhole (IsWorkersAnswer allows) plan k commands trail before after
  pub recapped : IsRecapped plan k trail counts status
  pub mails : AreMails plan k trail [] log

-- one that couldn't go on; nothing was done where a worker couldn't be started
pub record IsStoppedInPool (allows : Job → Form → Type 0) (plan : PlanOf) (k : ℕ) (commands : List Given) (fault : RunFault) (trail : List Event) (log : List Entry) (before after : Option (List ℕ)) (failures failures_after : ℕ) : Type 0 where
  pub begun : IsBegunBy (IsWorkersAnswer allows) plan k commands trail
  pub cut : IsCut plan k trail before after
  pub later : (later : List Report) × AreMails plan k trail later log
  pub failed : failures_after ≡ failures_by fault failures
  pub closed : fault ≡ Closed → (trail ≡ []) × (log ≡ []) × (after ≡ before)
