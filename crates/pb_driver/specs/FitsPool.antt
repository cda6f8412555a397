-- How a pool's main seat stands beside the engine whose jobs it has.
use Rattle.std.specs.Prelude.{◌≡◌, ℕ, ◌+◌, ◌/◌, ◌≤◌, true, length, slice_index}
use Rattle.pb_outcome.specs.declared.job.Job.{Job}
use Rattle.pb_forks.specs.declared.seats.Pool.{Pool}
use Rattle.pb_forks.specs.declared.seats.MainSeat.{MainSeat}
use Rattle.pb_forks.specs.declared.views.MainView.{MainView}
use Rattle.pb_forks.specs.Logs.{IsAbove, EndsIn, offers_of}
use Rattle.pb_forks.specs.Seats.{main_view, forks_of, IsMainOf}
use Rattle.pb_forks.specs.Views.{idle_forks, jobs_out, is_out}
use Rattle.pb_engine.specs.Laws.{IsOut, outs, tasks}
use Rattle.pb_engine.specs.EngineOf.{EngineOf}

-- the job that a fork has is the last one that was offered to it, and is out
abbrev pub HasItsJob : MainView → EngineOf → ℕ → Type 0
HasItsJob m engine j = (x : Job) × EndsIn (offers_of j m.log) x × (slice_index m.seen j / 4 ≡ x.ticket.0) × IsOut engine.plan engine.state x

-- a main seat of k forks fits an engine: the jobs that its forks have are the engine's jobs that are out, and no two forks have the same
pub record FitsView (k : ℕ) (m : MainView) (engine : EngineOf) : Type 0 where
  pub size : engine.pool ≡ k
  pub forks : engine.plan.forks ≤ k
  pub wide : length m.seen ≡ k
  pub room : idle_forks m + jobs_out m ≡ k
  pub count : jobs_out m ≡ outs (tasks engine.state)
  pub above : IsAbove m.log engine.state.sends
  pub each : (j : ℕ) → is_out (slice_index m.seen j) ≡ true → HasItsJob m engine j
  pub apart : (i j : ℕ) → is_out (slice_index m.seen i) ≡ true → is_out (slice_index m.seen j) ≡ true → slice_index m.seen i / 4 ≡ slice_index m.seen j / 4 → i ≡ j

-- the same of the main seat of this pool, with as many forks as the pool has
abbrev pub FitsPool : {A : Type 0} → Pool A → MainSeat → EngineOf → Type 0
FitsPool pool main engine = IsMainOf pool main × FitsView (forks_of pool) (main_view main) engine
