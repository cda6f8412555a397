-- However many hosts run at once, a run under fixed outcomes ends in the same: each host with the same facts and the same counts.
use Rattle.std.specs.Prelude.{◌≡◌, ◌<◌, ℕ, true, false, List, map}
use Rattle.pb_plan.specs.Plan.{PlanOf}
use Rattle.pb_host.specs.Host.{HostOf}
use Rattle.pb_recap.specs.Recap.{recap}
use Rattle.pb_state.specs.declared.event.Event.{Event}
use Rattle.pb_state.specs.Machine.{facts_at, first_state}
use Rattle.pb_state.specs.Run.{IsLegalUnder, state_after_under, IsFinished, IsRun}
use Rattle.pb_state.specs.State.{State}
use Rattle.pb_confluence.specs.Fixed.{Fixed, IsFixed}
use Rattle.pb_independence.specs.Independent.{is_independent, are_linear}
use Rattle.pb_confluence.specs.Together.{together}

-- a legal trail that begins with so many forks, under fixed outcomes, that is finished and wasn't stopped; commands may change the forks anywhere in it
pub record IsWhole (plan : PlanOf) (f : Fixed) (forks pool : ℕ) (trail : List Event) : Type 0 where
  pub some : 0 < forks
  pub legal : IsLegalUnder plan forks pool trail
  pub is_fixed : IsFixed plan f (first_state plan forks pool) trail
  pub finished : IsFinished plan (state_after_under plan forks pool trail)
  pub unstopped : (state_after_under plan forks pool trail).stopped ≡ false

-- it ends in what the hosts reach together: rows hold all of a host, its facts and its counts among it
abbrev pub EndsTogether : Type 0
EndsTogether =
    (plan : PlanOf) (f : Fixed) (forks pool : ℕ) (trail : List Event) → are_linear plan ≡ true → is_independent plan ≡ true → IsWhole plan f forks pool trail →
    (state_after_under plan forks pool trail).rows ≡ together plan f

-- ---- plans that differ in forks alone
abbrev pub with_forks : ℕ → PlanOf → PlanOf
with_forks n plan = record plan { forks = n }

-- a whole run of a plan, with the plan's own forks, that ends in this state
pub record IsEnd (plan : PlanOf) (f : Fixed) (pool : ℕ) (trail : List Event) (s : State) : Type 0 where
  pub some : 0 < plan.forks
  pub run : IsRun plan pool trail s
  pub is_fixed : IsFixed plan f (first_state plan plan.forks pool) trail
  pub finished : IsFinished plan s
  pub unstopped : s.stopped ≡ false

-- the recap of such a run, which is counted over its trail from scratch, is what the hosts count together
abbrev pub CountsTogether : Type 0
CountsTogether =
    (plan : PlanOf) (f : Fixed) (pool : ℕ) (trail : List Event) (s : State) → are_linear plan ≡ true → is_independent plan ≡ true → IsEnd plan f pool trail s →
    recap plan pool trail ≡ map (λ (row : HostOf). row.counts) (together plan f)

-- two ends with the same rows, so with the same facts, and with the same recap, which is counted over each trail from scratch
pub record AreAlike (one two : PlanOf) (pool other_pool : ℕ) (trail other : List Event) (s t : State) : Type 0 where
  pub rows : s.rows ≡ t.rows
  pub facts : (host : ℕ) → facts_at s host ≡ facts_at t host
  pub counts : recap one pool trail ≡ recap two other_pool other

-- so two whole runs of one plan end, whatever the forks of each, where all plays are linear and no host knows of another
abbrev pub EndAlike : Type 0
EndAlike =
    (plan : PlanOf) (f : Fixed) (m n pool other_pool : ℕ) (trail other : List Event) (s t : State) → are_linear plan ≡ true → is_independent plan ≡ true →
    IsEnd (with_forks m plan) f pool trail s → IsEnd (with_forks n plan) f other_pool other t →
    AreAlike (with_forks m plan) (with_forks n plan) pool other_pool trail other s t
