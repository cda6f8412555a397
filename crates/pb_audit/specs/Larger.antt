-- A trail that is legal with some workers is legal with more: nothing but a number of forks that is asked for looks at how many there are. So the trail of a run by a few
-- workers passes an audit, which counts 256.
use Rattle.std.specs.Prelude.{◌≡◌, ℕ, ◌≤◌, List}
use Rattle.pb_plan.specs.Plan.{PlanOf}
use Rattle.pb_state.specs.declared.event.Event.{Event}
use Rattle.pb_state.specs.Run.{IsLegalUnder, state_after_under}
use Rattle.pb_state.specs.State.{State}

-- the same state, with this many workers
abbrev pub in_pool : ℕ → State → State
in_pool n s = record s { pool = n }

-- it is legal with n workers where it is with k, and leads to the same state but for their number
abbrev pub LargerPoolsAllow : Type 0
LargerPoolsAllow = (plan : PlanOf) (forks k n : ℕ) (trail : List Event) → k ≤ n → IsLegalUnder plan forks k trail
    → IsLegalUnder plan forks n trail × (state_after_under plan forks n trail ≡ in_pool n (state_after_under plan forks k trail))
