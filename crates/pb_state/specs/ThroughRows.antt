-- Worked examples: each is proved by computing both sides.
use Rattle.std.specs.Prelude.{◌≡◌, ℕ, true, false, [], ◌∷◌, refl}
use Rattle.pb_plan.specs.Plan.{PlanOf}
use Rattle.pb_host.specs.Host.{first_row}
use Rattle.pb_tree.specs.declared.tree.Status.TheVariants as stays
use Rattle.pb_state.specs.Machine.{first_state}
use Rattle.pb_state.specs.Through.{first_unbegun, is_done, is_selected}

-- an active host that waits for no batch is done; one that waits isn't, and neither is one that failed, was halted, or is out of reach
active_is_done : is_done (first_row 3) ≡ true
active_is_done = refl

waiting_is_not : is_done (record (first_row 3) { awaits_batch = true }) ≡ false
waiting_is_not = refl

failed_is_not : is_done (record (first_row 3) { status = stays.Failed }) ≡ false
failed_is_not = refl

halted_is_not : is_done (record (first_row 3) { status = stays.Halted }) ≡ false
halted_is_not = refl

gone_is_not : is_done (record (first_row 3) { status = stays.Gone }) ≡ false
gone_is_not = refl

-- at first no play has begun; while a batch is open, or one is left of a play, that play has
none_begun : (plan : PlanOf) (forks pool : ℕ) → first_unbegun (first_state plan forks pool) ≡ 0
none_begun plan forks pool = refl

one_is_open : (plan : PlanOf) (forks pool : ℕ) → first_unbegun (record (first_state plan forks pool) { is_open = true; play = 2 }) ≡ 3
one_is_open plan forks pool = refl

one_goes_on : (plan : PlanOf) (forks pool : ℕ) → first_unbegun (record (first_state plan forks pool) { sizes_left = 5 ∷ []; play = 2 }) ≡ 3
one_goes_on plan forks pool = refl

-- of no plays none has a host for its own
none_selects : (host : ℕ) → is_selected host [] ≡ false
none_selects host = refl
