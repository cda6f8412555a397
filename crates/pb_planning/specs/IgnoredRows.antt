-- Worked warnings of ignored keys.
use Rattle.std.specs.Prelude.{◌≡◌, ℕ, true, false, List, [], ◌∷◌, Ok, codes, refl}
use Rattle.pb_play_reading.specs.Strategies.{strategy_of}
use Rattle.pb_planning.specs.Ignored.{ignored_lines, name_of}
use Rattle.pb_strategies.specs.declared.strategy.Strategy.{Strategy}
use Rattle.pb_strategies.specs.declared.strategy.Strategy.TheVariants.{Linear, Free, HostPinned}

-- a play is warned by the name by which it names its strategy
named_as_written : (path : List ℕ) (strategy : Strategy) → strategy_of path (name_of strategy) ≡ Ok strategy
named_as_written path Linear = refl
named_as_written path Free = refl
named_as_written path HostPinned = refl

all_are_heeded : ignored_lines Linear (record { any_errors_fatal = true; max_fail_percentage = true; run_once = true }) ≡ []
all_are_heeded = refl

one_is_ignored : ignored_lines HostPinned (record { any_errors_fatal = false; max_fail_percentage = false; run_once = true }) ≡ codes "warning: run_once is ignored under host_pinned" ∷ []
one_is_ignored = refl

all_are_ignored : ignored_lines Free (record { any_errors_fatal = true; max_fail_percentage = true; run_once = true })
    ≡ codes "warning: any_errors_fatal is ignored under free" ∷ codes "warning: max_fail_percentage is ignored under free" ∷ codes "warning: run_once is ignored under free" ∷ []
all_are_ignored = refl
