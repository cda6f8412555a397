-- Worked ends of one task on three hosts: where a run stops behind its first host, the second one is the first that has other counts.
use Rattle.std.specs.Prelude.{◌≡◌, [], ◌∷◌, codes, refl}
use Rattle.pb_host.specs.FactRows.{on_facts}
use Rattle.pb_host.specs.Host.{none_counted}
use Rattle.pb_plan.specs.Plan.{PlanOf, bare_play, bare_tree}
use Rattle.pb_state.specs.BatchRows.{start, threes, all_three, led_to}
use Rattle.pb_state.specs.BlockRows.{says}
use Rattle.pb_state.specs.declared.event.Event.TheVariants.{Open, Turn, Close}
use Rattle.pb_state.specs.State.{State}
use Rattle.pb_driver.specs.SameEnd.{counts_at, IsSameAt}

abbrev hello : PlanOf
hello = threes 2 (bare_play (codes "all") (bare_tree 0 1 0) (says ∷ []) all_three ∷ [])

abbrev whole : State
whole = led_to hello (Open ∷ start 0 ∷ start 1 ∷ start 2 ∷ Turn ∷ Close ∷ [])

abbrev in_another_order : State
in_another_order = led_to hello (Open ∷ start 2 ∷ start 1 ∷ start 0 ∷ Turn ∷ Close ∷ [])

abbrev cut : State
cut = led_to hello (Open ∷ start 0 ∷ [])

all_the_same : IsSameAt whole in_another_order 0 × IsSameAt whole in_another_order 1 × IsSameAt whole in_another_order 2
unfolding on_facts
all_the_same = (record { facts = refl; counts = refl }, record { facts = refl; counts = refl }, record { facts = refl; counts = refl })

same_at_the_first : IsSameAt whole cut 0
unfolding on_facts
same_at_the_first = record { facts = refl; counts = refl }

apart_at_the_second : (counts_at whole 1 ≡ record none_counted { ok = 1 }) × (counts_at cut 1 ≡ none_counted)
unfolding on_facts
apart_at_the_second = (refl, refl)
