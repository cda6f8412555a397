-- Worked examples: each is proved by computing both sides.
use Rattle.std.specs.Prelude.{◌≡◌, ℕ, pos, [], ◌∷◌, ◌++◌, Some, None, codes, refl}
use Rattle.std.specs.List.Sorted.{IsStrictlySortedBy}
use Rattle.pb_value.specs.Datum.{int, text, dict, members_of, value_at}
use Rattle.pb_layers.specs.Scope.{Map}
use Rattle.pb_outcome.specs.Decided.{debug_result}
use Rattle.pb_outcome.specs.Results.{facts_result}
use Rattle.pb_outcome.specs.declared.item.Item.{Item}
use Rattle.pb_outcome.specs.declared.item.Planned.TheVariants.{Decided}
use Rattle.pb_facts.specs.declared.facts.Gives.TheVariants.{Nothing, Sets, Gathers}
use Rattle.pb_facts.specs.Facts.{no_facts, gathered_layer, merged, with_set, with_registered, given_in, learnt, known_of}
use Rattle.pb_facts.specs.Book.{changed_at, shared}
use Rattle.pb_facts.specs.Update.{entries_in, registered_entries, LearntUnder, LearntAndGathered}

abbrev x : ℕ → Map
x n = (codes "x", int (pos n)) ∷ []

-- an item that gives these facts
abbrev gives : Map → Item
gives facts = record { value = None; delegate = None; tried = 0; step = Decided (facts_result (dict (members_of facts))) }

-- nothing was gathered: there is no `ansible_facts`
before_setup : gathered_layer no_facts.gathered ≡ []
before_setup = refl

-- a gathering that gave nothing
no_facts_given : gathered_layer (merged [] no_facts).gathered ≡ (codes "ansible_facts", dict (members_of [])) ∷ []
no_facts_given = refl

-- each fact under its own name, and all of them in one
under_both : gathered_layer (merged ((codes "os", text (codes "Linux")) ∷ []) no_facts).gathered
    ≡ (codes "ansible_facts", dict (members_of ((codes "os", text (codes "Linux")) ∷ []))) ∷ (codes "os", text (codes "Linux")) ∷ []
under_both = refl

-- a fact of that name is hidden, and stands in it
fact_hidden : gathered_layer (merged ((codes "ansible_facts", int (pos 1)) ∷ []) no_facts).gathered
    ≡ (codes "ansible_facts", dict (members_of ((codes "ansible_facts", int (pos 1)) ∷ []))) ∷ []
fact_hidden = refl

-- facts that were gathered again are over the earlier ones, whose other names stay
gathered_again : (merged (x 2) (merged ((codes "x", int (pos 1)) ∷ (codes "y", int (pos 1)) ∷ []) no_facts)).gathered ≡ Some ((codes "x", int (pos 2)) ∷ (codes "y", int (pos 1)) ∷ [])
gathered_again = refl

-- `set_fact` is over what it set before, and leaves what was gathered
set_again : with_set (x 2) (with_set (x 1) (merged (x 3) no_facts)) ≡ record { gathered = Some (x 3); set = x 2 }
set_again = refl

-- a result that is registered is over a fact that was set
registered_over_set : with_registered (Some (codes "x")) (int (pos 2)) (with_set (x 1) no_facts) ≡ record { gathered = None; set = x 2 }
registered_over_set = refl

-- but of one task the fact stays
fact_stays : learnt Sets (Some (codes "x")) (int (pos 9)) (gives (x 1) ∷ []) no_facts ≡ record { gathered = None; set = x 1 }
fact_stays = refl

-- of several items the later fact stays
later_item_stays : learnt Sets None (int (pos 9)) (gives (x 1) ∷ gives (x 2) ∷ []) no_facts ≡ record { gathered = None; set = x 2 }
later_item_stays = refl

-- facts in the result of a module that gives none are no facts
other_module : learnt Nothing (Some (codes "r")) (int (pos 9)) (gives (x 1) ∷ []) no_facts ≡ record { gathered = None; set = (codes "r", int (pos 9)) ∷ [] }
other_module = refl

gathered_by_setup : learnt Gathers None (int (pos 9)) (gives (x 1) ∷ []) no_facts ≡ record { gathered = Some (x 1); set = [] }
gathered_by_setup = refl

-- a `setup` that fails gives no facts, and there is no `ansible_facts`
failed_setup : learnt Gathers None (int (pos 9)) (record { value = None; delegate = None; tried = 0; step = Decided (debug_result (int (pos 1))) } ∷ []) no_facts ≡ no_facts
failed_setup = refl

-- of what is known of a host each map is over those before it
known_whole : known_of (x 1) (x 2) (record { gathered = Some (x 3); set = x 4 }) (x 5) ≡ (codes "ansible_facts", dict (members_of (x 3))) ∷ (codes "x", int (pos 5)) ∷ []
known_whole = refl

set_over_gathered : value_at (codes "x") (known_of (x 1) (x 2) (record { gathered = Some (x 3); set = x 4 }) []) ≡ Some (int (pos 4))
set_over_gathered = refl

gathered_over_own : value_at (codes "x") (known_of (x 1) (x 2) (record { gathered = Some (x 3); set = [] }) []) ≡ Some (int (pos 3))
gathered_over_own = refl

own_over_groups : value_at (codes "x") (known_of (x 1) (x 2) no_facts []) ≡ Some (int (pos 2))
own_over_groups = refl

-- another host learns nothing
second_host : changed_at (no_facts ∷ no_facts ∷ []) 1 (with_set (x 1)) ≡ no_facts ∷ record { gathered = None; set = x 1 } ∷ []
second_host = refl

shared_result : shared (codes "x") (record { gathered = None; set = x 1 }) no_facts ≡ record { gathered = None; set = x 1 }
shared_result = refl

nothing_to_share : shared (codes "y") (record { gathered = None; set = x 1 }) no_facts ≡ no_facts
nothing_to_share = refl

-- what a task brings comes entry by entry: its result first, and then the facts of its items
one_by_one : registered_entries (Some (codes "r")) (int (pos 9)) ++ entries_in (given_in (gives (x 1) ∷ gives (x 2) ∷ [])) ≡ (codes "r", int (pos 9)) ∷ (codes "x", int (pos 1)) ∷ (codes "x", int (pos 2)) ∷ []
one_by_one = refl

-- a value that came under a name in place of another
learnt_under : LearntUnder ((codes "x", Some (int (pos 1))) ∷ []) (with_set (x 1) (merged (x 3) no_facts)) (with_set (x 2) (merged (x 3) no_facts))
unfolding IsStrictlySortedBy
learnt_under = (refl, (tt, tt), (int (pos 2), record { stood = refl; same = λ some. refl }, refl))

-- of a gathering a later item's fact stays, and what it registers stands beside the facts
gathered_and_registered : learnt Gathers (Some (codes "r")) (int (pos 9)) (gives (x 1) ∷ gives (x 2) ∷ []) (merged (x 3) no_facts) ≡ record { gathered = Some (x 2); set = (codes "r", int (pos 9)) ∷ [] }
gathered_and_registered = refl

-- a fact that was gathered under a name in place of another
gathered_under : LearntAndGathered [] ((codes "x", Some (int (pos 3))) ∷ []) (with_set (x 1) (merged (x 3) no_facts)) (with_set (x 1) (merged (x 4) no_facts))
unfolding IsStrictlySortedBy
gathered_under = ((tt, tt), refl, ((tt, tt), x 4, (int (pos 4), record { stood = refl; same = λ some. refl }, refl), refl))
