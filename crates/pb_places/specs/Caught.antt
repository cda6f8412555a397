-- Where a failure is caught: in the body of a block that has a rescue (Ansible's documentation, "Blocks").
use Rattle.std.specs.Prelude.{ℕ, Bool, false, ◌||◌, not, List, [], ◌∷◌, ◌++◌, map, replicate}
use Rattle.pb_tree.specs.Tree.{Nodes, Nothing, Task, Block, Flush, TreeOf}
use Rattle.pb_tree.specs.Walk.{is_empty}
use Rattle.pb_places.specs.Place.{PlaceOf}

-- of each place of these nodes whether a failure there is caught
abbrev pub caught_in : ℕ → Bool → Nodes → List Bool
caught_in handlers is_caught Nothing = []
caught_in handlers is_caught (Task rest) = is_caught ∷ caught_in handlers is_caught rest
caught_in handlers is_caught (Block body rescue always rest) =
    caught_in handlers (is_caught || not (is_empty rescue)) body ++ caught_in handlers is_caught rescue ++ caught_in handlers is_caught always
    ++ caught_in handlers is_caught rest
caught_in handlers is_caught (Flush rest) = replicate handlers is_caught ++ caught_in handlers is_caught rest

-- of each place of a tree whether a failure there is caught
abbrev pub caught_places : TreeOf → List Bool
caught_places t = caught_in t.handlers false t.nodes

-- what the records of places say
abbrev pub are_caught : List PlaceOf → List Bool
are_caught places = map (λ p. p.is_caught) places
