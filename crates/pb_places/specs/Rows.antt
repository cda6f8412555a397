-- Worked examples: each is proved by computing both sides.
use Rattle.std.specs.Prelude.{◌≡◌, refl, true, false, [], ◌∷◌}
use Rattle.pb_tree.specs.Tree.{Nodes, Nothing, Task, Block, Flush, TreeOf}
use Rattle.pb_places.specs.Caught.{caught_places}

-- a tree with two handlers
abbrev tree : Nodes → TreeOf
tree nodes = record { nodes = nodes; handlers = 2; force_handlers = false }

abbrev one : Nodes
one = Task Nothing

-- nothing is caught outside of blocks
plain : caught_places (tree (Task (Flush one))) ≡ false ∷ false ∷ false ∷ false ∷ []
plain = refl

-- the body of a block with a rescue is, but not its rescue nor its always part
rescued : caught_places (tree (Block one one one one)) ≡ true ∷ false ∷ false ∷ false ∷ []
rescued = refl

-- without a rescue nothing is
not_rescued : caught_places (tree (Block one Nothing one one)) ≡ false ∷ false ∷ false ∷ []
not_rescued = refl

-- what stands in a body that is caught is so as a whole, the handlers of a Flush too
all_within : caught_places (tree (Block (Block one Nothing one (Flush Nothing)) one Nothing Nothing)) ≡ true ∷ true ∷ true ∷ true ∷ false ∷ []
all_within = refl
