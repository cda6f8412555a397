use Rattle.std.proofs.Common.{◌≡◌, ◌∙◌, ℕ, List, [], String, Global}
use Rattle.pb_inventory.specs.Names.{texts, with_names}
use Rattle.pb_inventory.proofs.Once.{with_names-none, once-sorted}
use Rattle.pb_inventory.proofs.sorted.list_of.Goals as goal

-- no name is left
all_taken : (rest : List (String Global)) (list : List (List ℕ)) → rest ≡ [] → list ≡ with_names (texts rest) list
all_taken rest list is = rw is

pub returns : goal.returns
returns c =
    all_taken c.loop-name.name-iterator c.loop-name.list c.in-None.ensures.steps.0 ∙ c.loop-name.invariant ∙ with_names-none (texts c.args.names.now.keys) ∙ once-sorted c.args.names.now.keys c.iter-name-items.ensures.ordered
