use Rattle.std.proofs.Common.{◌≡◌, ℕ, List, [], ◌++◌, map, refl, ap, ◌∙◌}
use Rattle.std.specs.Prelude.{Option, Some, None}
use Rattle.pb_inventory.specs.Graph.{all, group_number, number_first}
use Rattle.pb_inventory.proofs.numbering.children_of.Goals as goal

first : (o : Option ℕ) (ns : List ℕ) → number_first o [] ++ ns ≡ number_first o ns
first (Some n) ns = refl
first None ns = refl

pub loop-link-init : goal.loop-link-init
loop-link-init c = ap (λ t. t ++ map (λ l. l.child.0) c.args.links.now) c.in_ok-children.ensures ∙ first (group_number c.args.groups.now all) (map (λ l. l.child.0) c.args.links.now)
