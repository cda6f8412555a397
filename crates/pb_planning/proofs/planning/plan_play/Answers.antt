use Rattle.std.proofs.Common.{◌≤◌, ◌∙◌, ap, subst, sym}
use Rattle.pb_tree.specs.Tree.{TreeOf, size_of}
use Rattle.pb_planning.proofs.Plans.{play_planned}
use Rattle.pb_planning.proofs.planning.plan_play.Goals as goal

pub laid_out-requires : goal.laid_out-requires
laid_out-requires c = c.requires.built.flat

pub new-requires-clause-bound : goal.new-requires-clause-bound
new-requires-clause-bound c = subst (λ (t : TreeOf). size_of t ≤ 16384) (sym c.in_ok-laid.ensures) c.requires.built.few

pub new-requires-clause-places : goal.new-requires-clause-places
new-requires-clause-places c = c.requires.built.places ∙ ap size_of (sym c.in_ok-laid.ensures)

pub returns : goal.returns
returns c =
    play_planned c.args.inventory.now c.args.limit.now c.args.play c.in_ok-made.made.hosts c.in_ok-laid.laid.value.tree c.in_ok-made.made.magic c.new.result _ _
    c.in_ok-made.ensures.hosts c.in_ok-laid.ensures c.in_ok-made.ensures.magic c.new.ensures
