use Rattle.std.proofs.Common.{◌∙◌, ◌+◌, List, ap, sym}
use Rattle.pb_outcome.specs.declared.item.Item.{Item}
use Rattle.pb_host.specs.Calls.{tried_of}
use Rattle.pb_host.specs.Kept.{with_tried}
use Rattle.pb_host.proofs.InOrder.{kept_tried, try_undone}
use Rattle.pb_host.proofs.items.TaskItems.try_again.Goals as goal

pub invariant_of-self : goal.invariant_of-self
invariant_of-self c =
    kept_tried c.self.inside.items.items c.put_tried.new.items.items c.args.number (c.args.tried + 1) c.self.inside.next c.self.inside.lost c.put_tried.ensures c.self.invariant

pub returns-clause-undo : goal.returns-clause-undo
returns-clause-undo c =
    ap (with_tried c.args.number c.args.tried) c.put_tried.ensures
    ∙ try_undone c.self.inside.items.items c.args.number c.args.tried (c.requires.tried ∙ ap (λ (items : List Item). tried_of items c.args.number) (sym c.self.view_is))
    ∙ c.self.view_is
