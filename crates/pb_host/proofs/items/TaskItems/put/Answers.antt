use Rattle.std.proofs.Common.{◌∙◌, List, ap, sym}
use Rattle.pb_outcome.specs.declared.item.Item.{Item}
use Rattle.pb_outcome.specs.Items.{next_item}
use Rattle.pb_host.specs.Calls.{tried_of}
use Rattle.pb_host.proofs.InOrder.{put_later, put_lost, put_undone, length_item}
use Rattle.pb_host.proofs.items.TaskItems.put.Goals as goal

pub waiting_from-self-inside-requires-clause-passed :
    goal.waiting_from-self-inside-requires-clause-passed
waiting_from-self-inside-requires-clause-passed c =
    rw (c.deref-2.ensures.value, c.put_step-step.ensures.items) (put_later c.self.inside.items.items c.args.number c.args.item (ap next_item c.self.view_is ∙ c.requires))

pub invariant_of-self : goal.invariant_of-self
invariant_of-self c =
    record {
      next_is = c.waiting_from-self-inside.ensures ∙ ap next_item c.deref-2.ensures.value;
      lost_is =
          rw c.put_step-step.ensures.items
          (rw (c.either-self-inside.ensures, c.self.invariant.lost_is, c.is_unreachable-is_lost.ensures)
          (sym (put_lost c.self.inside.items.items c.args.number c.args.item (ap next_item c.self.view_is ∙ c.requires))));
      most = rw (c.put_step-step.ensures.items, length_item) c.self.invariant.most;
    }

pub returns-clause-undo : goal.returns-clause-undo
returns-clause-undo c =
    rw (c.before_of.ensures, c.put_step-step.ensures.items, c.put_step-step.ensures.before)
    (put_undone c.self.inside.items.items c.args.number c.tried_of-tried.result _ (c.tried_of-tried.ensures ∙ ap (λ (items : List Item). tried_of items c.args.number) c.deref.ensures.value) ∙ c.self.view_is)
