use Rattle.std.proofs.Common.{◌≡◌, drop}
use Rattle.serde_json.specs.View.{items_view, members_view}
use Rattle.pb_written.specs.Templates.{items_are_templates, members_are_templates}
use Rattle.pb_written.proofs.templates.+templates.Given as goal

abbrev pub invariant-items_are_templates-loop-item : goal.invariant-items_are_templates-loop-item
invariant-items_are_templates-loop-item l =
    items_are_templates (items_view l.items.items) ≡ items_are_templates (items_view (drop l.item-index l.item-items))

abbrev pub invariant-members_are_templates-loop-key : goal.invariant-members_are_templates-loop-key
invariant-members_are_templates-loop-key l =
    members_are_templates (members_view l.members.entries) ≡ members_are_templates (members_view l._key-iterator)
