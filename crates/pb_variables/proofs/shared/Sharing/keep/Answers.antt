use Rattle.std.proofs.Common.{◌∙◌, ap, sym}
use Rattle.pb_inventory.specs.InventoryOf.{InventoryOf}
use Rattle.pb_variables.specs.Shared.{from_groups, numbers_of_host}
use Rattle.pb_variables.proofs.Keeping.{kept_found, same_found, made_kept}
use Rattle.pb_variables.proofs.shared.Sharing.keep.Goals as goal

pub invariant_of-self : goal.invariant_of-self
invariant_of-self c = same_found (λ key. key.items) c.self.inside.inventory.now c.self.inside.made.entries _ c.in_err-insert.ensures.err c.self.invariant

pub invariant_of-self-2 : goal.invariant_of-self-2
invariant_of-self-2 c =
    kept_found (λ key. key.items) c.self.inside.inventory.now c.args.host.0 c.args.numbers c.in_ok-kept.kept c.self.inside.made.entries _
    (c.requires.numbers ∙ sym (ap (λ (i : InventoryOf). numbers_of_host i c.args.host.0) c.self.view_is))
    (c.in_ok-kept.ensures ∙ c.requires.of ∙ sym (ap (λ (i : InventoryOf). from_groups i c.args.host.0) c.self.view_is))
    c.self.invariant
    c.in_ok-insert.ensures.entries

pub returns-clause-kept : goal.returns-clause-kept
returns-clause-kept c = made_kept c.args.self.now c.args.host.0 _ (c.in_ok-shared.ensures ∙ c.in_ok-kept.ensures ∙ c.requires.of)
