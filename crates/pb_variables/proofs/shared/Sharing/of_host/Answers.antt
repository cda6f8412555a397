use Rattle.std.proofs.Common.{◌∙◌, List, Some, map, option_copied, ap, sym, subst}
use Rattle.pb_ids.specs.declared.numbers.GroupNo.{GroupNo}
use Rattle.pb_inventory.specs.InventoryOf.{InventoryOf}
use Rattle.pb_variables.specs.Shared.{IsKeptFor}
use Rattle.pb_variables.proofs.Keeping.{found_in, found_kept}
use Rattle.pb_variables.proofs.shared.Sharing.of_host.Goals as goal

pub returns-in-Some-clause-kept : goal.returns-in-Some-clause-kept
returns-in-Some-clause-kept c =
    subst (λ (i : InventoryOf). IsKeptFor i c.args.host.0 (Some c.in_ok-shared.shared)) c.self.view_is
    (found_kept c.self.inside.inventory.now c.args.host.0 c.as_slice-2.result.now (found_in (λ key. key.items) c.self.inside.made.entries) c.in_ok-shared.shared c.self.invariant
    (c.as_slice-2.ensures.value ∙ c.in_ok-numbers.ensures ∙ ap (λ (groups : List GroupNo). map (λ (g : GroupNo). g.0) groups) (c.as_slice.ensures.value ∙ c.in_ok-groups.ensures.value))
    (ap Some c.in_ok-shared.ensures ∙ sym (ap option_copied c.in-Some.is) ∙ c.get.ensures.value))
