use Rattle.std.proofs.Common.{◌≡◌, ◌<◌, ◌∙◌, ◌/◌, ap, get_or, subst, sym, length, [], arith}
use Rattle.std.proofs.lemmas.List.{get_or_default}
use Rattle.pb_groups.specs.Merging.{with_host}
use Rattle.pb_inventory.specs.GraphOf.{GraphOf, numbered}
use Rattle.pb_inventory.specs.InventoryOf.{InventoryOf}
use Rattle.pb_inventory.specs.Vars.{priorities_in, groups_of_host}
use Rattle.pb_inventory.specs.declared.inventory.AllVars.{AllVars}
use Rattle.pb_inventory.proofs.InBlocks.{list_at, asked_of_block, groups_of_block}
use Rattle.pb_inventory.proofs.Kept.{below_still}
use Rattle.pb_inventory.proofs.inventory.Inventory.groups_of_host.Goals as goal

pub with_host-requires-clause-groups : goal.with_host-requires-clause-groups
with_host-requires-clause-groups c =
    let graph = c.self.inside.graph.value in
    let blocks = c.self.inside.vars.value.blocks.items in
    let at = c.args.host.0 / 64 in
    let less = subst (λ (i : InventoryOf). c.args.host.0 < length i.hosts) (sym c.self.view_is) c.requires in
    let room : at < length blocks = omega (arith, less, c.self.invariant.0.0) in
    let is : c.as_slice.result.now ≡ list_at blocks at =
    c.as_slice.ensures ∙ c.index-block.ensures ∙ ap (λ (v : AllVars). get_or v.blocks.items at c.index-block.result.now) c.deref.ensures ∙ get_or_default blocks at c.index-block.result.now [] room
    in
    rw (c.deref-2.ensures) (groups_of_block graph (priorities_in c.self.inside.vars.value.group_vars graph.groups) c.args.host.0 blocks c.as_slice.result.now c.self.invariant.0 less is)

pub returns-clause-value : goal.returns-clause-value
returns-clause-value c =
    let graph = c.self.inside.graph.value in
    let blocks = c.self.inside.vars.value.blocks.items in
    let at = c.args.host.0 / 64 in
    let less = subst (λ (i : InventoryOf). c.args.host.0 < length i.hosts) (sym c.self.view_is) c.requires in
    let room : at < length blocks = omega (arith, less, c.self.invariant.0.0) in
    let is : c.as_slice.result.now ≡ list_at blocks at =
    c.as_slice.ensures ∙ c.index-block.ensures ∙ ap (λ (v : AllVars). get_or v.blocks.items at c.index-block.result.now) c.deref.ensures ∙ get_or_default blocks at c.index-block.result.now [] room
    in
    let asked = c.in_ok-with_host.ensures ∙ ap (λ (g : GraphOf). with_host (numbered g) c.args.host.0 c.as_slice.result.now) c.deref-2.ensures in
    subst (λ (i : InventoryOf). c.in_ok-with_host.field-0.items ≡ groups_of_host i c.args.host.0) c.self.view_is
    (asked_of_block graph (priorities_in c.self.inside.vars.value.group_vars graph.groups) c.args.host.0 blocks c.as_slice.result.now c.in_ok-with_host.field-0.items c.self.invariant.0 less is asked)

pub returns-clause-below : goal.returns-clause-below
returns-clause-below c =
    let graph = c.self.inside.graph.value in
    let blocks = c.self.inside.vars.value.blocks.items in
    let at = c.args.host.0 / 64 in
    let less = subst (λ (i : InventoryOf). c.args.host.0 < length i.hosts) (sym c.self.view_is) c.requires in
    let room : at < length blocks = omega (arith, less, c.self.invariant.0.0) in
    let is : c.as_slice.result.now ≡ list_at blocks at =
    c.as_slice.ensures ∙ c.index-block.ensures ∙ ap (λ (v : AllVars). get_or v.blocks.items at c.index-block.result.now) c.deref.ensures ∙ get_or_default blocks at c.index-block.result.now [] room
    in
    let asked = c.in_ok-with_host.ensures ∙ ap (λ (g : GraphOf). with_host (numbered g) c.args.host.0 c.as_slice.result.now) c.deref-2.ensures in
    let all = groups_of_block graph (priorities_in c.self.inside.vars.value.group_vars graph.groups) c.args.host.0 blocks c.as_slice.result.now c.self.invariant.0 less is in
    rw (← c.self.view_is) (below_still graph c.args.host.0 c.as_slice.result.now c.in_ok-with_host.field-0.items asked all)
