use Rattle.std.proofs.Common.{◌∙◌, ◌++◌, ◌∷◌, ◌+◌, ℕ, List, [], length, map, arith, ap, sym, refl}
use Rattle.std.specs.Prelude.{filter}
use Rattle.std.specs.List.{range_with_len}
use Rattle.std.proofs.lemmas.Option.{get_or_from_slice_get}
use Rattle.pb_groups.specs.Merging.{has_member}
use Rattle.pb_inventory.specs.Vars.{host_name, graph_of}
use Rattle.pb_inventory.proofs.InBlocks.{in_below, passes, passes_not}
use Rattle.pb_inventory.proofs.Ranges.{next_joins, filter_skips}
use Rattle.pb_inventory.proofs.inventory.Inventory.host_names.Goals as goal

pub overflow_add-from : goal.overflow_add-from
overflow_add-from c =
    let inside = in_below c.members-members.result.now c.in-Some.host.0 c.in-Some.ensures.some.1 in
    omega (arith, inside, c.members-members.ensures.width, c.hosts-hosts.ensures.limit)

pub loop-host-preserved : goal.loop-host-preserved
loop-host-preserved c =
    let names = host_name c.args.self.now in
    let is_there = has_member (graph_of c.args.self.now) c.args.group.0 in
    let members = c.members-members.result.now in
    let set = c.members-members.ensures.set in
    let width = c.members-members.ensures.width in
    let next = c.in-Some.ensures.some in
    let inside = in_below members c.in-Some.host.0 next.1 in
    record {
      within = omega (arith, inside, width);
      names =
          c.in_ok-push_text.ensures
          ∙ ap (λ (before : List (List ℕ)). before ++ c.name.result.now ∷ []) c.loop-host.invariant.names
          ∙ ap (λ (name : List ℕ). map names (filter is_there (range_with_len 0 c.loop-host.from)) ++ name ∷ []) (sym (get_or_from_slice_get c.args.self.now.hosts c.in-Some.host.0 c.name.result.now [] c.name.ensures))
          ∙ sym (next_joins names is_there c.loop-host.from c.in-Some.host.0 (c.in-Some.host.0 + 1) next.0 (passes (graph_of c.args.self.now) c.args.group.0 c.in-Some.host.0 members set width next.1)
          (λ i low high. passes_not (graph_of c.args.self.now) c.args.group.0 i members set (omega (arith, high, inside, width)) (next.2 i low high)) refl);
    }

pub returns : goal.returns
returns c =
    let names = host_name c.args.self.now in
    let is_there = has_member (graph_of c.args.self.now) c.args.group.0 in
    let members = c.members-members.result.now in
    c.loop-host.invariant.names
    ∙ ap (map names)
    (sym (filter_skips is_there c.loop-host.from (length c.args.self.now.hosts) c.loop-host.invariant.within
    (λ i low high. passes_not (graph_of c.args.self.now) c.args.group.0 i members c.members-members.ensures.set high (c.in_default.ensures.none i low))))
