use Rattle.std.proofs.Common.{◌<◌, length, ◌++◌, ◌∷◌, ◌/◌, ◌∙◌, [], List, set, arith, ap, refl}
use Rattle.std.proofs.lemmas.List.{get_or_default}
use Rattle.pb_ids.specs.declared.numbers.GroupNo.{GroupNo}
use Rattle.pb_inventory.proofs.InBlocks.{in_below, added_step, added_end}
use Rattle.pb_inventory.proofs.blocks.add_group.Goals as goal

pub loop-host-preserved : goal.loop-host-preserved
loop-host-preserved c =
    let next = c.in-Some.ensures.some in
    let inside = in_below c.args.members.now c.in-Some.host.0 next.1 in
    let at = c.in-Some.host.0 / 64 in
    let room : c.in-Some.host.0 / 64 < length c.loop-host.blocks = omega (arith, inside, c.requires.room, c.loop-host.invariant.added.0) in
    record {
      near = omega (arith, inside);
      added =
          added_step c.args.members.now c.loop-host.block c.in-Some.host.0 _ c.args.group c.args.blocks.now c.loop-host.blocks _ next room refl
          (ap (set c.loop-host.blocks at) (c.in_ok-push.ensures.ok ∙ ap (λ (l : List GroupNo). l ++ c.args.group ∷ []) (get_or_default c.loop-host.blocks at c.index-blocks-found.result [] room)))
          c.loop-host.invariant.added;
    }

pub returns-clause-added : goal.returns-clause-added
returns-clause-added c = added_end c.args.members.now c.loop-host.block c.args.group c.args.blocks.now c.loop-host.blocks c.in_default.ensures.none c.loop-host.invariant.added
