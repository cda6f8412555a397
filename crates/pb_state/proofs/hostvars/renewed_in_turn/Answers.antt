use Rattle.std.proofs.Common.{◌+◌, ◌∷◌, ◌∙◌, ap, drop, refl, sym}
use Rattle.std.proofs.lemmas.List.{drop_all, drop_more}
use Rattle.pb_state.specs.Machine.{learnt_by}
use Rattle.pb_state.proofs.InTurn.{Entry, way_end, way_first, way_more}
use Rattle.pb_state.proofs.hostvars.renewed_in_turn.Goals as goal

pub loop-one-init : goal.loop-one-init
loop-one-init c =
    way_first c.args.plan.now.inventory c.args.plan.now.extra (learnt_by c.args.rows.now) c.args.log.now (drop 0 c.args.log.now) c.args.hosts refl c.requires

pub loop-one-preserved : goal.loop-one-preserved
loop-one-preserved c =
    way_more c.args.plan.now.inventory c.args.plan.now.extra (learnt_by c.args.rows.now) c.args.log.now (drop c.loop-one.one-index c.args.log.now) (drop (c.loop-one.one-index + 1) c.args.log.now) c.one-item.result c.args.hosts c.loop-one.known c.in_ok-known.known
    (drop_more c.args.log.now c.loop-one.one-index c.one-item.result c.loop-one-test.true ∙ ap (λ (one : Entry). one ∷ drop (c.loop-one.one-index + 1) c.args.log.now) (sym c.one-item.is))
    c.in_ok-known.ensures c.loop-one.invariant

pub returns : goal.returns
returns c =
    way_end c.args.plan.now.inventory c.args.plan.now.extra (learnt_by c.args.rows.now) c.args.log.now (drop c.loop-one.one-index c.args.log.now) c.args.hosts c.loop-one.known
    (drop_all c.loop-one.one-index c.args.log.now c.loop-one-test.false) c.loop-one.invariant
