use Rattle.std.proofs.Common.{sym, ◌∙◌, arith}
use Rattle.pb_host.proofs.InOrder.{next_here, next_past}
use Rattle.pb_host.proofs.items.waiting_from.Goals as goal

pub returns-then-waits : goal.returns-then-waits
returns-then-waits c = next_here c.args.items.now c.loop-number.number c.index-items-number.result c.loop-number.invariant (omega arith) c.index-items-number.is (sym c.waits.ensures ∙ c.if-waits.true)

pub loop-number-preserved : goal.loop-number-preserved
loop-number-preserved c = next_past c.args.items.now c.loop-number.number c.index-items-number.result c.loop-number.invariant (omega arith) c.index-items-number.is (sym c.waits.ensures ∙ c.if-waits.false)
