use Rattle.std.proofs.Common.{rules, arith, ◌∙◌, sym}
use Rattle.pb_planes.proofs.Put.{set_here, set_elsewhere, cleared_here, cleared_elsewhere}
use Rattle.pb_planes.proofs.words.put_bit.Goals as goal

pub returns-then-is_in-clause-here : goal.returns-then-is_in-clause-here
returns-then-is_in-clause-here c = set_here c.args.words.now c.args.i c.requires ∙ sym c.if-is_in.true

pub returns-then-is_in-clause-others : goal.returns-then-is_in-clause-others
returns-then-is_in-clause-others c = set_elsewhere c.args.words.now c.args.i c.requires

pub returns-else-is_in-clause-here : goal.returns-else-is_in-clause-here
returns-else-is_in-clause-here c = cleared_here c.args.words.now c.args.i c.requires ∙ sym c.if-is_in.false

pub returns-else-is_in-clause-others : goal.returns-else-is_in-clause-others
returns-else-is_in-clause-others c = cleared_elsewhere c.args.words.now c.args.i c.requires
