use Rattle.std.proofs.Common.{◌≡◌, replicate, arith, rules}
use Rattle.pb_groups.proofs.Levels.{level_begun, endless_at_last}
use Rattle.pb_groups.proofs.depths.depths_of.Goals as goal

pub loop-depth-init : goal.loop-depth-init
loop-depth-init c = let zeros : c.in_ok-depths.depths.items ≡ replicate c.args.groups 0 = search rules in level_begun _ _ _ zeros

pub returns : goal.returns
returns c = endless_at_last _ _ _ _ c.loop-depth-test.false c.loop-depth.invariant.1.1 (c.loop-depth.invariant.2 (omega (arith, c.requires.some_group, c.loop-depth-test.false)))
