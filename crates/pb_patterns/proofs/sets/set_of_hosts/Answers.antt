use Rattle.std.proofs.Common.{refl, ◌∙◌}
use Rattle.pb_patterns.proofs.SetLaws.{hosts_are, host_put, host_passed}
use Rattle.pb_patterns.proofs.sets.set_of_hosts.Goals as goal
use Rattle.pb_patterns.proofs.sets.set_of_hosts.Goals.{then-host-width, else-host-width}

pub loop-host-preserved : goal.loop-host-preserved
loop-host-preserved c = elim c.if-host-width.branch [
  | then-host-width w ↦
      host_put c.args.width c.loop-host.host-index _ _ c.args.hosts.now c.loop-host.set c.if-host-width.set c.loop-host-test.true refl refl w.if-host-width.true c.loop-host.invariant.0
      c.loop-host.invariant.1 (w.set-is ∙ w.insert.ensures)
  | else-host-width w ↦
      host_passed c.args.width c.loop-host.host-index _ _ c.args.hosts.now c.loop-host.set c.if-host-width.set c.loop-host-test.true refl refl w.if-host-width.false c.loop-host.invariant.0
      c.loop-host.invariant.1 w.set-is
]

pub returns-clause-set : goal.returns-clause-set
returns-clause-set c = hosts_are c.args.width c.loop-host.host-index c.args.hosts.now c.loop-host.set c.loop-host-test.false c.loop-host.invariant.0 c.loop-host.invariant.1
