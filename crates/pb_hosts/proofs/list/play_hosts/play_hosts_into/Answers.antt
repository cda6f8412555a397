use Rattle.std.proofs.Common.{◌<◌, length, arith, length-set}
use Rattle.pb_host.specs.Host.{is_play_host}
use Rattle.pb_hosts.proofs.Overwritten.{overwritten_more}
use Rattle.pb_hosts.proofs.list.play_hosts.play_hosts_into.Goals as goal

pub loop-i-preserved : goal.loop-i-preserved
loop-i-preserved c =
    let inside : c.loop-i.i < length c.args.rows.now = omega (arith, c.requires) in
    record {
      width = rw c.put.ensures (simp length-set c.loop-i.invariant.width);
      overwritten =
          rw (c.put.ensures, c.is_play_host-is_in.ensures)
          (overwritten_more (is_play_host c.args.hosts.now) c.args.rows.now c.args.set.now c.loop-i.set c.loop-i.i c.index-rows-i.result inside c.requires c.loop-i.invariant.overwritten c.index-rows-i.is);
    }
