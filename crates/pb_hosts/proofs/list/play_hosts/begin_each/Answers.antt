use Rattle.std.proofs.Common.{◌<◌, length, arith}
use Rattle.std.proofs.lemmas.List.Edits.{map_over_more}
use Rattle.pb_host.specs.Host.{as_play_begins}
use Rattle.pb_hosts.proofs.list.play_hosts.begin_each.Goals as goal

pub loop-row-preserved : goal.loop-row-preserved
loop-row-preserved c =
    let inside : c.loop-row.row-index < length c.args.rows.now = omega arith in
    rw (c.begin_play.ensures, ← c.row-item.is) (map_over_more (as_play_begins c.args.hosts.now) c.args.rows.now c.loop-row.rows c.loop-row.row-index c.row-item.result inside c.loop-row.invariant c.row-item.is)
