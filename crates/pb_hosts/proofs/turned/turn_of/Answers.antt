use Rattle.std.specs.Option.{option_copied}
use Rattle.pb_hosts.proofs.Making.{something_new}
use Rattle.pb_hosts.proofs.turned.turn_of.Goals as goal

pub returns : goal.returns
returns c =
    something_new c.args.inventory.now c.args.play.now c.args.place c.args.rows.now (option_copied c.source-from.result) c.kind_from.result c.caught_at.result c.is_halting-halts.result c.in_ok-all.all.items c.source-from.ensures
    c.is_halting-halts.ensures c.kind_from.ensures c.caught_at.ensures c.in_ok-all.ensures
