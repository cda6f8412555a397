use Rattle.std.proofs.Common.{◌∙◌, sym}
use Rattle.pb_strategies.proofs.Starting.{none_ready, no_room}
use Rattle.pb_strategies.proofs.starts.ready.Goals as goal

pub returns-then-not-has_room : goal.returns-then-not-has_room
returns-then-not-has_room c =
    none_ready c.args.view.now c.args.set.now c.none_into.new.set c.none_into.ensures c.requires (no_room c.args.view.now (sym c.has_room.ensures ∙ c.if-not-has_room.true))
