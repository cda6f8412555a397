use Rattle.pb_strategies.proofs.Starting.{nobody_ready}
use Rattle.pb_strategies.proofs.starts.none_may_start.Goals as goal

pub returns : goal.returns
returns c = nobody_ready c.args.view.now c.has_room.result c.has_room.ensures
