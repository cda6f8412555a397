use Rattle.pb_strategies.proofs.Starting.{pinned_ready}
use Rattle.pb_strategies.proofs.starts.pinned_into.Goals as goal

pub returns : goal.returns
returns c = pinned_ready c.args.view.now c.begins_into.new.set c.keep_open.new.set c.requires.room c.requires.pinned c.begins_into.ensures c.keep_open.ensures
