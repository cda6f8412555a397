use Rattle.std.proofs.Common.{◌∙◌, ap, map}
use Rattle.pb_strategies.specs.Hosts.{is_waiting}
use Rattle.pb_strategies.specs.MayStart.{ViewOf}
use Rattle.pb_strategies.proofs.Starting.{free_ready}
use Rattle.pb_strategies.proofs.starts.free_into.Goals as goal

pub returns : goal.returns
returns c =
    free_ready c.args.view.now c.waiting_into.new.set c.keep_open.new.set c.requires.room c.requires.free
    (c.waiting_into.ensures ∙ ap (λ (v : ViewOf). map is_waiting v.hosts) c.view.view_is) c.keep_open.ensures
