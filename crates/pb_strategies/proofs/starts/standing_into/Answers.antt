use Rattle.std.proofs.Common.{Some, map, refl}
use Rattle.pb_strategies.specs.Hosts.{is_next_at, is_running}
use Rattle.pb_strategies.proofs.Keeping.{kept_without}
use Rattle.pb_strategies.proofs.starts.standing_into.Goals as goal

pub returns : goal.returns
returns c =
    let hosts = c.args.hosts.now in
    kept_without (is_next_at (Some c.args.place)) is_running hosts c.next_into.new.set (map is_running hosts) c.drop_running.new.set c.next_into.ensures refl c.drop_running.ensures
