use Rattle.std.proofs.Common.{◌∙◌, ap, map}
use Rattle.pb_strategies.specs.Hosts.{is_unended, is_running, is_waiting}
use Rattle.pb_strategies.proofs.Keeping.{kept_without}
use Rattle.pb_strategies.proofs.standings.Standings.waiting_into.Goals as goal

pub returns : goal.returns
returns c =
    let hosts = c.self.inside.hosts.items in
    kept_without is_unended is_running hosts c.copy_into.new.set c.self.inside.running c.minus_with.new.self (c.copy_into.ensures ∙ c.self.invariant.are_unended) c.self.invariant.are_running c.minus_with.ensures
    ∙ ap (map is_waiting) c.self.view_is
