use Rattle.std.proofs.Common.{◌∙◌, ap, count_by}
use Rattle.pb_strategies.specs.Hosts.{is_under_way}
use Rattle.pb_strategies.proofs.standings.Standings.under_way.Goals as goal

pub returns : goal.returns
returns c = c.self.invariant.are_under_way ∙ ap (count_by is_under_way) c.self.view_is
