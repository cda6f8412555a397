use Rattle.std.proofs.Common.{◌∙◌, Some}
use Rattle.pb_strategies.specs.Hosts.{is_next_at}
use Rattle.pb_strategies.proofs.Watching.{some_first}
use Rattle.pb_strategies.proofs.standings.Standings.some_next_before.Goals as goal

pub returns-in-Some : goal.returns-in-Some
returns-in-Some c = c.has_before.ensures ∙ some_first (is_next_at (Some c.args.place)) c.args.self.now c.args.host c.in-Some.kept.now c.in-Some.ensures
