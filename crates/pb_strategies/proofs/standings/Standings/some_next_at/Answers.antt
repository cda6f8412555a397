use Rattle.std.proofs.Common.{◌∙◌, ap, not, Some}
use Rattle.pb_strategies.specs.Hosts.{is_next_at}
use Rattle.pb_planes.specs.Set.{has_some}
use Rattle.pb_strategies.proofs.Watching.{some_mapped}
use Rattle.pb_strategies.proofs.Members.{not_not}
use Rattle.pb_strategies.proofs.standings.Standings.some_next_at.Goals as goal

pub returns-in-Some : goal.returns-in-Some
returns-in-Some c =
    let kept = c.in-Some.kept.now in
    ap not c.is_empty.ensures ∙ not_not (has_some kept) ∙ ap has_some c.in-Some.ensures ∙ some_mapped (is_next_at (Some c.args.place)) c.args.self.now
