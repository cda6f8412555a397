use Rattle.std.proofs.Common.{◌∙◌, ap, sym}
use Rattle.pb_limits.specs.Counts.{running_at}
use Rattle.pb_strategies.specs.Hosts.{runs_in}
use Rattle.pb_strategies.proofs.Keeping.{count_found}
use Rattle.pb_strategies.proofs.standings.Standings.running_at.Goals as goal

pub returns-in-Some : goal.returns-in-Some
returns-in-Some c =
    let kept = c.self.invariant.counted in
    count_found c.self.inside.limits kept.0 c.args.place c.in-Some.running (runs_in c.self.inside.hosts.items) kept.1 (sym c.running_at.ensures ∙ c.in-Some.is)
    ∙ ap (λ hosts. running_at (runs_in hosts) c.args.place) c.self.view_is
