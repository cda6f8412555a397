use Rattle.std.proofs.Common.{◌∙◌, ap, sym, map}
use Rattle.pb_strategies.specs.Parts.{stands_at}
use Rattle.pb_strategies.proofs.Watching.{idle_here}
use Rattle.pb_strategies.proofs.standings.Standings.idle_at.Goals as goal

pub returns-then-is_here : goal.returns-then-is_here
returns-then-is_here c =
    idle_here c.self.inside.hosts.items c.args.place c.self.inside.here.place c.self.inside.idle (sym c.same_place-is_here.ensures ∙ c.if-is_here.true) c.self.invariant.are_idle ∙ ap (map (stands_at c.args.place)) c.self.view_is
