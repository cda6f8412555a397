use Rattle.std.proofs.Common.{◌∙◌, Some, ap, sym, map}
use Rattle.std.proofs.lemmas.Option.{IfSome_then}
use Rattle.pb_strategies.specs.Hosts.{is_next_at}
use Rattle.pb_strategies.proofs.Watching.{watched_at, watched_there}
use Rattle.pb_strategies.proofs.standings.Standings.kept_at.Goals as goal

pub returns-then-same_place : goal.returns-then-same_place
returns-then-same_place c =
    watched_at c.self.inside.hosts.items c.args.place c.self.inside.here (sym c.same_place.ensures ∙ c.if-same_place.true) c.self.invariant.are_here ∙ ap (map (is_next_at (Some c.args.place))) c.self.view_is

pub returns-else-same_place : goal.returns-else-same_place
returns-else-same_place c =
    IfSome_then c.set_of.result c.set_of.ensures
    (λ set is. watched_there c.self.inside.hosts.items c.args.place c.self.inside.watched.sets.items set.now is c.self.invariant.are_watched ∙ ap (map (is_next_at (Some c.args.place))) c.self.view_is)
