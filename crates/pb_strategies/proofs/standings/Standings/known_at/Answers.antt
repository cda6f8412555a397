use Rattle.std.proofs.Common.{◌∙◌, Some, ap, map}
use Rattle.std.proofs.lemmas.Option.{IfSome_then}
use Rattle.pb_strategies.specs.Hosts.{is_next_at}
use Rattle.pb_strategies.proofs.Numbering.{as_wide}
use Rattle.pb_strategies.proofs.standings.Standings.known_at.Goals as goal

pub hosts_at-requires : goal.hosts_at-requires
hosts_at-requires c = as_wide c.self.inside.hosts.items c.self.inside.unended c.self.inside.numbers.bits.items c.self.inside.numbers.fits c.self.invariant.are_unended c.self.invariant.are_numbered

pub returns : goal.returns
returns c =
    IfSome_then c.hosts_at.result (c.hosts_at.ensures c.self.inside.hosts.items c.self.invariant.are_unended c.self.invariant.are_numbered)
    (λ there is. is ∙ ap (map (is_next_at (Some c.args.place))) c.self.view_is)
