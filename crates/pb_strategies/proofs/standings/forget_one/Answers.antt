use Rattle.std.proofs.Common.{◌<◌, length, slice_set, refl, sym, subst, arith}
use Rattle.std.proofs.lemmas.Option.{slice_get_read}
use Rattle.pb_strategies.specs.declared.standings.Standing.{Standing}
use Rattle.pb_strategies.specs.Hosts.{nowhere}
use Rattle.pb_strategies.specs.Kept.{AreWatched}
use Rattle.pb_strategies.proofs.Watching.{each_put, each_wide}
use Rattle.pb_strategies.proofs.standings.forget_one.Goals as goal

pub go_on-requires : goal.go_on-requires
go_on-requires c =
    let inside : c.args.host.0 < length c.args.hosts.now.items = omega (arith, c.len.ensures, c.if-at-len.true) in
    each_wide c.args.hosts.now.items c.args.host.0 inside c.args.watched.now.sets.items c.requires

pub returns-then-at-len-clause-watched : goal.returns-then-at-len-clause-watched
returns-then-at-len-clause-watched c =
    let hosts = c.args.hosts.now.items in
    let h = c.args.host.0 in
    let inside : h < length hosts = omega (arith, c.len.ensures, c.if-at-len.true) in
    let old = slice_get_read hosts (length hosts) h c.index-old.result.now refl inside c.index-old.ensures in
    subst (λ (one : Standing). AreWatched (slice_set hosts h one) c.go_on.new.self.sets.items) (sym c.nowhere.ensures)
    (subst (AreWatched (slice_set hosts h nowhere)) (sym c.go_on.ensures) (each_put hosts h c.index-old.result.now nowhere c.args.watched.now.sets.items old c.requires))
