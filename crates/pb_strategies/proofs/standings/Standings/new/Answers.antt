use Rattle.std.proofs.Common.{ap}
use Rattle.pb_strategies.specs.declared.watched.Watched.{Watched}
use Rattle.pb_strategies.proofs.Keeping.{first_kept}
use Rattle.pb_strategies.proofs.Numbering.{first_numbered}
use Rattle.pb_strategies.proofs.Watching.{none_watched}
use Rattle.pb_strategies.proofs.standings.Standings.new.Goals as goal

pub invariant_of-result : goal.invariant_of-result
invariant_of-result c =
    first_kept c.args.hosts c.args.places c.in_ok-all.all.items c.in_ok-limits.limits c.in_ok-running.running c.in_ok-begun.begun c.in_ok-unended.unended c.in_ok-here.here c.in_ok-idle.idle c.none-watched.result.sets.items c.in_ok-numbers.numbers.bits.items c.in_ok-numbers.numbers.fits
    c.ranges.hosts.fits c.in_ok-all.ensures c.in_ok-limits.ensures c.in_ok-running.ensures c.in_ok-begun.ensures c.in_ok-unended.ensures (ap (λ (one : Watched). one.hosts) c.in_ok-here.ensures) c.in_ok-idle.ensures (none_watched c.in_ok-all.all.items c.none-watched.result.sets.items c.none-watched.ensures)
    (first_numbered c.args.hosts c.in_ok-all.all.items c.in_ok-numbers.numbers.bits.items c.in_ok-numbers.numbers.fits c.in_ok-all.ensures c.in_ok-numbers.ensures)
