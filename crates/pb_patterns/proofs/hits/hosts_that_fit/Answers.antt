use Rattle.std.proofs.Common.{refl}
use Rattle.std.specs.Str.{chars}
use Rattle.pb_patterns.specs.Globs.{fits}
use Rattle.pb_patterns.proofs.SetLaws.{push_hit}
use Rattle.pb_patterns.proofs.hits.hosts_that_fit.Goals as goal

pub loop-host-preserved : goal.loop-host-preserved
loop-host-preserved c =
    push_hit (λ name. fits c.args.term.now (chars name)) c.args.inventory.now.hosts c.loop-host.host _ c.name.result.now c.loop-host.hits.items c.push.new.self.items c.in_ok-name_fits.field-0 refl c.name.ensures
    c.loop-host.invariant c.in_ok-push.ensures.items c.in_ok-name_fits.ensures
