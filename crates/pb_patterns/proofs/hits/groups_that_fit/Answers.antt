use Rattle.std.proofs.Common.{refl}
use Rattle.std.specs.Str.{chars}
use Rattle.pb_patterns.specs.Globs.{fits}
use Rattle.pb_patterns.proofs.SetLaws.{push_hit}
use Rattle.pb_patterns.proofs.hits.groups_that_fit.Goals as goal

pub loop-group-preserved : goal.loop-group-preserved
loop-group-preserved c =
    push_hit (λ name. fits c.args.term.now (chars name)) c.args.inventory.now.groups c.loop-group.group _ c.group_name.result.now c.loop-group.hits.items c.push.new.self.items c.in_ok-name_fits.field-0 refl c.group_name.ensures
    c.loop-group.invariant c.in_ok-push.ensures.items c.in_ok-name_fits.ensures
