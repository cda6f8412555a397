use Rattle.std.proofs.Common.{false, sym, subst}
use Rattle.pb_strategies.specs.Kept.{AreWide}
use Rattle.pb_strategies.proofs.Watching.{put_wide}
use Rattle.pb_strategies.proofs.watched.Places.go_on.Goals as goal

pub put_at-requires-2 : goal.put_at-requires-2
put_at-requires-2 c =
    subst (AreWide c.args.host.0) (sym c.put_at.ensures) (put_wide c.args.host.0 c.args.old c.args.host.0 false c.args.self.now.sets.items c.requires)
