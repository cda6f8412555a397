use Rattle.pb_lanes.specs.declared.kind.CountKind.TheVariants.{Okay}
use Rattle.pb_recap.proofs.counting.add_under.Goals as goal

pub bump-requires-clause-host : goal.bump-requires-clause-host
bump-requires-clause-host c = c.requires.host Okay
