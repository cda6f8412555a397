use Rattle.std.proofs.Common.{ap, ◌∙◌}
use Rattle.pb_flat.specs.Places.{places_in}
use Rattle.pb_flat.proofs.Places.{places_more}
use Rattle.pb_flat.proofs.draft.add.Goals as goal

pub returns-clause-places : goal.returns-clause-places
returns-clause-places c = ap places_in c.in_ok-push.ensures.items ∙ places_more c.args.steps.now.items c.args.step
