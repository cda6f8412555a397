use Rattle.std.proofs.Common.{ap, ◌∙◌}
use Rattle.pb_flat.specs.Places.{places_in}
use Rattle.pb_flat.proofs.Places.{places_none}
use Rattle.pb_flat.proofs.play.lay_play.Goals as goal

pub lay_to_flush-requires-clause-none : goal.lay_to_flush-requires-clause-none
lay_to_flush-requires-clause-none c = c.in_ok-ends.ensures.places ∙ (ap places_in c.requires.none ∙ places_none)

pub lay_plain-requires-clause-none : goal.lay_plain-requires-clause-none
lay_plain-requires-clause-none c = c.in_ok-ends.ensures.places ∙ (ap places_in c.requires.none ∙ places_none)
