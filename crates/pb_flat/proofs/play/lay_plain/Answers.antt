use Rattle.pb_flat.proofs.Places.{plain_added}
use Rattle.pb_flat.proofs.play.lay_plain.Goals as goal

pub returns-clause-places : goal.returns-clause-places
returns-clause-places c =
    plain_added c.args.steps.now.items c.lay_all.new.steps.items c.in_ok-part.part.at _ c.args.end c.requires.none c.in_ok-part.ensures.laid.places c.requires.places c.in_ok-part.ensures.places
