use Rattle.pb_value.proofs.shared.+spot.Given as goal

abbrev pub decreases-spot : goal.decreases-spot
decreases-spot l = l.at
