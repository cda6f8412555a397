use Rattle.pb_limits.proofs.Counted.{none_counted}
use Rattle.pb_limits.proofs.limits.Limits.new.Goals as goal

pub returns : goal.returns
returns c = λ hosts. none_counted c.args.places hosts c.in_ok-at.at.items (c.in_ok-at.ensures.items_if_clones_equal (λ y same. same))
