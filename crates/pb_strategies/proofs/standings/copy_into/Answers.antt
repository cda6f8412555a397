use Rattle.std.proofs.Common.{◌||◌, ◌∙◌, Bool, List, ap}
use Rattle.std.specs.Simd.Lanes.{zip2}
use Rattle.pb_strategies.proofs.Keeping.{copied, both_width}
use Rattle.pb_strategies.proofs.standings.copy_into.Goals as goal

pub or_with-requires : goal.or_with-requires
or_with-requires c = both_width c.args.set.now c.args.from.now c.and_with.new.self c.requires c.and_with.ensures

pub returns : goal.returns
returns c =
    c.or_with.ensures ∙ ap (λ (both : List Bool). zip2 (λ (a b : Bool). a || b) both c.args.from.now) c.and_with.ensures ∙ copied c.args.set.now c.args.from.now c.requires
