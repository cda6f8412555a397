use Rattle.std.proofs.Common.{◌&&◌, ◌∙◌, not, Bool, List, ap}
use Rattle.std.specs.Simd.Lanes.{zip2}
use Rattle.pb_hosts.proofs.Members.{emptied, both_width}
use Rattle.pb_hosts.proofs.inside.empty_by.Goals as goal

pub minus_with-requires : goal.minus_with-requires
minus_with-requires c = both_width c.args.set.now c.args.other.now c.and_with.new.self c.requires c.and_with.ensures

pub returns : goal.returns
returns c =
    c.minus_with.ensures ∙ ap (λ (both : List Bool). zip2 (λ (a b : Bool). a && not b) both c.args.other.now) c.and_with.ensures
    ∙ emptied c.args.set.now c.args.other.now c.requires
