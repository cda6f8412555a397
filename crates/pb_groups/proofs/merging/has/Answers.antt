use Rattle.std.proofs.Common.{◌∙◌, ap, sym, false, [], arith}
use Rattle.std.proofs.lemmas.List.{get_or_default}
use Rattle.std.proofs.lemmas.Option.{get_or_from_slice_get}
use Rattle.pb_planes.specs.Set.{is_in}
use Rattle.pb_groups.proofs.merging.has.Goals as goal

pub returns : goal.returns
returns c =
    let e = get_or_from_slice_get c.index-members-group.result c.args.host.0 c.has.result false c.has.ensures in
    sym e ∙ ap (λ p. is_in p c.args.host.0) (c.index-members-group.is ∙ get_or_default c.args.members.now c.args.group.0 c.index-members-group.result [] (omega arith))
