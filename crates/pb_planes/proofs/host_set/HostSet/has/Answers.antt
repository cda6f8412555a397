use Rattle.std.proofs.Common.{rules, arith, ◌∙◌, refl}
use Rattle.pb_planes.proofs.Sets.{width_is, get_is}
use Rattle.pb_planes.proofs.host_set.HostSet.has.Goals as goal

pub bit_in-requires : goal.bit_in-requires
bit_in-requires c =
    let wide = width_is c.self.inside.words.items c.self.inside.width c.args.self.now c.self.view_is in
    let below = c.requires in
    let long = c.as_slice.ensures.len in
    let held = c.self.invariant.1 in
    omega arith

pub returns : goal.returns
returns c =
    let wide = width_is c.self.inside.words.items c.self.inside.width c.args.self.now c.self.view_is in
    let below = c.requires in
    let got = get_is c.self.inside.words.items c.self.inside.width c.args.host.0 c.args.self.now c.self.view_is (omega arith) in
    rw (c.bit_in.ensures, c.as_slice.ensures.value) got
