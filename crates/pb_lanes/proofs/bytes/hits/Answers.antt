use Rattle.std.proofs.Common.{arith, ap, ◌∙◌, ◌*◌, ◌==◌, nat_eq, count_ones, w8}
use Rattle.std.specs.Int.{bit_at}
use Rattle.std.specs.Simd.Lanes.{chunk}
use Rattle.std.proofs.lemmas.Simd.{length-chunk, bitmask_splat, ones-mask_l}
use Rattle.pb_lanes.specs.Bytes.{is_byte}
use Rattle.pb_lanes.proofs.Hits.{bit_is}
use Rattle.pb_lanes.proofs.bytes.hits.Goals as goal

pub returns-clause-bits : goal.returns-clause-bits
returns-clause-bits c j lt =
    let those = chunk (64 * c.args.index) 64 c.args.bytes.now in
    let long = length-chunk (64 * c.args.index) 64 c.args.bytes.now c.requires in
    let whole = bitmask_splat w8 nat_eq those 64 c.args.byte long (omega arith) in
    ap (λ m. bit_at m j == 1) whole ∙ bit_is c.args.bytes.now c.args.index c.args.byte j c.requires lt

pub returns-clause-ones : goal.returns-clause-ones
returns-clause-ones c =
    let those = chunk (64 * c.args.index) 64 c.args.bytes.now in
    let long = length-chunk (64 * c.args.index) 64 c.args.bytes.now c.requires in
    let whole = bitmask_splat w8 nat_eq those 64 c.args.byte long (omega arith) in
    ap count_ones whole ∙ ones-mask_l (is_byte c.args.byte) those
