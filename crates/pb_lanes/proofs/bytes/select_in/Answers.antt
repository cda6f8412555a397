use Rattle.std.proofs.Common.{rules, arith, ◌≡◌, ◌∙◌, ◌*◌, ◌/◌, length, inl, inr}
use Rattle.std.proofs.lemmas.Bool.{cases_lt}
use Rattle.pb_lanes.proofs.Hits.{all_selected}
use Rattle.pb_lanes.proofs.bytes.select_in.Goals as goal

pub returns : goal.returns
returns c =
    let inv = c.loop-index.invariant in
    let wide = c.requires.width in
    let kept = c.select_rest.ensures.width in
    let at : c.loop-index.index ≡ length c.args.bytes.now / 64 = search rules in
    let long : length c.select_rest.new.set ≡ length c.args.bytes.now = kept ∙ inv.0 ∙ wide in
    all_selected c.args.bytes.now c.args.byte c.select_rest.new.set long
    (λ i lt.
    elim (cases_lt i (64 * (length c.args.bytes.now / 64))) [
      | inl below ↦ c.select_rest.ensures.below i below ∙ inv.1 i (rw at below)
      | inr from ↦ c.select_rest.ensures.inside i from (omega (arith, inv.0, wide, lt))
    ])
