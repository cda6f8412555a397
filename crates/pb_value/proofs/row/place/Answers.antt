use Rattle.std.proofs.Common.{◌≡◌, ℕ, ◌+◌, ◌-◌, ◌/◌, Some, Equal, Greater, length, String, Global, string_bytes, nat_cmp, sym, ap, subst, ◌∙◌, arith}
use Rattle.std.specs.Prelude.{slice_get}
use Rattle.std.specs.Cmp.Lexicographic.{slice_cmp}
use Rattle.pb_value.specs.Datum.{Datum}
use Rattle.pb_value.proofs.Placed.{at_place, middle_within, middle_next, above_before, above_next, place_here, place_between}
use Rattle.pb_value.proofs.row.place.Goals as goal

pub returns-in-Equal : goal.returns-in-Equal
returns-in-Equal c =
    let n : ℕ = c.loop-low.low + (c.loop-low.high - c.loop-low.low) / 2 in
    let e = c.index-row-middle.result in
    let is = at_place c.args.row.now n e (middle_within c.loop-low.low c.loop-low.high (length c.args.row.now) c.loop-low-test.true c.loop-low.invariant.1) c.index-row-middle.is in
    let equal : slice_cmp nat_cmp c.args.name.now (string_bytes e.0) ≡ Equal =
    ap (λ (x : String Global × Datum). slice_cmp nat_cmp c.args.name.now (string_bytes x.0)) c.index-row-middle.is ∙ (ap (slice_cmp nat_cmp c.args.name.now) (sym c.as_str.ensures.value) ∙ sym c.in-Equal.ensures) in
    place_here c.args.name.now c.args.row.now n e is (above_before c.args.name.now c.args.row.now n e c.requires is equal) equal

pub loop-low-preserved : goal.loop-low-preserved
loop-low-preserved c =
    let n : ℕ = c.loop-low.low + (c.loop-low.high - c.loop-low.low) / 2 in
    let e = c.index-row-middle.result in
    let is = at_place c.args.row.now n e (middle_within c.loop-low.low c.loop-low.high (length c.args.row.now) c.loop-low-test.true c.loop-low.invariant.1) c.index-row-middle.is in
    let greater : slice_cmp nat_cmp c.args.name.now (string_bytes e.0) ≡ Greater =
    ap (λ (x : String Global × Datum). slice_cmp nat_cmp c.args.name.now (string_bytes x.0)) c.index-row-middle.is ∙ (ap (slice_cmp nat_cmp c.args.name.now) (sym c.as_str.ensures.value) ∙ sym c.in-Greater.ensures) in
    (middle_next c.loop-low.low c.loop-low.high c.loop-low-test.true, c.loop-low.invariant.1, above_next c.args.name.now c.args.row.now n e c.requires is greater, c.loop-low.invariant.3)

pub returns : goal.returns
returns c =
    let same : c.loop-low.low ≡ c.loop-low.high = omega (arith, c.loop-low-test.false, c.loop-low.invariant.0) in
    place_between c.args.name.now c.args.row.now c.loop-low.low (omega (arith, c.loop-low.invariant.0, c.loop-low.invariant.1)) c.loop-low.invariant.2
    (λ e is. c.loop-low.invariant.3 e (subst (λ (m : ℕ). slice_get c.args.row.now m ≡ Some e) same is))
