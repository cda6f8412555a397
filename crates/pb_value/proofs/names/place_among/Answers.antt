use Rattle.std.proofs.Common.{◌≡◌, ℕ, ◌+◌, ◌-◌, ◌/◌, Some, Less, Equal, Greater, List, length, String, Global, string_bytes, string_cmp, nat_cmp, sym, ap, subst, ◌∙◌, arith}
use Rattle.std.specs.Prelude.{slice_get}
use Rattle.std.specs.Cmp.Lexicographic.{slice_cmp}
use Rattle.std.specs.List.Sorted.{IsStrictlySortedBy}
use Rattle.pb_value.specs.Names.{paired}
use Rattle.pb_value.proofs.KeptNames.{length-paired, keys_of-paired, at_name, past_names}
use Rattle.pb_value.proofs.Placed.{middle_within, middle_next, above_before, above_next, place_here, place_between}
use Rattle.pb_value.proofs.names.place_among.Goals as goal

pub loop-low-init : goal.loop-low-init
loop-low-init c = (omega arith, omega arith, tt, λ e is. absurd (past_names c.args.names.now e is))

pub returns-in-Equal : goal.returns-in-Equal
returns-in-Equal c =
    let es : List (String Global × ℕ) = paired c.args.names.now in
    let n : ℕ = c.loop-low.low + (c.loop-low.high - c.loop-low.low) / 2 in
    let e : String Global × ℕ = (c.index-names-middle.result, 0) in
    let is = at_name c.args.names.now n e.0 (middle_within c.loop-low.low c.loop-low.high (length c.args.names.now) c.loop-low-test.true c.loop-low.invariant.1) c.index-names-middle.is in
    let ordered = subst (λ (ks : List (String Global)). IsStrictlySortedBy string_cmp ks) (sym (keys_of-paired c.args.names.now)) c.requires in
    let equal : slice_cmp nat_cmp c.args.name.now (string_bytes e.0) ≡ Equal = ap (slice_cmp nat_cmp c.args.name.now) (sym c.as_str.ensures.value) ∙ sym c.in-Equal.ensures in
    place_here c.args.name.now es n e is (above_before c.args.name.now es n e ordered is equal) equal

pub loop-low-preserved : goal.loop-low-preserved
loop-low-preserved c =
    let es : List (String Global × ℕ) = paired c.args.names.now in
    let n : ℕ = c.loop-low.low + (c.loop-low.high - c.loop-low.low) / 2 in
    let e : String Global × ℕ = (c.index-names-middle.result, 0) in
    let is = at_name c.args.names.now n e.0 (middle_within c.loop-low.low c.loop-low.high (length c.args.names.now) c.loop-low-test.true c.loop-low.invariant.1) c.index-names-middle.is in
    let ordered = subst (λ (ks : List (String Global)). IsStrictlySortedBy string_cmp ks) (sym (keys_of-paired c.args.names.now)) c.requires in
    let greater : slice_cmp nat_cmp c.args.name.now (string_bytes e.0) ≡ Greater = ap (slice_cmp nat_cmp c.args.name.now) (sym c.as_str.ensures.value) ∙ sym c.in-Greater.ensures in
    (middle_next c.loop-low.low c.loop-low.high c.loop-low-test.true, c.loop-low.invariant.1, above_next c.args.name.now es n e ordered is greater, c.loop-low.invariant.3)

pub loop-low-preserved-in-Less : goal.loop-low-preserved-in-Less
loop-low-preserved-in-Less c =
    let es : List (String Global × ℕ) = paired c.args.names.now in
    let n : ℕ = c.loop-low.low + (c.loop-low.high - c.loop-low.low) / 2 in
    let e : String Global × ℕ = (c.index-names-middle.result, 0) in
    let lt = middle_within c.loop-low.low c.loop-low.high (length c.args.names.now) c.loop-low-test.true c.loop-low.invariant.1 in
    let is = at_name c.args.names.now n e.0 lt c.index-names-middle.is in
    let less : slice_cmp nat_cmp c.args.name.now (string_bytes e.0) ≡ Less = ap (slice_cmp nat_cmp c.args.name.now) (sym c.as_str.ensures.value) ∙ sym c.in-Less.ensures in (
      omega arith,
      omega (arith, lt),
      c.loop-low.invariant.2,
      λ x at. let same : e ≡ x = cc in subst (λ (y : String Global × ℕ). slice_cmp nat_cmp c.args.name.now (string_bytes y.0) ≡ Less) same less,
    )

pub returns : goal.returns
returns c =
    let es : List (String Global × ℕ) = paired c.args.names.now in
    let same : c.loop-low.low ≡ c.loop-low.high = omega (arith, c.loop-low-test.false, c.loop-low.invariant.0) in
    place_between c.args.name.now es c.loop-low.low (omega (arith, c.loop-low.invariant.0, c.loop-low.invariant.1, length-paired c.args.names.now)) c.loop-low.invariant.2
    (λ e is. c.loop-low.invariant.3 e (subst (λ (m : ℕ). slice_get es m ≡ Some e) same is))
