use Rattle.std.proofs.Common.{◌≡◌, ℕ, ◌+◌, ◌-◌, ◌/◌, Some, length, sym, subst, arith}
use Rattle.std.specs.Prelude.{slice_get}
use Rattle.pb_value.proofs.Placed.{at_place, middle_within, middle_next}
use Rattle.pb_layers.proofs.LentMaps.{Entry, value_here, above_next, none_between}
use Rattle.pb_layers.proofs.lent.find.Goals as goal

pub returns-in-Equal : goal.returns-in-Equal
returns-in-Equal c =
    let n : ℕ = c.loop-low.low + (c.loop-low.high - c.loop-low.low) / 2 in
    let within = middle_within c.loop-low.low c.loop-low.high (length c.args.entries.now) c.loop-low-test.true c.loop-low.invariant.1 in
    let e : Entry = c.index-entries-middle.result in
    let is = at_place c.args.entries.now n e within c.index-entries-middle.is in
    value_here c.args.name.now c.args.entries.now n e c.requires is (sym c.in-Equal.ensures)

pub loop-low-preserved : goal.loop-low-preserved
loop-low-preserved c =
    let n : ℕ = c.loop-low.low + (c.loop-low.high - c.loop-low.low) / 2 in
    let within = middle_within c.loop-low.low c.loop-low.high (length c.args.entries.now) c.loop-low-test.true c.loop-low.invariant.1 in
    let e : Entry = c.index-entries-middle.result in
    let is = at_place c.args.entries.now n e within c.index-entries-middle.is in
    (middle_next c.loop-low.low c.loop-low.high c.loop-low-test.true, c.loop-low.invariant.1, above_next c.args.name.now c.args.entries.now n e c.requires is (sym c.in-Greater.ensures), c.loop-low.invariant.3)

pub returns : goal.returns
returns c =
    let same : c.loop-low.low ≡ c.loop-low.high = omega (arith, c.loop-low-test.false, c.loop-low.invariant.0) in
    none_between c.args.name.now c.args.entries.now c.loop-low.low c.requires (omega (arith, c.loop-low.invariant.0, c.loop-low.invariant.1)) c.loop-low.invariant.2
    (λ e is. c.loop-low.invariant.3 e (subst (λ (m : ℕ). slice_get c.args.entries.now m ≡ Some e) same is))
