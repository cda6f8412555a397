use Rattle.std.proofs.Common.{rules, arith, ◌≡◌, ◌≤◌, ◌*◌, ◌∙◌, ℕ, true, false, not, length, refl, sym}
use Rattle.pb_planes.specs.Words.{bools, has_at}
use Rattle.pb_planes.proofs.Sets.{some_some, some_none}
use Rattle.pb_planes.proofs.Spans.{nowhere}
use Rattle.pb_planes.proofs.host_set.HostSet.is_empty.Goals as goal

pub returns-in-Some : goal.returns-in-Some
returns-in-Some c =
    let view : bools c.as_slice.result.now c.self.inside.width ≡ c.args.self.now = rw (c.as_slice.ensures.value) c.self.view_is in
    let past : (k : ℕ) → c.self.inside.width ≤ k → has_at c.as_slice.result.now k ≡ false = λ k le. rw (c.as_slice.ensures.value) (c.self.invariant.2 k le) in
    rw (some_some c.as_slice.result.now c.self.inside.width c.in-Some.field-0 c.args.self.now view past c.in-Some.ensures.some.1) refl

pub returns-in-None : goal.returns-in-None
returns-in-None c =
    let view : bools c.as_slice.result.now c.self.inside.width ≡ c.args.self.now = rw (c.as_slice.ensures.value) c.self.view_is in
    let past : (k : ℕ) → c.self.inside.width ≤ k → has_at c.as_slice.result.now k ≡ false = λ k le. rw (c.as_slice.ensures.value) (c.self.invariant.2 k le) in
    let none : (i : ℕ) → 0 ≤ i → has_at c.as_slice.result.now i ≡ false =
    λ i low. nowhere c.as_slice.result.now c.self.inside.span.low c.self.inside.span.high i (rw (c.as_slice.ensures.value) (c.self.invariant.4)) (λ from to. c.in-None.ensures.none i (omega (arith, from)) to) in
    rw (some_none c.as_slice.result.now c.self.inside.width c.args.self.now view none) refl
