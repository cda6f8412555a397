use Rattle.std.proofs.Common.{rules, arith, ◌≡◌, ◌≤◌, ◌*◌, ◌∙◌, ℕ, true, false, not, length, refl, sym}
use Rattle.pb_planes.specs.Words.{bools, has_at}
use Rattle.pb_planes.proofs.Sets.{nth_some, count_is}
use Rattle.pb_planes.proofs.host_set.HostSet.nth.Goals as goal

pub returns-in-Some-clause-some : goal.returns-in-Some-clause-some
returns-in-Some-clause-some c =
    let view : bools c.as_slice.result.now c.self.inside.width ≡ c.args.self.now = rw (c.as_slice.ensures.value) c.self.view_is in
    let past : (k : ℕ) → c.self.inside.width ≤ k → has_at c.as_slice.result.now k ≡ false = λ k le. rw (c.as_slice.ensures.value) (c.self.invariant.2 k le) in
    nth_some c.as_slice.result.now c.self.inside.width c.args.before c.args.self.now c.in-Some.at view past c.in-Some.ensures.some

pub returns-in-None-clause-none : goal.returns-in-None-clause-none
returns-in-None-clause-none c =
    let view : bools c.as_slice.result.now c.self.inside.width ≡ c.args.self.now = rw (c.as_slice.ensures.value) c.self.view_is in
    let past : (k : ℕ) → c.self.inside.width ≤ k → has_at c.as_slice.result.now k ≡ false = λ k le. rw (c.as_slice.ensures.value) (c.self.invariant.2 k le) in
    let held = c.self.invariant.1 in
    let long = c.as_slice.ensures.len in
    let all = count_is c.as_slice.result.now c.self.inside.width (64 * length c.as_slice.result.now) c.args.self.now view (omega arith) past in
    let most = c.in-None.ensures.none in
    omega arith
