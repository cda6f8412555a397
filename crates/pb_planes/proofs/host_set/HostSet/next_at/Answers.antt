use Rattle.std.proofs.Common.{rules, arith, ◌≡◌, ◌≤◌, ◌*◌, ◌∙◌, ℕ, true, false, not, length, refl, sym}
use Rattle.pb_planes.specs.Words.{bools, has_at, AreBetween}
use Rattle.pb_planes.proofs.Sets.{next_some, next_none}
use Rattle.pb_planes.proofs.Spans.{next_within, none_within}
use Rattle.pb_planes.proofs.host_set.HostSet.next_at.Goals as goal

pub returns-in-Some-clause-some : goal.returns-in-Some-clause-some
returns-in-Some-clause-some c =
    let words = c.as_slice.result.now in
    let view : bools words c.self.inside.width ≡ c.args.self.now = rw (c.as_slice.ensures.value) c.self.view_is in
    let past : (k : ℕ) → c.self.inside.width ≤ k → has_at words k ≡ false = λ k le. rw (c.as_slice.ensures.value) (c.self.invariant.2 k le) in
    let between : AreBetween words c.self.inside.span.low c.self.inside.span.high = rw (c.as_slice.ensures.value) (c.self.invariant.4) in
    next_some words c.self.inside.width c.args.from c.args.self.now c.in-Some.at view past
    (next_within words c.self.inside.span.low c.self.inside.span.high c.args.from _ c.in-Some.at between c.begin-first.ensures.ahead c.begin-first.ensures.skipped c.in-Some.ensures.some)

pub returns-in-None-clause-none : goal.returns-in-None-clause-none
returns-in-None-clause-none c =
    let words = c.as_slice.result.now in
    let view : bools words c.self.inside.width ≡ c.args.self.now = rw (c.as_slice.ensures.value) c.self.view_is in
    let past : (k : ℕ) → c.self.inside.width ≤ k → has_at words k ≡ false = λ k le. rw (c.as_slice.ensures.value) (c.self.invariant.2 k le) in
    let between : AreBetween words c.self.inside.span.low c.self.inside.span.high = rw (c.as_slice.ensures.value) (c.self.invariant.4) in
    next_none words c.self.inside.width c.args.from c.args.self.now view past (none_within words c.self.inside.span.low c.self.inside.span.high c.args.from _ between c.begin-first.ensures.skipped c.in-None.ensures.none)
