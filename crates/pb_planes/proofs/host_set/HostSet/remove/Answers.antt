use Rattle.std.proofs.Common.{rules, arith, ◌≡◌, ◌≢◌, ◌<◌, ◌≤◌, ◌/◌, ◌∙◌, true, false, drop, length}
use Rattle.pb_planes.specs.Words.{bools, has_at, AreBetween}
use Rattle.pb_planes.proofs.Sets.{width_is, put_is, written_back}
use Rattle.pb_planes.proofs.Spans.{taken_within}
use Rattle.pb_planes.proofs.host_set.HostSet.remove.Goals as goal

pub put_bit-requires : goal.put_bit-requires
put_bit-requires c =
    let wide = width_is c.self.inside.words.items c.self.inside.width c.args.self.now c.self.view_is in
    let below = c.requires in
    let long = c.as_mut_slice.ensures.len in
    let held = c.self.invariant.1 in
    omega arith

pub tightened-self-inside-requires : goal.tightened-self-inside-requires
tightened-self-inside-requires c = omega (arith, c.as_slice.ensures.len, c.self.invariant.3)

pub invariant_of-self : goal.invariant_of-self
invariant_of-self c =
    let wide = width_is c.self.inside.words.items c.self.inside.width c.args.self.now c.self.view_is in
    let below = c.requires in
    let new = c.put_bit.new.words in
    let back = written_back c.self.inside.words.len new (drop (length new) c.self.inside.words.items) (c.put_bit.ensures.long ∙ c.as_mut_slice.ensures.len) in (
      c.self.invariant.0,
      c.self.invariant.1,
      λ i le.
          let other : i ≢ c.args.host.0 = λ e. omega (arith, e, wide, below, le) in
          let was : has_at new i ≡ has_at c.as_mut_slice.result.now i = c.put_bit.ensures.others i other in
          let out : has_at c.as_mut_slice.result.now i ≡ false = rw (c.as_mut_slice.ensures.value) (c.self.invariant.2 i le) in
          rw back (was ∙ out),
      omega (arith, c.as_slice.ensures.len, c.tightened-self-inside.ensures.within),
      rw (← c.as_slice.ensures.value)
          (c.tightened-self-inside.ensures.span
          (rw (c.as_slice.ensures.value, back)
          (taken_within c.as_mut_slice.result.now new c.self.inside.span.low c.self.inside.span.high c.args.host.0 c.put_bit.ensures.others c.put_bit.ensures.here (rw (c.as_mut_slice.ensures.value) (c.self.invariant.4))))),
    )

pub returns : goal.returns
returns c =
    let wide = width_is c.self.inside.words.items c.self.inside.width c.args.self.now c.self.view_is in
    let below = c.requires in
    let new = c.put_bit.new.words in
    let back = written_back c.self.inside.words.len new (drop (length new) c.self.inside.words.items) (c.put_bit.ensures.long ∙ c.as_mut_slice.ensures.len) in
    let view : bools c.as_mut_slice.result.now c.self.inside.width ≡ c.args.self.now = rw (c.as_mut_slice.ensures.value) c.self.view_is in
    let put = put_is c.as_mut_slice.result.now new c.self.inside.width c.args.host.0 false c.args.self.now view (omega arith) c.put_bit.ensures.here c.put_bit.ensures.others in
    rw back put
