use Rattle.std.proofs.Common.{arith, ◌≡◌, ◌≢◌, ◌∙◌, ◌+◌, ◌*◌, ◌/◌, ◌≤◌, ℕ, false, drop, length, sym}
use Rattle.pb_planes.specs.Set.{is_in}
use Rattle.pb_planes.specs.Words.{has_at}
use Rattle.pb_planes.proofs.Sets.{width_is, has_bools, written_back}
use Rattle.pb_planes.proofs.Spans.{word_within}
use Rattle.pb_planes.proofs.host_set.HostSet.put_word.Goals as goal

pub put_word-requires : goal.put_word-requires
put_word-requires c =
    let wide = width_is c.self.inside.words.items c.self.inside.width c.args.self.now c.self.view_is in
    let below = c.requires in
    let long = c.as_mut_slice.ensures.len in
    let held = c.self.invariant.1 in
    omega arith

pub tightened-self-inside-requires : goal.tightened-self-inside-requires
tightened-self-inside-requires c =
    let wide = width_is c.self.inside.words.items c.self.inside.width c.args.self.now c.self.view_is in
    let within = c.with_word-span.ensures.within c.self.inside.words.len c.self.invariant.3 (omega (arith, c.requires, wide, c.self.invariant.1)) in
    omega (arith, c.as_slice.ensures.len, within)

pub invariant_of-self : goal.invariant_of-self
invariant_of-self c =
    let wide = width_is c.self.inside.words.items c.self.inside.width c.args.self.now c.self.view_is in
    let below = c.requires in
    let new = c.put_word.new.words in
    let back = written_back c.self.inside.words.len new (drop (length new) c.self.inside.words.items) (c.put_word.ensures.long ∙ c.as_mut_slice.ensures.len) in (
      c.self.invariant.0,
      c.self.invariant.1,
      λ i le.
          let other : i / 64 ≢ c.args.index = λ e. omega (arith, e, wide, below, le) in
          let was : has_at new i ≡ has_at c.as_mut_slice.result.now i = c.put_word.ensures.others i other in
          let out : has_at c.as_mut_slice.result.now i ≡ false = rw (c.as_mut_slice.ensures.value) (c.self.invariant.2 i le) in
          rw back (was ∙ out),
      omega (arith, c.as_slice.ensures.len, c.tightened-self-inside.ensures.within),
      rw (← c.as_slice.ensures.value)
          (c.tightened-self-inside.ensures.span
          (rw (c.as_slice.ensures.value, back)
          (word_within c.as_mut_slice.result.now new c.self.inside.span.low c.self.inside.span.high _ _ c.args.index c.put_word.ensures.others c.with_word-span.ensures.low c.with_word-span.ensures.high c.with_word-span.ensures.all
          (rw (c.as_mut_slice.ensures.value) (c.self.invariant.4))))),
    )

pub returns-clause-inside : goal.returns-clause-inside
returns-clause-inside c j lt =
    let wide = width_is c.self.inside.words.items c.self.inside.width c.args.self.now c.self.view_is in
    let below = c.requires in
    let new = c.put_word.new.words in
    let back = written_back c.self.inside.words.len new (drop (length new) c.self.inside.words.items) (c.put_word.ensures.long ∙ c.as_mut_slice.ensures.len) in
    let out : (i : ℕ) → c.self.inside.width ≤ i → has_at new i ≡ false =
    λ i le.
    let other : i / 64 ≢ c.args.index = λ e. omega (arith, e, wide, below, le) in
    let was : has_at new i ≡ has_at c.as_mut_slice.result.now i = c.put_word.ensures.others i other in
    let none : has_at c.as_mut_slice.result.now i ≡ false = rw (c.as_mut_slice.ensures.value) (c.self.invariant.2 i le) in
    was ∙ none in
    rw back (has_bools new c.self.inside.width (64 * c.args.index + j) out ∙ c.put_word.ensures.inside j lt)

pub returns-clause-others : goal.returns-clause-others
returns-clause-others c i other =
    let wide = width_is c.self.inside.words.items c.self.inside.width c.args.self.now c.self.view_is in
    let below = c.requires in
    let new = c.put_word.new.words in
    let back = written_back c.self.inside.words.len new (drop (length new) c.self.inside.words.items) (c.put_word.ensures.long ∙ c.as_mut_slice.ensures.len) in
    let out : (k : ℕ) → c.self.inside.width ≤ k → has_at new k ≡ false =
    λ k le.
    let far : k / 64 ≢ c.args.index = λ e. omega (arith, e, wide, below, le) in
    let was : has_at new k ≡ has_at c.as_mut_slice.result.now k = c.put_word.ensures.others k far in
    let none : has_at c.as_mut_slice.result.now k ≡ false = rw (c.as_mut_slice.ensures.value) (c.self.invariant.2 k le) in
    was ∙ none in
    let held : is_in c.args.self.now i ≡ has_at c.self.inside.words.items i = rw (← c.self.view_is) (has_bools c.self.inside.words.items c.self.inside.width i c.self.invariant.2) in
    let same : has_at new i ≡ has_at c.self.inside.words.items i = rw (← c.as_mut_slice.ensures.value) (c.put_word.ensures.others i other) in
    rw back (has_bools new c.self.inside.width i out ∙ same ∙ sym held)
