use Rattle.std.proofs.Common.{rules, arith, ◌≡◌, ◌∙◌, refl, false, length, drop}
use Rattle.pb_planes.specs.Words.{bools, has_at}
use Rattle.pb_planes.proofs.Sets.{same_width, written_back, has_combined, combined_bools, past_combined}
use Rattle.pb_planes.proofs.Spans.{combined_within}
use Rattle.pb_planes.proofs.host_set.HostSet.combine.Goals as goal

pub combine_words-requires : goal.combine_words-requires
combine_words-requires c =
    let mine : bools c.self.inside.words.items c.self.inside.width ≡ c.args.self.now = c.self.view_is in
    let its : bools c.other.inside.words.items c.other.inside.width ≡ c.args.other.now = c.other.view_is in
    let w = same_width c.self.inside.words.items c.other.inside.words.items c.self.inside.width c.other.inside.width (rw (mine, its) c.requires) in
    let m = c.self.invariant.1 in
    let o = c.other.invariant.1 in
    let a = c.as_mut_slice.ensures.len in
    let b = c.as_slice.ensures.len in
    rw (a, b, m, o, w) refl

pub tightened-self-inside-requires : goal.tightened-self-inside-requires
tightened-self-inside-requires c =
    let mine : bools c.self.inside.words.items c.self.inside.width ≡ c.args.self.now = c.self.view_is in
    let its : bools c.other.inside.words.items c.other.inside.width ≡ c.args.other.now = c.other.view_is in
    let w = same_width c.self.inside.words.items c.other.inside.words.items c.self.inside.width c.other.inside.width (rw (mine, its) c.requires) in
    let within = c.of_both-span.ensures.within c.self.inside.words.len c.self.invariant.3 (omega (arith, c.other.invariant.3, c.self.invariant.1, c.other.invariant.1, w)) in
    omega (arith, c.as_slice-2.ensures.len, within)

pub invariant_of-self : goal.invariant_of-self
invariant_of-self c =
    let new = c.combine_words.new.to in
    let mine : bools c.self.inside.words.items c.self.inside.width ≡ c.args.self.now = c.self.view_is in
    let its : bools c.other.inside.words.items c.other.inside.width ≡ c.args.other.now = c.other.view_is in
    let w = same_width c.self.inside.words.items c.other.inside.words.items c.self.inside.width c.other.inside.width (rw (mine, its) c.requires) in
    let m = c.self.invariant.1 in
    let o = c.other.invariant.1 in
    let la = c.as_mut_slice.ensures.len in
    let lb = c.as_slice.ensures.len in
    let same : length c.as_mut_slice.result.now ≡ length c.as_slice.result.now = rw (la, lb, m, o, w) refl in
    let back = written_back c.self.inside.words.len new (drop (length new) c.self.inside.words.items) (c.combine_words.ensures.long ∙ c.as_mut_slice.ensures.len) in
    let each = has_combined c.args.how new c.as_mut_slice.result.now c.as_slice.result.now c.combine_words.ensures.long same c.combine_words.ensures.words in (
      c.self.invariant.0,
      c.self.invariant.1,
      λ i le.
          let a : has_at c.as_mut_slice.result.now i ≡ false = rw (c.as_mut_slice.ensures.value) (c.self.invariant.2 i le) in
          let b : has_at c.as_slice.result.now i ≡ false = rw (c.as_slice.ensures.value) (c.other.invariant.2 i (omega (arith, le, w))) in
          rw back (each i ∙ past_combined c.args.how c.as_mut_slice.result.now c.as_slice.result.now i a b),
      omega (arith, c.as_slice-2.ensures.len, c.tightened-self-inside.ensures.within),
      rw (← c.as_slice-2.ensures.value)
          (c.tightened-self-inside.ensures.span
          (rw (c.as_slice-2.ensures.value, back)
          (combined_within c.args.how new c.as_mut_slice.result.now c.as_slice.result.now c.self.inside.span.low c.self.inside.span.high c.other.inside.span.low c.other.inside.span.high _ _ each c.of_both-span.ensures.one c.of_both-span.ensures.other
          (rw (c.as_mut_slice.ensures.value) (c.self.invariant.4)) (rw (c.as_slice.ensures.value) (c.other.invariant.4))))),
    )

pub returns : goal.returns
returns c =
    let new = c.combine_words.new.to in
    let mine : bools c.self.inside.words.items c.self.inside.width ≡ c.args.self.now = c.self.view_is in
    let its : bools c.other.inside.words.items c.other.inside.width ≡ c.args.other.now = c.other.view_is in
    let w = same_width c.self.inside.words.items c.other.inside.words.items c.self.inside.width c.other.inside.width (rw (mine, its) c.requires) in
    let m = c.self.invariant.1 in
    let o = c.other.invariant.1 in
    let la = c.as_mut_slice.ensures.len in
    let lb = c.as_slice.ensures.len in
    let same : length c.as_mut_slice.result.now ≡ length c.as_slice.result.now = rw (la, lb, m, o, w) refl in
    let back = written_back c.self.inside.words.len new (drop (length new) c.self.inside.words.items) (c.combine_words.ensures.long ∙ c.as_mut_slice.ensures.len) in
    let each = has_combined c.args.how new c.as_mut_slice.result.now c.as_slice.result.now c.combine_words.ensures.long same c.combine_words.ensures.words in
    let all = combined_bools c.args.how new c.as_mut_slice.result.now c.as_slice.result.now c.self.inside.width each in
    let ours : bools c.as_mut_slice.result.now c.self.inside.width ≡ c.args.self.now = rw (c.as_mut_slice.ensures.value) mine in
    let theirs : bools c.as_slice.result.now c.self.inside.width ≡ c.args.other.now = rw (c.as_slice.ensures.value, w) its in
    rw (back, all, ours, theirs) refl
