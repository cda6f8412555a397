-- How a row tells which ends of a pattern fit the characters so far.
use Rattle.std.proofs.Common.{◌≡◌, ℕ, ◌+◌, ◌<◌, ◌≤◌, ◌==◌, ◌&&◌, Bool, true, false, List, [], ◌∷◌, inl, inr, refl, sym, ◌∙◌, ap, length, length-set, get_or, set, drop, arith}
use Rattle.std.proofs.lemmas.List.{get_or-set_same, get_or-set_other, drop_more, drop_all, get_or_default}
use Rattle.std.proofs.lemmas.Bool.{cases_eq}
use Rattle.pb_patterns.specs.Globs.{fits, is_none}
use Rattle.pb_patterns.specs.Fitting.{IsRow, fits_none, fits_more}

-- the row tells of the ends from a place on
abbrev pub RowFrom : List ℕ → List ℕ → List Bool → ℕ → Type 0
RowFrom pattern cs row from = (length row ≡ length pattern + 1) × ((at : ℕ) → from ≤ at → at ≤ length pattern → get_or row at false ≡ fits (drop at pattern) cs)

pub row_more : (pattern cs : List ℕ) (row : List Bool) (v : Bool) (at from : ℕ) → at + 1 ≡ from → at < length pattern → RowFrom pattern cs row from → v ≡ fits (drop at pattern) cs → RowFrom pattern cs (set row at v) at
row_more pattern cs row v at from next w so_far is = (
  length-set row at v ∙ so_far.0,
  (λ k low high. elim (cases_eq k at) [
    | inl same ↦ ap (λ k. get_or (set row at v) k false) same ∙ get_or-set_same row at v false (omega (arith, w, so_far.0)) ∙ is ∙ ap (λ k. fits (drop k pattern) cs) (sym same)
    | inr other ↦ get_or-set_other row at k v false other ∙ so_far.1 k (omega (arith, low, other, next)) high
  ]),
)

-- ends that fit no character
none_by : (p : ℕ) (ps : List ℕ) (t : Bool) → (p == 42) ≡ t → ((p == 42) && fits ps []) ≡ fits (p ∷ ps) []
none_by p ps true e = rw e refl
none_by p ps false e = rw e refl

pub begins_more : (pattern : List ℕ) (row : List Bool) (v : Bool) (at from : ℕ) → at + 1 ≡ from → at < length pattern → RowFrom pattern [] row from
    → v ≡ ((get_or pattern at 0 == 42) && get_or row (at + 1) false) → RowFrom pattern [] (set row at v) at
begins_more pattern row v at from next w so_far is =
    row_more pattern [] row v at from next w so_far
    (is ∙ ap (λ b. (get_or pattern at 0 == 42) && b) (so_far.1 (at + 1) (omega (arith, next)) (omega (arith, w)))
    ∙ none_by (get_or pattern at 0) (drop (at + 1) pattern) (get_or pattern at 0 == 42) refl
    ∙ ap (λ ps. fits ps []) (sym (drop_more pattern at 0 w)))

-- one character more in front
more_by : (p c : ℕ) (ps cs : List ℕ) (t : Bool) → (p == 42) ≡ t → fits_more p c (fits ps (c ∷ cs)) (fits (p ∷ ps) cs) (fits ps cs) ≡ fits (p ∷ ps) (c ∷ cs)
more_by p c ps cs true e = rw e refl
more_by p c ps cs false e = rw e refl

abbrev pub Stepping : List ℕ → ℕ → List ℕ → Bool → List Bool → ℕ → Type 0
Stepping pattern c cs old_behind row from =
    RowFrom pattern (c ∷ cs) row from
    × ((at : ℕ) → at < from → get_or row at false ≡ fits (drop at pattern) cs)
    × (old_behind ≡ fits (drop from pattern) cs)

past_end : (pattern : List ℕ) (at : ℕ) (cs : List ℕ) → length pattern ≤ at → fits (drop at pattern) cs ≡ is_none cs
past_end pattern at cs w = ap (λ ps. fits ps cs) (drop_all at pattern w)

pub step_begun : (pattern : List ℕ) (c : ℕ) (cs : List ℕ) (row : List Bool) (last from : ℕ) (old : Bool) → last ≡ length pattern → from ≡ length pattern → IsRow pattern cs row → old ≡ get_or row last false
    → Stepping pattern c cs old (set row last false) from
step_begun pattern c cs row last from old size begin so_far is = (
  (
    length-set row last false ∙ so_far.0,
    (λ at low high.
        let here : at ≡ last = omega (arith, low, high, size, begin) in
        ap (λ k. get_or (set row last false) k false) here ∙ get_or-set_same row last false false (omega (arith, size, so_far.0)) ∙ sym (past_end pattern at (c ∷ cs) (omega (arith, low, begin)))),
  ),
  (λ at w. get_or-set_other row last at false false (λ e. absurd (omega (arith, e, w, size, begin))) ∙ so_far.1 at (omega (arith, w, begin))),
  is ∙ so_far.1 last (omega (arith, size)) ∙ ap (λ k. fits (drop k pattern) cs) (size ∙ sym begin),
)

pub steps_more : (pattern : List ℕ) (c : ℕ) (cs : List ℕ) (row : List Bool) (old_behind v : Bool) (at from : ℕ) → at + 1 ≡ from → at < length pattern → Stepping pattern c cs old_behind row from
    → v ≡ fits_more (get_or pattern at 0) c (get_or row (at + 1) false) (get_or row at false) old_behind → Stepping pattern c cs (get_or row at false) (set row at v) at
steps_more pattern c cs row old_behind v at from next w so_far is =
    let p = get_or pattern at 0 in
    let ps = drop (at + 1) pattern in
    let cut : drop at pattern ≡ p ∷ ps = drop_more pattern at 0 w in
    let behind : get_or row (at + 1) false ≡ fits ps (c ∷ cs) = so_far.0.1 (at + 1) (omega (arith, next)) (omega (arith, w)) in
    let old : get_or row at false ≡ fits (p ∷ ps) cs = so_far.1 at (omega (arith, next)) ∙ ap (λ ps. fits ps cs) cut in
    let before : old_behind ≡ fits ps cs = so_far.2 ∙ ap (λ k. fits (drop k pattern) cs) (sym next) in (
      row_more pattern (c ∷ cs) row v at from next w so_far.0
          (is ∙ ap (λ b. fits_more p c b (get_or row at false) old_behind) behind ∙ ap (λ b. fits_more p c (fits ps (c ∷ cs)) b old_behind) old ∙ ap (λ b. fits_more p c (fits ps (c ∷ cs)) (fits (p ∷ ps) cs) b) before
          ∙ more_by p c ps cs (p == 42) refl ∙ ap (λ ps. fits ps (c ∷ cs)) (sym cut)),
      (λ k below. get_or-set_other row at k v false (λ e. absurd (omega (arith, e, below))) ∙ so_far.1 k (omega (arith, below, next))),
      so_far.1 at (omega (arith, next)),
    )

pub row_begun : (pattern : List ℕ) (row : List Bool) (last from : ℕ) → last ≡ length pattern → from ≡ length pattern → length row ≡ length pattern + 1 → RowFrom pattern [] (set row last true) from
row_begun pattern row last from size begin long = (
  length-set row last true ∙ long,
  (λ at low high.
      let here : at ≡ last = omega (arith, low, high, size, begin) in
      ap (λ k. get_or (set row last true) k false) here ∙ get_or-set_same row last true false (omega (arith, size, long)) ∙ sym (past_end pattern at [] (omega (arith, low, begin)))),
)

pub row_whole : (pattern cs : List ℕ) (row : List Bool) (from : ℕ) → from ≡ 0 → RowFrom pattern cs row from → IsRow pattern cs row
row_whole pattern cs row from is so_far = (so_far.0, λ at high. so_far.1 at (omega (arith, is)) high)

pub row_fits : (pattern name : List ℕ) (row : List Bool) (from : ℕ) → from ≡ 0 → IsRow pattern (drop from name) row → get_or row 0 false ≡ fits pattern name
row_fits pattern name row from is so_far = so_far.1 0 (omega arith) ∙ ap (λ k. fits pattern (drop k name)) is

pub name_more : (pattern name : List ℕ) (row : List Bool) (at from c : ℕ) → at + 1 ≡ from → at < length name → c ≡ get_or name at 0 → IsRow pattern (c ∷ drop from name) row → IsRow pattern (drop at name) row
name_more pattern name row at from c next w is so_far =
    (so_far.0, λ k high. so_far.1 k high ∙ ap (fits (drop k pattern)) (ap (λ c. c ∷ drop from name) is ∙ ap (λ k. get_or name at 0 ∷ drop k name) (sym next) ∙ sym (drop_more name at 0 w)))

pub name_begun : (pattern name : List ℕ) (row : List Bool) (from : ℕ) → from ≡ length name → IsRow pattern [] row → IsRow pattern (drop from name) row
name_begun pattern name row from is so_far = (so_far.0, λ k high. so_far.1 k high ∙ ap (fits (drop k pattern)) (sym (drop_all from name (omega (arith, is)))))

-- the same steps as the code counts them
pub begins_at : (pattern : List ℕ) (row : List Bool) (v : Bool) (sign at from to : ℕ) → at + 1 ≡ from → to ≡ at → at < length pattern → sign ≡ get_or pattern at sign
    → v ≡ fits_none sign (get_or row (at + 1) false) → RowFrom pattern [] row from → RowFrom pattern [] (set row at v) to
begins_at pattern row v sign at from to next ends w read is so_far =
    rw ends
    (begins_more pattern row v at from next w so_far (is ∙ ap (λ p. (p == 42) && get_or row (at + 1) false) (read ∙ get_or_default pattern at sign 0 w)))

pub steps_at : (pattern : List ℕ) (c : ℕ) (cs : List ℕ) (row : List Bool) (old_behind v old : Bool) (sign at from to : ℕ) → at + 1 ≡ from → to ≡ at → at < length pattern → sign ≡ get_or pattern at sign
    → old ≡ get_or row at false → v ≡ fits_more sign c (get_or row (at + 1) false) old old_behind → Stepping pattern c cs old_behind row from → Stepping pattern c cs old (set row at v) to
steps_at pattern c cs row old_behind v old sign at from to next ends w read kept is so_far =
    rw (ends, kept)
    (steps_more pattern c cs row old_behind v at from next w so_far
    (is ∙ ap (λ p. fits_more p c (get_or row (at + 1) false) old old_behind) (read ∙ get_or_default pattern at sign 0 w)
    ∙ ap (λ b. fits_more (get_or pattern at 0) c (get_or row (at + 1) false) b old_behind) kept))

pub name_at : (pattern name : List ℕ) (row : List Bool) (at from to c : ℕ) → at + 1 ≡ from → to ≡ at → at < length name → c ≡ get_or name at c → IsRow pattern (c ∷ drop from name) row → IsRow pattern (drop to name) row
name_at pattern name row at from to c next ends w read so_far = rw ends (name_more pattern name row at from c next w (read ∙ get_or_default name at c 0 w) so_far)
