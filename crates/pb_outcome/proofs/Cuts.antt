-- A text that is cut at its first LF.
use Rattle.std.proofs.Common.{◌≡◌, ℕ, ◌<◌, Bool, true, false, List, [], ◌∷◌, length, Option, Some, None, Bor, refl, ◌∙◌, arith, IfSome, IfNone, MatchOption}
use Rattle.std.specs.List.{slice_split, position_or_len, before_first, after_first}
use Rattle.std.proofs.lemmas.List.Splits.{slice_split_first, slice_split-cons_no}
use Rattle.std.proofs.lemmas.Grind.{common_steps}
use Rattle.pb_outcome.specs.Output.{is_newline}

abbrev Cut : List ℕ → Option (Bor (List ℕ) × Bor (List ℕ)) → Type 0
Cut bs r =
    MatchOption r (position_or_len is_newline bs ≡ length bs)
    (λ x. (position_or_len is_newline bs < length bs) × (x.0.now ≡ before_first is_newline bs) × (x.1.now ≡ after_first is_newline bs))

split-none_at : (b : ℕ) (bs : List ℕ) (t : Bool) → is_newline b ≡ t → (position_or_len is_newline bs ≡ length bs → slice_split is_newline bs ≡ bs ∷ [])
    → position_or_len is_newline (b ∷ bs) ≡ length (b ∷ bs) → slice_split is_newline (b ∷ bs) ≡ (b ∷ bs) ∷ []
split-none_at b bs true e k h = grind (arith, common_steps)
split-none_at b bs false e k h = slice_split-cons_no is_newline b bs e ∙ rw (k (grind (arith, common_steps))) refl

split-none : (bs : List ℕ) → position_or_len is_newline bs ≡ length bs → slice_split is_newline bs ≡ bs ∷ []
split-none [] h = refl
split-none (b ∷ bs) h = split-none_at b bs (is_newline b) refl (split-none bs) h

pub cut-some : (bs : List ℕ) (r : Option (Bor (List ℕ) × Bor (List ℕ))) → Cut bs r → IfSome r (λ x. slice_split is_newline bs ≡ x.0.now ∷ slice_split is_newline x.1.now)
cut-some bs None h = tt
cut-some bs (Some x) h = rw (h.1, h.2) (slice_split_first is_newline bs 0 h.0)

pub cut-none : (bs : List ℕ) (r : Option (Bor (List ℕ) × Bor (List ℕ))) → Cut bs r → IfNone r (slice_split is_newline bs ≡ bs ∷ [])
cut-none bs None h = split-none bs h
cut-none bs (Some x) h = tt
