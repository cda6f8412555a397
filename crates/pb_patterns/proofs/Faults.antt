-- Where texts are cut behind their marks, and elements one after another.
use Rattle.std.proofs.Common.{◌≡◌, ℕ, ◌+◌, ◌<◌, ◌==◌, Bool, true, false, List, [], ◌∷◌, ◌++◌, Result, Ok, Err, refl, sym, ◌∙◌, ap, subst, length, get_or, take, drop, arith, eqb-true}
use Rattle.std.specs.Prelude.{Some, position, if◌then◌else◌}
use Rattle.std.specs.Str.{IsUtf8, IsCharBoundary}
use Rattle.std.proofs.lemmas.Str.{IsCharBoundary-before_ascii, IsCharBoundary-after_ascii}
use Rattle.std.proofs.lemmas.List.{take_more, drop_more, take-append-drop}
use Rattle.std.proofs.lemmas.List.Quantifiers.{position-Some}
use Rattle.pb_value.specs.Reading.{and_then}
use Rattle.pb_patterns.specs.declared.element.Element.{Element}
use Rattle.pb_patterns.specs.declared.element.Mark.{Mark}
use Rattle.pb_patterns.specs.declared.element.Mark.TheVariants as mark
use Rattle.pb_patterns.specs.declared.fault.PatFault.{PatFault}
use Rattle.pb_patterns.specs.declared.fault.PatFault.TheVariants as fault
use Rattle.pb_patterns.specs.Reading.{mark_of, is_regex, element_of, each_of}

marked_ascii : (b : ℕ) (s t : Bool) → (b == 38) ≡ s → (b == 33) ≡ t → ((if s then mark.Met else (if t then mark.Excluded else mark.Unmarked)) ≡ mark.Unmarked → ⊥) → b < 128
marked_ascii b true t e f h = let is : b ≡ 38 = eqb-true b 38 e in omega arith
marked_ascii b false true e f h = let is : b ≡ 33 = eqb-true b 33 f in omega arith
marked_ascii b false false e f h = absurd (h refl)

marked_front : (bs : List ℕ) → (mark_of bs ≡ mark.Unmarked → ⊥) → (0 < length bs) × (get_or bs 0 0 < 128)
marked_front [] h = absurd (h refl)
marked_front (b ∷ bs) h = (omega arith, marked_ascii b (b == 38) (b == 33) refl refl h)

pub mark_cut : (text bs : List ℕ) (m : Mark) → bs ≡ text → IsUtf8 bs → m ≡ mark_of bs → (m ≡ mark.Unmarked → ⊥) → IsCharBoundary text 1
mark_cut text bs m same u is h =
    let front = marked_front bs (λ e. h (is ∙ e)) in subst (λ t. IsCharBoundary t 1) same (IsCharBoundary-after_ascii bs 0 u front.0 front.1)

pub byte_cut : (text bs : List ℕ) (x at : ℕ) → bs ≡ text → x < 128 → position (λ b. b == x) bs ≡ Some at → IsCharBoundary text at
byte_cut text bs x at same small found =
    let there = position-Some (λ b. b == x) bs at 0 found in
    let is : get_or bs at 0 ≡ x = eqb-true _ _ there.1 in
    subst (λ t. IsCharBoundary t at) same (IsCharBoundary-before_ascii bs at there.0 (omega (arith, is)))

regex_front : (bs : List ℕ) → is_regex bs ≡ true → (0 < length bs) × (get_or bs 0 0 ≡ 126)
regex_front [] h = cc
regex_front (b ∷ bs) h = (omega arith, eqb-true b 126 h)

pub regex_cut : (text bytes : List ℕ) → bytes ≡ text → IsUtf8 bytes → is_regex bytes ≡ true → IsCharBoundary text 1
regex_cut text bytes same u h =
    let front = regex_front bytes h in subst (λ t. IsCharBoundary t 1) same (IsCharBoundary-after_ascii bytes 0 u front.0 (omega (arith, front.1)))

-- elements one after another
pub one_first : (a : Result Element PatFault) (r : Result (List Element) PatFault) (es : List Element) → and_then a (λ e. and_then r (λ es. Ok (e ∷ es))) ≡ Ok es
    → (e : Element) × (rest : List Element) × (a ≡ Ok e) × (r ≡ Ok rest) × (es ≡ e ∷ rest)
one_first (Ok e) (Ok rest) es h = (e, rest, refl, refl, cc)
one_first (Ok e) (Err f) es h = cc
one_first (Err f) r es h = cc

pub cut_at : (texts : List (List ℕ)) (i : ℕ) (d : List ℕ) → i < length texts → texts ≡ take i texts ++ get_or texts i d ∷ drop (i + 1) texts
cut_at texts i d w = sym (take-append-drop i texts) ∙ ap (λ t. take i texts ++ t) (drop_more texts i d w)

both_ok : (a : Result Element PatFault) (e : Element) (r : Result (List Element) PatFault) (es : List Element) → a ≡ Ok e → r ≡ Ok es → and_then a (λ e. and_then r (λ es. Ok (e ∷ es))) ≡ Ok (e ∷ es)
both_ok a e r es is ok = rw (is, ok) refl

-- one more element
pushed : (xs : List (List ℕ)) (t : List ℕ) (es : List Element) (e : Element) → each_of xs ≡ Ok es → element_of t ≡ Ok e → each_of (xs ++ t ∷ []) ≡ Ok (es ++ e ∷ [])
pushed [] t es e ok one = let none : [] ≡ es = cc in both_ok _ e _ [] one refl ∙ ap (λ l. Ok (l ++ e ∷ [])) none
pushed (x ∷ xs) t es e ok one =
    let first = one_first (element_of x) (each_of xs) es ok in
    both_ok _ first.0 _ (first.1 ++ e ∷ []) first.2 (pushed xs t first.1 e first.3 one) ∙ ap (λ l. Ok (l ++ e ∷ [])) (sym first.4)

pub one_more : (texts : List (List ℕ)) (i : ℕ) (t s : List ℕ) (es : List Element) (e : Element) → i < length texts → t ≡ get_or texts i t → s ≡ t → each_of (take i texts) ≡ Ok es
    → element_of s ≡ Ok e → each_of (take (i + 1) texts) ≡ Ok (es ++ e ∷ [])
one_more texts i t s es e w is same ok one =
    ap (each_of) (take_more texts i t w) ∙ pushed (take i texts) (get_or texts i t) es e ok (ap (element_of) (sym (same ∙ is)) ∙ one)
