-- The number that a text writes.
use Rattle.std.proofs.Common.{◌≡◌, ◌≢◌, ℕ, zero, suc, ℤ, ◌+◌, ◌*◌, ◌-◌, ◌^◌, ◌<◌, ◌≤◌, Bool, true, false, ◌==◌, ◌&&◌, List, [], ◌∷◌, Option, Some, None, Result, Ok, Err, drop, get_or, length, refl, ap, subst, sym, ◌∙◌, arith, rules}
use Rattle.std.proofs.lemmas.Bool.Decides.{nat_tests}
use Rattle.std.proofs.lemmas.Str.Parse.{IsNumeralModel, numerals_by_fold, tells_all_ascii_digits, parse_signed_minus, parse_signed_plus, parse_signed_plain}
use Rattle.std.specs.Prelude.{pos, negsuc, neg_ℤ, nat_lt, if◌then◌else◌}
use Rattle.std.specs.Option.{option_map}
use Rattle.std.specs.Result.{OkIff}
use Rattle.std.specs.Str.{all_ascii_digits}
use Rattle.std.specs.Str.Parse.{ParsesSigned}
use Rattle.pb_expr_syntax.specs.Tokens.{number_after}
use Rattle.pb_operators.specs.Values.{fits}
use Rattle.pb_operators.specs.Operators.{natural, signed, or_zero}
use mir.Syntax.{w64}

own : IsNumeralModel (λ ds. all_ascii_digits ds ≡ true) (number_after 0)
own = numerals_by_fold _ tells_all_ascii_digits number_after (search rules)

below : (a b : ℕ) → nat_lt a b ≡ true → a < b
below a b h = grind (arith, nat_tests)

above : (a b : ℕ) → a < b → nat_lt a b ≡ true
above a b h = grind (arith, nat_tests)

equal : (a b : ℕ) → (a == b) ≡ true → a ≡ b
equal a b h = grind (arith, nat_tests)

unequal : (a b : ℕ) → (a == b) ≡ false → a ≢ b
unequal a b h = grind (arith, nat_tests)

-- the opposite of a number is within 64 bits where the number is at most 2 ^ 63
fits_below : (n : ℕ) → fits (neg_ℤ (pos n)) ≡ true → n ≤ 2 ^ 63
fits_below zero h = omega arith
fits_below (suc n) h = let l = below n (2 ^ 63) h in omega arith

fits_above : (n : ℕ) → n ≤ 2 ^ 63 → fits (neg_ℤ (pos n)) ≡ true
fits_above zero h = refl
fits_above (suc n) h = above n (2 ^ 63) (omega arith)

-- the number, or 0 where there is none
abbrev pub Reads : {E : Type 0} → Result ℤ E → ℤ → Type 0
Reads (Ok x) z = x ≡ z
Reads (Err e) z = pos 0 ≡ z

-- where the number is within 64 bits, it is what is read, else 0 is
read_if_within : {E : Type 0} (r : Result ℤ E) (z : ℤ) (Q : Type 0) (c : Bool) → (c ≡ true → Q) → (Q → c ≡ true) → OkIff r Q z → Reads r (if c then z else pos 0)
read_if_within (Ok x) z Q true to from h = h.1
read_if_within (Err e) z Q true to from h = absurd (h (to refl))
read_if_within (Ok x) z Q false to from h = let t : false ≡ true = from h.0 in cc
read_if_within (Err e) z Q false to from h = refl

-- where what is asked can't be, 0 is read
refused : {E : Type 0} (r : Result ℤ E) (z : ℤ) (Q : Type 0) → (Q → ⊥) → OkIff r Q z → Reads r (pos 0)
refused (Ok x) z Q none h = absurd (none h.0)
refused (Err e) z Q none h = refl

abbrev IsWritten : List ℕ → Type 0 → Type 0
IsWritten ds Bound = (all_ascii_digits ds ≡ true) × (0 < length ds) × Bound

digits_plain : {E : Type 0} (r : Result ℤ E) (ds : List ℕ) → OkIff r (IsWritten ds (number_after 0 ds < 2 ^ 63)) (pos (number_after 0 ds)) → Reads r (or_zero (option_map (λ n. pos n) (natural ds)))
digits_plain r [] h = refused r (pos 0) (IsWritten [] (0 < 2 ^ 63)) (λ q. let l : 0 < 0 = q.1 in omega arith) h
digits_plain r (d ∷ ds) h = by_digits (all_ascii_digits (d ∷ ds)) refl
  where
    by_digits : (b : Bool) → all_ascii_digits (d ∷ ds) ≡ b → Reads r (or_zero (option_map (λ n. pos n) (if b then Some (number_after 0 (d ∷ ds)) else None)))
    by_digits true e = read_if_within r (pos (number_after 0 (d ∷ ds))) (IsWritten (d ∷ ds) (number_after 0 (d ∷ ds) < 2 ^ 63)) (nat_lt (number_after 0 (d ∷ ds)) (2 ^ 63))
        (λ t. (e, omega arith, below (number_after 0 (d ∷ ds)) (2 ^ 63) t)) (λ q. above (number_after 0 (d ∷ ds)) (2 ^ 63) q.2) h
    by_digits false e = refused r (pos (number_after 0 (d ∷ ds))) (IsWritten (d ∷ ds) (number_after 0 (d ∷ ds) < 2 ^ 63)) (λ q. let t : false ≡ true = sym e ∙ q.0 in cc) h

digits_minus : {E : Type 0} (r : Result ℤ E) (ds : List ℕ) → OkIff r (IsWritten ds (number_after 0 ds ≤ 2 ^ 63)) (neg_ℤ (pos (number_after 0 ds))) → Reads r (or_zero (option_map (λ n. neg_ℤ (pos n)) (natural ds)))
digits_minus r [] h = refused r (pos 0) (IsWritten [] (0 ≤ 2 ^ 63)) (λ q. let l : 0 < 0 = q.1 in omega arith) h
digits_minus r (d ∷ ds) h = by_digits (all_ascii_digits (d ∷ ds)) refl
  where
    by_digits : (b : Bool) → all_ascii_digits (d ∷ ds) ≡ b → Reads r (or_zero (option_map (λ n. neg_ℤ (pos n)) (if b then Some (number_after 0 (d ∷ ds)) else None)))
    by_digits true e = read_if_within r (neg_ℤ (pos (number_after 0 (d ∷ ds)))) (IsWritten (d ∷ ds) (number_after 0 (d ∷ ds) ≤ 2 ^ 63)) (fits (neg_ℤ (pos (number_after 0 (d ∷ ds)))))
        (λ t. (e, omega arith, fits_below (number_after 0 (d ∷ ds)) t)) (λ q. fits_above (number_after 0 (d ∷ ds)) q.2) h
    by_digits false e = refused r (neg_ℤ (pos (number_after 0 (d ∷ ds)))) (IsWritten (d ∷ ds) (number_after 0 (d ∷ ds) ≤ 2 ^ 63)) (λ q. let t : false ≡ true = sym e ∙ q.0 in cc) h

signed_read : {E : Type 0} (b : ℕ) (bs : List ℕ) (r : Result ℤ E) (minus plus : Bool) → (b == 45) ≡ minus → (b == 43) ≡ plus → ParsesSigned w64 10 (b ∷ bs) r →
    Reads r (or_zero (if minus then option_map (λ n. neg_ℤ (pos n)) (natural bs) else if plus then option_map (λ n. pos n) (natural bs) else option_map (λ n. pos n) (natural (b ∷ bs))))
signed_read b bs r true plus em ep h = digits_minus r bs (parse_signed_minus own w64 (b ∷ bs) r h (equal b 45 em))
signed_read b bs r false true em ep h = digits_plain r bs (parse_signed_plus own w64 (b ∷ bs) r h (equal b 43 ep))
signed_read b bs r false false em ep h = digits_plain r (b ∷ bs) (parse_signed_plain own w64 (b ∷ bs) r h (unequal b 43 ep) (unequal b 45 em))

pub number_read : {E : Type 0} (bs : List ℕ) (r : Result ℤ E) → ParsesSigned w64 10 bs r → Reads r (or_zero (signed bs))
number_read [] r h = digits_plain r [] (parse_signed_plain own w64 [] r h (unequal 0 43 refl) (unequal 0 45 refl))
number_read (b ∷ bs) r h = signed_read b bs r (b == 45) (b == 43) refl refl h
