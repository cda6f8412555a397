-- A front, and a front of what is behind it.
use Rattle.std.proofs.Common.{◌≡◌, ℕ, ◌+◌, ◌-◌, ◌≤◌, List, ◌++◌, length, take, drop, refl, ◌∙◌, ap, arith, length-take, length-drop, append_assoc}
use Rattle.std.proofs.lemmas.List.{take-append-drop, drop-take, take-take, take_all}
use Rattle.std.proofs.lemmas.Bool.{eqb-true}
use Rattle.std.specs.Prelude.{Bool, true, false, nat_eq, Option, Some, None, Result, Ok}
use Rattle.pb_driver.specs.Taken.{with_more, is_failed, counted}

pub piece_within : (at n : ℕ) (xs : List ℕ) → at ≤ length xs → n ≤ length (take (length xs - at) (drop at xs)) → at + n ≤ length xs
piece_within at n xs h m = omega (arith, simp (length-take, length-drop) at m)

pub piece : (at n : ℕ) (xs : List ℕ) → at ≤ length xs → take at xs ++ take n (take (length xs - at) (drop at xs)) ≡ take (at + n) xs
piece at n xs h =
    let rest : take (length xs - at) (drop at xs) ≡ drop at xs = take_all (length xs - at) (drop at xs) (simp length-drop (omega arith)) in
    let front : take at (take (at + n) xs) ≡ take at xs = take-take at (at + n) xs (omega arith) in
    rw (rest, ← drop-take at n xs, ← front) (take-append-drop at (take (at + n) xs))

pub more_more : (known : Option (List ℕ)) (a b : List ℕ) → with_more (with_more known a) b ≡ with_more known (a ++ b)
more_more None a b = refl
more_more (Some t) a b = ap Some (append_assoc t a b)

-- a front was taken, and then a front of what is behind it
pub piece_taken : (at n : ℕ) (xs : List ℕ) (old mid new : Option (List ℕ)) → at ≤ length xs → mid ≡ with_more old (take at xs) → new ≡ with_more mid (take n (take (length xs - at) (drop at xs))) → new ≡ with_more old (take (at + n) xs)
piece_taken at n xs old mid new h m e =
    e ∙ ap (λ (t : Option (List ℕ)). with_more t (take n (take (length xs - at) (drop at xs)))) m
    ∙ more_more old (take at xs) (take n (take (length xs - at) (drop at xs)))
    ∙ ap (with_more old) (piece at n xs h)

zero_not : (n : ℕ) (b : Bool) → nat_eq n 0 ≡ b → (n ≡ 0 → ⊥) → b ≡ false
zero_not n true e some = absurd (some (eqb-true n 0 e))
zero_not n false e some = refl

some_taken : (F : Type 0) (bytes : List ℕ) (n f : ℕ) → (n ≡ 0 → ⊥) → counted (is_failed {F = F} bytes (Ok n)) f ≡ f
some_taken F bytes n f some = rw (zero_not n (nat_eq n 0) refl some) refl

-- a call that took some bytes hasn't failed
pub none_failed : {F : Type 0} (bytes : List ℕ) (r : Result ℕ F) (n old new mid : ℕ) → r ≡ Ok n → (n ≡ 0 → ⊥) → mid ≡ old → new ≡ counted (is_failed bytes r) mid → new ≡ old
none_failed {F} bytes r n old new mid e some m c = c ∙ ap (λ (r : Result ℕ F). counted (is_failed bytes r) mid) e ∙ some_taken F bytes n mid some ∙ m
