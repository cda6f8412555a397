-- What a writer holds, and fronts of what it is to hold.
use Rattle.std.proofs.Common.{◌≡◌, ℕ, zero, suc, ◌+◌, ◌-◌, ◌≤◌, List, [], ◌∷◌, ◌++◌, length, take, drop, Option, Some, None, refl, sym, ap, ◌∙◌, subst, arith, append_assoc, append-nil, length-take, length-drop}
use Rattle.std.proofs.lemmas.List.{take-append-drop, drop-take, take-take, take_all}
use Rattle.std.specs.Io.KnownBytes.{Appends}
use Rattle.pb_show.specs.Whole.{AppendsFront}

pub nothing_more : (old : Option (List ℕ)) → Appends old old []
nothing_more None = tt
nothing_more (Some xs) = sym (append-nil xs)

pub appends_both : (old mid new : Option (List ℕ)) (a b : List ℕ) → Appends old mid a → Appends mid new b → Appends old new (a ++ b)
appends_both None mid new a b p q = tt
appends_both (Some xs) None new a b p q = absurd p
appends_both (Some xs) (Some ys) None a b p q = absurd q
appends_both (Some xs) (Some ys) (Some zs) a b p q = q ∙ ap (λ l. l ++ b) p ∙ append_assoc xs a b

pub appends_same : (old new : Option (List ℕ)) (a b : List ℕ) → a ≡ b → Appends old new a → Appends old new b
appends_same old new a b e p = subst (λ (l : List ℕ). Appends old new l) e p

-- ---- one call of a writer after another
pub piece_within : (at n : ℕ) (xs : List ℕ) → at ≤ length xs → n ≤ length (take (length xs - at) (drop at xs)) → at + n ≤ length xs
piece_within at n xs h m = omega (arith, simp (length-take, length-drop) at m)

piece : (at n : ℕ) (xs : List ℕ) → at ≤ length xs → take at xs ++ take n (take (length xs - at) (drop at xs)) ≡ take (at + n) xs
piece at n xs h =
    let rest : take (length xs - at) (drop at xs) ≡ drop at xs = take_all (length xs - at) (drop at xs) (simp length-drop (omega arith)) in
    let front : take at (take (at + n) xs) ≡ take at xs = take-take at (at + n) xs (omega arith) in
    rw (rest, ← drop-take at n xs, ← front) (take-append-drop at (take (at + n) xs))

pub piece_taken : (at n : ℕ) (xs : List ℕ) (old mid new : Option (List ℕ)) → at ≤ length xs → Appends old mid (take at xs) → Appends mid new (take n (take (length xs - at) (drop at xs))) → Appends old new (take (at + n) xs)
piece_taken at n xs old mid new h p q = appends_same old new _ _ (piece at n xs h) (appends_both old mid new _ _ p q)

-- ---- fronts
-- a front of a text is one of the text with more behind it
front_of : (text more : List ℕ) (n : ℕ) → (m : ℕ) × (take m (text ++ more) ≡ take n text)
front_of [] more zero = (0, refl)
front_of [] more (suc n) = (0, refl)
front_of (x ∷ xs) more zero = (0, refl)
front_of (x ∷ xs) more (suc n) = let r = front_of xs more n in (suc r.0, ap (λ l. x ∷ l) r.1)

-- what is done, with a front of the rest behind it, is a front
front_behind : (done rest : List ℕ) (m : ℕ) → (k : ℕ) × (take k (done ++ rest) ≡ done ++ take m rest)
front_behind [] rest m = (m, refl)
front_behind (x ∷ xs) rest m = let r = front_behind xs rest m in (suc r.0, ap (λ l. x ∷ l) r.1)

pub whole_front : (old new : Option (List ℕ)) (xs : List ℕ) → Appends old new xs → AppendsFront old new xs
whole_front old new xs p = (length xs, appends_same old new xs (take (length xs) xs) (sym (take_all (length xs) xs (omega arith))) p)

pub empty_front : (old : Option (List ℕ)) (xs : List ℕ) → AppendsFront old old xs
empty_front old xs = (0, nothing_more old)

-- a front of a text was written behind what was done
pub front_after : (old mid new : Option (List ℕ)) (done text more all : List ℕ) → all ≡ done ++ (text ++ more) → Appends old mid done → AppendsFront mid new text → AppendsFront old new all
front_after old mid new done text more all e p q =
    let a = front_of text more q.0 in
    let b = front_behind done (text ++ more) a.0 in
    (b.0, appends_same old new _ _ (ap (λ l. done ++ l) (sym a.1) ∙ sym b.1 ∙ ap (λ l. take b.0 l) (sym e)) (appends_both old mid new done _ p q.1))
