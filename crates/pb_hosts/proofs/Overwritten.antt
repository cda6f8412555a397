-- A list that is overwritten from its front by the answers to another list.
use Rattle.std.proofs.Common.{◌≡◌, ℕ, ◌+◌, ◌<◌, Bool, false, List, [], ◌∷◌, ◌++◌, length, map, take, drop, set, get_or, sym, ◌∙◌, ap, append_assoc, arith, length-take}
use Rattle.std.proofs.lemmas.List.{drop_more, map_more, set_at, length-map, length-replicate, replicate_more}
use Rattle.std.specs.Prelude.{replicate}

pub overwritten_more : {X Y : Type 0} (f : X → Y) (xs : List X) (ys s : List Y) (i : ℕ) (x : X) → i < length xs → length ys ≡ length xs → s ≡ map f (take i xs) ++ drop i ys → x ≡ get_or xs i x → set s i (f x) ≡ map f (take (i + 1) xs) ++ drop (i + 1) ys
overwritten_more f xs ys s i x inside width overwritten e =
    let there : i < length ys = omega arith in
    let front : length (map f (take i xs)) ≡ i = simp (length-map, length-take) (omega arith) in
    ap (λ t. set t i (f x)) (overwritten ∙ ap (λ t. map f (take i xs) ++ t) (drop_more ys i (f x) there))
    ∙ set_at (map f (take i xs)) (get_or ys i (f x)) (drop (i + 1) ys) (f x) i front
    ∙ sym (append_assoc (map f (take i xs)) (f x ∷ []) (drop (i + 1) ys))
    ∙ ap (λ t. t ++ drop (i + 1) ys) (ap (λ v. map f (take i xs) ++ f v ∷ []) e ∙ sym (map_more f xs i x inside))

-- a list that is cleared from its front
pub none_more : (ys s : List Bool) (i : ℕ) → i < length ys → s ≡ replicate i false ++ drop i ys → set s i false ≡ replicate (i + 1) false ++ drop (i + 1) ys
none_more ys s i inside overwritten =
    let front : length (replicate i false) ≡ i = length-replicate i false in
    ap (λ t. set t i false) (overwritten ∙ ap (λ t. replicate i false ++ t) (drop_more ys i false inside))
    ∙ set_at (replicate i false) (get_or ys i false) (drop (i + 1) ys) false i front
    ∙ sym (append_assoc (replicate i false) (false ∷ []) (drop (i + 1) ys))
    ∙ ap (λ t. t ++ drop (i + 1) ys) (replicate_more i false)
