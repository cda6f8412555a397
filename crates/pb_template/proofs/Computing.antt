-- The parts of pieces, computed one after another.
use Rattle.std.proofs.Common.{◌≡◌, ℕ, suc, ◌+◌, ◌<◌, List, [], ◌∷◌, ◌++◌, Option, Some, None, refl, sym, ◌∙◌, ap, drop, get_or, length, append_assoc, add-one}
use Rattle.std.specs.Option.{option_map}
use Rattle.std.proofs.Math.Seq.{drop-cons}
use Rattle.pb_expr_syntax.specs.declared.fault.ExprFault.{ExprFault}
use Rattle.pb_template.specs.Computed.{part_in, parts_in, some_with, fault_in, first_of, first_among}
use Rattle.pb_template.specs.declared.pieces.Piece.{Piece}
use Rattle.pb_template.specs.declared.template.Part.{Part}

-- the i-th is the next of those from there on
next_at : (xs : List Piece) (i : ℕ) (x : Piece) → i < length xs → x ≡ get_or xs i x → drop i xs ≡ x ∷ drop (suc i) xs
next_at xs i x lt e = drop-cons xs i x lt ∙ ap (λ y. y ∷ drop (suc i) xs) (sym e)

regroup : (ys : List Part) (y : Part) (o : Option (List Part)) → option_map (λ r. ys ++ r) (option_map (λ qs. y ∷ qs) o) ≡ option_map (λ r. (ys ++ y ∷ []) ++ r) o
regroup ys y None = refl
regroup ys y (Some qs) = ap Some (sym (append_assoc ys (y ∷ []) qs))

pub computed_at : (xs : List Piece) (i : ℕ) (x : Piece) (ys : List Part) (y : Part) → i < length xs → x ≡ get_or xs i x →
    parts_in xs ≡ option_map (λ r. ys ++ r) (parts_in (drop i xs)) → part_in x ≡ Some y → parts_in xs ≡ option_map (λ r. (ys ++ y ∷ []) ++ r) (parts_in (drop (i + 1) xs))
computed_at xs i x ys y lt e all one =
    all ∙ ap (λ zs. option_map (λ r. ys ++ r) (parts_in zs)) (next_at xs i x lt e)
    ∙ ap (λ o. option_map (λ r. ys ++ r) (some_with o (parts_in (drop (suc i) xs)))) one
    ∙ regroup ys y (parts_in (drop (suc i) xs))
    ∙ ap (λ n. option_map (λ r. (ys ++ y ∷ []) ++ r) (parts_in (drop n xs))) (sym (add-one i))

pub none_computed_at : (xs : List Piece) (i : ℕ) (x : Piece) (ys : List Part) → i < length xs → x ≡ get_or xs i x →
    parts_in xs ≡ option_map (λ r. ys ++ r) (parts_in (drop i xs)) → part_in x ≡ None → parts_in xs ≡ None
none_computed_at xs i x ys lt e all one =
    all ∙ ap (λ zs. option_map (λ r. ys ++ r) (parts_in zs)) (next_at xs i x lt e) ∙ ap (λ o. option_map (λ r. ys ++ r) (some_with o (parts_in (drop (suc i) xs)))) one

pub no_fault_at : (xs : List Piece) (i : ℕ) (x : Piece) → i < length xs → x ≡ get_or xs i x → first_among xs ≡ first_among (drop i xs) → fault_in x ≡ None → first_among xs ≡ first_among (drop (i + 1) xs)
no_fault_at xs i x lt e all one =
    all ∙ ap first_among (next_at xs i x lt e) ∙ ap (λ f. first_of f (first_among (drop (suc i) xs))) one ∙ ap (λ n. first_among (drop n xs)) (sym (add-one i))

pub fault_at : (xs : List Piece) (i : ℕ) (x : Piece) (f : ExprFault) → i < length xs → x ≡ get_or xs i x → first_among xs ≡ first_among (drop i xs) → fault_in x ≡ Some f → first_among xs ≡ Some f
fault_at xs i x f lt e all one = all ∙ ap first_among (next_at xs i x lt e) ∙ ap (λ o. first_of o (first_among (drop (suc i) xs))) one
