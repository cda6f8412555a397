-- What the parts of pieces are.
use Rattle.std.proofs.Common.{◌≡◌, ℕ, suc, ◌+◌, ◌<◌, List, [], ◌∷◌, ◌++◌, refl, sym, ◌∙◌, ap, subst, take, drop, get_or, length}
use Rattle.std.proofs.lemmas.List.{take_more, take-append-drop}
use Rattle.std.proofs.Math.Seq.{drop-cons}
use Rattle.pb_expr_syntax.specs.declared.fault.ExprFault.{ExprFault}
use Rattle.pb_expr_syntax.specs.Tree.{Tree}
use Rattle.pb_expr_syntax.specs.Spelling.{spells}
use Rattle.pb_template.specs.declared.pieces.Piece.{Piece}
use Rattle.pb_template.specs.declared.pieces.Piece.TheVariants as piece
use Rattle.pb_template.specs.declared.template.Part.{Part}
use Rattle.pb_template.specs.declared.template.Part.TheVariants as part
use Rattle.pb_template.specs.Parts.{IsPart, AreParts, IsBad, HasBad}

pub plain_only : (s : List ℕ) (q : Part) → IsPart (piece.Plain s) q → q ≡ part.Plain s
plain_only s (part.Plain t) h = ap part.Plain (sym h)
plain_only s (part.Code t) h = absurd h

pub code_only : (s : List ℕ) (t : Tree) (q : Part) → ((u : Tree) → spells s u → u ≡ t) → IsPart (piece.Code s) q → q ≡ part.Code t
code_only s t (part.Plain u) only h = absurd h
code_only s t (part.Code u) only h = ap part.Code (only u h)

pub code_none : (s : List ℕ) (q : Part) → ((u : Tree) → spells s u → ⊥) → IsPart (piece.Code s) q → ⊥
code_none s (part.Plain u) none h = h
code_none s (part.Code u) none h = none u h

pub parts_more : (xs : List Piece) (ys : List Part) (x : Piece) (y : Part) → AreParts xs ys → IsPart x y → AreParts (xs ++ x ∷ []) (ys ++ y ∷ [])
parts_more [] [] x y all one = (one, tt)
parts_more [] (q ∷ ys) x y all one = absurd all
parts_more (p ∷ xs) [] x y all one = absurd all
parts_more (p ∷ xs) (q ∷ ys) x y all one = (all.0, parts_more xs ys x y all.1 one)

-- parts of pieces one after another are the parts of each
pub parts_split : (xs zs : List Piece) (qs : List Part) → AreParts (xs ++ zs) qs → (before after : List Part) × (qs ≡ before ++ after) × AreParts xs before × AreParts zs after
parts_split [] zs qs all = ([], qs, refl, tt, all)
parts_split (x ∷ xs) zs [] all = absurd all
parts_split (x ∷ xs) zs (q ∷ qs) all =
    let rest = parts_split xs zs qs all.1 in
    (q ∷ rest.0, rest.1, ap (λ ps. q ∷ ps) rest.2, (all.0, rest.3), rest.4)

pub only_more : (xs : List Piece) (ys : List Part) (x : Piece) (y : Part) → ((qs : List Part) → AreParts xs qs → qs ≡ ys) → ((q : Part) → IsPart x q → q ≡ y) →
    (qs : List Part) → AreParts (xs ++ x ∷ []) qs → qs ≡ ys ++ y ∷ []
only_more xs ys x y all one qs h = let cut = parts_split xs (x ∷ []) qs h in last cut.1 cut.0 cut.2 cut.3 cut.4
  where
    last : (after before : List Part) → qs ≡ before ++ after → AreParts xs before → AreParts (x ∷ []) after → qs ≡ ys ++ y ∷ []
    last [] before e some it = absurd it
    last (q ∷ []) before e some it = e ∙ (λ i. all before some i ++ one q it.0 i ∷ [])
    last (q ∷ r ∷ after) before e some it = absurd it.1

none_split : (xs rest : List Piece) (x : Piece) → ((q : Part) → IsPart x q → ⊥) → (qs : List Part) → AreParts (xs ++ x ∷ rest) qs → ⊥
none_split xs rest x none qs h = let cut = parts_split xs (x ∷ rest) qs h in first cut.1 cut.4
  where
    first : (after : List Part) → AreParts (x ∷ rest) after → ⊥
    first [] it = it
    first (q ∷ after) it = none q it.0

-- the pieces with the i-th apart
apart : (xs : List Piece) (i : ℕ) (x : Piece) → i < length xs → x ≡ get_or xs i x → xs ≡ take i xs ++ x ∷ drop (suc i) xs
apart xs i x lt e = sym (take-append-drop i xs) ∙ ap (λ ys. take i xs ++ ys) (drop-cons xs i x lt ∙ ap (λ y. y ∷ drop (suc i) xs) (sym e))

pub none_at : (xs : List Piece) (i : ℕ) (x : Piece) → i < length xs → x ≡ get_or xs i x → ((q : Part) → IsPart x q → ⊥) → (qs : List Part) → AreParts xs qs → ⊥
none_at xs i x lt e none qs h = none_split (take i xs) (drop (suc i) xs) x none qs (subst (λ ys. AreParts ys qs) (apart xs i x lt e) h)

pub bad_at : (xs : List Piece) (i : ℕ) (x : Piece) (ys : List Part) (f : ExprFault) → i < length xs → x ≡ get_or xs i x → AreParts (take i xs) ys → IsBad x f → HasBad xs f
bad_at xs i x ys f lt e all bad = (take i xs, x, drop (suc i) xs, ys, apart xs i x lt e, all, bad)

pub parts_at : (xs : List Piece) (i : ℕ) (x : Piece) (ys : List Part) (y : Part) → i < length xs → x ≡ get_or xs i x → AreParts (take i xs) ys → IsPart x y → AreParts (take (i + 1) xs) (ys ++ y ∷ [])
parts_at xs i x ys y lt e all one = subst (λ zs. AreParts zs (ys ++ y ∷ [])) (sym (take_more xs i x lt ∙ ap (λ z. take i xs ++ z ∷ []) (sym e))) (parts_more (take i xs) ys x y all one)

pub only_at : (xs : List Piece) (i : ℕ) (x : Piece) (ys : List Part) (y : Part) → i < length xs → x ≡ get_or xs i x → ((qs : List Part) → AreParts (take i xs) qs → qs ≡ ys) → ((q : Part) → IsPart x q → q ≡ y) →
    (qs : List Part) → AreParts (take (i + 1) xs) qs → qs ≡ ys ++ y ∷ []
only_at xs i x ys y lt e all one qs h = only_more (take i xs) ys x y all one qs (subst (λ zs. AreParts zs qs) (take_more xs i x lt ∙ ap (λ z. take i xs ++ z ∷ []) (sym e)) h)
