-- The stacks, when one more is put on a vector.
use Rattle.std.proofs.Common.{◌≡◌, ℕ, zero, suc, ◌-◌, ◌<◌, ◌≤◌, List, [], ◌∷◌, ◌++◌, Option, Some, None, IfSome, refl, length, drop, get_or, arith, ap, sym, ◌∙◌}
use Rattle.std.specs.Option.{option_to_list}
use Rattle.pb_expr_syntax.specs.declared.token.Token.{Token}
use Rattle.std.proofs.Math.Seq.{drop-cons}
use Rattle.pb_expr_syntax.specs.declared.grammar.Symbol.{Symbol}
use Rattle.pb_expr_syntax.specs.declared.parser.Part as code
use Rattle.pb_expr_syntax.specs.Grammar as grammar
use Rattle.pb_expr_syntax.specs.Views.{symbols_onto, parts_onto, part_of}

pub symbols_onto-last : (below xs : List Symbol) (x : Symbol) → symbols_onto below (xs ++ x ∷ []) ≡ x ∷ symbols_onto below xs
symbols_onto-last below [] x = refl
symbols_onto-last below (y ∷ ys) x = symbols_onto-last (y ∷ below) ys x

pub parts_onto-last : (below : List grammar.Part) (xs : List code.Part) (x : code.Part) → parts_onto below (xs ++ x ∷ []) ≡ part_of x ∷ parts_onto below xs
parts_onto-last below [] x = refl
parts_onto-last below (y ∷ ys) x = parts_onto-last (part_of y ∷ below) ys x

pub put_one : (items more all below : List Symbol) (i : ℕ) (d : Symbol) → more ≡ items ++ get_or all (i - 1) d ∷ [] → 0 < i → i ≤ length all → symbols_onto [] items ≡ drop i all ++ below →
    symbols_onto [] more ≡ drop (i - 1) all ++ below
put_one items more all below i d is pos within e =
    let lt : i - 1 < length all = omega arith in
    let up : suc (i - 1) ≡ i = omega arith in
    let cut : drop (i - 1) all ≡ get_or all (i - 1) d ∷ drop i all = drop-cons all (i - 1) d lt ∙ ap (λ k. get_or all (i - 1) d ∷ drop k all) up in
    ap (symbols_onto []) is ∙ symbols_onto-last [] items (get_or all (i - 1) d) ∙ ap (λ ss. get_or all (i - 1) d ∷ ss) e ∙ sym (ap (λ ss. ss ++ below) cut)

pub popped : (r : Option code.Part) (old new : List code.Part) → old ≡ new ++ option_to_list r → IfSome r (λ p. parts_onto [] old ≡ part_of p ∷ parts_onto [] new)
popped None old new e = tt
popped (Some p) old new e = ap (parts_onto []) e ∙ parts_onto-last [] new p

pub popped_symbol : (r : Option Symbol) (old new : List Symbol) → old ≡ new ++ option_to_list r → IfSome r (λ s. symbols_onto [] old ≡ s ∷ symbols_onto [] new)
popped_symbol None old new e = tt
popped_symbol (Some s) old new e = ap (symbols_onto []) e ∙ symbols_onto-last [] new s

-- the next token
pub dropped : (xs : List Token) (i : ℕ) (t : Token) → i < length xs → t ≡ get_or xs i t → drop i xs ≡ t ∷ drop (suc i) xs
dropped [] i t lt e = absurd (omega arith)
dropped (x ∷ xs) zero t lt e = ap (λ y. y ∷ xs) (sym e)
dropped (x ∷ xs) (suc i) t lt e = dropped xs i t (omega arith) e
