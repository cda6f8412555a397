-- A text that stands for itself has one part, or none.
use Rattle.std.specs.Prelude.{is_some, nat_le}
use Rattle.std.proofs.Common.{◌≡◌, ℕ, ◌+◌, ◌==◌, ◌&&◌, ◌||◌, Bool, true, false, cond, List, [], ◌∷◌, Some, None, Ok, Err, refl, ◌∙◌, ap, take, drop, length, arith, eqb-true}
use Rattle.std.proofs.lemmas.List.{take_all, drop_all}
use Rattle.pb_expr_syntax.specs.declared.fault.ExprFault.TheVariants as fault
use Rattle.pb_value.specs.Limits.{max_text}
use Rattle.pb_template.specs.declared.pieces.Piece.TheVariants as piece
use Rattle.pb_template.specs.declared.template.Part.{Part}
use Rattle.pb_template.specs.declared.template.Part.TheVariants as part
use Rattle.pb_template.specs.Computed.{parts_in, unless_bad, template_of}
use Rattle.pb_template.specs.Plain.{is_plain_text}
use Rattle.pb_template.specs.Pieces.{begins_open, begins_refused, plain_size, begins_special, plain_front, code_front, front_at, Pieces, before, pieces_from}
use Rattle.pb_template.proofs.Cutting.{next_good}

-- the parts of such a text
abbrev pub plain_parts : List ℕ → List Part
plain_parts [] = []
plain_parts (b ∷ bs) = part.Plain (b ∷ bs) ∷ []

or_second : (x y : Bool) → y ≡ true → (x || y) ≡ true
or_second true y h = refl
or_second false y h = h

neither : (x y : Bool) → x ≡ false → y ≡ false → (x || y) ≡ false
neither x y e f = rw (e, f) refl

-- where something special stands at the front, no byte stands before it
not_whole : (b : ℕ) (bs : List ℕ) → begins_special (b ∷ bs) ≡ true → plain_size (b ∷ bs) ≡ length (b ∷ bs) → ⊥
not_whole b bs special all =
    let none : plain_size (b ∷ bs) ≡ 0 = ap (λ t. cond t 0 (plain_size bs + 1)) special in
    omega (arith, none, all)

one_piece : (b : ℕ) (bs : List ℕ) → begins_refused (b ∷ bs) ≡ false → begins_open (b ∷ bs) ≡ false → plain_size (b ∷ bs) ≡ length (b ∷ bs)
    → pieces_from 0 0 (b ∷ bs) ≡ (piece.Plain (b ∷ bs) ∷ [], None)
one_piece b bs r o all =
    let text : List ℕ = b ∷ bs in
    let front : front_at 0 (b ∷ bs) ≡ Ok (plain_front (b ∷ bs)) =
    ap (λ t. cond t (Err (fault.Unexpected 0)) (cond (begins_open (b ∷ bs)) (code_front (b ∷ bs)) (Ok (plain_front (b ∷ bs))))) r
    ∙ ap (λ t. cond t (code_front (b ∷ bs)) (Ok (plain_front (b ∷ bs)))) o in
    next_good 0 text (plain_front text) (omega arith) front
    ∙ ap (λ n. before (piece.Plain (take n text)) (pieces_from 0 (0 + n) (drop n text))) all
    ∙ ap (λ xs. before (piece.Plain xs) (pieces_from 0 (0 + length text) (drop (length text) text))) (take_all (length text) text (omega arith))
    ∙ ap (λ xs. before (piece.Plain text) (pieces_from 0 (0 + length text) xs)) (drop_all (length text) text (omega arith))

by_tests : (b : ℕ) (bs : List ℕ) (is_refused is_open : Bool) → begins_refused (b ∷ bs) ≡ is_refused → begins_open (b ∷ bs) ≡ is_open → plain_size (b ∷ bs) ≡ length (b ∷ bs)
    → pieces_from 0 0 (b ∷ bs) ≡ (piece.Plain (b ∷ bs) ∷ [], None)
by_tests b bs true is_open r o all = absurd (not_whole b bs (or_second (begins_open (b ∷ bs)) (begins_refused (b ∷ bs)) r) all)
by_tests b bs false true r o all = absurd (not_whole b bs (ap (λ t. t || begins_refused (b ∷ bs)) o) all)
by_tests b bs false false r o all = one_piece b bs r o all

pub plain_template : (s : List ℕ) → (plain_size s == length s) ≡ true → template_of s ≡ Some (plain_parts s)
unfolding template_of
plain_template [] e = refl
plain_template (b ∷ bs) e =
    ap (λ (ps : Pieces). unless_bad ps.1 (parts_in ps.0))
    (by_tests b bs (begins_refused (b ∷ bs)) (begins_open (b ∷ bs)) refl refl (eqb-true (plain_size (b ∷ bs)) (length (b ∷ bs)) e))

and_second : (x y : Bool) → (x && y) ≡ true → y ≡ true
and_second true y h = h
and_second false y h = cc

-- such a text is a template
pub plain_is_template : (s : List ℕ) → is_plain_text s ≡ true → is_some (template_of s) ≡ true
plain_is_template s plain = ap is_some (plain_template s (and_second (nat_le (length s) max_text) (plain_size s == length s) plain))
