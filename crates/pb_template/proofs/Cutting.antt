-- Where pieces end: at bytes at which a text may be cut.
use Rattle.std.proofs.Common.{◌≡◌, ℕ, zero, suc, ◌+◌, ◌-◌, ◌<◌, ◌≤◌, ◌||◌, ◌&&◌, ◌==◌, Bool, true, false, cond, List, [], ◌∷◌, ◌++◌, Option, Some, None, Result, Ok, Err, refl, sym, ◌∙◌, ap, subst, length, length-drop, drop, get_or, arith, append_assoc, tests, add-one, eqb-true}
use Rattle.std.specs.Prelude.{option_map}
use Rattle.std.specs.Str.{IsUtf8, IsCharBoundary}
use Rattle.std.proofs.lemmas.List.{get_or-drop}
use Rattle.std.proofs.Math.Seq.{drop-cons}
use Rattle.std.proofs.lemmas.Str.{IsCharBoundary-before_ascii, IsCharBoundary-after_ascii}
use Rattle.pb_expr_syntax.specs.declared.fault.ExprFault.{ExprFault}
use Rattle.pb_expr_syntax.specs.declared.fault.ExprFault.TheVariants as fault
use Rattle.pb_template.specs.declared.pieces.Front.{Front}
use Rattle.pb_template.specs.declared.pieces.Piece.{Piece}
use Rattle.pb_template.specs.declared.pieces.State.{State}
use Rattle.pb_template.specs.declared.pieces.State.TheVariants as state
use Rattle.pb_template.specs.Pieces.{begins_one, begins_two, begins_open, begins_refused, begins_special, plain_size, plain_front, moved, closes, code_size, code_with, code_front, front_at, Pieces, before, pieces_by, pieces_from}

-- what is special begins with `{` or `-`
either : (x y p q r s t : Bool) → ((x && p) || ((((x && q) || (x && r)) || (x && s)) || (y && t))) ≡ true → (x || y) ≡ true
either true y p q r s t h = refl
either false true p q r s t h = refl
either false false p q r s t h = cc

brace_or_minus : (b : ℕ) → (b == 123 || b == 45) ≡ true → b < 128
brace_or_minus b h = grind (arith, tests)

special_ascii : (b : ℕ) (bs : List ℕ) → begins_special (b ∷ bs) ≡ true → b < 128
special_ascii b bs h = brace_or_minus b (either (b == 123) (b == 45) (begins_one 123 bs) (begins_two 123 45 bs) (begins_one 37 bs) (begins_one 35 bs) (begins_two 125 125 bs) h)

cut_later : (b : ℕ) (bs : List ℕ) (n : ℕ) → IsCharBoundary bs n → IsCharBoundary (b ∷ bs) (n + 1)
cut_later b bs n h = rw add-one (omega (arith, h.0), λ lt high. h.1 (omega arith) high)

plain_cut_by : (b : ℕ) (bs : List ℕ) (t : Bool) → begins_special (b ∷ bs) ≡ t → IsCharBoundary bs (plain_size bs) → IsCharBoundary (b ∷ bs) (cond t 0 (plain_size bs + 1))
plain_cut_by b bs true e h = (omega arith, λ lt high. let low : b < 128 = special_ascii b bs e in absurd (omega arith))
plain_cut_by b bs false e h = cut_later b bs (plain_size bs) h

pub plain_cut : (bs : List ℕ) → IsCharBoundary bs (plain_size bs)
plain_cut [] = (omega arith, λ lt high. absurd (omega arith))
plain_cut (b ∷ bs) = plain_cut_by b bs (begins_special (b ∷ bs)) refl (plain_cut bs)

-- a byte more of a plain piece
pub plain_next : (bs : List ℕ) (n : ℕ) → n < length bs → begins_special (drop n bs) ≡ false → plain_size (drop n bs) ≡ plain_size (drop (n + 1) bs) + 1
plain_next bs n lt e =
    let cut = drop-cons bs n 0 lt in
    let up : suc n ≡ n + 1 = omega arith in
    ap plain_size cut ∙ ap (λ t. cond t 0 (plain_size (drop (suc n) bs) + 1)) (ap begins_special (sym cut) ∙ e) ∙ ap (λ k. plain_size (drop k bs) + 1) up

and_first : (x y : Bool) → (x && y) ≡ true → x ≡ true
and_first true y h = refl
and_first false y h = cc

and_second : (x y : Bool) → (x && y) ≡ true → y ≡ true
and_second true y h = h
and_second false y h = cc

two_is : (x y : ℕ) (bs : List ℕ) → begins_two x y bs ≡ true → (2 ≤ length bs) × (get_or bs 0 0 ≡ x) × (get_or bs 1 0 ≡ y)
two_is x y [] h = cc
two_is x y (a ∷ []) h = let no_second : false ≡ true = and_second (a == x) false h in cc
two_is x y (a ∷ b ∷ bs) h = (omega arith, eqb-true a x (and_first (a == x) (b == y) h), eqb-true b y (and_second (a == x) (b == y) h))

close_by : (s : State) (b : ℕ) (bs : List ℕ) (t : Bool) (r : Option ℕ) (n : ℕ) → closes s (b ∷ bs) ≡ t → ((m : ℕ) → r ≡ Some m → begins_two 125 125 (drop m bs) ≡ true) →
    cond t (Some 0) (option_map (λ k. k + 1) r) ≡ Some n → begins_two 125 125 (drop n (b ∷ bs)) ≡ true
close_by state.Outside b bs true r n e later h = let z : 0 ≡ n = cc in subst (λ k. begins_two 125 125 (drop k (b ∷ bs)) ≡ true) z e
close_by (state.Inside quote) b bs true r n e later h = cc
close_by (state.Escaped quote) b bs true r n e later h = cc
close_by s b bs false None n e later h = cc
close_by s b bs false (Some m) n e later h =
    let same : m + 1 ≡ n = cc in
    let up : suc m ≡ n = omega arith in
    subst (λ k. begins_two 125 125 (drop k (b ∷ bs)) ≡ true) up (later m refl)

-- an expression's end is `}}`
pub code_close : (s : State) (bs : List ℕ) (n : ℕ) → code_size s bs ≡ Some n → begins_two 125 125 (drop n bs) ≡ true
code_close s [] n h = cc
code_close s (b ∷ bs) n h = close_by s b bs (closes s (b ∷ bs)) (code_size (moved s b) bs) n refl (code_close (moved s b) bs) h

pub open_cut : (text : List ℕ) → IsUtf8 text → begins_open text ≡ true → IsCharBoundary text 2
open_cut text u h = let two = two_is 123 123 text h in IsCharBoundary-after_ascii text 1 u (omega (arith, two.0)) (omega (arith, two.2))

closing : (code : List ℕ) (n : ℕ) → code_size state.Outside code ≡ Some n → (n + 2 ≤ length code) × (get_or code n 0 ≡ 125) × (get_or code (n + 1) 0 ≡ 125)
closing code n h =
    let two = two_is 125 125 (drop n code) (code_close state.Outside code n h) in
    let left : length (drop n code) ≡ length code - n = length-drop n code in
    let at : n + 0 ≡ n = omega arith in
    (omega (arith, two.0, left), ap (λ k. get_or code k 0) (sym at) ∙ sym (get_or-drop n code 0 0) ∙ two.1, sym (get_or-drop n code 1 0) ∙ two.2)

pub code_cut : (code : List ℕ) (n : ℕ) → code_size state.Outside code ≡ Some n → IsCharBoundary code n
code_cut code n h = let ends = closing code n h in IsCharBoundary-before_ascii code n (omega (arith, ends.0)) (omega (arith, ends.1))

pub front_cut : (text : List ℕ) (n : ℕ) → IsUtf8 text → code_size state.Outside (drop 2 text) ≡ Some n → IsCharBoundary text (n + 4)
front_cut text n u h =
    let ends = closing (drop 2 text) n h in
    let left : length (drop 2 text) ≡ length text - 2 = length-drop 2 text in
    let at : 2 + (n + 1) ≡ n + 3 = omega arith in
    let byte : get_or text (n + 3) 0 ≡ 125 = ap (λ k. get_or text k 0) (sym at) ∙ sym (get_or-drop 2 text (n + 1) 0) ∙ ends.2 in
    let end : n + 3 + 1 ≡ n + 4 = omega arith in
    subst (IsCharBoundary text) end (IsCharBoundary-after_ascii text (n + 3) u (omega (arith, ends.0, left)) (omega (arith, byte)))

-- a piece takes a byte or more
not_special : (x y : Bool) → x ≡ false → y ≡ false → (x || y) ≡ false
not_special x y e f = rw (e, f) refl

front_some_by : (at b : ℕ) (bs : List ℕ) (is_refused is_open : Bool) (f : Front) → begins_refused (b ∷ bs) ≡ is_refused → begins_open (b ∷ bs) ≡ is_open →
    cond is_refused (Err (fault.Unexpected at)) (cond is_open (code_front (b ∷ bs)) (Ok (plain_front (b ∷ bs)))) ≡ Ok f → 0 < f.size
front_some_by at b bs true is_open f r o h = cc
front_some_by at b bs false true f r o h = coded (code_size state.Outside (drop 2 (b ∷ bs))) h
  where
    coded : (q : Option ℕ) → code_with (drop 2 (b ∷ bs)) q ≡ Ok f → 0 < f.size
    coded None e = cc
    coded (Some n) e = let s : n + 4 ≡ f.size = sized e in omega arith
      where
        sized : {x y : Front} → ◌≡◌ {A = Result Front ExprFault} (Ok x) (Ok y) → x.size ≡ y.size
        sized {x} {y} p = let same : x ≡ y = cc in ap (λ (g : Front). g.size) same
front_some_by at b bs false false f r o h =
    let same : plain_front (b ∷ bs) ≡ f = cc in
    let one : plain_size (b ∷ bs) ≡ plain_size bs + 1 = ap (λ t. cond t 0 (plain_size bs + 1)) (not_special (begins_open (b ∷ bs)) (begins_refused (b ∷ bs)) o r) in
    let s : plain_size (b ∷ bs) ≡ f.size = ap (λ (g : Front). g.size) same in
    omega arith

pub front_some : (at : ℕ) (bs : List ℕ) (f : Front) → 0 < length bs → front_at at bs ≡ Ok f → 0 < f.size
front_some at [] f lt h = absurd (omega arith)
front_some at (b ∷ bs) f lt h = front_some_by at b bs (begins_refused (b ∷ bs)) (begins_open (b ∷ bs)) f refl refl h

-- where the last piece covers some bytes, they are passed over
pieces_past : (k at : ℕ) (bs : List ℕ) → pieces_from k at bs ≡ pieces_from 0 (at + k) (drop k bs)
pieces_past zero at bs = let e : at ≡ at + 0 = omega arith in ap (λ n. pieces_from 0 n bs) e
pieces_past (suc k) at [] = refl
pieces_past (suc k) at (b ∷ bs) = let e : at + 1 + k ≡ at + suc k = omega arith in pieces_past k (at + 1) bs ∙ ap (λ n. pieces_from 0 n (drop k bs)) e

pub next_good : (at : ℕ) (rest : List ℕ) (f : Front) → 0 < length rest → front_at at rest ≡ Ok f → pieces_from 0 at rest ≡ before f.piece (pieces_from 0 (at + f.size) (drop f.size rest))
next_good at [] f lt h = absurd (omega arith)
next_good at (b ∷ bs) f lt h =
    let some : 0 < f.size = front_some at (b ∷ bs) f lt h in
    let e : at + 1 + (f.size - 1) ≡ at + f.size = omega arith in
    let s : suc (f.size - 1) ≡ f.size = omega arith in
    ap (λ (r : Result Front ExprFault). pieces_by r (λ size. pieces_from (size - 1) (at + 1) bs)) h
    ∙ ap (before f.piece) (pieces_past (f.size - 1) (at + 1) bs ∙ (λ i. pieces_from 0 (e i) (drop (s i) (b ∷ bs))))

-- pieces found before others
abbrev pub found : List Piece → Pieces → Pieces
found ps rest = (ps ++ rest.0, rest.1)

found_more : (ps : List Piece) (p : Piece) (rest : Pieces) → found ps (before p rest) ≡ found (ps ++ p ∷ []) rest
found_more ps p rest = ap (λ (qs : List Piece). (qs, rest.1)) (sym (append_assoc ps (p ∷ []) rest.0))

-- the loop over a text: what was found before, and the piece at the front of the rest
pub step_good : (text rest : List ℕ) (ps : List Piece) (f : Front) → 0 < length rest → length rest ≤ length text → f.size ≤ length rest → front_at (length text - length rest) rest ≡ Ok f →
    pieces_from 0 0 text ≡ found ps (pieces_from 0 (length text - length rest) rest) →
    pieces_from 0 0 text ≡ found (ps ++ f.piece ∷ []) (pieces_from 0 (length text - length (drop f.size rest)) (drop f.size rest))
step_good text rest ps f lt within size h so =
    let left : length (drop f.size rest) ≡ length rest - f.size = length-drop f.size rest in
    let at : length text - length rest + f.size ≡ length text - length (drop f.size rest) = omega arith in
    so ∙ ap (found ps) (next_good (length text - length rest) rest f lt h) ∙ found_more ps f.piece _
    ∙ ap (λ n. found (ps ++ f.piece ∷ []) (pieces_from 0 n (drop f.size rest))) at

pub nonempty : (rest : List ℕ) → (length rest == 0) ≡ false → 0 < length rest
nonempty [] e = cc
nonempty (x ∷ xs) e = omega arith
