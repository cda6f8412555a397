-- The content of a text in a text is UTF-8.
use Rattle.std.proofs.Common.{◌≡◌, ℕ, zero, suc, ◌+◌, ◌<◌, ◌≤◌, ◌||◌, ◌&&◌, ◌==◌, Bool, true, false, cond, List, [], ◌∷◌, ◌++◌, Option, Some, None, Result, Ok, Err, refl, sym, ◌∙◌, ap, subst, length, drop, get_or, arith, eqb-true, append-nil, tests, lit<}
use Rattle.std.specs.Str.{IsAscii, IsUtf8, IsCharBoundary}
use Rattle.std.proofs.lemmas.Bool.{ltb-true, ltb-false}
use Rattle.std.proofs.Math.Dec.{ltb}
use Rattle.std.proofs.lemmas.List.{get_or-drop, drop-drop}
use Rattle.std.proofs.lemmas.Str.{IsUtf8-nil, IsUtf8-append, IsUtf8-from_ascii, encode_ascii, inside_one, length-encode, len_utf8_bounds, IsCharBoundary-after_ascii}
use lib.Utf8.{scalar, scalars, encodes, encode}
use Rattle.pb_value.specs.Reading.{and_then, map_ok}
use Rattle.pb_value.specs.Words.{begins_name}
use Rattle.std.specs.Char.{is_ascii_digit}
use Rattle.pb_expr_syntax.specs.declared.fault.ExprFault.{ExprFault}
use Rattle.pb_expr_syntax.specs.declared.fault.ExprFault.TheVariants as fault
use Rattle.pb_expr_syntax.specs.declared.lexer.Class.TheVariants as class
use Rattle.pb_expr_syntax.specs.Tokens.{text_from, longer, escaped, escape_at, class_of}

one_ascii : (d : ℕ) → d < 128 → IsUtf8 (d ∷ [])
one_ascii d h = IsUtf8-from_ascii (d ∷ []) small
  where
    small : IsAscii (d ∷ [])
    small zero = h
    small (suc i) = lit< tt

-- what an escape stands for is ASCII
escaped_by : (b d : ℕ) (x y z : Bool) → (x ≡ true → b < 128) → cond x (Some b) (cond y (Some 10) (cond z (Some 9) None)) ≡ Some d → d < 128
escaped_by b d true y z small h = let s : b ≡ d = cc in let small' : b < 128 = small refl in omega arith
escaped_by b d false true z small h = let s : 10 ≡ d = cc in omega arith
escaped_by b d false false true small h = let s : 9 ≡ d = cc in omega arith
escaped_by b d false false false small h = cc

quote_or_slash : (b : ℕ) → (b == 92 || b == 39 || b == 34) ≡ true → b < 128
quote_or_slash b h = grind (arith, tests)

escaped_ascii : (b d : ℕ) → escaped b ≡ Some d → d < 128
escaped_ascii b d h = escaped_by b d (b == 92 || b == 39 || b == 34) (b == 110) (b == 116) (quote_or_slash b) h

longer_utf8 : (front : List ℕ) (r : Result (List ℕ × ℕ) ExprFault) (c : List ℕ × ℕ) → IsUtf8 front → ((d : List ℕ × ℕ) → r ≡ Ok d → IsUtf8 d.0) → map_ok (longer front) r ≡ Ok c → IsUtf8 c.0
longer_utf8 front (Err e) c u rest h = cc
longer_utf8 front (Ok d) c u rest h =
    let s : longer front d ≡ c = cc in
    subst IsUtf8 (ap (λ (q : List ℕ × ℕ). q.0) s) (IsUtf8-append front d.0 u (rest d refl))

escape_utf8 : (at x : ℕ) (o : Option ℕ) (r : Result (List ℕ × ℕ) ExprFault) (c : List ℕ × ℕ) → escaped x ≡ o → ((d : List ℕ × ℕ) → r ≡ Ok d → IsUtf8 d.0) →
    and_then (escape_at at o) (λ d. map_ok (longer (d ∷ [])) r) ≡ Ok c → IsUtf8 c.0
escape_utf8 at x None r c e rest h = cc
escape_utf8 at x (Some d) r c e rest h = longer_utf8 (d ∷ []) r c (one_ascii d (escaped_ascii x d e)) rest h

plain_utf8 : (x : ℕ) (is_end is_escape : Bool) (r : Result (List ℕ × ℕ) ExprFault) (c : List ℕ × ℕ) → x < 128 → ((d : List ℕ × ℕ) → r ≡ Ok d → IsUtf8 d.0) →
    cond is_end (Ok ([], 1)) (map_ok (longer (cond is_escape [] (x ∷ []))) r) ≡ Ok c → IsUtf8 c.0
plain_utf8 x true is_escape r c small rest h =
    let s : ([], 1) ≡ c = cc in
    subst IsUtf8 (ap (λ (q : List ℕ × ℕ). q.0) s) IsUtf8-nil
plain_utf8 x false true r c small rest h = longer_utf8 [] r c IsUtf8-nil rest h
plain_utf8 x false false r c small rest h = longer_utf8 (x ∷ []) r c (one_ascii x small) rest h

ascii_utf8 : (at quote x : ℕ) (is_escape : Bool) (bs : List ℕ) (c : List ℕ × ℕ) → x < 128 → ((e : Bool) (d : List ℕ × ℕ) → text_from at quote e bs ≡ Ok d → IsUtf8 d.0) →
    text_from at quote is_escape (x ∷ bs) ≡ Ok c → IsUtf8 c.0
ascii_utf8 at quote x true bs c small rest h = escape_utf8 at x (escaped x) (text_from at quote false bs) c refl (rest false) h
ascii_utf8 at quote x false bs c small rest h = plain_utf8 x (x == quote) (x == 92) (text_from at quote (x == 92) bs) c small (rest (x == 92)) h

-- bytes above ASCII are kept
kept_by : (b : ℕ) (bs : List ℕ) (is_end is_escape : Bool) (r : Bool → Result (List ℕ × ℕ) ExprFault) (c : List ℕ × ℕ) → is_end ≡ false → is_escape ≡ false →
    cond is_end (Ok ([], 1)) (map_ok (longer (cond is_escape [] (b ∷ []))) (r is_escape)) ≡ Ok c → (d : List ℕ × ℕ) × (r false ≡ Ok d) × (c.0 ≡ b ∷ d.0)
kept_by b bs true is_escape r c e f h = cc
kept_by b bs false true r c e f h = cc
kept_by b bs false false r c e f h = out (r false) refl h
  where
    out : (q : Result (List ℕ × ℕ) ExprFault) → r false ≡ q → map_ok (longer (b ∷ [])) q ≡ Ok c → (d : List ℕ × ℕ) × (r false ≡ Ok d) × (c.0 ≡ b ∷ d.0)
    out (Err e) is h = cc
    out (Ok d) is h = let s : longer (b ∷ []) d ≡ c = cc in (d, is, ap (λ (q : List ℕ × ℕ). q.0) (sym s))

unlike : (b n : ℕ) → n < 128 → 128 ≤ b → (b == n) ≡ false
unlike b n small high = by_test (b == n) refl
  where
    by_test : (t : Bool) → (b == n) ≡ t → t ≡ false
    by_test true e = let same : b ≡ n = eqb-true b n e in absurd (omega arith)
    by_test false e = refl

kept : (at quote : ℕ) (high rest : List ℕ) (c : List ℕ × ℕ) → quote < 128 → ((k : ℕ) → k < length high → 128 ≤ get_or high k 0) → text_from at quote false (high ++ rest) ≡ Ok c →
    (d : List ℕ × ℕ) × (text_from at quote false rest ≡ Ok d) × (c.0 ≡ high ++ d.0)
kept at quote [] rest c small all h = (c, h, refl)
kept at quote (b ∷ high) rest c small all h =
    let first : 128 ≤ b = all 0 (omega arith) in
    let one = kept_by b (high ++ rest) (b == quote) (b == 92) (λ e. text_from at quote e (high ++ rest)) c (unlike b quote small first) (unlike b 92 (lit< tt) first) h in
    let more = kept at quote high rest one.0 small (λ k lt. all (suc k) (omega arith)) one.1 in
    (more.0, more.1, one.2 ∙ ap (λ bs. b ∷ bs) more.2)

high_by : (x k : ℕ) (t : Bool) → 128 ≤ x → k < length (encode x) → ltb (get_or (encode x) k 0) 128 ≡ t → 128 ≤ get_or (encode x) k 0
high_by x k true high lt e =
    let low : get_or (encode x) k 0 < 128 = ltb-true (get_or (encode x) k 0) 128 e in
    let same : x ≡ get_or (encode x) k 0 = inside_one x [] (encode x) k (sym (append-nil (encode x))) lt low in
    absurd (omega arith)
high_by x k false high lt e = ltb-false (get_or (encode x) k 0) 128 e

none_escaped : (b : ℕ) → 128 ≤ b → escaped b ≡ None
none_escaped b h = rw (unlike b 92 (lit< tt) h, unlike b 39 (lit< tt) h, unlike b 34 (lit< tt) h, unlike b 110 (lit< tt) h, unlike b 116 (lit< tt) h) refl

no_escape : (at quote : ℕ) (bs rest : List ℕ) (c : List ℕ × ℕ) → 0 < length bs → ((k : ℕ) → k < length bs → 128 ≤ get_or bs k 0) → text_from at quote true (bs ++ rest) ≡ Ok c → ⊥
no_escape at quote [] rest c some all h = absurd (omega arith)
no_escape at quote (b ∷ bs) rest c some all h =
    let bad : ◌≡◌ {A = Result (List ℕ × ℕ) ExprFault} (Err (fault.Unexpected at)) (Ok c) = sym (ap (λ (o : Option ℕ). and_then (escape_at at o) (λ d. map_ok (longer (d ∷ [])) (text_from at quote false (bs ++ rest)))) (none_escaped b (all 0 (omega arith)))) ∙ h in
    cc

char_utf8 : (at quote x : ℕ) (bs : List ℕ) → quote < 128 → IsUtf8 (encode x) → ((e : Bool) (d : List ℕ × ℕ) → text_from at quote e bs ≡ Ok d → IsUtf8 d.0) →
    (is_escape t : Bool) (c : List ℕ × ℕ) → ltb x 128 ≡ t → text_from at quote is_escape (encode x ++ bs) ≡ Ok c → IsUtf8 c.0
char_utf8 at quote x bs small u rest is_escape true c e h =
    let low : x < 128 = ltb-true x 128 e in
    ascii_utf8 at quote x is_escape bs c low rest (ap (λ front. text_from at quote is_escape (front ++ bs)) (sym (encode_ascii x low)) ∙ h)
char_utf8 at quote x bs small u rest true false c e h =
    let high : 128 ≤ x = ltb-false x 128 e in
    let some = len_utf8_bounds x in
    absurd (no_escape at quote (encode x) bs c (omega (arith, length-encode x, some.0)) (λ k lt. high_by x k (ltb (get_or (encode x) k 0) 128) high lt refl) h)
char_utf8 at quote x bs small u rest false false c e h =
    let high : 128 ≤ x = ltb-false x 128 e in
    let more = kept at quote (encode x) bs c small (λ k lt. high_by x k (ltb (get_or (encode x) k 0) 128) high lt refl) h in
    subst IsUtf8 (sym more.2) (IsUtf8-append (encode x) more.0.0 u (rest false more.0 more.1))

both_left : (x y : Bool) → (x && y) ≡ true → (x && true) ≡ true
both_left true y h = refl
both_left false y h = cc

both_right : (x y : Bool) → (x && y) ≡ true → y ≡ true
both_right true y h = h
both_right false y h = cc

encoded_utf8 : (at quote : ℕ) → quote < 128 → (cs : List ℕ) → scalars cs ≡ true → (is_escape : Bool) (c : List ℕ × ℕ) → text_from at quote is_escape (encodes cs) ≡ Ok c → IsUtf8 c.0
encoded_utf8 at quote small [] s is_escape c h = cc
encoded_utf8 at quote small (x ∷ cs) s is_escape c h =
    char_utf8 at quote x (encodes cs) small (x ∷ [], (both_left (scalar x) (scalars cs) s, append-nil (encode x))) (encoded_utf8 at quote small cs (both_right (scalar x) (scalars cs) s)) is_escape (ltb x 128) c refl h

pub content_utf8 : (at quote : ℕ) (bs : List ℕ) (c : List ℕ × ℕ) → quote < 128 → IsUtf8 bs → text_from at quote false bs ≡ Ok c → IsUtf8 c.0
content_utf8 at quote bs c small u h = encoded_utf8 at quote small u.0 u.1.0 false c (ap (text_from at quote false) u.1.1 ∙ h)

-- the byte at which a text begins, and what follows it
pub front_is : (text : List ℕ) (at b : ℕ) (bs : List ℕ) → drop at text ≡ b ∷ bs → (get_or text at 0 ≡ b) × (drop (at + 1) text ≡ bs)
front_is text at b bs e =
    let z : at + 0 ≡ at = omega arith in
    (ap (λ k. get_or text k 0) (sym z) ∙ sym (get_or-drop at text 0 0) ∙ ap (λ xs. get_or xs 0 0) e, sym (drop-drop 1 at text) ∙ ap (drop 1) e)

is_quoted : (x y z : Bool) → cond x class.Word (cond y class.Number (cond z class.Quoted class.Sign)) ≡ class.Quoted → z ≡ true
is_quoted true y z h = cc
is_quoted false true z h = cc
is_quoted false false true h = refl
is_quoted false false false h = cc

quote_small : (b : ℕ) → (b == 39 || b == 34) ≡ true → b < 128
quote_small b h = grind (arith, tests)

pub quote_ascii : (b : ℕ) → class_of b ≡ class.Quoted → b < 128
quote_ascii b h = quote_small b (is_quoted (begins_name b) (is_ascii_digit b) (b == 39 || b == 34) h)

pub after_quote : (text : List ℕ) (at : ℕ) → IsUtf8 text → at < length text → get_or text at 0 < 128 → IsCharBoundary text (at + 1)
after_quote text at u lt small = IsCharBoundary-after_ascii text at u lt small
