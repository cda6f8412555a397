-- What is read of a text before its rest.
use Rattle.std.proofs.Common.{◌≡◌, ℕ, zero, suc, ◌+◌, ◌-◌, ◌*◌, ◌<◌, ◌≤◌, ◌||◌, ◌==◌, nat_le, Bool, true, false, cond, List, [], ◌∷◌, ◌++◌, Option, Some, None, Result, Ok, Err, refl, sym, ◌∙◌, ap, subst, length, drop, get_or, arith, append_assoc, length-drop, append-nil, tests, lit<}
use Rattle.std.specs.Char.{is_ascii_digit}
use Rattle.std.specs.Int.{is_in_range}
use Rattle.std.specs.List.{prefix_len, take_while}
use Rattle.std.specs.Str.{IsAscii}
use Rattle.std.proofs.lemmas.List.{drop-drop}
use Rattle.std.proofs.Math.Seq.{drop-cons}
use Rattle.std.proofs.lemmas.Bool.{lt-leb}
use Rattle.std.proofs.lemmas.List.Sums.{take_while-cons, prefix_len-le-length}
use Rattle.pb_value.specs.Reading.{and_then, map_ok}
use Rattle.pb_value.specs.Words.{begins_name, continues_name}
use Rattle.pb_expr_syntax.specs.declared.fault.ExprFault.{ExprFault}
use Rattle.pb_expr_syntax.specs.declared.fault.ExprFault.TheVariants as fault
use Rattle.pb_expr_syntax.specs.declared.grammar.Kind.{Kind}
use Rattle.pb_expr_syntax.specs.declared.lexer.Class.{Class}
use Rattle.pb_expr_syntax.specs.declared.lexer.Class.TheVariants as class
use Rattle.pb_expr_syntax.specs.declared.lexer.Lexeme.{Lexeme}
use Rattle.pb_expr_syntax.specs.declared.token.Token.{Token}
use Rattle.pb_expr_syntax.specs.Tokens.{tokens_from, text_from, longer, begins_space, lexeme_at, number_after, word_at, class_of, double_sign, single_sign, sign_of, sign_at, lexeme_by, begins_equal, quoted, escaped, escape_at, front_at}

-- a content that follows these bytes, of which n were taken
abbrev pub behind : List ℕ → ℕ → Result (List ℕ × ℕ) ExprFault → Result (List ℕ × ℕ) ExprFault
behind front n r = map_ok (λ c. (front ++ c.0, n + c.1)) r

pub behind-longer : (front more : List ℕ) (n : ℕ) (r : Result (List ℕ × ℕ) ExprFault) → behind front n (map_ok (longer more) r) ≡ behind (front ++ more) (n + 1) r
behind-longer front more n (Err e) = refl
behind-longer front more n (Ok c) = let e : n + (c.1 + 1) ≡ n + 1 + c.1 = omega arith in λ i. Ok (sym (append_assoc front more c.0) i, e i)

-- where the last token covers some bytes, they are passed over
pub tokens_past : (k at : ℕ) (bs : List ℕ) → tokens_from k at bs ≡ tokens_from 0 (at + k) (drop k bs)
tokens_past zero at bs = let e : at ≡ at + 0 = omega arith in ap (λ n. tokens_from 0 n bs) e
tokens_past (suc k) at [] = refl
tokens_past (suc k) at (b ∷ bs) = let e : at + 1 + k ≡ at + suc k = omega arith in tokens_past k (at + 1) bs ∙ ap (λ n. tokens_from 0 n (drop k bs)) e

-- a number grows with its digits
pub number_rises : (n : ℕ) (ds : List ℕ) → n ≤ number_after n ds
number_rises n [] = omega arith
number_rises n (d ∷ ds) = omega (arith, number_rises (n * 10 + (d - 48)) ds)

too_large : (n limit : ℕ) (ds : List ℕ) → limit < n → nat_le (number_after n ds) limit ≡ false
too_large n limit ds h = lt-leb (number_after n ds) limit (omega (arith, number_rises n ds))

pub number_past : (number limit i : ℕ) (all : List ℕ) → number_after 0 all ≡ number_after number (drop i all) → i < length all → limit < number * 10 + (get_or all i 0 - 48) → nat_le (number_after 0 all) limit ≡ false
number_past number limit i all so lt h =
    ap (λ n. nat_le n limit) (so ∙ ap (number_after number) (drop-cons all i 0 lt)) ∙ too_large (number * 10 + (get_or all i 0 - 48)) limit (drop (suc i) all) h

-- the bytes of words are ASCII
pub name_ascii : (b : ℕ) → continues_name b ≡ true → b < 128
name_ascii b h = grind (arith, tests)

word_ascii_by : (b : ℕ) (bs : List ℕ) (t : Bool) → continues_name b ≡ t → IsAscii (take_while continues_name bs) → IsAscii (cond t (b ∷ take_while continues_name bs) [])
word_ascii_by b bs true e rest zero = name_ascii b e
word_ascii_by b bs true e rest (suc i) = rest i
word_ascii_by b bs false e rest i = lit< tt

pub word_ascii : (bs : List ℕ) → IsAscii (take_while continues_name bs)
word_ascii [] = λ i. lit< tt
word_ascii (b ∷ bs) = subst IsAscii (sym (take_while-cons continues_name b bs)) (word_ascii_by b bs (continues_name b) refl (word_ascii bs))

-- what stands at the front, and what it leaves
pub front_space : (at : ℕ) (rest : List ℕ) → begins_space rest ≡ true → front_at at rest ≡ Ok ([], 1)
front_space at rest e = ap (λ t. cond t (Ok ([], 1)) (map_ok (λ (l : Lexeme). (l.token ∷ [], l.size)) (lexeme_at at rest))) e

pub front_token : (at : ℕ) (rest : List ℕ) (r : Result Lexeme ExprFault) → begins_space rest ≡ false → lexeme_at at rest ≡ r → front_at at rest ≡ map_ok (λ (l : Lexeme). (l.token ∷ [], l.size)) r
front_token at rest r e h = ap (λ t. cond t (Ok ([], 1)) (map_ok (λ (l : Lexeme). (l.token ∷ [], l.size)) (lexeme_at at rest))) e ∙ ap (map_ok (λ (l : Lexeme). (l.token ∷ [], l.size))) h

pub next_bad : (at : ℕ) (rest : List ℕ) (e : ExprFault) → 0 < length rest → front_at at rest ≡ Err e → tokens_from 0 at rest ≡ Err e
next_bad at [] e lt h = absurd (omega arith)
next_bad at (b ∷ bs) e lt h = ap (λ (r : Result (List Token × ℕ) ExprFault). and_then r (λ f. map_ok (λ ts. f.0 ++ ts) (tokens_from (f.1 - 1) (at + 1) bs))) h

pub next_good : (at : ℕ) (rest : List ℕ) (front : List Token) (size : ℕ) → 0 < length rest → 0 < size → front_at at rest ≡ Ok (front, size) →
    tokens_from 0 at rest ≡ map_ok (λ ts. front ++ ts) (tokens_from 0 (at + size) (drop size rest))
next_good at [] front size lt some h = absurd (omega arith)
next_good at (b ∷ bs) front size lt some h =
    let e : at + 1 + (size - 1) ≡ at + size = omega arith in
    let s : suc (size - 1) ≡ size = omega arith in
    ap (λ (r : Result (List Token × ℕ) ExprFault). and_then r (λ f. map_ok (λ ts. f.0 ++ ts) (tokens_from (f.1 - 1) (at + 1) bs))) h
    ∙ ap (map_ok (λ ts. front ++ ts)) (tokens_past (size - 1) (at + 1) bs ∙ (λ i. tokens_from 0 (e i) (drop (s i) (b ∷ bs))))

mapped_twice : (before front : List Token) (r : Result (List Token) ExprFault) → map_ok (λ ts. before ++ ts) (map_ok (λ ts. front ++ ts) r) ≡ map_ok (λ ts. (before ++ front) ++ ts) r
mapped_twice before front (Err e) = refl
mapped_twice before front (Ok ts) = ap Ok (sym (append_assoc before front ts))

-- the loop over a text: what was found before, and what stands at the front
pub step_good : (text : List ℕ) (at : ℕ) (before front : List Token) (size : ℕ) → at < length text → 0 < size → front_at at (drop at text) ≡ Ok (front, size) →
    tokens_from 0 0 text ≡ map_ok (λ ts. before ++ ts) (tokens_from 0 at (drop at text)) → tokens_from 0 0 text ≡ map_ok (λ ts. (before ++ front) ++ ts) (tokens_from 0 (at + size) (drop (at + size) text))
step_good text at before front size lt some h so =
    let left : length (drop at text) ≡ length text - at = length-drop at text in
    so ∙ ap (map_ok (λ ts. before ++ ts)) (next_good at (drop at text) front size (omega (arith, left)) some h) ∙ mapped_twice before front _
    ∙ ap (λ bs. map_ok (λ ts. (before ++ front) ++ ts) (tokens_from 0 (at + size) bs)) (drop-drop size at text)

pub step_space : (text : List ℕ) (at : ℕ) (before : List Token) → at < length text → begins_space (drop at text) ≡ true →
    tokens_from 0 0 text ≡ map_ok (λ ts. before ++ ts) (tokens_from 0 at (drop at text)) → tokens_from 0 0 text ≡ map_ok (λ ts. before ++ ts) (tokens_from 0 (at + 1) (drop (at + 1) text))
step_space text at before lt space so =
    step_good text at before [] 1 lt (omega arith) (front_space at (drop at text) space) so
    ∙ ap (λ front. map_ok (λ ts. front ++ ts) (tokens_from 0 (at + 1) (drop (at + 1) text))) (append-nil before)

pub step_bad : (text : List ℕ) (at : ℕ) (before : List Token) (e : ExprFault) → at < length text → front_at at (drop at text) ≡ Err e →
    tokens_from 0 0 text ≡ map_ok (λ ts. before ++ ts) (tokens_from 0 at (drop at text)) → tokens_from 0 0 text ≡ Err e
step_bad text at before e lt h so =
    let left : length (drop at text) ≡ length text - at = length-drop at text in
    so ∙ ap (map_ok (λ ts. before ++ ts)) (next_bad at (drop at text) e (omega (arith, left)) h)

-- a token takes a byte or more, and no more than there are
continues : (d u l n : Bool) → ((u || l) || n) ≡ true → (((d || u) || l) || n) ≡ true
continues true u l n h = refl
continues false u l n h = h

is_word : (x y z : Bool) → cond x class.Word (cond y class.Number (cond z class.Quoted class.Sign)) ≡ class.Word → x ≡ true
is_word true y z h = refl
is_word false true z h = cc
is_word false false true h = cc
is_word false false false h = cc

is_number : (x y z : Bool) → cond x class.Word (cond y class.Number (cond z class.Quoted class.Sign)) ≡ class.Number → y ≡ true
is_number true y z h = cc
is_number false true z h = refl
is_number false false true h = cc
is_number false false false h = cc

some_prefix : (p : ℕ → Bool) (b : ℕ) (bs : List ℕ) → p b ≡ true → (0 < prefix_len p (b ∷ bs)) × (prefix_len p (b ∷ bs) ≤ length (b ∷ bs))
some_prefix p b bs e =
    let s : prefix_len p (b ∷ bs) ≡ 1 + prefix_len p bs = ap (λ t. cond t (1 + prefix_len p bs) 0) e in
    (omega (arith, s), prefix_len-le-length p (b ∷ bs))

ok_of : {A : Type 0} (t : Bool) (x y : A) (e : ExprFault) → cond t (Ok x) (Err e) ≡ Ok y → x ≡ y
ok_of true x y e h = cc
ok_of false x y e h = cc

longer_size : (front : List ℕ) (r : Result (List ℕ × ℕ) ExprFault) (n : ℕ) (c : List ℕ × ℕ) → ((d : List ℕ × ℕ) → r ≡ Ok d → d.1 ≤ n) → map_ok (longer front) r ≡ Ok c → c.1 ≤ suc n
longer_size front (Err e) n c below h = cc
longer_size front (Ok d) n c below h =
    let s : longer front d ≡ c = cc in
    let at : d.1 + 1 ≡ c.1 = ap (λ (q : List ℕ × ℕ). q.1) s in
    omega (arith, below d refl)

escape_size : (at n : ℕ) (o : Option ℕ) (r : Result (List ℕ × ℕ) ExprFault) (c : List ℕ × ℕ) → ((d : List ℕ × ℕ) → r ≡ Ok d → d.1 ≤ n) →
    and_then (escape_at at o) (λ x. map_ok (longer (x ∷ [])) r) ≡ Ok c → c.1 ≤ suc n
escape_size at n None r c below h = cc
escape_size at n (Some x) r c below h = longer_size (x ∷ []) r n c below h

plain_size : (n : ℕ) (is_end : Bool) (front : List ℕ) (r : Result (List ℕ × ℕ) ExprFault) (c : List ℕ × ℕ) → ((d : List ℕ × ℕ) → r ≡ Ok d → d.1 ≤ n) →
    cond is_end (Ok ([], 1)) (map_ok (longer front) r) ≡ Ok c → c.1 ≤ suc n
plain_size n true front r c below h =
    let s : ([], 1) ≡ c = cc in
    let one : 1 ≡ c.1 = ap (λ (q : List ℕ × ℕ). q.1) s in
    omega arith
plain_size n false front r c below h = longer_size front r n c below h

pub text_size : (at quote : ℕ) (is_escape : Bool) (bs : List ℕ) (c : List ℕ × ℕ) → text_from at quote is_escape bs ≡ Ok c → c.1 ≤ length bs
text_size at quote is_escape [] c h = cc
text_size at quote true (b ∷ bs) c h = escape_size at (length bs) (escaped b) (text_from at quote false bs) c (text_size at quote false bs) h
text_size at quote false (b ∷ bs) c h = plain_size (length bs) (b == quote) (cond (b == 92) [] (b ∷ [])) (text_from at quote (b == 92) bs) c (text_size at quote (b == 92) bs) h

quoted_size : (at n : ℕ) (r : Result (List ℕ × ℕ) ExprFault) (l : Lexeme) → ((c : List ℕ × ℕ) → r ≡ Ok c → c.1 ≤ n) → map_ok (quoted at) r ≡ Ok l → (0 < l.size) × (l.size ≤ suc n)
quoted_size at n (Err e) l below h = cc
quoted_size at n (Ok c) l below h =
    let s : quoted at c ≡ l = cc in
    let size : c.1 + 1 ≡ l.size = ap (λ (q : Lexeme). q.size) s in
    (omega arith, omega (arith, below c refl))

sign_size : (at : ℕ) (bs : List ℕ) (is_equal : Bool) (double single : Option Kind) (l : Lexeme) → begins_equal bs ≡ is_equal → sign_at at (sign_of is_equal double single) ≡ Ok l → (0 < l.size) × (l.size ≤ suc (length bs))
sign_size at [] true (Some k) single l e h = cc
sign_size at (c ∷ bs) true (Some k) single l e h = let n : 2 ≡ l.size = sized_ok h in (omega arith, omega arith)
  where
    sized_ok : {x y : Lexeme} → ◌≡◌ {A = Result Lexeme ExprFault} (Ok x) (Ok y) → x.size ≡ y.size
    sized_ok {x} {y} e = let s : x ≡ y = cc in ap (λ (q : Lexeme). q.size) s
sign_size at bs _ _ (Some k) l e h = let n : 1 ≡ l.size = sized_ok h in (omega arith, omega arith)
  where
    sized_ok : {x y : Lexeme} → ◌≡◌ {A = Result Lexeme ExprFault} (Ok x) (Ok y) → x.size ≡ y.size
    sized_ok {x} {y} e = let s : x ≡ y = cc in ap (λ (q : Lexeme). q.size) s
sign_size at bs _ _ None l e h = cc

class_size : (at b : ℕ) (bs : List ℕ) (k : Class) (l : Lexeme) → class_of b ≡ k → lexeme_by k at b bs ≡ Ok l → (0 < l.size) × (l.size ≤ length (b ∷ bs))
class_size at b bs class.Word l e h =
    let s : word_at at (b ∷ bs) ≡ l = cc in
    let begins : begins_name b ≡ true = is_word (begins_name b) (is_ascii_digit b) (b == 39 || b == 34) e in
    subst (λ (q : Lexeme). (0 < q.size) × (q.size ≤ length (b ∷ bs))) s (some_prefix continues_name b bs (continues (is_ascii_digit b) (is_in_range 65 90 b) (is_in_range 97 122 b) (b == 95) begins))
class_size at b bs class.Number l e h =
    let s = ok_of (nat_le (number_after 0 (take_while is_ascii_digit (b ∷ bs))) 9223372036854775807) _ l fault.NumberTooLarge h in
    subst (λ (q : Lexeme). (0 < q.size) × (q.size ≤ length (b ∷ bs))) s (some_prefix is_ascii_digit b bs (is_number (begins_name b) (is_ascii_digit b) (b == 39 || b == 34) e))
class_size at b bs class.Quoted l e h = quoted_size at (length bs) (text_from at b false bs) l (text_size at b false bs) h
class_size at b bs class.Sign l e h = sign_size at bs (begins_equal bs) (double_sign b) (single_sign b) l refl h

pub lexeme_size : (at : ℕ) (bs : List ℕ) (l : Lexeme) → lexeme_at at bs ≡ Ok l → (0 < l.size) × (l.size ≤ length bs)
lexeme_size at [] l h = cc
lexeme_size at (b ∷ bs) l h = class_size at b bs (class_of b) l refl h
