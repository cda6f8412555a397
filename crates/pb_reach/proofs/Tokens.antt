-- The tokens of a text in which a word doesn't stand: none of them names it.
use Rattle.std.proofs.Common.{◌≡◌, ℕ, zero, suc, ◌+◌, ◌-◌, nat_le, Bool, true, false, List, [], ◌∷◌, ◌++◌, ℤ, pos, Option, Some, None, Result, Ok, Err, IfOk, if◌then◌else◌, refl}
use Rattle.std.specs.Char.{is_ascii_digit}
use Rattle.std.specs.List.{list_any, prefix_len, take_while}
use Rattle.std.specs.Str.{bytes_eq}
use Rattle.pb_value.specs.Reading.{and_then, map_ok}
use Rattle.pb_value.specs.Words.{continues_name}
use Rattle.pb_expr_syntax.specs.declared.fault.ExprFault.{ExprFault}
use Rattle.pb_expr_syntax.specs.declared.fault.ExprFault.TheVariants.{NumberTooLarge}
use Rattle.pb_expr_syntax.specs.declared.grammar.Kind.{Kind}
use Rattle.pb_expr_syntax.specs.declared.grammar.Kind.TheVariants as kind
use Rattle.pb_expr_syntax.specs.declared.lexer.Class.{Class}
use Rattle.pb_expr_syntax.specs.declared.lexer.Class.TheVariants as class
use Rattle.pb_expr_syntax.specs.declared.lexer.Lexeme.{Lexeme}
use Rattle.pb_expr_syntax.specs.declared.token.Token.{Token}
use Rattle.pb_expr_syntax.specs.Grammar.{leaf}
use Rattle.pb_expr_syntax.specs.Tokens.{word_kind, lexeme, number_after, text_from, quoted, begins_equal, sign, sign_at, class_of, lexeme_by, lexeme_at, begins_space, front_at, tokens_from, tokens_of}
use Rattle.pb_reach.specs.Named.{in_tree}
use Rattle.pb_mentions.specs.Mentions.{begins, has_inside}
use Rattle.pb_reach.proofs.Inside.{other_word}
use Rattle.pb_reach.proofs.Tests.{neither, joined, none_joined}

-- what a token stands for by itself names the word
abbrev pub in_token : List ℕ → Token → Bool
in_token word t = in_tree word (leaf t)

leaf_other : (word : List ℕ) (k : Kind) (at : ℕ) (w : List ℕ) (z : ℤ) → bytes_eq w word ≡ false → in_token word (record { kind = k; at = at; text = w; number = z }) ≡ false
leaf_other word kind.Digits at w z e = refl
leaf_other word kind.Text at w z e = refl
leaf_other word kind.True at w z e = refl
leaf_other word kind.False at w z e = refl
leaf_other word kind.Null at w z e = refl
leaf_other word k at w z e = e

number_other : (word : List ℕ) (fits : Bool) (at size : ℕ) (z : ℤ) →
    IfOk (if fits then Ok (lexeme kind.Digits at [] z size) else Err NumberTooLarge) (λ (l : Lexeme). in_token word l.token ≡ false)
number_other word true at size z = refl
number_other word false at size z = tt

text_other : (word : List ℕ) (at : ℕ) (r : Result (List ℕ × ℕ) ExprFault) → IfOk (map_ok (quoted at) r) (λ (l : Lexeme). in_token word l.token ≡ false)
text_other word at (Ok c) = refl
text_other word at (Err e) = tt

sign_other : (word : List ℕ) → bytes_eq [] word ≡ false → (at : ℕ) (s : Option (Kind × ℕ)) → IfOk (sign_at at s) (λ (l : Lexeme). in_token word l.token ≡ false)
sign_other word some at None = tt
sign_other word some at (Some s) = leaf_other word s.0 at [] (pos 0) some

lexeme_other : (word : List ℕ) → bytes_eq [] word ≡ false → (c : Class) (at b : ℕ) (bs : List ℕ) → has_inside word (b ∷ bs) ≡ false →
    IfOk (lexeme_by c at b bs) (λ (l : Lexeme). in_token word l.token ≡ false)
lexeme_other word some class.Word at b bs e =
    leaf_other word (word_kind (take_while continues_name (b ∷ bs))) at (take_while continues_name (b ∷ bs)) (pos 0) (other_word word (prefix_len continues_name (b ∷ bs)) b bs e)
lexeme_other word some class.Number at b bs e =
    number_other word (nat_le (number_after 0 (take_while is_ascii_digit (b ∷ bs))) 9223372036854775807) at (prefix_len is_ascii_digit (b ∷ bs))
    (pos (number_after 0 (take_while is_ascii_digit (b ∷ bs))))
lexeme_other word some class.Quoted at b bs e = text_other word at (text_from at b false bs)
lexeme_other word some class.Sign at b bs e = sign_other word some at (sign b (begins_equal bs))

spaced : (word : List ℕ) (space : Bool) (r : Result Lexeme ExprFault) → IfOk r (λ (l : Lexeme). in_token word l.token ≡ false) →
    IfOk (if space then Ok ([], 1) else map_ok (λ (l : Lexeme). (l.token ∷ [], l.size)) r) (λ (f : List Token × ℕ). list_any (in_token word) f.0 ≡ false)
spaced word true r e = refl
spaced word false (Ok l) e = joined (in_token word l.token) false e refl
spaced word false (Err fault) e = tt

front_other : (word : List ℕ) → bytes_eq [] word ≡ false → (at b : ℕ) (bs : List ℕ) → has_inside word (b ∷ bs) ≡ false →
    IfOk (front_at at (b ∷ bs)) (λ (f : List Token × ℕ). list_any (in_token word) f.0 ≡ false)
front_other word some at b bs e = spaced word (begins_space (b ∷ bs)) (lexeme_at at (b ∷ bs)) (lexeme_other word some (class_of b) at b bs e)

before_others : (word : List ℕ) (front : List Token) (r : Result (List Token) ExprFault) → list_any (in_token word) front ≡ false →
    IfOk r (λ (ts : List Token). list_any (in_token word) ts ≡ false) → IfOk (map_ok (λ ts. front ++ ts) r) (λ (ts : List Token). list_any (in_token word) ts ≡ false)
before_others word front (Ok ts) e f = none_joined (in_token word) front ts e f
before_others word front (Err fault) e f = tt

front_then : (word : List ℕ) (r : Result (List Token × ℕ) ExprFault) (rest : ℕ → Result (List Token) ExprFault) →
    IfOk r (λ (f : List Token × ℕ). list_any (in_token word) f.0 ≡ false) → ((n : ℕ) → IfOk (rest n) (λ (ts : List Token). list_any (in_token word) ts ≡ false)) →
    IfOk (and_then r (λ f. map_ok (λ ts. f.0 ++ ts) (rest (f.1 - 1)))) (λ (ts : List Token). list_any (in_token word) ts ≡ false)
front_then word (Ok f) rest e others = before_others word f.0 (rest (f.1 - 1)) e (others (f.1 - 1))
front_then word (Err fault) rest e others = tt

tokens_other : (word : List ℕ) → bytes_eq [] word ≡ false → (taken at : ℕ) (bs : List ℕ) → has_inside word bs ≡ false →
    IfOk (tokens_from taken at bs) (λ (ts : List Token). list_any (in_token word) ts ≡ false)
tokens_other word some zero at [] e = refl
tokens_other word some (suc taken) at [] e = refl
tokens_other word some (suc taken) at (b ∷ bs) e = tokens_other word some taken (at + 1) bs (neither (begins word (b ∷ bs)) (has_inside word bs) e).1
tokens_other word some zero at (b ∷ bs) e =
    front_then word (front_at at (b ∷ bs)) (λ n. tokens_from n (at + 1) bs) (front_other word some at b bs e)
    (λ n. tokens_other word some n (at + 1) bs (neither (begins word (b ∷ bs)) (has_inside word bs) e).1)

pub tokens_unnamed : (word : List ℕ) → bytes_eq [] word ≡ false → (text : List ℕ) → has_inside word text ≡ false →
    IfOk (tokens_of text) (λ (ts : List Token). list_any (in_token word) ts ≡ false)
tokens_unnamed word some text e = tokens_other word some 0 0 text e
