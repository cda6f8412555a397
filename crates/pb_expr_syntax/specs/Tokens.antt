-- How a text is cut into tokens.
use Rattle.std.specs.Prelude.{ℕ, zero, suc, ◌+◌, ◌-◌, ◌*◌, ℤ, pos, Bool, true, false, ◌==◌, ◌||◌, nat_le, List, [], ◌∷◌, ◌++◌, Option, Some, None, Result, Ok, Err, codes, unwrap_or, if◌then◌else◌}
use Rattle.std.specs.Char.{is_ascii_digit}
use Rattle.std.specs.List.{prefix_len, take_while}
use Rattle.std.specs.Str.{bytes_eq}
use Rattle.pb_value.specs.Reading.{and_then, map_ok}
use Rattle.pb_value.specs.Words.{begins_name, continues_name}
use Rattle.pb_expr_syntax.specs.declared.fault.ExprFault.{ExprFault}
use Rattle.pb_expr_syntax.specs.declared.fault.ExprFault.TheVariants.{Unexpected, End, NumberTooLarge}
use Rattle.pb_expr_syntax.specs.declared.grammar.Kind.{Kind}
use Rattle.pb_expr_syntax.specs.declared.grammar.Kind.TheVariants as kind
use Rattle.pb_expr_syntax.specs.declared.lexer.Class.{Class}
use Rattle.pb_expr_syntax.specs.declared.lexer.Class.TheVariants as class
use Rattle.pb_expr_syntax.specs.declared.lexer.Lexeme.{Lexeme}
use Rattle.pb_expr_syntax.specs.declared.token.Token.{Token}

-- what may stand between tokens: space, tab, line feed and carriage return
abbrev pub is_space : ℕ → Bool
is_space b = b == 32 || b == 9 || b == 10 || b == 13

-- the reserved words: those that join operands or turn them, and those that stand for a value; any other word is a name
abbrev pub joining_word : List ℕ → Option Kind
joining_word word =
    if bytes_eq word (codes "and") then Some kind.And else
    if bytes_eq word (codes "or") then Some kind.Or else
    if bytes_eq word (codes "not") then Some kind.Not else
    if bytes_eq word (codes "in") then Some kind.In else
    if bytes_eq word (codes "is") then Some kind.Is else None

abbrev pub standing_word : List ℕ → Kind
standing_word word =
    if bytes_eq word (codes "true") then kind.True else
    if bytes_eq word (codes "True") then kind.True else
    if bytes_eq word (codes "false") then kind.False else
    if bytes_eq word (codes "False") then kind.False else
    if bytes_eq word (codes "none") then kind.Null else
    if bytes_eq word (codes "None") then kind.Null else kind.Name

abbrev pub word_kind : List ℕ → Kind
word_kind word = unwrap_or (joining_word word) (standing_word word)

-- a token of this kind, the byte at which it begins, its word or content, its number, and how many bytes it takes
abbrev pub lexeme : Kind → ℕ → List ℕ → ℤ → ℕ → Lexeme
lexeme k at text number size = record { token = record { kind = k; at = at; text = text; number = number }; size = size }

-- a word is as long as may be
abbrev pub word_at : ℕ → List ℕ → Lexeme
word_at at bs = lexeme (word_kind (take_while continues_name bs)) at (take_while continues_name bs) (pos 0) (prefix_len continues_name bs)

-- the number that digits write, where n is written before them
abbrev pub number_after : ℕ → List ℕ → ℕ
number_after n [] = n
number_after n (d ∷ ds) = number_after (n * 10 + (d - 48)) ds

-- digits are as many as may be, and write a number below 2 ^ 63
abbrev pub number_at : ℕ → List ℕ → Result Lexeme ExprFault
number_at at bs =
    if nat_le (number_after 0 (take_while is_ascii_digit bs)) 9223372036854775807
    then Ok (lexeme kind.Digits at [] (pos (number_after 0 (take_while is_ascii_digit bs))) (prefix_len is_ascii_digit bs))
    else Err NumberTooLarge

-- what a backslash and this byte stand for: itself, a line feed or a tab
abbrev pub escaped : ℕ → Option ℕ
escaped b = if b == 92 || b == 39 || b == 34 then Some b else if b == 110 then Some 10 else if b == 116 then Some 9 else None

-- the content of a text, and how many bytes it takes, with this in front of it, which takes one
abbrev pub longer : List ℕ → List ℕ × ℕ → List ℕ × ℕ
longer front c = (front ++ c.0, c.1 + 1)

-- what an escape stands for; where it stands for nothing, the fault is at the byte at which the text begins
abbrev pub escape_at : ℕ → Option ℕ → Result ℕ ExprFault
escape_at at None = Err (Unexpected at)
escape_at at (Some c) = Ok c

-- The content of a text up to its closing quote, and how many bytes that takes with the quote. The text
-- begins at this byte, ends with this quote, and the byte before was a backslash or not.
abbrev pub text_from : ℕ → ℕ → Bool → List ℕ → Result (List ℕ × ℕ) ExprFault
text_from at quote is_escape [] = Err End
text_from at quote true (b ∷ bs) = and_then (escape_at at (escaped b)) (λ c. map_ok (longer (c ∷ [])) (text_from at quote false bs))
text_from at quote false (b ∷ bs) = if b == quote then Ok ([], 1) else map_ok (longer (if b == 92 then [] else b ∷ [])) (text_from at quote (b == 92) bs)

-- the token of a text that begins at this byte, from its content and how many bytes that takes with the closing quote
abbrev pub quoted : ℕ → List ℕ × ℕ → Lexeme
quoted at c = lexeme kind.Text at c.0 (pos 0) (c.1 + 1)

-- the sign that a byte makes with `=` behind it, and the one that it makes alone
abbrev pub double_sign : ℕ → Option Kind
double_sign b =
    if b == 61 then Some kind.Equal else
    if b == 33 then Some kind.NotEqual else
    if b == 60 then Some kind.AtMost else
    if b == 62 then Some kind.AtLeast else None

abbrev pub single_sign : ℕ → Option Kind
single_sign b =
    if b == 60 then Some kind.Less else
    if b == 62 then Some kind.Greater else
    if b == 43 then Some kind.Plus else
    if b == 45 then Some kind.Minus else
    if b == 126 then Some kind.Tilde else
    if b == 124 then Some kind.Bar else
    if b == 46 then Some kind.Dot else
    if b == 44 then Some kind.Comma else
    if b == 40 then Some kind.Open else
    if b == 41 then Some kind.Close else
    if b == 91 then Some kind.ListOpen else
    if b == 93 then Some kind.ListClose else None

-- the sign at the front and its length, where its byte may make a double one with `=`
abbrev pub sign_of : Bool → Option Kind → Option Kind → Option (Kind × ℕ)
sign_of true (Some k) single = Some (k, 2)
sign_of _ _ (Some k) = Some (k, 1)
sign_of _ _ None = None

-- the sign that this byte begins, and its length, where a `=` stands behind it or not
abbrev pub sign : ℕ → Bool → Option (Kind × ℕ)
sign b is_equal = sign_of is_equal (double_sign b) (single_sign b)

-- `=` comes first; not where nothing comes
abbrev pub begins_equal : List ℕ → Bool
begins_equal [] = false
begins_equal (b ∷ bs) = b == 61

-- the token of a sign that begins at this byte; where there is no sign, the fault is at this byte
abbrev pub sign_at : ℕ → Option (Kind × ℕ) → Result Lexeme ExprFault
sign_at at None = Err (Unexpected at)
sign_at at (Some s) = Ok (lexeme s.0 at [] (pos 0) s.1)

-- what a token that begins with this byte is
abbrev pub class_of : ℕ → Class
class_of b = if begins_name b then class.Word else if is_ascii_digit b then class.Number else if b == 39 || b == 34 then class.Quoted else class.Sign

-- the token at the front, which begins at this byte of the whole
abbrev pub lexeme_by : Class → ℕ → ℕ → List ℕ → Result Lexeme ExprFault
lexeme_by class.Word at b bs = Ok (word_at at (b ∷ bs))
lexeme_by class.Number at b bs = number_at at (b ∷ bs)
lexeme_by class.Quoted at b bs = map_ok (quoted at) (text_from at b false bs)
lexeme_by class.Sign at b bs = sign_at at (sign b (begins_equal bs))

-- the same of all bytes from there on; where there are none, the text ends too early
abbrev pub lexeme_at : ℕ → List ℕ → Result Lexeme ExprFault
lexeme_at at [] = Err End
lexeme_at at (b ∷ bs) = lexeme_by (class_of b) at b bs

-- a space comes first; not where nothing comes
abbrev pub begins_space : List ℕ → Bool
begins_space [] = false
begins_space (b ∷ bs) = is_space b

-- what stands at the front, a space or a token, as the tokens in it and its length
abbrev pub front_at : ℕ → List ℕ → Result (List Token × ℕ) ExprFault
front_at at bs = if begins_space bs then Ok ([], 1) else map_ok (λ l. (l.token ∷ [], l.size)) (lexeme_at at bs)

-- the tokens behind the next few bytes, which are taken; the first bad token's fault
abbrev pub tokens_from : ℕ → ℕ → List ℕ → Result (List Token) ExprFault
tokens_from taken at [] = Ok []
tokens_from (suc taken) at (b ∷ bs) = tokens_from taken (at + 1) bs
tokens_from zero at (b ∷ bs) = and_then (front_at at (b ∷ bs)) (λ f. map_ok (λ ts. f.0 ++ ts) (tokens_from (f.1 - 1) (at + 1) bs))

-- the tokens of a text, or the fault of its first bad token
abbrev pub tokens_of : List ℕ → Result (List Token) ExprFault
tokens_of text = tokens_from 0 0 text
