-- Terms and their subscripts: `[i]`, `[-i]`, `[i:j]` and `[i:]` at the end, with numbers of 1 to 9 digits.
use Rattle.std.specs.Prelude.{ℕ, ◌+◌, ◌-◌, ◌*◌, Bool, ◌&&◌, ◌||◌, ◌==◌, nat_le, List, [], ◌∷◌, take, drop, length, Option, Some, None, option_map, option_and_then, position, fold, Result, Ok, Err, if◌then◌else◌}
use Rattle.std.specs.Char.{is_ascii_digit}
use Rattle.std.specs.List.{list_all, list_any, position_or_len}
use Rattle.pb_patterns.specs.declared.element.Subscript.{Subscript}
use Rattle.pb_patterns.specs.declared.element.Subscript.TheVariants.{At, FromEnd, Between, From}
use Rattle.pb_patterns.specs.declared.element.What.{What}
use Rattle.pb_patterns.specs.declared.element.What.TheVariants.{Term}
use Rattle.pb_patterns.specs.declared.fault.PatFault.{PatFault}
use Rattle.pb_patterns.specs.declared.fault.PatFault.TheVariants.{BadSubscript}

-- what stands before the first of a byte; all of the bytes where it isn't there
abbrev pub before : ℕ → List ℕ → List ℕ
before x bs = take (position_or_len (λ b. b == x) bs) bs

-- what stands behind the first of a byte; none where the byte isn't there
abbrev pub behind : ℕ → List ℕ → Option (List ℕ)
behind x bs = option_map (λ at. drop (at + 1) bs) (position (λ b. b == x) bs)

-- a number with one digit more behind it, which is given as its byte
abbrev pub with_digit : ℕ → ℕ → ℕ
with_digit n digit = n * 10 + (digit - 48)

-- whether these are one to nine digits, and nothing else
abbrev pub is_number : List ℕ → Bool
is_number digits = nat_le 1 (length digits) && nat_le (length digits) 9 && list_all is_ascii_digit digits

-- the number that the digits spell; none for anything else
abbrev pub number : List ℕ → Option ℕ
number digits = if is_number digits then Some (fold with_digit 0 digits) else None

-- a subscript from i on: to the number that these bytes spell, or to the end where there are none
abbrev pub range_to : ℕ → List ℕ → Option Subscript
range_to i [] = Some (From i)
range_to i (b ∷ bs) = option_map (Between i) (number (b ∷ bs))

-- a subscript without a sign, by what stands before a `:`, and what stands behind it if there is one
abbrev pub counted : List ℕ → Option (List ℕ) → Option Subscript
counted front None = option_map At (number front)
counted front (Some end) = option_and_then (λ i. range_to i end) (number front)

-- what stands between the brackets
abbrev pub subscript : List ℕ → Option Subscript
subscript [] = None
subscript (b ∷ bs) = if b == 45 then option_map FromEnd (number bs) else counted (before 58 (b ∷ bs)) (behind 58 (b ∷ bs))

-- the subscript inside the brackets, where nothing stands behind the `]`; none where something does, or no `]` is there
abbrev pub closed : List ℕ → Option (List ℕ) → Option Subscript
closed inside (Some []) = subscript inside
closed inside (Some (b ∷ bs)) = None
closed inside None = None

-- what stands behind the first `[`, the `]` included, which has to be the last byte
abbrev pub bracketed : List ℕ → Option Subscript
bracketed bs = closed (before 93 bs) (behind 93 bs)

-- whether a `]` stands in a text without `[`, where it closes none
abbrev pub closes_none : List ℕ → Bool
closes_none bs = list_any (λ b. b == 93) bs

-- a name with its subscript; brackets that hold none are a fault
abbrev pub with_subscript : List ℕ → Option Subscript → Result What PatFault
with_subscript name (Some s) = Ok (Term name (Some s))
with_subscript name None = Err BadSubscript

-- a term without `[`: all of the text, in which no `]` may stand
abbrev pub plain_term : List ℕ → Result What PatFault
plain_term text = if closes_none text then Err BadSubscript else Ok (Term text None)

-- a term by what stands before its first `[` and what stands behind it; before it there has to be a name, without `]`
abbrev pub bracket_term : List ℕ → List ℕ → Result What PatFault
bracket_term name bs = if (length name == 0) || closes_none name then Err BadSubscript else with_subscript name (bracketed bs)

-- a term by all of its text, and what stands behind its first `[` if it has one
abbrev pub term_with : List ℕ → Option (List ℕ) → Result What PatFault
term_with text None = plain_term text
term_with text (Some bs) = bracket_term (before 91 text) bs

-- a term: all of the text where it has no brackets, else what stands before its subscript
abbrev pub term_of : List ℕ → Result What PatFault
term_of text = term_with text (behind 91 text)
