-- What is shown of a text that a program or a file gave: no character of it ends a line, moves the cursor or turns the direction of text.
use Rattle.std.specs.Prelude.{ℕ, ◌+◌, ◌-◌, ◌/◌, ◌%◌, ◌==◌, ◌||◌, ◌&&◌, nat_lt, nat_le, Bool, List, [], ◌∷◌, ◌++◌, codes, replicate, if◌then◌else◌}
use Rattle.std.specs.Char.{encode_utf8}
use Rattle.std.specs.Str.{chars}

-- the controls of ASCII and those behind it, 128 to 159; the marks that turn the direction of text, which UAX #9 names (1564, 8206, 8207,
-- 8234 to 8238 and 8294 to 8297); and Unicode's line separator and paragraph separator (8232 and 8233)
abbrev pub is_hidden : ℕ → Bool
is_hidden c =
    nat_lt c 32
    || (nat_le 127 c && nat_lt c 160)
    || c == 1564
    || (nat_le 8206 c && nat_lt c 8208)
    || (nat_le 8232 c && nat_lt c 8239)
    || (nat_le 8294 c && nat_lt c 8298)

-- the last digit of a number in hexadecimal
abbrev pub hex_digit : ℕ → ℕ
hex_digit n = if nat_lt (n % 16) 10 then 48 + n % 16 else 87 + n % 16

-- a character by its number, as `\u001b`
abbrev pub by_number : ℕ → List ℕ
by_number c = codes "\\u" ++ hex_digit (c / 4096) ∷ hex_digit (c / 256) ∷ hex_digit (c / 16) ∷ hex_digit c ∷ []

-- a character as it is shown
abbrev pub shown_char : ℕ → List ℕ
shown_char c =
    if c == 10 then codes "\\n"
    else if c == 13 then codes "\\r"
    else if c == 9 then codes "\\t"
    else if c == 92 then codes "\\\\"
    else if is_hidden c then by_number c
    else encode_utf8 c

abbrev pub shown_chars : List ℕ → List ℕ
shown_chars [] = []
shown_chars (c ∷ cs) = shown_char c ++ shown_chars cs

-- a text as it is shown
abbrev pub escaped : List ℕ → List ℕ
escaped text = shown_chars (chars text)

-- the end of a banner's line, whose title has so many bytes with the line end in front of it: a space and stars, up to column 79
abbrev pub stars : ℕ → List ℕ
stars title = codes " ***" ++ replicate (76 - title) 42 ++ 10 ∷ []
