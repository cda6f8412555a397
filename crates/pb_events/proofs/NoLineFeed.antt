-- Compact JSON has no line feed.
use Rattle.std.proofs.Common.{◌≡◌, ◌≢◌, ◌<◌, ◌/◌, ◌%◌, ℕ, zero, suc, pos, negsuc, Bool, true, false, cond, List, [], ◌∷◌, ◌++◌, refl, arith}
use Rattle.std.specs.Prelude.{decimal, ◌==◌, nat_lt}
use Rattle.std.specs.Char.{digit_char}
use Rattle.std.proofs.lemmas.Bool.Decides.{nat_tests}
use Rattle.json.specs.Print.{escape_letter, escape_byte, escape, quoted}
use Rattle.serde_json.specs.Data.{Num, unsigned, negative, float, Data, null, boolean, number, string, array, object, Items, no_items, item, Members, no_members, member}
use Rattle.serde_json.specs.Written.{number_text, compact_text, items_text, members_text, comma_if}
use Rattle.std.specs.Fmt.{digit_glyph, digits, digits_onto}

-- none of the bytes is a line feed
abbrev pub HasNone : List ℕ → Type 0
HasNone [] = Unit {0}
HasNone (b ∷ bs) = (b ≢ 10) × HasNone bs

joined : (s t : List ℕ) → HasNone s → HasNone t → HasNone (s ++ t)
joined [] t p q = q
joined (b ∷ s) t p q = (p.0, joined s t p.1 q)

letter : (x : ℕ) → escape_letter x ≢ 10
letter x = grind (arith, nat_tests)

digit : (n : ℕ) → digit_char n ≢ 10
digit n = grind (arith, nat_tests)

either : (b : Bool) (s t : List ℕ) → (b ≡ true → HasNone s) → (b ≡ false → HasNone t) → HasNone (cond b s t)
either true s t p q = p refl
either false s t p q = q refl

above : (x : ℕ) → nat_lt x 32 ≡ false → x ≢ 10
above x h = grind (arith, nat_tests)

larger : (b : ℕ) → 10 < b → b ≢ 10
larger b h = grind arith

byte : (x : ℕ) → HasNone (escape_byte x)
unfolding escape_byte
byte x =
    either (nat_lt 0 (escape_letter x)) _ _ (λ _. (larger 92 (omega arith), (letter x, tt)))
    (λ _. either (nat_lt x 32) _ _
    (λ _. (larger 92 (omega arith), (larger 117 (omega arith), (larger 48 (omega arith), (larger 48 (omega arith), (digit (x / 16), (digit (x % 16), tt)))))))
    (λ h. (above x h, tt)))

escaped : (s : List ℕ) → HasNone (escape s)
escaped [] = tt
escaped (b ∷ bs) = joined (escape_byte b) (escape bs) (byte b) (escaped bs)

in_quotes : (s : List ℕ) → HasNone (quoted s)
in_quotes s = (larger 34 (omega arith), joined (escape s) (34 ∷ []) (escaped s) (larger 34 (omega arith), tt))

glyph : (upper : Bool) (d : ℕ) → digit_glyph upper d ≢ 10
glyph true d = grind (arith, nat_tests)
glyph false d = grind (arith, nat_tests)

in_digits : (k base : ℕ) (upper : Bool) (n : ℕ) (sizes_left : List ℕ) → HasNone sizes_left → HasNone (digits_onto k base upper n sizes_left)
in_digits zero base upper n sizes_left h = h
in_digits (suc k) base upper n sizes_left h =
    either (n / base == 0) _ _ (λ _. (glyph upper (n % base), h)) (λ _. in_digits k base upper (n / base) _ (glyph upper (n % base), h))

in_decimal : (n : ℕ) → HasNone (decimal n)
unfolding digits
in_decimal n = in_digits 64 10 false n [] tt

in_number : (n : Num) → HasNone (number_text n)
in_number (unsigned n) = in_decimal n
in_number (negative (pos n)) = in_decimal n
in_number (negative (negsuc n)) = (larger 45 (omega arith), in_decimal (suc n))
in_number (float x) = tt

comma : (sizes_left : Bool) → HasNone (comma_if sizes_left)
comma true = (larger 44 (omega arith), tt)
comma false = tt

mutual
  pub in_json : (d : Data) → HasNone (compact_text d)
  in_json null = (larger 110 (omega arith), (larger 117 (omega arith), (larger 108 (omega arith), (larger 108 (omega arith), tt))))
  in_json (boolean true) = (larger 116 (omega arith), (larger 114 (omega arith), (larger 117 (omega arith), (larger 101 (omega arith), tt))))
  in_json (boolean false) = (larger 102 (omega arith), (larger 97 (omega arith), (larger 108 (omega arith), (larger 115 (omega arith), (larger 101 (omega arith), tt)))))
  in_json (number n) = in_number n
  in_json (string s) = in_quotes s
  in_json (array ds) = (larger 91 (omega arith), in_items false ds)
  in_json (object ms) = (larger 123 (omega arith), in_members false ms)

  in_items : (sizes_left : Bool) (ds : Items) → HasNone (items_text sizes_left ds)
  in_items sizes_left no_items = (larger 93 (omega arith), tt)
  in_items sizes_left (item d ds) = joined (comma_if sizes_left) _ (comma sizes_left) (joined (compact_text d) _ (in_json d) (in_items true ds))

  in_members : (sizes_left : Bool) (ms : Members) → HasNone (members_text sizes_left ms)
  in_members sizes_left no_members = (larger 125 (omega arith), tt)
  in_members sizes_left (member k d ms) =
      joined (comma_if sizes_left) _ (comma sizes_left)
      (joined (quoted k) _ (in_quotes k) (larger 58 (omega arith), joined (compact_text d) _ (in_json d) (in_members true ms)))
