-- Of a text as it is shown, no character is hidden and no byte is a control.
use Rattle.std.proofs.Common.{◌≡◌, ◌≢◌, ◌<◌, ◌≤◌, ◌+◌, ◌/◌, ◌%◌, ℕ, zero, suc, Bool, true, false, cond, List, [], ◌∷◌, ◌++◌, refl, sym, ap, ◌∙◌, arith}
use Rattle.std.proofs.lemmas.Bool.Decides.{nat_tests}
use Rattle.std.specs.Prelude.{◌==◌, nat_lt}
use Rattle.std.specs.Char.{encode_utf8}
use Rattle.std.specs.Str.{chars, chars_after, continuation_len, lead_bits}
use Rattle.pb_show.specs.Escaped.{is_hidden, hex_digit, by_number, shown_char, shown_chars}
use Rattle.pb_show.specs.Laws.{NoneHidden, IsVisible}

either : (P : List ℕ → Type 0) (t : Bool) (a b : List ℕ) → (t ≡ true → P a) → (t ≡ false → P b) → P (cond t a b)
either P true a b p q = p refl
either P false a b p q = q refl

digit_case : (t : Bool) (n : ℕ) → n < 16 → (nat_lt n 10 ≡ t) → (32 ≤ cond t (48 + n) (87 + n)) × (cond t (48 + n) (87 + n) < 127)
digit_case true n h e = (omega arith, omega arith)
digit_case false n h e = (omega arith, omega arith)

digit_seen : (n : ℕ) → (32 ≤ hex_digit n) × (hex_digit n < 127)
digit_seen n = digit_case (nat_lt (n % 16) 10) (n % 16) (omega arith) refl

-- ---- characters
ends_char : (c : ℕ) (bs : List ℕ) → chars_after zero c bs ≡ c ∷ chars bs
unfolding chars
ends_char c [] = refl
ends_char c (b ∷ bs) = refl

begins_char : (a n v : ℕ) (bs : List ℕ) → n ≡ continuation_len a → v ≡ lead_bits a → chars (a ∷ bs) ≡ chars_after n v bs
unfolding chars
begins_char a n v bs p q = λ i. chars_after (sym p i) (sym q i) bs

Spells : ℕ → List ℕ → List ℕ → Type 0
Spells c rest bs = chars (bs ++ rest) ≡ c ∷ chars rest

one_byte : (c : ℕ) (rest : List ℕ) → c < 128 → chars (c ∷ rest) ≡ c ∷ chars rest
one_byte c rest h = begins_char c zero c rest (grind (arith, nat_tests)) (grind (arith, nat_tests)) ∙ ends_char c rest

two_bytes : (c : ℕ) (rest : List ℕ) → nat_lt c 2048 ≡ true → chars ((192 + c / 64) ∷ (128 + c % 64) ∷ rest) ≡ c ∷ chars rest
two_bytes c rest h =
    begins_char (192 + c / 64) (suc zero) (c / 64) _ (grind (arith, nat_tests)) (grind (arith, nat_tests)) ∙ ends_char _ rest ∙ ap (λ x. x ∷ chars rest) (omega arith)

three_bytes : (c : ℕ) (rest : List ℕ) → nat_lt c 65536 ≡ true → chars ((224 + c / 4096) ∷ (128 + c / 64 % 64) ∷ (128 + c % 64) ∷ rest) ≡ c ∷ chars rest
three_bytes c rest h =
    begins_char (224 + c / 4096) (suc (suc zero)) (c / 4096) _ (grind (arith, nat_tests)) (grind (arith, nat_tests)) ∙ ends_char _ rest ∙ ap (λ x. x ∷ chars rest) (omega arith)

four_bytes : (c : ℕ) (rest : List ℕ) → chars ((240 + c / 262144) ∷ (128 + c / 4096 % 64) ∷ (128 + c / 64 % 64) ∷ (128 + c % 64) ∷ rest) ≡ c ∷ chars rest
four_bytes c rest =
    begins_char (240 + c / 262144) (suc (suc (suc zero))) (c / 262144) _ (grind (arith, nat_tests)) (grind (arith, nat_tests)) ∙ ends_char _ rest ∙ ap (λ x. x ∷ chars rest) (omega arith)

-- what stands behind a character as it is encoded is read by itself
encoded_spells : (c : ℕ) (rest : List ℕ) → Spells c rest (encode_utf8 c)
unfolding encode_utf8 Spells
encoded_spells c rest =
    either (Spells c rest) (nat_lt c 128) _ _ (λ h. one_byte c rest (grind (arith, nat_tests)))
    (λ _. either (Spells c rest) (nat_lt c 2048) _ _ (λ h. two_bytes c rest h)
    (λ _. either (Spells c rest) (nat_lt c 65536) _ _ (λ h. three_bytes c rest h)
    (λ _. four_bytes c rest)))

one_more : (c : ℕ) (bs rest : List ℕ) → chars bs ≡ c ∷ chars rest → is_hidden c ≡ false → NoneHidden rest → NoneHidden bs
one_more c bs rest e h q = rw e (h, q)

plain_more : (c : ℕ) (rest : List ℕ) → (32 ≤ c) × (c < 127) → NoneHidden rest → NoneHidden (c ∷ rest)
plain_more c rest h q = one_more c (c ∷ rest) rest (one_byte c rest (omega (arith, h))) (grind (arith, nat_tests)) q

Keeps : List ℕ → List ℕ → Type 0
Keeps rest bs = NoneHidden (bs ++ rest)

two_more : (a b : ℕ) (rest : List ℕ) → (32 ≤ a) × (a < 127) → (32 ≤ b) × (b < 127) → NoneHidden rest → NoneHidden (a ∷ b ∷ rest)
two_more a b rest p q r = plain_more a (b ∷ rest) p (plain_more b rest q r)

number_more : (c : ℕ) (rest : List ℕ) → NoneHidden rest → NoneHidden (by_number c ++ rest)
number_more c rest q =
    two_more 92 117 _ (omega arith, omega arith) (omega arith, omega arith)
    (two_more _ _ _ (digit_seen (c / 4096)) (digit_seen (c / 256)) (two_more _ _ rest (digit_seen (c / 16)) (digit_seen c) q))

char_more : (c : ℕ) (rest : List ℕ) → NoneHidden rest → Keeps rest (shown_char c)
unfolding Keeps Spells
char_more c rest q =
    let P = Keeps rest in
    either P (c == 10) _ _ (λ _. two_more 92 110 rest (omega arith, omega arith) (omega arith, omega arith) q)
    (λ _. either P (c == 13) _ _ (λ _. two_more 92 114 rest (omega arith, omega arith) (omega arith, omega arith) q)
    (λ _. either P (c == 9) _ _ (λ _. two_more 92 116 rest (omega arith, omega arith) (omega arith, omega arith) q)
    (λ _. either P (c == 92) _ _ (λ _. two_more 92 92 rest (omega arith, omega arith) (omega arith, omega arith) q)
    (λ _. either P (is_hidden c) _ _ (λ _. number_more c rest q) (λ h. one_more c _ rest (encoded_spells c rest) h q)))))

pub none_hidden : (cs : List ℕ) → NoneHidden (shown_chars cs)
unfolding Keeps chars
none_hidden [] = tt
none_hidden (c ∷ cs) = char_more c (shown_chars cs) (none_hidden cs)

-- ---- bytes
seen_both : (a b : List ℕ) → IsVisible a → IsVisible b → IsVisible (a ++ b)
seen_both [] b p q = q
seen_both (x ∷ a) b p q = (p.0, p.1, seen_both a b p.2 q)

high : (x : ℕ) → 128 ≤ x → (32 ≤ x) × (x ≢ 127)
high x h = (omega arith, omega arith)

two_seen : (a b : ℕ) → (32 ≤ a) × (a < 127) → (32 ≤ b) × (b < 127) → IsVisible (a ∷ b ∷ [])
two_seen a b p q = (p.0, omega (arith, p.1), (q.0, omega (arith, q.1), tt))

number_seen : (c : ℕ) → IsVisible (by_number c)
number_seen c =
    let last = hex_digit (c / 16) ∷ hex_digit c ∷ [] in
    let digits = hex_digit (c / 4096) ∷ hex_digit (c / 256) ∷ last in
    seen_both (92 ∷ 117 ∷ []) digits (two_seen 92 117 (omega arith, omega arith) (omega arith, omega arith))
    (seen_both (hex_digit (c / 4096) ∷ hex_digit (c / 256) ∷ []) last (two_seen _ _ (digit_seen (c / 4096)) (digit_seen (c / 256)))
    (two_seen _ _ (digit_seen (c / 16)) (digit_seen c)))

not_hidden : (c : ℕ) → is_hidden c ≡ false → (32 ≤ c) × (c ≢ 127)
not_hidden c h = (grind (arith, nat_tests), grind (arith, nat_tests))

encoded_seen : (c : ℕ) → (32 ≤ c) × (c ≢ 127) → IsVisible (encode_utf8 c)
unfolding encode_utf8
encoded_seen c h =
    let one = high (192 + c / 64) (omega arith) in
    let two = high (224 + c / 4096) (omega arith) in
    let three = high (240 + c / 262144) (omega arith) in
    let next : (n : ℕ) → (32 ≤ 128 + n % 64) × (128 + n % 64 ≢ 127) = λ n. high (128 + n % 64) (omega arith) in
    let last = next c in
    let mid = next (c / 64) in
    let top = next (c / 4096) in
    either IsVisible (nat_lt c 128) _ _ (λ _. (h.0, h.1, tt))
    (λ _. either IsVisible (nat_lt c 2048) _ _ (λ _. (one.0, one.1, (last.0, last.1, tt)))
    (λ _. either IsVisible (nat_lt c 65536) _ _ (λ _. (two.0, two.1, (mid.0, mid.1, (last.0, last.1, tt))))
    (λ _. (three.0, three.1, (top.0, top.1, (mid.0, mid.1, (last.0, last.1, tt)))))))

char_seen : (c : ℕ) → IsVisible (shown_char c)
char_seen c =
    either IsVisible (c == 10) _ _ (λ _. two_seen 92 110 (omega arith, omega arith) (omega arith, omega arith))
    (λ _. either IsVisible (c == 13) _ _ (λ _. two_seen 92 114 (omega arith, omega arith) (omega arith, omega arith))
    (λ _. either IsVisible (c == 9) _ _ (λ _. two_seen 92 116 (omega arith, omega arith) (omega arith, omega arith))
    (λ _. either IsVisible (c == 92) _ _ (λ _. two_seen 92 92 (omega arith, omega arith) (omega arith, omega arith))
    (λ _. either IsVisible (is_hidden c) _ _ (λ _. number_seen c) (λ h. encoded_seen c (not_hidden c h))))))

pub bytes_seen : (cs : List ℕ) → IsVisible (shown_chars cs)
bytes_seen [] = tt
bytes_seen (c ∷ cs) = seen_both (shown_char c) (shown_chars cs) (char_seen c) (bytes_seen cs)
