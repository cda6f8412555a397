-- What a line has whose members were written.
use Rattle.std.proofs.Common.{◌≡◌, ◌++◌, ◌∷◌, [], ℕ, List, codes, pos, refl, sym, ap, ◌∙◌, append_assoc, append-nil}
use Rattle.std.specs.Fmt.{signed_decimal}
use Rattle.json.specs.Token.{Token}
use Rattle.json.specs.Print.{print}
use Rattle.pb_value.specs.Datum.{Datum, text, int, dict, members_of}
use Rattle.pb_compact.specs.Tokens.{tokens_of, member_tokens}
use Rattle.pb_compact.proofs.Printing.{tokens_are_compact}
use Rattle.pb_events.specs.Line.{line}
use Rattle.pb_events.specs.Members.{tokens_in}

closed : (ms : List (List ℕ × Datum)) → tokens_in ms ++ Token.end_object ∷ [] ≡ member_tokens (members_of ms)
closed [] = refl
closed (m ∷ ms) = ap (λ ts. Token.key m.0 ∷ ts) (append_assoc (tokens_of m.1) (tokens_in ms) (Token.end_object ∷ []) ∙ ap (λ ts. tokens_of m.1 ++ ts) (closed ms))

pub ended : (before : List ℕ) (ms : List (List ℕ × Datum)) → (before ++ print (Token.begin_object ∷ (tokens_in ms ++ Token.end_object ∷ []))) ++ 10 ∷ [] ≡ before ++ line ms
unfolding line
ended before ms =
    append_assoc before (print (Token.begin_object ∷ (tokens_in ms ++ Token.end_object ∷ []))) (10 ∷ [])
    ∙ ap (λ ts. before ++ (ts ++ 10 ∷ [])) (ap (λ ts. print (Token.begin_object ∷ ts)) (closed ms) ∙ tokens_are_compact (dict (members_of ms)))

-- ---- what is put behind members
tokens_behind : (ms more : List (List ℕ × Datum)) → tokens_in (ms ++ more) ≡ tokens_in ms ++ tokens_in more
tokens_behind [] more = refl
tokens_behind (m ∷ ms) more = ap (λ ts. Token.key m.0 ∷ ts) (ap (λ ts. tokens_of m.1 ++ ts) (tokens_behind ms more) ∙ sym (append_assoc (tokens_of m.1) (tokens_in ms) (tokens_in more)))

-- the place and the play
abbrev pub place_in : List ℕ → ℕ → List Token
place_in place play = Token.key (codes "place") ∷ Token.string place ∷ Token.key (codes "play") ∷ Token.number (signed_decimal (pos play)) ∷ []

put_one : (start : List Token) (place : List ℕ) (play : ℕ)
    → (start ++ Token.key (codes "place") ∷ Token.string place ∷ []) ++ Token.key (codes "play") ∷ Token.number (signed_decimal (pos play)) ∷ [] ≡ start ++ place_in place play
put_one start place play = append_assoc start (Token.key (codes "place") ∷ Token.string place ∷ []) (Token.key (codes "play") ∷ Token.number (signed_decimal (pos play)) ∷ [])

pub shown_put : (ms : List (List ℕ × Datum)) (place : List ℕ) (play : ℕ) (shown : Datum) (start named numbered all : List Token) → start ≡ Token.begin_object ∷ tokens_in ms
    → named ≡ start ++ Token.key (codes "place") ∷ Token.string place ∷ [] → numbered ≡ named ++ Token.key (codes "play") ∷ Token.number (signed_decimal (pos play)) ∷ []
    → all ≡ numbered ++ Token.key (codes "result") ∷ tokens_of shown
    → all ≡ Token.begin_object ∷ tokens_in (ms ++ (codes "place", text place) ∷ (codes "play", int (pos play)) ∷ (codes "result", shown) ∷ [])
shown_put ms place play shown start named numbered all a b c d =
    rw (d, c, b, put_one start place play, append_assoc start (place_in place play) (Token.key (codes "result") ∷ tokens_of shown), a)
    (ap (λ ts. Token.begin_object ∷ ts)
    (ap (λ ts. tokens_in ms ++ Token.key (codes "place") ∷ Token.string place ∷ Token.key (codes "play") ∷ Token.number (signed_decimal (pos play)) ∷ Token.key (codes "result") ∷ ts) (sym (append-nil (tokens_of shown)))
    ∙ sym (tokens_behind ms ((codes "place", text place) ∷ (codes "play", int (pos play)) ∷ (codes "result", shown) ∷ []))))
