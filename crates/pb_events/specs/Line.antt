-- A line: an object as compact JSON, and a line end.
use Rattle.std.specs.Prelude.{ℕ, pos, List, [], ◌∷◌, ◌++◌, codes}
use Rattle.serde_json.specs.Written.{compact_text}
use Rattle.pb_value.specs.Datum.{Datum, text, int, dict, members_of}
use Rattle.pb_value.specs.ToJson.{json_of}

-- the keys stand in byte order
unfoldable pub line : List (List ℕ × Datum) → List ℕ
line members = compact_text (json_of (dict (members_of members))) ++ 10 ∷ []

-- what a line has that tells of a place in a play
abbrev pub at_place : List ℕ → List ℕ → ℕ → List (List ℕ × Datum)
at_place event place play = (codes "event", text event) ∷ (codes "place", text place) ∷ (codes "play", int (pos play)) ∷ []

-- and of a host there
abbrev pub at_host : List ℕ → List ℕ → List ℕ → ℕ → List (List ℕ × Datum)
at_host event host place play = (codes "event", text event) ∷ (codes "host", text host) ∷ (codes "place", text place) ∷ (codes "play", int (pos play)) ∷ []

-- and of how the host's task ended there
abbrev pub at_end : List ℕ → List ℕ → List ℕ → ℕ → Datum → List (List ℕ × Datum)
at_end event host place play result =
    (codes "event", text event) ∷ (codes "host", text host) ∷ (codes "place", text place) ∷ (codes "play", int (pos play)) ∷ (codes "result", result) ∷ []
