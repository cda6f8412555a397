-- Variables in whose texts `hostvars` doesn't stand: no template among them looks it up.
use Rattle.std.specs.Prelude.{◌≡◌, ℕ, false, List, codes}
use Rattle.pb_value.specs.Datum.{Datum, members_of}
use Rattle.pb_mentions.specs.Mentions.{members_mention}

-- it stands in no text of these variables
abbrev pub IsFree : List (List ℕ × Datum) → Type 0
IsFree vars = members_mention (codes "hostvars") (members_of vars) ≡ false
