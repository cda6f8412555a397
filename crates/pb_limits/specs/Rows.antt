-- Worked examples: each is proved by computing both sides.
use Rattle.std.specs.Prelude.{◌≡◌, ℕ, refl, true, false, [], ◌∷◌, List, Option, Some, None}
use Rattle.pb_limits.specs.Counts.{running, running_at, limits_of, has_room_for}

-- five hosts, of which three run, two of them at the same place
abbrev pub five : List (Option ℕ)
five = Some 2 ∷ None ∷ Some 0 ∷ Some 2 ∷ None ∷ []

pub in_all : running five ≡ 3
in_all = refl

pub at_places : limits_of 4 five ≡ record { running = 3; at = 1 ∷ 0 ∷ 2 ∷ 0 ∷ [] }
at_places = refl

-- a place behind those that are counted is counted in all
pub behind : limits_of 1 five ≡ record { running = 3; at = 1 ∷ [] }
behind = refl

-- two hosts at a place fill a throttle of 2; without a throttle there is always room
pub full : has_room_for (running_at five 2) 2 ≡ false
full = refl

pub room : has_room_for (running_at five 2) 3 ≡ true
room = refl

pub unthrottled : has_room_for (running_at five 2) 0 ≡ true
unthrottled = refl
