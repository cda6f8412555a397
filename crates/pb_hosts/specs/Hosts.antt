-- The rows of all hosts: what is asked of them, and how the row of one host changes.
use Rattle.std.specs.Prelude.{ℕ, ◌+◌, Bool, false, List, [], ◌∷◌, Option, Some, None, slice_get, slice_set, min, if◌then◌else◌}
use Rattle.std.specs.List.{list_any}
use Rattle.std.specs.Option.{option_map_or}
use Rattle.pb_host.specs.FromPlan.{PlayOf}
use Rattle.pb_host.specs.Host.{HostOf, is_play_host, next_place, pending}

-- one where this holds, else none
abbrev pub one_if : Bool → ℕ
one_if b = if b then 1 else 0

-- a test of the row of one host; a number that is no host's passes none
abbrev pub at_row : (HostOf → Bool) → List HostOf → ℕ → Bool
at_row test rows h = option_map_or test (slice_get rows h) false

-- the lesser of two places; where one is missing it is the other
abbrev pub lesser : Option ℕ → Option ℕ → Option ℕ
lesser None q = q
lesser (Some p) None = Some p
lesser (Some p) (Some q) = Some (min p q)

-- the least place at which a host of the batch is; none where each of them is at the end of its play
abbrev pub least_place : List HostOf → Option ℕ
least_place [] = None
least_place (row ∷ rows) = lesser (next_place row) (least_place rows)

-- a play has hosts where one of its own is active
abbrev pub has_hosts : List HostOf → PlayOf → Bool
has_hosts rows play = list_any (is_play_host play.hosts) rows

-- the number of the first of these plays that has hosts; their first has the number n
abbrev pub first_play : List HostOf → ℕ → List PlayOf → Option ℕ
first_play rows n [] = None
first_play rows n (play ∷ plays) = if has_hosts rows play then Some n else first_play rows (n + 1) plays

-- one host's row changed
abbrev pub change : List HostOf → ℕ → (HostOf → HostOf) → List HostOf
change rows h f = option_map_or (λ row. slice_set rows h (f row)) (slice_get rows h) rows

-- the handlers that are pending on a host; there are none of a number that is no host's
abbrev pub pending_in : List HostOf → ℕ → List Bool
pending_in rows h = option_map_or pending (slice_get rows h) []
