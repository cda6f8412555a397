-- Where hosts stand.
use Rattle.std.specs.Prelude.{ℕ, nat_eq, Bool, false, ◌&&◌, ◌||◌, not, List, map, Option, Some, None, is_some}
use Rattle.pb_strategies.specs.declared.standings.Standing.{Standing}

-- a host outside of the batch
abbrev pub nowhere : Standing
nowhere = record { next = None; runs = None; has_begun = false }

-- whether both are places, and the same one
abbrev pub same_place : Option ℕ → Option ℕ → Bool
same_place (Some p) (Some q) = nat_eq p q
same_place (Some p) None = false
same_place None q = false

-- a host runs from its start until its task is finished
abbrev pub is_running : Standing → Bool
is_running host = is_some host.runs

abbrev pub has_begun : Standing → Bool
has_begun host = host.has_begun

-- a host that has a next place: it is in the batch, and not at its end
abbrev pub is_unended : Standing → Bool
is_unended host = is_some host.next

-- a host that stands anywhere but outside of the batch, as far as one sees: it has a next place, or has begun, or runs
abbrev pub is_somewhere : Standing → Bool
is_somewhere host = (is_unended host || has_begun host) || is_running host

-- whether this is the host's next place; where no place is given, it is no host's
abbrev pub is_next_at : Option ℕ → Standing → Bool
is_next_at place host = same_place host.next place

-- a host that has a next place and doesn't run
abbrev pub is_waiting : Standing → Bool
is_waiting host = is_unended host && not (is_running host)

-- a host that has begun its batch and is not at its end
abbrev pub is_under_way : Standing → Bool
is_under_way host = has_begun host && is_unended host

-- what the hosts run
abbrev pub runs_in : List Standing → List (Option ℕ)
runs_in hosts = map (λ (host : Standing). host.runs) hosts
