-- What is kept beside the list of where hosts stand.
use Rattle.std.specs.Prelude.{◌≡◌, ◌<◌, ◌^◌, ◌&&◌, not, ℕ, Bool, List, Option, Some, None, IfSome, map, length, count_by, slice_set, slice_index_or}
use Rattle.std.specs.Option.{option_map}
use Rattle.pb_limits.specs.Counts.{LimitsOf, limits_of}
use Rattle.pb_strategies.specs.declared.standings.Standing.{Standing}
use Rattle.pb_strategies.specs.declared.watched.Watched.{Watched}
use Rattle.pb_strategies.specs.Hosts.{same_place, is_running, has_begun, is_unended, is_next_at, is_under_way, runs_in}
use Rattle.pb_strategies.specs.Numbers.{AreNumbered}

-- a place, and the hosts whose next place it is
abbrev pub IsWatched : List Standing → Watched → Type 0
IsWatched hosts watched = watched.hosts ≡ map (is_next_at watched.place) hosts

-- what is kept of a place once a host has this next place
abbrev pub with_next : ℕ → Option ℕ → Watched → Watched
with_next host next watched = record watched { hosts = slice_set watched.hosts host (same_place next watched.place) }

-- of each place that has a set, the hosts whose next place it is
abbrev pub AreWatched : List Standing → List (Option (List Bool)) → Type 0
AreWatched hosts sets = (place : ℕ) → IfSome (slice_index_or sets place None) (λ set. set ≡ map (is_next_at (Some place)) hosts)

-- a host that each set has a bit for
abbrev pub AreWide : ℕ → List (Option (List Bool)) → Type 0
AreWide host sets = (place : ℕ) → IfSome (slice_index_or sets place None) (λ set. host < length set)

-- a set, where there is one, once a host is in it or isn't
abbrev pub put_into : ℕ → Bool → Option (List Bool) → Option (List Bool)
put_into host is_in set = option_map (λ (hosts : List Bool). slice_set hosts host is_in) set

-- the sets, once a host is in that of this place or isn't; the same sets where there is no place
abbrev pub put_at : Option ℕ → ℕ → Bool → List (Option (List Bool)) → List (Option (List Bool))
put_at None host is_in sets = sets
put_at (Some place) host is_in sets = slice_set sets place (put_into host is_in (slice_index_or sets place None))

-- a host whose next place is this one and that doesn't run
abbrev pub is_idle_at : Option ℕ → Standing → Bool
is_idle_at place host = is_next_at place host && not (is_running host)

-- the counts of the hosts that run, and of those that have begun and are not at their end; the sets of those that run, that have begun, that have a next
-- place, and whose next place is a certain one, of the current one, also without those that run, and of each that is watched; and the numbers of next places
pub record IsKept (hosts : List Standing) (limits : LimitsOf) (under_way : ℕ) (running begun unended : List Bool) (here : Watched) (idle : List Bool) (watched : List (Option (List Bool)))
    (bits : List (List Bool)) (fits : Bool) : Type 0 where
  pub few : length hosts < 2 ^ 32
  pub counted : (places : ℕ) × (limits ≡ limits_of places (runs_in hosts))
  pub are_under_way : under_way ≡ count_by is_under_way hosts
  pub are_running : running ≡ map is_running hosts
  pub have_begun : begun ≡ map has_begun hosts
  pub are_unended : unended ≡ map is_unended hosts
  pub are_here : IsWatched hosts here
  pub are_idle : idle ≡ map (is_idle_at here.place) hosts
  pub are_watched : AreWatched hosts watched
  pub are_numbered : AreNumbered hosts bits fits
