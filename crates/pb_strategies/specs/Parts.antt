-- What the hosts that may start are put together of.
use Rattle.std.specs.Prelude.{ℕ, Bool, true, false, ◌&&◌, ◌||◌, not, List, map, length, slice_get, Option, Some, None}
use Rattle.std.specs.List.{range_with_len}
use Rattle.std.specs.Option.{option_map_or}
use Rattle.pb_planes.specs.Set.{is_in}
use Rattle.pb_strategies.specs.declared.standings.Standing.{Standing}
use Rattle.pb_strategies.specs.Hosts.{is_running, has_begun, is_next_at, is_waiting}
use Rattle.pb_strategies.specs.MayStart.{ViewOf, has_room_at, has_room, runs_once, is_open_once, has_room_to_begin, is_first_at}

-- whether the throttle of a host's next place lets it start
abbrev pub is_open_to : ViewOf → Standing → Bool
is_open_to view host = option_map_or (has_room_at view) host.next true

-- the same by the host's number; also true where there is no such host
abbrev pub is_open : ViewOf → ℕ → Bool
is_open view h = option_map_or (is_open_to view) (slice_get view.hosts h) true

-- whether a host is in the set, and the throttle of its next place lets it start
abbrev pub stays_open : ViewOf → List Bool → ℕ → Bool
stays_open view set h = is_in set h && is_open view h

-- a set without the hosts that the throttles don't let start
abbrev pub opened : ViewOf → List Bool → List Bool
opened view set = map (stays_open view set) (range_with_len 0 (length set))

-- whether a host's next place is that of this task, if the throttle there lets no other host start
abbrev pub is_shut_by : ViewOf → Option ℕ → Standing → Bool
is_shut_by view None host = false
is_shut_by view (Some p) host = is_next_at (Some p) host && not (has_room_at view p)

-- a host that waits, and has begun or may begin
abbrev pub begins : ViewOf → Standing → Bool
begins view host = is_waiting host && (has_begun host || has_room_to_begin view)

-- whether this is a host's next place and the host doesn't run
abbrev pub stands_at : ℕ → Standing → Bool
stands_at p host = is_next_at (Some p) host && not (is_running host)

-- the first host whose next place is this one, if it doesn't run
abbrev pub first_standing : List Standing → ℕ → ℕ → Bool
first_standing hosts p h = option_map_or (stands_at p) (slice_get hosts h) false && is_first_at hosts p h

-- whether the task at the current place may start, where hosts stand there
abbrev pub is_open_at : ViewOf → ℕ → Bool
is_open_at view p = has_room view && has_room_at view p && (not (runs_once view p) || is_open_once view p)
