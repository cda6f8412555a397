-- Worked examples: each is proved by computing both sides.
use Rattle.std.specs.Prelude.{◌≡◌, ℕ, refl, true, false, List, [], ◌∷◌, map, Option, Some, None}
use Rattle.pb_strategies.specs.declared.standings.Standing.{Standing}
use Rattle.pb_strategies.specs.declared.strategy.Strategy.{Strategy}
use Rattle.pb_strategies.specs.declared.strategy.Strategy.TheVariants.{Linear, Free, HostPinned}
use Rattle.pb_strategies.specs.Hosts.{nowhere}
use Rattle.pb_strategies.specs.Kept.{IsWatched, put_at, with_next}
use Rattle.pb_strategies.specs.MayStart.{ViewOf, ready, turn_ready}
use Rattle.pb_strategies.specs.Numbers.{behind_bits, has_bit, numbered, same_bits}
use Rattle.pb_strategies.specs.Parts.{is_shut_by}

-- a host that waits at a place, one that runs there, one that has done there what it does, and one at its end
abbrev fresh : ℕ → Standing
fresh p = record { next = Some p; runs = None; has_begun = false }

abbrev runs : ℕ → Standing
runs p = record { next = Some p; runs = Some p; has_begun = true }

abbrev waits : ℕ → Standing
waits p = record { next = Some p; runs = None; has_begun = true }

abbrev ended : Standing
ended = record { next = None; runs = None; has_begun = true }

-- three places: the second has a throttle of 1, and the third runs once
abbrev seen : Strategy → ℕ → Option ℕ → List Standing → ViewOf
seen strategy forks place hosts =
    record { strategy = strategy; forks = forks; is_stopped = false; place = place; is_run_once_done = false; throttles = 0 ∷ 1 ∷ 0 ∷ []; run_once = false ∷ false ∷ true ∷ []; hosts = hosts }

-- linear: the hosts at the current place, but neither those that run nor those that are ahead
current : ready (seen Linear 5 (Some 0) (fresh 0 ∷ runs 0 ∷ waits 1 ∷ nowhere ∷ ended ∷ [])) ≡ true ∷ false ∷ false ∷ false ∷ false ∷ []
current = refl

-- as many as there are forks run, and no more
forks_full : ready (seen Linear 1 (Some 0) (fresh 0 ∷ runs 0 ∷ [])) ≡ false ∷ false ∷ []
forks_full = refl

stopped : ready (record (seen Linear 5 (Some 0) (fresh 0 ∷ [])) { is_stopped = true }) ≡ false ∷ []
stopped = refl

-- a throttle counts the hosts that run at its place alone, whatever the strategy
throttled : ready (seen Linear 5 (Some 1) (waits 1 ∷ runs 1 ∷ waits 1 ∷ [])) ≡ false ∷ false ∷ false ∷ []
throttled = refl

throttled_free : ready (seen Free 5 None (waits 1 ∷ runs 1 ∷ waits 0 ∷ fresh 2 ∷ [])) ≡ false ∷ false ∷ true ∷ true ∷ []
throttled_free = refl

throttled_pinned : ready (seen HostPinned 5 None (waits 1 ∷ runs 1 ∷ waits 0 ∷ fresh 2 ∷ [])) ≡ false ∷ false ∷ true ∷ true ∷ []
throttled_pinned = refl

-- a task that runs once starts on the first host there, and on no other while that one runs it
once : ready (seen Linear 5 (Some 2) (ended ∷ waits 2 ∷ waits 2 ∷ [])) ≡ false ∷ true ∷ false ∷ []
once = refl

once_runs : ready (seen Linear 5 (Some 2) (runs 2 ∷ waits 2 ∷ [])) ≡ false ∷ false ∷ []
once_runs = refl

-- once it is done it starts on none
run_once_done : ready (record (seen Linear 5 (Some 2) (waits 2 ∷ waits 2 ∷ [])) { is_run_once_done = true }) ≡ false ∷ false ∷ []
run_once_done = refl

-- free: each host goes on, however far ahead it is, and a task that runs once starts on each
ahead : ready (seen Free 5 None (fresh 0 ∷ waits 2 ∷ waits 2 ∷ ended ∷ [])) ≡ true ∷ true ∷ true ∷ false ∷ []
ahead = refl

-- host_pinned: two hosts have begun and aren't at their end, so that with two forks the third one waits
pinned : ready (seen HostPinned 2 None (waits 2 ∷ runs 0 ∷ fresh 0 ∷ [])) ≡ true ∷ false ∷ false ∷ []
pinned = refl

-- it begins when one of them is at its end
pinned_next : ready (seen HostPinned 2 None (ended ∷ runs 0 ∷ fresh 0 ∷ [])) ≡ false ∷ false ∷ true ∷ []
pinned_next = refl

-- where a host runs and the throttle is full, nobody else starts who is next there; elsewhere that host is in nobody's way
shut : map (is_shut_by (seen Free 5 None (waits 1 ∷ runs 1 ∷ waits 0 ∷ ended ∷ [])) (Some 1)) (waits 1 ∷ runs 1 ∷ waits 0 ∷ ended ∷ []) ≡ true ∷ true ∷ false ∷ false ∷ []
shut = refl

not_shut : map (is_shut_by (seen Free 5 None (waits 0 ∷ runs 0 ∷ waits 1 ∷ [])) (Some 0)) (waits 0 ∷ runs 0 ∷ waits 1 ∷ []) ≡ false ∷ false ∷ false ∷ []
not_shut = refl

-- of a place that is watched its hosts are kept, and as one of them goes on it is kept no more
watched : IsWatched (fresh 0 ∷ runs 1 ∷ waits 1 ∷ ended ∷ []) (record { place = Some 1; hosts = false ∷ true ∷ true ∷ false ∷ [] })
watched = refl

watched_on : with_next 1 (Some 2) (record { place = Some 1; hosts = false ∷ true ∷ true ∷ false ∷ [] }) ≡ record { place = Some 1; hosts = false ∷ false ∷ true ∷ false ∷ [] }
watched_on = refl

-- of the sets of all places those alone change that a host leaves or comes to, and none where the place isn't watched
watched_left : put_at (Some 1) 1 false (None ∷ Some (false ∷ true ∷ true ∷ []) ∷ Some (true ∷ false ∷ false ∷ []) ∷ []) ≡ None ∷ Some (false ∷ false ∷ true ∷ []) ∷ Some (true ∷ false ∷ false ∷ []) ∷ []
watched_left = refl

not_watched : put_at (Some 0) 1 true (None ∷ Some (false ∷ true ∷ []) ∷ []) ≡ None ∷ Some (false ∷ true ∷ []) ∷ []
not_watched = refl

-- the batch goes on once nobody runs and nobody may start
done_there : turn_ready (seen Linear 5 (Some 0) (waits 1 ∷ waits 1 ∷ nowhere ∷ [])) ≡ true
done_there = refl

one_runs : turn_ready (seen Linear 5 (Some 0) (waits 1 ∷ runs 0 ∷ [])) ≡ false
one_runs = refl

one_may_start : turn_ready (seen Linear 5 (Some 0) (waits 1 ∷ fresh 0 ∷ [])) ≡ false
one_may_start = refl

not_linear : turn_ready (seen Free 5 None (ended ∷ [])) ≡ false
not_linear = refl

-- six is 110 in bits; with two of them it agrees with two, with three it doesn't
bits_of_six : map (λ k. has_bit k 6) (0 ∷ 1 ∷ 2 ∷ 3 ∷ []) ≡ false ∷ true ∷ true ∷ false ∷ []
bits_of_six = refl

two_bits : same_bits 2 6 2 ≡ true
two_bits = refl

three_bits : same_bits 3 6 2 ≡ false
three_bits = refl

none_behind : behind_bits 3 6 ≡ 0
none_behind = refl

-- the hosts at the places 1, 3, outside of the batch and 2: of the lowest bit, and of the next one
numbered_hosts : map (λ k. map (numbered k) (fresh 1 ∷ runs 3 ∷ nowhere ∷ waits 2 ∷ [])) (0 ∷ 1 ∷ []) ≡ (true ∷ true ∷ false ∷ false ∷ []) ∷ (false ∷ true ∷ false ∷ true ∷ []) ∷ []
numbered_hosts = refl
