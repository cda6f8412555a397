-- A host that may start is at its next place, and runs nothing.
use Rattle.std.proofs.Common.{◌≡◌, ℕ, zero, suc, ◌+◌, ◌<◌, Bool, true, false, ◌&&◌, ◌||◌, not, List, [], ◌∷◌, length, map, refl, sym, ◌∙◌, ap, arith}
use Rattle.std.specs.Prelude.{Option, Some, None, option_map, slice_get, is_some}
use Rattle.std.specs.List.{range_with_len}
use Rattle.std.specs.Option.{option_map_or}
use Rattle.std.proofs.lemmas.Bool.{eq-eqb}
use Rattle.std.proofs.lemmas.Option.{slice_get_within}
use Rattle.pb_planes.specs.Set.{has_some}
use Rattle.pb_plan.specs.Plan.{PlayOf}
use Rattle.pb_strategies.specs.declared.standings.Standing.{Standing}
use Rattle.pb_strategies.specs.declared.strategy.Strategy.{Strategy}
use Rattle.pb_strategies.specs.declared.strategy.Strategy.TheVariants.{Linear, Free, HostPinned}
use Rattle.pb_strategies.specs.Hosts.{is_running as standing_runs, same_place as same_there}
use Rattle.pb_strategies.specs.MayStart.{ViewOf, has_room, has_room_at, suits, may_start_at, may_start_from, may_start, is_linear, ready as starting}
use Rattle.pb_host.specs.declared.host.Running.{Running}
use Rattle.pb_host.specs.Host.{HostOf, next_place}
use Rattle.pb_state.specs.State.{State}
use Rattle.pb_host.specs.Standing.{standing}
use Rattle.pb_state.specs.Strategies.{view_of}
use Rattle.pb_host.specs.Runs.{is_running}
use Rattle.pb_hosts.specs.Hosts.{at_row}
use Rattle.pb_state.specs.Machine.{same_place, next_at, may_start_in}

and_left : (a b : Bool) → (a && b) ≡ true → a ≡ true
and_left true b e = refl
and_left false b e = cc

and_right : (a b : Bool) → (a && b) ≡ true → b ≡ true
and_right true b e = e
and_right false b e = cc

and_false : (a : Bool) → (a && false) ≡ false
and_false true = refl
and_false false = refl

or_left : (a b : Bool) → (a || b) ≡ false → a ≡ false
or_left true b e = e
or_left false b e = refl

or_right : (a b : Bool) → (a || b) ≡ false → b ≡ false
or_right true b e = cc
or_right false b e = e

pub both : (a b : Bool) → a ≡ true → b ≡ true → (a && b) ≡ true
both true b e f = f
both false b e f = cc

-- a host that runs nothing, and whose next place is this one
abbrev pub stands_at : Option ℕ → HostOf → Bool
stands_at place row = not (is_running row) && same_place (next_place row) place

pub runs_same : (running : Option Running) → is_some (option_map (λ (r : Running). r.place) running) ≡ is_some running
runs_same None = refl
runs_same (Some r) = refl

has_next : (view : ViewOf) (n : ℕ) (host : Standing) (next : Option ℕ) → option_map_or (may_start_at view n host) next false ≡ true → same_place next next ≡ true
has_next view n host None e = cc
has_next view n host (Some p) e = eq-eqb p p refl

from_row : (view : ViewOf) (n : ℕ) (row : HostOf) → may_start_from view n (standing row) ≡ true → stands_at (next_place row) row ≡ true
from_row view n row e =
    let idle : not (is_running row) ≡ true = ap not (sym (runs_same row.running)) ∙ and_left (not (standing_runs (standing row))) _ e in
    both (not (is_running row)) (same_place (next_place row) (next_place row)) idle (has_next view n (standing row) (next_place row) (and_right (not (standing_runs (standing row))) _ e))

from_rows : (view : ViewOf) (n : ℕ) (rows : List HostOf) (h : ℕ) → option_map_or (may_start_from view n) (slice_get (map standing rows) h) false ≡ true
    → at_row (stands_at (option_map_or next_place (slice_get rows h) None)) rows h ≡ true
from_rows view n [] h e = cc
from_rows view n (row ∷ rows) zero e = from_row view n row e
from_rows view n (row ∷ rows) (suc h) e = from_rows view n rows h e

pub start_stands : (s : State) (h : ℕ) (play : PlayOf) → may_start_in s h play ≡ true → at_row (stands_at (next_at s h)) s.rows h ≡ true
start_stands s h play e = from_rows (view_of s play) h s.rows h (and_right (has_room (view_of s play)) _ e)

-- under the linear strategy it starts at the current place
pub linear_is : (strategy : Strategy) → is_linear strategy ≡ true → strategy ≡ Linear
linear_is Linear e = refl
linear_is Free e = cc
linear_is HostPinned e = cc

none_same : (place : Option ℕ) (p : ℕ) → place ≡ None → same_there place (Some p) ≡ true → ⊥
none_same None p e f = cc
none_same (Some q) p e f = cc

linear_next : (view : ViewOf) (n : ℕ) (host : Standing) (next : Option ℕ) → view.strategy ≡ Linear → view.place ≡ None → option_map_or (may_start_at view n host) next false ≡ true → ⊥
linear_next view n host None l none e = cc
linear_next view n host (Some p) l none e =
    let asked : suits Linear view n host p ≡ true = ap (λ (strategy : Strategy). suits strategy view n host p) (sym l) ∙ and_right (has_room_at view p) _ e in
    none_same view.place p none (and_left (same_there view.place (Some p)) _ asked)

linear_found : (view : ViewOf) (n : ℕ) (found : Option Standing) → view.strategy ≡ Linear → view.place ≡ None → option_map_or (may_start_from view n) found false ≡ true → ⊥
linear_found view n None l none e = cc
linear_found view n (Some host) l none e = linear_next view n host host.next l none (and_right (not (standing_runs host)) _ e)

pub linear_place : (s : State) (h : ℕ) (play : PlayOf) → is_linear play.strategy ≡ true → may_start_in s h play ≡ true → s.place ≡ None → ⊥
linear_place s h play l e none =
    linear_found (view_of s play) h (slice_get (map standing s.rows) h) (linear_is play.strategy l) none (and_right (has_room (view_of s play)) _ e)

-- where nobody may start, no host may
none_in : (f : ℕ → Bool) (a n h : ℕ) → has_some (map f (range_with_len a n)) ≡ false → h < n → f (a + h) ≡ false
none_in f a zero h e l = absurd (omega (arith, l))
none_in f a (suc n) zero e l = ap f (let same : a + 0 ≡ a = omega arith in same) ∙ or_left (f a) _ e
none_in f a (suc n) (suc h) e l =
    ap f (let same : a + suc h ≡ (a + 1) + h = omega arith in same) ∙ none_in f (a + 1) n h (or_right (f a) _ e) (omega (arith, l))

pub none_starts : (s : State) (play : PlayOf) (h : ℕ) → has_some (starting (view_of s play)) ≡ false → may_start_in s h play ≡ false
none_starts s play h none = by_found (slice_get (map standing s.rows) h) refl
  where
    by_found : (found : Option Standing) → slice_get (map standing s.rows) h ≡ found → may_start (view_of s play) h ≡ false
    by_found None e = ap (λ (f : Option Standing). has_room (view_of s play) && option_map_or (may_start_from (view_of s play) h) f false) e ∙ and_false (has_room (view_of s play))
    by_found (Some host) e =
        ap (may_start (view_of s play)) (let same : h ≡ 0 + h = omega arith in same)
        ∙ none_in (may_start (view_of s play)) 0 (length (map standing s.rows)) h none (slice_get_within (map standing s.rows) h host e)

-- and where a host is one of those that may start, it may
held : (b : Bool) → Some b ≡ Some true → b ≡ true
held true e = refl
held false e = cc

some_in : (f : ℕ → Bool) (a n h : ℕ) → slice_get (map f (range_with_len a n)) h ≡ Some true → f (a + h) ≡ true
some_in f a zero h e = cc
some_in f a (suc n) zero e = ap f (let same : a + 0 ≡ a = omega arith in same) ∙ held (f a) e
some_in f a (suc n) (suc h) e = ap f (let same : a + suc h ≡ (a + 1) + h = omega arith in same) ∙ some_in f (a + 1) n h e

pub some_starts : (s : State) (play : PlayOf) (h : ℕ) → slice_get (starting (view_of s play)) h ≡ Some true → may_start_in s h play ≡ true
some_starts s play h e =
    ap (may_start (view_of s play)) (let same : h ≡ 0 + h = omega arith in same) ∙ some_in (may_start (view_of s play)) 0 (length (map standing s.rows)) h e
