-- The first host at a place, and whether some host may start.
use Rattle.std.proofs.Common.{◌≡◌, ◌≤◌, ◌<◌, ◌∙◌, ℕ, zero, suc, Bool, true, false, ◌&&◌, ◌||◌, not, cond, List, [], ◌∷◌, Option, Some, None, map, length, take, is_some, slice_get, slice_set, slice_index_or, get_or, arith, refl, ap, sym, inl, inr, length-take}
use Rattle.std.specs.Prelude.{replicate}
use Rattle.std.specs.Option.{option_map_or}
use Rattle.std.specs.List.{list_any, range_with_len}
use Rattle.std.proofs.lemmas.Bool.{cases_order, cases_Bool}
use Rattle.std.proofs.lemmas.Option.{get_or_from_slice_get, slice_get-get_or, slice_get_within}
use Rattle.std.proofs.lemmas.List.{length-set, length-map, length-replicate, get_or-replicate, get_or-set_same, get_or-set_other, get_or-take, get_or-map}
use Rattle.std.proofs.lemmas.List.Folds.{list_any_at, list_any_none}
use Rattle.std.proofs.lemmas.List.Sums.{get_or-le-sum_by}
use Rattle.std.proofs.lemmas.List.FromFn.{fill_by_all, get_or-map-range_with_len, length-map-range_with_len}
use Rattle.pb_planes.specs.Set.{is_in, has_some, IsNextFrom, HasNoneFrom}
use Rattle.pb_limits.specs.Counts.{running}
use Rattle.pb_strategies.specs.declared.standings.Standing.{Standing}
use Rattle.pb_strategies.specs.declared.strategy.Strategy.TheVariants.{Linear}
use Rattle.pb_strategies.specs.Hosts.{nowhere, is_running, is_next_at, runs_in}
use Rattle.pb_strategies.specs.MayStart.{ViewOf, has_room, has_room_at, runs_once, is_first_at, is_open_once, may_run_once, may_start, ready}
use Rattle.pb_strategies.specs.Parts.{stands_at, first_standing, is_open_at}
use Rattle.pb_strategies.proofs.Keeping.{runs_there}
use Rattle.pb_strategies.proofs.Starting.{differ, mapped, none_ready, may_is}

and_no : (a : Bool) → (a && false) ≡ false
and_no true = refl
and_no false = refl

and_yes : (a : Bool) → (a && true) ≡ a
and_yes true = refl
and_yes false = refl

-- the first host at a place, if it doesn't run
none_before : (test : Standing → Bool) (hosts : List Standing) (set : List Bool) (at : ℕ) → set ≡ map test hosts → at ≤ length hosts → ((i : ℕ) → 0 ≤ i → i < at → is_in set i ≡ false) → list_any test (take at hosts) ≡ false
none_before test hosts set at s within below = list_any_none test (take at hosts) none
  where
    none : (k : ℕ) (d : Standing) → k < length (take at hosts) → test (get_or (take at hosts) k d) ≡ false
    none k d lt =
        let long = length-take at hosts in
        let k-at : k < at = omega (arith, lt, long, within) in
        let k-in : k < length hosts = omega (arith, k-at, within) in
        ap test (get_or-take at hosts k d k-at) ∙ sym (get_or-map test hosts k d false k-in) ∙ ap (λ xs. is_in xs k) (sym s) ∙ below k (omega arith) k-at

some_before : (test : Standing → Bool) (hosts : List Standing) (at h : ℕ) (host : Standing) → at < h → h ≤ length hosts → slice_get hosts at ≡ Some host → test host ≡ true → list_any test (take h hosts) ≡ true
some_before test hosts at h host lt within e t =
    let long = length-take h hosts in
    list_any_at test (take h hosts) at host (omega (arith, long, lt, within)) (ap test (get_or-take h hosts at host lt ∙ get_or_from_slice_get hosts at host host e) ∙ t)

stands_first : (hosts : List Standing) (place h : ℕ) (host : Standing) → slice_get hosts h ≡ Some host → first_standing hosts place h ≡ (stands_at place host && is_first_at hosts place h)
stands_first hosts place h host e = ap (λ found. option_map_or (stands_at place) found false && is_first_at hosts place h) e

not_there : (n r f : Bool) → n ≡ false → ((n && r) && f) ≡ false
not_there n r f e = ap (λ b. (b && r) && f) e

pub first_is : (hosts : List Standing) (place at : ℕ) (set new : List Bool) → set ≡ map (is_next_at (Some place)) hosts → IsNextFrom set 0 at
    → new ≡ slice_set (replicate (length set) false) at (not (option_map_or is_running (slice_get hosts at) false))
    → new ≡ map (first_standing hosts place) (range_with_len 0 (length hosts))
first_is hosts place at set new s first n = fill_by_all (first_standing hosts place) new (length hosts) false long each
  where
    next : Standing → Bool
    next = is_next_at (Some place)

    v : Bool
    v = not (option_map_or is_running (slice_get hosts at) false)

    width : length set ≡ length hosts
    width = ap length s ∙ length-map hosts (is_next_at (Some place))

    size : length (replicate (length set) false) ≡ length hosts
    size = length-replicate (length set) false ∙ width

    long : length new ≡ length hosts
    long = ap length n ∙ length-set (replicate (length set) false) at (not (option_map_or is_running (slice_get hosts at) false)) ∙ size

    other : (h : ℕ) → h < length hosts → (h ≡ at → ⊥) → slice_index_or new h false ≡ false
    other h lt ne =
        ap (λ xs. slice_index_or xs h false) n
        ∙ get_or-set_other (replicate (length set) false) at h (not (option_map_or is_running (slice_get hosts at) false)) false ne
        ∙ get_or-replicate (length set) h false false (omega (arith, lt, width))

    there : (h : ℕ) (host : Standing) → slice_get hosts h ≡ Some host → is_in set h ≡ is_next_at (Some place) host
    there h host e = ap (λ xs. is_in xs h) s ∙ mapped (is_next_at (Some place)) hosts h host e

    at_first : (h : ℕ) (host : Standing) → h < length hosts → slice_get hosts h ≡ Some host → h ≡ at → slice_index_or new h false ≡ first_standing hosts place h
    at_first h host lt e is =
        let here : slice_get hosts at ≡ Some host = ap (slice_get hosts) (sym is) ∙ e in
        let inside : at < length (replicate (length set) false) = omega (arith, lt, is, size) in
        let below : at ≤ length hosts = omega (arith, lt, is) in
        let shown : is_next_at (Some place) host ≡ true = sym (there at host here) ∙ first.1 in
        ap (λ xs. slice_index_or xs h false) n
        ∙ ap (λ k. slice_index_or (slice_set (replicate (length set) false) at (not (option_map_or is_running (slice_get hosts at) false))) k false) is
        ∙ get_or-set_same (replicate (length set) false) at (not (option_map_or is_running (slice_get hosts at) false)) false inside
        ∙ ap (λ found. not (option_map_or is_running found false)) here
        ∙ sym (stands_first hosts place h host e
        ∙ ap (λ b. (b && not (is_running host)) && is_first_at hosts place h) shown
        ∙ ap (λ k. not (is_running host) && is_first_at hosts place k) is
        ∙ ap (λ b. not (is_running host) && not b) (none_before (is_next_at (Some place)) hosts set at s below first.2)
        ∙ and_yes (not (is_running host)))

    before : (h : ℕ) (host : Standing) → h < length hosts → slice_get hosts h ≡ Some host → h < at → slice_index_or new h false ≡ first_standing hosts place h
    before h host lt e less =
        other h lt (λ (is : h ≡ at). omega (arith, is, less))
        ∙ sym (stands_first hosts place h host e ∙ not_there (is_next_at (Some place) host) (not (is_running host)) (is_first_at hosts place h) (sym (there h host e) ∙ first.2 h (omega arith) less))

    behind : (h : ℕ) (host : Standing) → h < length hosts → slice_get hosts h ≡ Some host → at < h → slice_index_or new h false ≡ first_standing hosts place h
    behind h host lt e more =
        let it = get_or hosts at nowhere in
        let here : slice_get hosts at ≡ Some it = slice_get-get_or hosts at nowhere (omega (arith, lt, more)) in
        let shown : is_next_at (Some place) it ≡ true = sym (there at it here) ∙ first.1 in
        other h lt (λ (is : h ≡ at). omega (arith, is, more))
        ∙ sym (stands_first hosts place h host e
        ∙ ap (λ b. stands_at place host && not b) (some_before (is_next_at (Some place)) hosts at h it more (omega (arith, lt)) here shown)
        ∙ and_no (stands_at place host))

    each : (h : ℕ) → h < length hosts → slice_index_or new h false ≡ first_standing hosts place h
    each h lt =
        let host = get_or hosts h nowhere in
        let e : slice_get hosts h ≡ Some host = slice_get-get_or hosts h nowhere lt in
        elim (cases_order h at) [
          | inl is ↦ at_first h host lt e is
          | inr rest ↦ elim rest [ inl less ↦ before h host lt e less | inr more ↦ behind h host lt e more ]
        ]

pub none_is : (hosts : List Standing) (place : ℕ) (set : List Bool) → set ≡ map (is_next_at (Some place)) hosts → HasNoneFrom set 0 → set ≡ map (first_standing hosts place) (range_with_len 0 (length hosts))
none_is hosts place set s none = fill_by_all (first_standing hosts place) set (length hosts) false (ap length s ∙ length-map hosts (is_next_at (Some place))) each
  where
    each : (h : ℕ) → h < length hosts → slice_index_or set h false ≡ first_standing hosts place h
    each h lt =
        let host = get_or hosts h nowhere in
        let e : slice_get hosts h ≡ Some host = slice_get-get_or hosts h nowhere lt in
        let gone : is_in set h ≡ false = none h (omega arith) in
        let shown : is_in set h ≡ is_next_at (Some place) host = ap (λ xs. is_in xs h) s ∙ mapped (is_next_at (Some place)) hosts h host e in
        gone ∙ sym (stands_first hosts place h host e ∙ not_there (is_next_at (Some place) host) (not (is_running host)) (is_first_at hosts place h) (sym shown ∙ gone))

-- some host passes a test: there is a first one
first_exists : (test : Standing → Bool) (hosts : List Standing) → list_any test hosts ≡ true
    → (k : ℕ) × ((host : Standing) × (slice_get hosts k ≡ Some host) × (test host ≡ true) × (list_any test (take k hosts) ≡ false))
first_exists test [] e = absurd (differ (sym e))
first_exists test (host ∷ hosts) e =
    elim (cases_Bool (test host)) [
      | inl t ↦ (0, (host, refl, t, refl))
      | inr f ↦
          let rest = first_exists test hosts (sym (ap (λ b. b || list_any test hosts) f) ∙ e) in
          (suc rest.0, (rest.1.0, rest.1.1, rest.1.2, ap (λ b. b || list_any test (take rest.0 hosts)) f ∙ rest.1.3))
    ]

none_some : (n : ℕ) → has_some (replicate n false) ≡ false
none_some zero = refl
none_some (suc n) = none_some n

all_false : (view : ViewOf) → ((h : ℕ) (host : Standing) → slice_get view.hosts h ≡ Some host → may_start view h ≡ false) → has_some (ready view) ≡ false
all_false view each =
    let n = length (ready view) in
    let long : length (ready view) ≡ length view.hosts = length-map-range_with_len (may_start view) 0 (length view.hosts) in
    ap has_some (sym (none_ready view (ready view) (replicate n false) refl long each)) ∙ none_some n

one_true : (view : ViewOf) (k : ℕ) (host : Standing) → slice_get view.hosts k ≡ Some host → may_start view k ≡ true → has_some (ready view) ≡ true
one_true view k host e t =
    let within = slice_get_within view.hosts k host e in
    let long : length (ready view) ≡ length view.hosts = length-map-range_with_len (may_start view) 0 (length view.hosts) in
    list_any_at (λ (b : Bool). b) (ready view) k false (omega (arith, within, long)) (get_or-map-range_with_len (may_start view) 0 (length view.hosts) k k false within (omega arith) ∙ t)

zero_no : (b : Bool) → cond b 1 0 ≤ 0 → b ≡ false
zero_no true h = absurd (omega (arith, h))
zero_no false h = refl

idle_host : (hosts : List Standing) (h : ℕ) (host : Standing) → running (runs_in hosts) ≡ 0 → slice_get hosts h ≡ Some host → is_running host ≡ false
idle_host hosts h host idle e =
    let one : Option ℕ → ℕ = λ x. cond (is_some x) 1 0 in
    let there = runs_there hosts h host e in
    let got : get_or (runs_in hosts) h None ≡ host.runs = get_or_from_slice_get (runs_in hosts) h host.runs None there in
    let below = get_or-le-sum_by one (runs_in hosts) h None (slice_get_within (runs_in hosts) h host.runs there) in
    let some : cond (is_some host.runs) 1 0 ≤ running (runs_in hosts) = rw got at below in
    zero_no (is_some host.runs) (omega (arith, some, idle))

closed_all : (r a s o q f : Bool) → ((r && a) && (not o || q)) ≡ false → (r && (a && (s && (not o || (q && f))))) ≡ false
closed_all false a s o q f e = refl
closed_all true false s o q f e = refl
closed_all true true s false q f e = absurd (differ e)
closed_all true true s true true f e = absurd (differ e)
closed_all true true s true false f e = and_no s

open_all : (r a o q : Bool) → (r && (a && (not o || (q && true)))) ≡ ((r && a) && (not o || q))
open_all false a o q = refl
open_all true false o q = refl
open_all true true false q = refl
open_all true true true true = refl
open_all true true true false = refl

closed_may : (view : ViewOf) (place : ℕ) → view.strategy ≡ Linear → view.place ≡ Some place → is_open_at view place ≡ false → (h : ℕ) (host : Standing) → slice_get view.hosts h ≡ Some host → may_start view h ≡ false
closed_may view place linear current closed h host e =
    may_is view place h host linear current e
    ∙ closed_all (has_room view) (has_room_at view place) (stands_at place host) (runs_once view place) (is_open_once view place) (is_first_at view.hosts place h) closed

none_there : (view : ViewOf) (place : ℕ) → view.strategy ≡ Linear → view.place ≡ Some place → list_any (is_next_at (Some place)) view.hosts ≡ false → (h : ℕ) (host : Standing) → slice_get view.hosts h ≡ Some host → may_start view h ≡ false
none_there view place linear current none h host e =
    elim (cases_Bool (is_next_at (Some place) host)) [
      | inl t ↦
          let within = slice_get_within view.hosts h host e in
          absurd (differ (sym (list_any_at (is_next_at (Some place)) view.hosts h host within (ap (is_next_at (Some place)) (get_or_from_slice_get view.hosts h host host e) ∙ t)) ∙ none))
      | inr f ↦
          may_is view place h host linear current e
          ∙ ap (λ b. has_room view && (has_room_at view place && b)) (not_there (is_next_at (Some place) host) (not (is_running host)) (not (runs_once view place) || may_run_once view h place) f)
          ∙ ap (λ b. has_room view && b) (and_no (has_room_at view place))
          ∙ and_no (has_room view)
    ]

-- where nobody runs, the first host at the place may start if any may
first_may : (view : ViewOf) (place k : ℕ) (host : Standing) → view.strategy ≡ Linear → view.place ≡ Some place → running (runs_in view.hosts) ≡ 0 → slice_get view.hosts k ≡ Some host
    → is_next_at (Some place) host ≡ true → list_any (is_next_at (Some place)) (take k view.hosts) ≡ false → may_start view k ≡ is_open_at view place
first_may view place k host linear current idle e t none =
    let r = has_room view in
    let a = has_room_at view place in
    let o = runs_once view place in
    let q = is_open_once view place in
    let f = is_first_at view.hosts place k in
    may_is view place k host linear current e
    ∙ ap (λ b. r && (a && ((b && not (is_running host)) && (not o || (q && f))))) t
    ∙ ap (λ b. r && (a && (not b && (not o || (q && f))))) (idle_host view.hosts k host idle e)
    ∙ ap (λ b. r && (a && (not o || (q && not b)))) none
    ∙ open_all r a o q

pub some_may : (view : ViewOf) (place : ℕ) → view.strategy ≡ Linear → view.place ≡ Some place → running (runs_in view.hosts) ≡ 0 → (is_open_at view place && list_any (is_next_at (Some place)) view.hosts) ≡ has_some (ready view)
some_may view place linear current idle =
    elim (cases_Bool (list_any (is_next_at (Some place)) view.hosts)) [
      | inl there ↦
          let first = first_exists (is_next_at (Some place)) view.hosts there in
          let opens = first_may view place first.0 first.1.0 linear current idle first.1.1 first.1.2 first.1.3 in
          ap (λ b. is_open_at view place && b) there ∙ and_yes (is_open_at view place)
          ∙ by_open first.0 opens (one_true view first.0 first.1.0 first.1.1)
      | inr none ↦ ap (λ b. is_open_at view place && b) none ∙ and_no (is_open_at view place) ∙ sym (all_false view (none_there view place linear current none))
    ]
  where
    by_open : (k : ℕ) → may_start view k ≡ is_open_at view place → (may_start view k ≡ true → has_some (ready view) ≡ true) → is_open_at view place ≡ has_some (ready view)
    by_open k opens one =
        elim (cases_Bool (is_open_at view place)) [
          | inl o ↦ o ∙ sym (one (opens ∙ o))
          | inr c ↦ c ∙ sym (all_false view (closed_may view place linear current c))
        ]
