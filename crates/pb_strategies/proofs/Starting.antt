-- Who may start, by strategy.
use Rattle.std.proofs.Common.{◌≡◌, ◌<◌, ◌∙◌, ℕ, Bool, true, false, ◌&&◌, ◌||◌, not, List, [], ◌∷◌, Option, Some, None, map, length, nat_eq, slice_get, get_or, arith, refl, ap, sym, inl, inr, eq-eqb}
use Rattle.std.specs.Prelude.{option_map, replicate, IfSome}
use Rattle.std.specs.Option.{option_map_or}
use Rattle.std.specs.List.{range_with_len}
use Rattle.std.specs.Simd.Lanes.{zip2}
use Rattle.std.proofs.lemmas.Bool.{cases_eq, cases_lt, ne_eqb, and_left}
use Rattle.std.proofs.lemmas.Option.{get_or_from_slice_get, slice_get-get_or, slice_get-map, slice_get_within}
use Rattle.std.proofs.lemmas.List.{length-map, length-replicate, get_or-replicate, get_or_past}
use Rattle.std.proofs.lemmas.List.FromFn.{fill_by_all, get_or-map-range_with_len, length-map-range_with_len}
use Rattle.pb_planes.specs.Set.{is_in}
use Rattle.pb_strategies.specs.declared.standings.Standing.{Standing}
use Rattle.pb_strategies.specs.declared.strategy.Strategy.TheVariants.{Linear, Free, HostPinned}
use Rattle.pb_strategies.specs.Hosts.{nowhere, same_place, is_running, has_begun, is_waiting}
use Rattle.pb_strategies.specs.MayStart.{ViewOf, has_room, has_room_at, runs_once, is_first_at, is_open_once, may_run_once, has_room_to_begin, suits, may_start_at, may_start_from, may_start, ready}
use Rattle.pb_strategies.specs.Parts.{is_open_to, is_open, stays_open, opened, begins, stands_at, first_standing}

and_no : (a : Bool) → (a && false) ≡ false
and_no true = refl
and_no false = refl

and_yes : (a : Bool) → (a && true) ≡ a
and_yes true = refl
and_yes false = refl

and_turned : (a b : Bool) → (a && b) ≡ (b && a)
and_turned true true = refl
and_turned true false = refl
and_turned false true = refl
and_turned false false = refl

or_no : (a : Bool) → (a || false) ≡ a
or_no true = refl
or_no false = refl

pub differ : true ≡ false → ⊥
differ e = cc

-- a set is the ready one if it says of each host whether it may start
pub ready_is : (view : ViewOf) (set : List Bool) → length set ≡ length view.hosts → ((h : ℕ) (host : Standing) → slice_get view.hosts h ≡ Some host → is_in set h ≡ may_start view h) → set ≡ ready view
ready_is view set long each =
    fill_by_all (may_start view) set (length view.hosts) false long (λ h lt. each h (get_or view.hosts h nowhere) (slice_get-get_or view.hosts h nowhere lt))

pub mapped : (test : Standing → Bool) (hosts : List Standing) (h : ℕ) (host : Standing) → slice_get hosts h ≡ Some host → is_in (map test hosts) h ≡ test host
mapped test hosts h host e = get_or_from_slice_get (map test hosts) h (test host) false (slice_get-map test hosts h ∙ ap (option_map test) e)

-- what is asked of a host is asked of where it stands
may_from : (view : ViewOf) (h : ℕ) (host : Standing) → slice_get view.hosts h ≡ Some host → may_start view h ≡ (has_room view && may_start_from view h host)
may_from view h host e = ap (λ found. has_room view && option_map_or (may_start_from view h) found false) e

-- nobody may start
pub none_ready : (view : ViewOf) (old set : List Bool) → set ≡ replicate (length old) false → length old ≡ length view.hosts
    → ((h : ℕ) (host : Standing) → slice_get view.hosts h ≡ Some host → may_start view h ≡ false) → set ≡ ready view
none_ready view old set s width each = ready_is view set (ap length s ∙ length-replicate (length old) false ∙ width) none
  where
    none : (h : ℕ) (host : Standing) → slice_get view.hosts h ≡ Some host → is_in set h ≡ may_start view h
    none h host e =
        let within = slice_get_within view.hosts h host e in
        ap (λ xs. is_in xs h) s ∙ get_or-replicate (length old) h false false (omega (arith, within, width)) ∙ sym (each h host e)

pub no_room : (view : ViewOf) → has_room view ≡ false → (h : ℕ) (host : Standing) → slice_get view.hosts h ≡ Some host → may_start view h ≡ false
no_room view e h host found = and_left (has_room view) (option_map_or (may_start_from view h) (slice_get view.hosts h) false) e

-- a set without throttled hosts is the ready one, by what it says of each host
opened_ready : (view : ViewOf) (test : Standing → Bool) (set : List Bool) → has_room view ≡ true → set ≡ map test view.hosts
    → ((h : ℕ) (host : Standing) → (test host && is_open_to view host) ≡ may_start_from view h host) → opened view set ≡ ready view
opened_ready view test set room s each = ready_is view (opened view set) (length-map-range_with_len (stays_open view set) 0 (length set) ∙ width) each_may
  where
    width : length set ≡ length view.hosts
    width = ap length s ∙ length-map view.hosts test

    each_may : (h : ℕ) (host : Standing) → slice_get view.hosts h ≡ Some host → is_in (opened view set) h ≡ may_start view h
    each_may h host e =
        let within = slice_get_within view.hosts h host e in
        let there : is_in set h ≡ test host = ap (λ xs. is_in xs h) s ∙ mapped test view.hosts h host e in
        let at = get_or-map-range_with_len (stays_open view set) 0 (length set) h h false (omega (arith, within, width)) (omega arith) in
        let lets : is_open view h ≡ is_open_to view host = ap (λ found. option_map_or (is_open_to view) found true) e in
        at ∙ ap (λ b. b && is_open view h) there ∙ ap (λ b. test host && b) lets ∙ each h host ∙ sym (may_from view h host e ∙ ap (λ b. b && may_start_from view h host) room)

free_from : (view : ViewOf) (h : ℕ) (next runs : Option ℕ) (begun : Bool) → view.strategy ≡ Free →
    (let host : Standing = record { next = next; runs = runs; has_begun = begun } in (is_waiting host && is_open_to view host) ≡ may_start_from view h host)
free_from view h None None begun e = refl
free_from view h None (Some r) begun e = refl
free_from view h (Some p) (Some r) begun e = refl
free_from view h (Some p) None begun e =
    let host : Standing = record { next = Some p; runs = None; has_begun = begun } in
    sym (and_yes (has_room_at view p)) ∙ ap (λ s. has_room_at view p && suits s view h host p) (sym e)

pub free_ready : (view : ViewOf) (set new : List Bool) → has_room view ≡ true → view.strategy ≡ Free → set ≡ map is_waiting view.hosts → new ≡ opened view set → new ≡ ready view
free_ready view set new room free s n = n ∙ opened_ready view is_waiting set room s (λ h host. free_from view h host.next host.runs host.has_begun free)

pinned_from : (view : ViewOf) (h : ℕ) (next runs : Option ℕ) (begun : Bool) → view.strategy ≡ HostPinned →
    (let host : Standing = record { next = next; runs = runs; has_begun = begun } in (begins view host && is_open_to view host) ≡ may_start_from view h host)
pinned_from view h None None begun e = refl
pinned_from view h None (Some r) begun e = refl
pinned_from view h (Some p) (Some r) begun e = refl
pinned_from view h (Some p) None begun e =
    let host : Standing = record { next = Some p; runs = None; has_begun = begun } in
    and_turned (begun || has_room_to_begin view) (has_room_at view p) ∙ ap (λ s. has_room_at view p && suits s view h host p) (sym e)

pub pinned_ready : (view : ViewOf) (set new : List Bool) → has_room view ≡ true → view.strategy ≡ HostPinned → set ≡ map (begins view) view.hosts → new ≡ opened view set → new ≡ ready view
pinned_ready view set new room pinned s n = n ∙ opened_ready view (begins view) set room s (λ h host. pinned_from view h host.next host.runs host.has_begun pinned)

same_maps : (f g : Standing → Bool) (hosts : List Standing) → ((host : Standing) → f host ≡ g host) → map f hosts ≡ map g hosts
same_maps f g [] e = refl
same_maps f g (host ∷ hosts) e = rw (e host, same_maps f g hosts e) refl

-- where no more hosts may begin, those that have begun go on
pub begun_alone : (view : ViewOf) (set new : List Bool) → has_room_to_begin view ≡ false → set ≡ map is_waiting view.hosts → new ≡ zip2 (λ (a b : Bool). a && b) set (map has_begun view.hosts)
    → ((f g : Standing → Bool) (hosts : List Standing) (set from both : List Bool) → set ≡ map f hosts → from ≡ map g hosts → both ≡ zip2 (λ (a b : Bool). a && b) set from → both ≡ map (λ (host : Standing). f host && g host) hosts)
    → new ≡ map (begins view) view.hosts
begun_alone view set new full s n both =
    both is_waiting has_begun view.hosts set (map has_begun view.hosts) new s refl n
    ∙ same_maps (λ (host : Standing). is_waiting host && has_begun host) (begins view) view.hosts
    (λ (host : Standing). ap (λ b. is_waiting host && b) (sym (or_no (has_begun host))) ∙ ap (λ b. is_waiting host && (has_begun host || b)) (sym full))

pub all_begin : (view : ViewOf) (set : List Bool) → has_room_to_begin view ≡ true → set ≡ map is_waiting view.hosts → set ≡ map (begins view) view.hosts
all_begin view set room s =
    s ∙ same_maps is_waiting (begins view) view.hosts
    (λ (host : Standing). sym (and_yes (is_waiting host)) ∙ ap (λ b. is_waiting host && b) (sym (or_yes (has_begun host))) ∙ ap (λ b. is_waiting host && (has_begun host || b)) (sym room))
  where
    or_yes : (a : Bool) → (a || true) ≡ true
    or_yes true = refl
    or_yes false = refl

-- under the linear strategy: at the current place, and elsewhere
at_place : (view : ViewOf) (place h : ℕ) (host : Standing) → view.strategy ≡ Linear → view.place ≡ Some place →
    (has_room_at view place && suits view.strategy view h host place) ≡ (has_room_at view place && (not (runs_once view place) || may_run_once view h place))
at_place view place h host linear current =
    let open_to = not (runs_once view place) || may_run_once view h place in
    ap (λ s. has_room_at view place && suits s view h host place) linear
    ∙ ap (λ p. has_room_at view place && (same_place p (Some place) && open_to)) current
    ∙ ap (λ b. has_room_at view place && (b && open_to)) (eq-eqb place place refl)

off_place : (view : ViewOf) (place p h : ℕ) (host : Standing) → (p ≡ place → ⊥) → view.strategy ≡ Linear → view.place ≡ Some place → (has_room_at view p && suits view.strategy view h host p) ≡ false
off_place view place p h host ne linear current =
    let open_to = not (runs_once view p) || may_run_once view h p in
    ap (λ s. has_room_at view p && suits s view h host p) linear
    ∙ ap (λ q. has_room_at view p && (same_place q (Some p) && open_to)) current
    ∙ ap (λ b. has_room_at view p && (b && open_to)) (ne_eqb place p (λ (e : place ≡ p). ne (sym e)))
    ∙ and_no (has_room_at view p)

none_stands : (r a g : Bool) → (r && ((a && false) && g)) ≡ false
none_stands true true g = refl
none_stands true false g = refl
none_stands false a g = refl

linear_from : (view : ViewOf) (place h : ℕ) (next runs : Option ℕ) (begun : Bool) → view.strategy ≡ Linear → view.place ≡ Some place →
    (let host : Standing = record { next = next; runs = runs; has_begun = begun } in
    may_start_from view h host ≡ (has_room_at view place && (stands_at place host && (not (runs_once view place) || may_run_once view h place))))
linear_from view place h None None begun linear current = sym (and_no (has_room_at view place))
linear_from view place h None (Some r) begun linear current = sym (and_no (has_room_at view place))
linear_from view place h (Some p) (Some r) begun linear current = sym (none_stands (has_room_at view place) (nat_eq p place) (not (runs_once view place) || may_run_once view h place))
linear_from view place h (Some p) None begun linear current =
    let host : Standing = record { next = Some p; runs = None; has_begun = begun } in
    let open_to = not (runs_once view place) || may_run_once view h place in
    elim (cases_eq p place) [
      | inl e ↦
          ap (λ q. has_room_at view q && suits view.strategy view h host q) e
          ∙ at_place view place h host linear current
          ∙ sym (ap (λ b. has_room_at view place && ((b && true) && open_to)) (eq-eqb p place e))
      | inr ne ↦
          off_place view place p h host ne linear current
          ∙ sym (ap (λ b. has_room_at view place && ((b && true) && open_to)) (ne_eqb p place ne) ∙ and_no (has_room_at view place))
    ]

pub may_is : (view : ViewOf) (place h : ℕ) (host : Standing) → view.strategy ≡ Linear → view.place ≡ Some place → slice_get view.hosts h ≡ Some host →
    may_start view h ≡ (has_room view && (has_room_at view place && (stands_at place host && (not (runs_once view place) || may_run_once view h place))))
may_is view place h host linear current e = may_from view h host e ∙ ap (λ b. has_room view && b) (linear_from view place h host.next host.runs host.has_begun linear current)

-- without a current place nobody starts
no_place_from : (view : ViewOf) (h : ℕ) (host : Standing) (next : Option ℕ) → view.strategy ≡ Linear → view.place ≡ None → (not (is_running host) && option_map_or (may_start_at view h host) next false) ≡ false
no_place_from view h host None linear nowhere_now = and_no (not (is_running host))
no_place_from view h host (Some p) linear nowhere_now =
    ap (λ s. not (is_running host) && (has_room_at view p && suits s view h host p)) linear
    ∙ ap (λ q. not (is_running host) && (has_room_at view p && (same_place q (Some p) && (not (runs_once view p) || may_run_once view h p)))) nowhere_now
    ∙ ap (λ b. not (is_running host) && b) (and_no (has_room_at view p))
    ∙ and_no (not (is_running host))

pub no_place : (view : ViewOf) → view.strategy ≡ Linear → view.place ≡ None → (h : ℕ) (host : Standing) → slice_get view.hosts h ≡ Some host → may_start view h ≡ false
no_place view linear none h host e = may_from view h host e ∙ ap (λ b. has_room view && b) (no_place_from view h host host.next linear none) ∙ and_no (has_room view)

pub no_room_at : (view : ViewOf) (place : ℕ) → view.strategy ≡ Linear → view.place ≡ Some place → has_room_at view place ≡ false → (h : ℕ) (host : Standing) → slice_get view.hosts h ≡ Some host → may_start view h ≡ false
no_room_at view place linear current full h host e =
    may_is view place h host linear current e
    ∙ ap (λ b. has_room view && (b && (stands_at place host && (not (runs_once view place) || may_run_once view h place)))) full
    ∙ and_no (has_room view)

pub closed_once : (view : ViewOf) (place : ℕ) → view.strategy ≡ Linear → view.place ≡ Some place → runs_once view place ≡ true → is_open_once view place ≡ false → (h : ℕ) (host : Standing) → slice_get view.hosts h ≡ Some host → may_start view h ≡ false
closed_once view place linear current once closed h host e =
    may_is view place h host linear current e
    ∙ ap (λ b. has_room view && (has_room_at view place && (stands_at place host && (not b || may_run_once view h place)))) once
    ∙ ap (λ b. has_room view && (has_room_at view place && (stands_at place host && (b && is_first_at view.hosts place h)))) closed
    ∙ ap (λ b. has_room view && (has_room_at view place && b)) (and_no (stands_at place host))
    ∙ ap (λ b. has_room view && b) (and_no (has_room_at view place))
    ∙ and_no (has_room view)

open_parts : (r a s g : Bool) → r ≡ true → a ≡ true → (r && (a && (s && g))) ≡ (s && g)
open_parts r a s g er ea = ap (λ b. b && (a && (s && g))) er ∙ ap (λ b. b && (s && g)) ea

pub standing_ready : (view : ViewOf) (place : ℕ) (set : List Bool) → has_room view ≡ true → view.strategy ≡ Linear → view.place ≡ Some place → has_room_at view place ≡ true → runs_once view place ≡ false
    → set ≡ map (stands_at place) view.hosts → set ≡ ready view
standing_ready view place set room linear current room_at often s = ready_is view set (ap length s ∙ length-map view.hosts (stands_at place)) each_may
  where
    each_may : (h : ℕ) (host : Standing) → slice_get view.hosts h ≡ Some host → is_in set h ≡ may_start view h
    each_may h host e =
        ap (λ xs. is_in xs h) s ∙ mapped (stands_at place) view.hosts h host e
        ∙ sym (may_is view place h host linear current e
        ∙ open_parts (has_room view) (has_room_at view place) (stands_at place host) (not (runs_once view place) || may_run_once view h place) room room_at
        ∙ ap (λ b. stands_at place host && (not b || may_run_once view h place)) often
        ∙ and_yes (stands_at place host))

pub first_ready : (view : ViewOf) (place : ℕ) (set : List Bool) → has_room view ≡ true → view.strategy ≡ Linear → view.place ≡ Some place → has_room_at view place ≡ true → runs_once view place ≡ true → is_open_once view place ≡ true
    → set ≡ map (first_standing view.hosts place) (range_with_len 0 (length view.hosts)) → set ≡ ready view
first_ready view place set room linear current room_at once opens s = ready_is view set (ap length s ∙ length-map-range_with_len (first_standing view.hosts place) 0 (length view.hosts)) each_may
  where
    each_may : (h : ℕ) (host : Standing) → slice_get view.hosts h ≡ Some host → is_in set h ≡ may_start view h
    each_may h host e =
        let within = slice_get_within view.hosts h host e in
        let first = is_first_at view.hosts place h in
        ap (λ xs. is_in xs h) s
        ∙ get_or-map-range_with_len (first_standing view.hosts place) 0 (length view.hosts) h h false within (omega arith)
        ∙ ap (λ found. option_map_or (stands_at place) found false && first) e
        ∙ sym (may_is view place h host linear current e
        ∙ open_parts (has_room view) (has_room_at view place) (stands_at place host) (not (runs_once view place) || may_run_once view h place) room room_at
        ∙ ap (λ b. stands_at place host && (not b || may_run_once view h place)) once
        ∙ ap (λ b. stands_at place host && (b && first)) opens)

pub within_set : (set : List Bool) (at : ℕ) → is_in set at ≡ true → at < length set
within_set set at e =
    elim (cases_lt at (length set)) [
      | inl lt ↦ lt
      | inr le ↦ absurd (differ (sym e ∙ get_or_past set at false le))
    ]

-- where there is no room nobody may start
pub not_full : (b : Bool) → not b ≡ true → b ≡ false
not_full true e = cc
not_full false e = refl

pub nobody_ready : (view : ViewOf) (room : Bool) → room ≡ has_room view → not room ≡ true → ready view ≡ replicate (length view.hosts) false
nobody_ready view room is full =
    let n = length view.hosts in
    let long = length-replicate n false in
    sym (ap (λ k. replicate k false) (sym long) ∙ none_ready view (replicate n false) (replicate (length (replicate n false)) false) refl long (no_room view (sym is ∙ not_full room full)))

-- what holds of something that may be there
pub if_found : {A : Type 0} (P Q : A → Type 0) (found : Option A) → ((x : A) → P x → Q x) → IfSome found P → IfSome found Q
if_found P Q None step p = p
if_found P Q (Some x) step p = step x p
