-- Which hosts the throttles don't let start: where no more hosts may run some host runs, so that the hosts that run tell these places.
use Rattle.std.proofs.Common.{◌≡◌, ◌<◌, ◌≤◌, ◌+◌, ◌∙◌, ℕ, zero, suc, Bool, true, false, ◌&&◌, ◌||◌, not, cond, List, [], ◌∷◌, Option, Some, None, map, length, take, nat_eq, is_some, slice_get, slice_set, slice_index_or, get_or, arith, refl, ap, sym, inl, inr}
use Rattle.std.specs.Option.{option_map_or}
use Rattle.std.specs.List.{list_any}
use Rattle.std.specs.Simd.Lanes.{zip2}
use Rattle.std.proofs.lemmas.Bool.{cases_eq, cases_lt, cases_order, cases_Bool, eqb-true, ne_eqb, lt-ltb}
use Rattle.std.proofs.lemmas.Option.{slice_get-get_or, slice_get_within}
use Rattle.std.proofs.lemmas.List.{length-map, length-set, take_all, ext_get_or, get_or-set_same, get_or-set_other}
use Rattle.std.proofs.lemmas.List.Folds.{list_any_more}
use Rattle.std.proofs.lemmas.List.FromFn.{fill_by_all}
use Rattle.std.proofs.lemmas.List.Sums.{sum_by-cons}
use Rattle.std.proofs.lemmas.Simd.{length-zip2, get_or-zip2}
use Rattle.pb_planes.specs.Set.{is_in, IsNextFrom, HasNoneFrom}
use Rattle.pb_limits.specs.Counts.{runs_at, running_at, has_room_for}
use Rattle.pb_strategies.specs.declared.standings.Standing.{Standing}
use Rattle.pb_strategies.specs.Hosts.{nowhere, is_running, is_next_at, runs_in, same_place}
use Rattle.pb_strategies.specs.MayStart.{ViewOf, has_room_at}
use Rattle.pb_strategies.specs.Parts.{is_open_to, stays_open, is_shut_by, opened}
use Rattle.pb_strategies.proofs.Members.{member_below}
use Rattle.pb_strategies.proofs.Starting.{differ, mapped}

and_no : (a : Bool) → (a && false) ≡ false
and_no true = refl
and_no false = refl

and_yes : (a : Bool) → (a && true) ≡ a
and_yes true = refl
and_yes false = refl

or_no : (a : Bool) → (a || false) ≡ a
or_no true = refl
or_no false = refl

-- the hosts that pass a test are taken out of a set
abbrev pub without : (Standing → Bool) → List Bool → List Standing → List Bool
without test set hosts = zip2 (λ (a b : Bool). a && not b) set (map test hosts)

pub without_long : (test : Standing → Bool) (set : List Bool) (hosts : List Standing) → length set ≡ length hosts → length (without test set hosts) ≡ length set
without_long test set hosts width = length-zip2 (λ (a b : Bool). a && not b) set (map test hosts) (width ∙ sym (length-map hosts test))

without_at : (test : Standing → Bool) (set : List Bool) (hosts : List Standing) (k : ℕ) (host : Standing) → length set ≡ length hosts → slice_get hosts k ≡ Some host → is_in (without test set hosts) k ≡ (is_in set k && not (test host))
without_at test set hosts k host width e =
    let within = slice_get_within hosts k host e in
    let long = length-map hosts test in
    get_or-zip2 (λ (a b : Bool). a && not b) set (map test hosts) k false false false (omega (arith, within, width)) (omega (arith, within, long)) ∙ ap (λ b. is_in set k && not b) (mapped test hosts k host e)

pub without_none : (test : Standing → Bool) → ((host : Standing) → test host ≡ false) → (set : List Bool) (hosts : List Standing) → length set ≡ length hosts → set ≡ without test set hosts
without_none test none [] [] e = refl
without_none test none [] (host ∷ hosts) e = absurd (omega (arith, e))
without_none test none (b ∷ set) [] e = absurd (omega (arith, e))
without_none test none (b ∷ set) (host ∷ hosts) e =
    ap (λ rest. b ∷ rest) (without_none test none set hosts (omega (arith, e))) ∙ ap (λ head. head ∷ without test set hosts) (sym (ap (λ t. b && not t) (none host) ∙ and_yes b))

out_twice : (a f g : Bool) → ((a && not f) && not g) ≡ (a && not (f || g))
out_twice true true g = refl
out_twice true false g = refl
out_twice false f g = refl

without_twice : (f g both : Standing → Bool) → ((host : Standing) → (f host || g host) ≡ both host) → (set : List Bool) (hosts : List Standing) → without g (without f set hosts) hosts ≡ without both set hosts
without_twice f g both e [] hosts = refl
without_twice f g both e (b ∷ set) [] = refl
without_twice f g both e (b ∷ set) (host ∷ hosts) =
    ap (λ head. head ∷ without g (without f set hosts) hosts) (out_twice b (f host) (g host) ∙ ap (λ t. b && not t) (e host)) ∙ ap (λ rest. (b && not (both host)) ∷ rest) (without_twice f g both e set hosts)

-- a set whose hosts are asked one after another, up to some host
pub record IsAsked (test : Standing → Bool) (set now : List Bool) (hosts : List Standing) (from : ℕ) : Type 0 where
  pub width : length now ≡ length set
  pub done : (k : ℕ) → k < from → is_in now k ≡ is_in (without test set hosts) k
  pub rest : (k : ℕ) → from ≤ k → is_in now k ≡ is_in set k

pub asked_first : (test : Standing → Bool) (set : List Bool) (hosts : List Standing) → IsAsked test set set hosts 0
asked_first test set hosts = record { width = refl; done = λ k lt. absurd (omega (arith, lt)); rest = λ k le. refl }

none_out : (test : Standing → Bool) (set : List Bool) (hosts : List Standing) (k : ℕ) → length set ≡ length hosts → k < length hosts → is_in set k ≡ false → is_in (without test set hosts) k ≡ false
none_out test set hosts k width lt e =
    without_at test set hosts k (get_or hosts k nowhere) width (slice_get-get_or hosts k nowhere lt) ∙ ap (λ b. b && not (test (get_or hosts k nowhere))) e

pub asked_step : (test : Standing → Bool) (set now new : List Bool) (hosts : List Standing) (from h : ℕ) (host : Standing) → length set ≡ length hosts → IsAsked test set now hosts from → IsNextFrom now from h → slice_get hosts h ≡ Some host
    → new ≡ slice_set now h (not (test host)) → IsAsked test set new hosts (h + 1)
asked_step test set now new hosts from h host width asked next e n = record { width = ap length n ∙ length-set now h (not (test host)) ∙ asked.width; done = done; rest = rest }
  where
    other : (k : ℕ) → (k ≡ h → ⊥) → is_in new k ≡ is_in now k
    other k ne = ap (λ xs. is_in xs k) n ∙ get_or-set_other now h k (not (test host)) false ne

    here : is_in new h ≡ is_in (without test set hosts) h
    here =
        ap (λ xs. is_in xs h) n
        ∙ get_or-set_same now h (not (test host)) false (member_below now h next.1)
        ∙ sym (without_at test set hosts h host width e ∙ ap (λ b. b && not (test host)) (sym (asked.rest h next.0) ∙ next.1))

    between : (k : ℕ) → from ≤ k → k < h → is_in new k ≡ is_in (without test set hosts) k
    between k le lt =
        let within = slice_get_within hosts h host e in
        let off = next.2 k le lt in
        other k (λ (is : k ≡ h). omega (arith, is, lt)) ∙ off ∙ sym (none_out test set hosts k width (omega (arith, within, lt)) (sym (asked.rest k le) ∙ off))

    done : (k : ℕ) → k < h + 1 → is_in new k ≡ is_in (without test set hosts) k
    done k lt =
        elim (cases_order k h) [
          | inl is ↦ ap (is_in new) is ∙ here ∙ ap (is_in (without test set hosts)) (sym is)
          | inr rest ↦ elim rest [
            | inl less ↦ elim (cases_lt k from) [ inl before ↦ other k (λ (is : k ≡ h). omega (arith, is, less)) ∙ asked.done k before | inr behind ↦ between k behind less ]
            | inr more ↦ absurd (omega (arith, lt, more))
          ]
        ]

    rest : (k : ℕ) → h + 1 ≤ k → is_in new k ≡ is_in set k
    rest k le = let from_on : from ≤ h = next.0 in other k (λ (is : k ≡ h). omega (arith, is, le)) ∙ asked.rest k (omega (arith, le, from_on))

pub asked_all : (test : Standing → Bool) (set now : List Bool) (hosts : List Standing) (from : ℕ) → length set ≡ length hosts → IsAsked test set now hosts from → HasNoneFrom now from → now ≡ without test set hosts
asked_all test set now hosts from width asked none = ext_get_or false now (without test set hosts) (asked.width ∙ sym (without_long test set hosts width)) each
  where
    each : (k : ℕ) → k < length now → is_in now k ≡ is_in (without test set hosts) k
    each k lt =
        let long = asked.width in
        elim (cases_lt k from) [
          | inl before ↦ asked.done k before
          | inr behind ↦ none k behind ∙ sym (none_out test set hosts k width (omega (arith, lt, long, width)) (sym (asked.rest k behind) ∙ none k behind))
        ]

-- a host may not start where no more hosts may run at its next place, and one of the first so many hosts runs there
abbrev pub is_shut : ViewOf → ℕ → Option ℕ → Bool
is_shut view n None = false
is_shut view n (Some p) = list_any (runs_at p) (take n (runs_in view.hosts)) && not (has_room_at view p)

abbrev pub is_shut_to : ViewOf → ℕ → Standing → Bool
is_shut_to view n host = is_shut view n host.next

shut_at_first : (view : ViewOf) (next : Option ℕ) → is_shut view 0 next ≡ false
shut_at_first view None = refl
shut_at_first view (Some p) = refl

pub shut_first : (view : ViewOf) (set : List Bool) → length set ≡ length view.hosts → set ≡ without (is_shut_to view 0) set view.hosts
shut_first view set width = without_none (is_shut_to view 0) (λ (host : Standing). shut_at_first view host.next) set view.hosts width

-- a host that runs nothing runs nothing there
runs_not : (p : ℕ) (runs : Option ℕ) → is_some runs ≡ false → runs_at p runs ≡ false
runs_not p None e = refl
runs_not p (Some q) e = cc

any_skip : (p : ℕ) (hosts : List Standing) (from h : ℕ) → from ≤ h → ((i : ℕ) → from ≤ i → i < h → is_in (map is_running hosts) i ≡ false) → list_any (runs_at p) (take from (runs_in hosts)) ≡ list_any (runs_at p) (take h (runs_in hosts))
any_skip p [] from h le off = ap (list_any (runs_at p)) (take_all from [] (omega arith) ∙ sym (take_all h [] (omega arith)))
any_skip p (host ∷ hosts) zero zero le off = refl
any_skip p (host ∷ hosts) zero (suc h) le off =
    any_skip p hosts zero h (omega arith) (λ i l u. off (suc i) (omega arith) (omega (arith, u)))
    ∙ ap (λ b. b || list_any (runs_at p) (take h (runs_in hosts))) (sym (runs_not p host.runs (off zero (omega arith) (omega arith))))
any_skip p (host ∷ hosts) (suc from) zero le off = absurd (omega (arith, le))
any_skip p (host ∷ hosts) (suc from) (suc h) le off =
    ap (λ b. runs_at p host.runs || b) (any_skip p hosts from h (omega (arith, le)) (λ i l u. off (suc i) (omega (arith, l)) (omega (arith, u))))

any_all : (p : ℕ) (hosts : List Standing) (from : ℕ) → HasNoneFrom (map is_running hosts) from → list_any (runs_at p) (take from (runs_in hosts)) ≡ list_any (runs_at p) (runs_in hosts)
any_all p hosts from none =
    let runs : Standing → Option ℕ = λ (host : Standing). host.runs in
    let long : length (runs_in hosts) ≡ length hosts = length-map hosts runs in
    any_skip p hosts from (from + length hosts) (omega arith) (λ i le lt. none i le) ∙ ap (list_any (runs_at p)) (take_all (from + length hosts) (runs_in hosts) (omega (arith, long)))

any_step : (p : ℕ) (hosts : List Standing) (from h : ℕ) → IsNextFrom (map is_running hosts) from h
    → list_any (runs_at p) (take (h + 1) (runs_in hosts)) ≡ (list_any (runs_at p) (take from (runs_in hosts)) || runs_at p (slice_index_or (runs_in hosts) h None))
any_step p hosts from h next =
    let runs : Standing → Option ℕ = λ (host : Standing). host.runs in
    let long : length (runs_in hosts) ≡ length hosts = length-map hosts runs in
    let too : length (map is_running hosts) ≡ length hosts = length-map hosts is_running in
    let below = member_below (map is_running hosts) h next.1 in
    list_any_more (runs_at p) (runs_in hosts) h None (omega (arith, long, too, below))
    ∙ ap (λ b. b || runs_at p (slice_index_or (runs_in hosts) h None)) (sym (any_skip p hosts from h next.0 next.2))

and_or : (a e n : Bool) → ((a && n) || (e && n)) ≡ ((a || e) && n)
and_or true e true = refl
and_or true e false = and_no e
and_or false e n = refl

-- of places that are the same there is one to be full
same_there : (view : ViewOf) (p q : ℕ) → (nat_eq q p && not (has_room_at view p)) ≡ (nat_eq q p && not (has_room_at view q))
same_there view p q =
    elim (cases_eq q p) [
      | inl e ↦ ap (λ z. nat_eq q p && not (has_room_at view z)) (sym e)
      | inr ne ↦ ap (λ b. b && not (has_room_at view p)) (ne_eqb q p ne) ∙ sym (ap (λ b. b && not (has_room_at view q)) (ne_eqb q p ne))
    ]

-- one more host is looked at, which runs this
shut_more : (view : ViewOf) (from h : ℕ) (r : Option ℕ) → ((q : ℕ) → list_any (runs_at q) (take (h + 1) (runs_in view.hosts)) ≡ (list_any (runs_at q) (take from (runs_in view.hosts)) || runs_at q r)) → (next runs : Option ℕ) (begun : Bool) →
    (let host : Standing = record { next = next; runs = runs; has_begun = begun } in (is_shut_to view from host || is_shut_by view r host) ≡ is_shut_to view (h + 1) host)
shut_more view from h None more None runs begun = refl
shut_more view from h (Some p) more None runs begun = refl
shut_more view from h None more (Some q) runs begun =
    let before = list_any (runs_at q) (take from (runs_in view.hosts)) in
    or_no (before && not (has_room_at view q)) ∙ ap (λ b. b && not (has_room_at view q)) (sym (more q ∙ or_no before))
shut_more view from h (Some p) more (Some q) runs begun =
    let before = list_any (runs_at q) (take from (runs_in view.hosts)) in
    ap (λ b. (before && not (has_room_at view q)) || b) (same_there view p q) ∙ and_or before (nat_eq q p) (not (has_room_at view q)) ∙ ap (λ b. b && not (has_room_at view q)) (sym (more q))

pub shut_step : (view : ViewOf) (set now new : List Bool) (from h : ℕ) → IsNextFrom (map is_running view.hosts) from h → now ≡ without (is_shut_to view from) set view.hosts
    → new ≡ without (is_shut_by view (slice_index_or (runs_in view.hosts) h None)) now view.hosts → new ≡ without (is_shut_to view (h + 1)) set view.hosts
shut_step view set now new from h next o n =
    let r = slice_index_or (runs_in view.hosts) h None in
    n ∙ ap (λ xs. without (is_shut_by view r) xs view.hosts) o
    ∙ without_twice (is_shut_to view from) (is_shut_by view r) (is_shut_to view (h + 1)) (λ (host : Standing). shut_more view from h r (λ q. any_step q view.hosts from h next) host.next host.runs host.has_begun) set view.hosts

-- what was taken out of a set isn't in it any more
or_itself : (a : Bool) → (a || a) ≡ a
or_itself true = refl
or_itself false = refl

pub shut_again : (test : Standing → Bool) (set new : List Bool) (hosts : List Standing) → new ≡ without test set hosts → new ≡ without test new hosts
shut_again test set new hosts n = n ∙ sym (ap (λ xs. without test xs hosts) n ∙ without_twice test test test (λ (host : Standing). or_itself (test host)) set hosts)

pub same_runs : (a b : Option ℕ) → same_place a b ≡ true → a ≡ b
same_runs None b e = cc
same_runs (Some p) None e = cc
same_runs (Some p) (Some q) e = ap Some (eqb-true p q e)

-- the hosts that so many of those that run don't let start are out of a set, and the ones of the last place
pub record IsShut (view : ViewOf) (set now : List Bool) (from : ℕ) (last : Option ℕ) : Type 0 where
  pub so_far : now ≡ without (is_shut_to view from) set view.hosts
  pub by_last : now ≡ without (is_shut_by view last) now view.hosts

-- where no more hosts may run some host runs
count_none : (p : ℕ) (runs : List (Option ℕ)) → list_any (runs_at p) runs ≡ false → running_at runs p ≡ 0
count_none p [] e = refl
count_none p (x ∷ runs) e =
    let one : Option ℕ → ℕ = λ y. cond (runs_at p y) 1 0 in
    elim (cases_Bool (runs_at p x)) [
      | inl t ↦ absurd (differ (sym (ap (λ b. b || list_any (runs_at p) runs) t) ∙ e))
      | inr f ↦ sum_by-cons one x runs ∙ ap (λ b. cond b 1 0 + running_at runs p) f ∙ ap (λ n. 0 + n) (count_none p runs (sym (ap (λ b. b || list_any (runs_at p) runs) f) ∙ e))
    ]

none_fits : (throttle : ℕ) → has_room_for 0 throttle ≡ true
none_fits zero = refl
none_fits (suc t) = ap (λ b. nat_eq (suc t) 0 || b) (lt-ltb 0 (suc t) (omega arith)) ∙ or_yes (nat_eq (suc t) 0)
  where
    or_yes : (a : Bool) → (a || true) ≡ true
    or_yes true = refl
    or_yes false = refl

full_runs : (p throttle : ℕ) (runs : List (Option ℕ)) → has_room_for (running_at runs p) throttle ≡ false → list_any (runs_at p) runs ≡ true
full_runs p throttle runs full =
    elim (cases_Bool (list_any (runs_at p) runs)) [
      | inl t ↦ t
      | inr f ↦ absurd (differ (sym (none_fits throttle) ∙ ap (λ n. has_room_for n throttle) (sym (count_none p runs f)) ∙ full))
    ]

lets_next : (view : ViewOf) (from : ℕ) → HasNoneFrom (map is_running view.hosts) from → (next : Option ℕ) → not (is_shut view from next) ≡ option_map_or (has_room_at view) next true
lets_next view from none None = refl
lets_next view from none (Some p) =
    let before = list_any (runs_at p) (take from (runs_in view.hosts)) in
    elim (cases_Bool (has_room_at view p)) [
      | inl t ↦ ap (λ b. not (before && not b)) t ∙ ap not (and_no before) ∙ sym t
      | inr f ↦
          ap (λ b. not (before && not b)) f ∙ ap not (and_yes before ∙ any_all p view.hosts from none ∙ full_runs p (slice_index_or view.throttles p 0) (runs_in view.hosts) f) ∙ sym f
    ]

pub shut_all : (view : ViewOf) (set now : List Bool) (from : ℕ) → length set ≡ length view.hosts → HasNoneFrom (map is_running view.hosts) from → now ≡ without (is_shut_to view from) set view.hosts → now ≡ opened view set
shut_all view set now from width none o = fill_by_all (stays_open view set) now (length set) false (ap length o ∙ without_long (is_shut_to view from) set view.hosts width) each
  where
    each : (k : ℕ) → k < length set → slice_index_or now k false ≡ stays_open view set k
    each k lt =
        let host = get_or view.hosts k nowhere in
        let e : slice_get view.hosts k ≡ Some host = slice_get-get_or view.hosts k nowhere (omega (arith, lt, width)) in
        ap (λ xs. is_in xs k) o ∙ without_at (is_shut_to view from) set view.hosts k host width e
        ∙ ap (λ b. is_in set k && b) (lets_next view from none host.next ∙ sym (ap (λ found. option_map_or (is_open_to view) found true) e))

-- a host that runs nothing, and a place where more hosts may run, shut nothing
pub shut_by_none : (view : ViewOf) (set : List Bool) → length set ≡ length view.hosts → set ≡ without (is_shut_by view None) set view.hosts
shut_by_none view set width = without_none (is_shut_by view None) (λ (host : Standing). refl) set view.hosts width

pub shut_by_room : (view : ViewOf) (place : ℕ) (set : List Bool) → has_room_at view place ≡ true → length set ≡ length view.hosts → set ≡ without (is_shut_by view (Some place)) set view.hosts
shut_by_room view place set room width =
    without_none (is_shut_by view (Some place)) (λ (host : Standing). ap (λ b. is_next_at (Some place) host && not b) room ∙ and_no (is_next_at (Some place) host)) set view.hosts width

same_tests : (f g : Standing → Bool) → ((host : Standing) → f host ≡ g host) → (hosts : List Standing) → map f hosts ≡ map g hosts
same_tests f g e [] = refl
same_tests f g e (host ∷ hosts) = ap (λ b. b ∷ map f hosts) (e host) ∙ ap (λ rest. g host ∷ rest) (same_tests f g e hosts)

pub shut_by_full : (view : ViewOf) (place : ℕ) (set new : List Bool) → has_room_at view place ≡ false → new ≡ without (is_next_at (Some place)) set view.hosts → new ≡ without (is_shut_by view (Some place)) set view.hosts
shut_by_full view place set new full n =
    n ∙ ap (λ all. zip2 (λ (a b : Bool). a && not b) set all)
    (same_tests (is_next_at (Some place)) (is_shut_by view (Some place)) (λ (host : Standing). sym (ap (λ b. is_next_at (Some place) host && not b) full ∙ and_yes (is_next_at (Some place) host))) view.hosts)
