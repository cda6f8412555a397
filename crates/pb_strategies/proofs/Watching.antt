-- Places that are watched.
use Rattle.std.proofs.Common.{◌≡◌, ◌≢◌, ◌⊎◌, ◌<◌, ◌+◌, ◌++◌, ◌∙◌, ℕ, zero, suc, Bool, true, false, ◌||◌, cond, nat_lt, List, [], ◌∷◌, Option, Some, None, IfSome, map, length, take, count_by, slice_get, slice_set, get_or, arith, refl, ap, sym, subst, inl, inr}
use Rattle.std.specs.List.{list_any}
use Rattle.std.proofs.lemmas.Bool.{cases_eq, cases_lt, eq-eqb, eqb-true, le-ltb, lt-ltb, ne_eqb}
use Rattle.std.proofs.lemmas.List.{get_or_past, get_or-set_other, get_or-set_same, length-map, length-set, map-set, set-get_or, set-set, take-map}
use Rattle.std.proofs.lemmas.Option.{IfSome_then, get_or_from_slice_get, slice_get-get_or, slice_get_within}
use Rattle.std.proofs.lemmas.List.Sums.{sum_by-set}
use Rattle.pb_planes.specs.Set.{has_some, is_in, IsNextFrom, HasNoneFrom}
use Rattle.pb_strategies.specs.declared.standings.Standing.{Standing}
use Rattle.pb_strategies.specs.declared.watched.Watched.{Watched}
use Rattle.pb_strategies.specs.Hosts.{nowhere, same_place, is_next_at, is_under_way}
use Rattle.pb_strategies.specs.Kept.{IsWatched, AreWatched, AreWide, put_at, put_into, with_next, is_idle_at}
use Rattle.pb_strategies.specs.Parts.{stands_at}
use Rattle.pb_strategies.proofs.Members.{member_below}

is_place : (kept : Option ℕ) (place : ℕ) → same_place kept (Some place) ≡ true → kept ≡ Some place
is_place None place e = cc
is_place (Some p) place e = ap Some (eqb-true p place e)

-- who is at a place, where it is kept who is there
pub watched_at : (hosts : List Standing) (place : ℕ) (one : Watched) → same_place one.place (Some place) ≡ true → IsWatched hosts one → one.hosts ≡ map (is_next_at (Some place)) hosts
watched_at hosts place one same is = is ∙ ap (λ p. map (is_next_at p) hosts) (is_place one.place place same)

pub watched_there : (hosts : List Standing) (place : ℕ) (sets : List (Option (List Bool))) (set : List Bool) → get_or sets place None ≡ Some set → AreWatched hosts sets → set ≡ map (is_next_at (Some place)) hosts
watched_there hosts place sets set e are = subst (λ (found : Option (List Bool)). IfSome found (λ one. one ≡ map (is_next_at (Some place)) hosts)) e (are place)

-- a host goes on
pub watched_put : (hosts : List Standing) (h : ℕ) (new : Standing) (one : Watched) → IsWatched hosts one → IsWatched (slice_set hosts h new) (with_next h new.next one)
watched_put hosts h new one is = ap (λ xs. slice_set xs h (same_place new.next one.place)) is ∙ sym (map-set (is_next_at one.place) hosts h new)

-- a host is written where it stands already
unmoved : (hosts : List Standing) (h : ℕ) (host : Standing) → slice_get hosts h ≡ Some host → slice_set hosts h host ≡ hosts
unmoved hosts h host e = ap (λ x. slice_set hosts h x) (sym (get_or_from_slice_get hosts h host nowhere e)) ∙ set-get_or hosts h nowhere

-- at the place of another host's set nothing changes
same_kept : (hosts : List Standing) (h : ℕ) (old new : Standing) (place : ℕ) (found : Option (List Bool)) → slice_get hosts h ≡ Some old → is_next_at (Some place) new ≡ is_next_at (Some place) old
    → IfSome found (λ set. set ≡ map (is_next_at (Some place)) hosts) → IfSome found (λ set. set ≡ map (is_next_at (Some place)) (slice_set hosts h new))
same_kept hosts h old new place None e same is = tt
same_kept hosts h old new place (Some set) e same is =
    let test : Standing → Bool = is_next_at (Some place) in
    is ∙ sym (map-set test hosts h new ∙ ap (λ b. slice_set (map test hosts) h b) same ∙ sym (map-set test hosts h old) ∙ ap (map test) (unmoved hosts h old e))

-- a host is put into the set of a place, or taken out of it
put_kept_at : (hosts : List Standing) (h : ℕ) (new : Standing) (b : Bool) (place : ℕ) (found : Option (List Bool)) → is_next_at (Some place) new ≡ b
    → IfSome found (λ set. set ≡ map (is_next_at (Some place)) hosts) → IfSome (put_into h b found) (λ set. set ≡ map (is_next_at (Some place)) (slice_set hosts h new))
put_kept_at hosts h new b place None there is = tt
put_kept_at hosts h new b place (Some set) there is =
    let test : Standing → Bool = is_next_at (Some place) in
    ap (λ xs. slice_set xs h b) is ∙ ap (λ x. slice_set (map test hosts) h x) (sym there) ∙ sym (map-set test hosts h new)

-- what is kept of a place once a host was put at one
put_or_same : (at : Option ℕ) (h : ℕ) (b : Bool) (sets : List (Option (List Bool))) (place : ℕ)
    → ((at ≡ Some place) × (get_or (put_at at h b sets) place None ≡ put_into h b (get_or sets place None))) ⊎ ((at ≢ Some place) × (get_or (put_at at h b sets) place None ≡ get_or sets place None))
put_or_same None h b sets place = inr ((λ e. cc), refl)
put_or_same (Some q) h b sets place =
    elim (cases_eq place q) [
      | inl is ↦ inl (ap Some (sym is), subst (λ (p : ℕ). get_or (put_at (Some q) h b sets) p None ≡ put_into h b (get_or sets p None)) (sym is) here)
      | inr not ↦ inr ((λ e. not (other e)), get_or-set_other sets q place (put_into h b (get_or sets q None)) None not)
    ]
  where
    other : Some q ≡ Some place → place ≡ q
    other e = cc

    here : get_or (put_at (Some q) h b sets) q None ≡ put_into h b (get_or sets q None)
    here =
        elim (cases_lt q (length sets)) [
          | inl lt ↦ get_or-set_same sets q (put_into h b (get_or sets q None)) None lt
          | inr le ↦
              let long = length-set sets q (put_into h b (get_or sets q None)) in
              get_or_past (put_at (Some q) h b sets) q None (omega (arith, le, long)) ∙ sym (ap (put_into h b) (get_or_past sets q None le))
        ]

-- a host moves, and is put at its place alone
moved : (hosts : List Standing) (h : ℕ) (old new : Standing) (at : Option ℕ) (b : Bool) (sets : List (Option (List Bool))) → slice_get hosts h ≡ Some old
    → ((place : ℕ) → at ≡ Some place → is_next_at (Some place) new ≡ b)
    → ((place : ℕ) → at ≢ Some place → is_next_at (Some place) new ≡ is_next_at (Some place) old)
    → AreWatched hosts sets → AreWatched (slice_set hosts h new) (put_at at h b sets)
moved hosts h old new at b sets e there else are = λ place.
    let shown : Option (List Bool) → Type 0 = λ found. IfSome found (λ set. set ≡ map (is_next_at (Some place)) (slice_set hosts h new)) in
    elim (put_or_same at h b sets place) [
      | inl is ↦ subst shown (sym is.1) (put_kept_at hosts h new b place (get_or sets place None) (there place is.0) (are place))
      | inr not ↦ subst shown (sym not.1) (same_kept hosts h old new place (get_or sets place None) e (else place not.0) (are place))
    ]

this_place : (at : Option ℕ) (place : ℕ) → at ≡ Some place → same_place at (Some place) ≡ true
this_place None place e = cc
this_place (Some p) place e = let same : p ≡ place = cc in eq-eqb p place same

other_place : (at : Option ℕ) (place : ℕ) → at ≢ Some place → same_place at (Some place) ≡ false
other_place None place not = refl
other_place (Some p) place not = ne_eqb p place (λ e. not (ap Some e))

-- a host leaves its place, and comes to another one
pub each_put : (hosts : List Standing) (h : ℕ) (old new : Standing) (sets : List (Option (List Bool))) → slice_get hosts h ≡ Some old
    → AreWatched hosts sets → AreWatched (slice_set hosts h new) (put_at new.next h true (put_at old.next h false sets))
each_put hosts h old new sets e are =
    subst (λ (all : List Standing). AreWatched all (put_at new.next h true left)) (set-set hosts h nowhere new)
    (moved gone h nowhere new new.next true left out (λ place is. this_place new.next place is) (λ place not. other_place new.next place not)
    (moved hosts h old nowhere old.next false sets e (λ place is. refl) (λ place not. sym (other_place old.next place not)) are))
  where
    gone : List Standing
    gone = slice_set hosts h nowhere

    left : List (Option (List Bool))
    left = put_at old.next h false sets

    out : slice_get gone h ≡ Some nowhere
    out =
        let within = slice_get_within hosts h old e in
        let long = length-set hosts h nowhere in
        slice_get-get_or gone h nowhere (omega (arith, within, long)) ∙ ap Some (get_or-set_same hosts h nowhere nowhere within)

pub one_wide : (hosts : List Standing) (h : ℕ) → h < length hosts → (one : Watched) → IsWatched hosts one → h < length one.hosts
one_wide hosts h lt one is = let long : length one.hosts ≡ length hosts = ap length is ∙ length-map hosts (is_next_at one.place) in omega (arith, lt, long)

pub each_wide : (hosts : List Standing) (h : ℕ) → h < length hosts → (sets : List (Option (List Bool))) → AreWatched hosts sets → AreWide h sets
each_wide hosts h lt sets are = λ place. IfSome_then (get_or sets place None) (are place) (λ set is. let long : length set ≡ length hosts = ap length is ∙ length-map hosts (is_next_at (Some place)) in omega (arith, lt, long))

still_wide : (h k : ℕ) (b : Bool) (found : Option (List Bool)) → IfSome found (λ set. h < length set) → IfSome (put_into k b found) (λ set. h < length set)
still_wide h k b None wide = tt
still_wide h k b (Some set) wide = let long = length-set set k b in omega (arith, wide, long)

pub put_wide : (h : ℕ) (at : Option ℕ) (k : ℕ) (b : Bool) (sets : List (Option (List Bool))) → AreWide h sets → AreWide h (put_at at k b sets)
put_wide h at k b sets wide = λ place.
    let shown : Option (List Bool) → Type 0 = λ found. IfSome found (λ set. h < length set) in
    elim (put_or_same at k b sets place) [
      | inl is ↦ subst shown (sym is.1) (still_wide h k b (get_or sets place None) (wide place))
      | inr not ↦ subst shown (sym not.1) (wide place)
    ]

-- a place is watched from now on, whose set tells who is there
pub one_more : (hosts : List Standing) (place : ℕ) (set : List Bool) (sets : List (Option (List Bool))) → place < length sets → set ≡ map (is_next_at (Some place)) hosts
    → AreWatched hosts sets → AreWatched hosts (slice_set sets place (Some set))
one_more hosts place set sets lt is are = λ q.
    let shown : Option (List Bool) → Type 0 = λ found. IfSome found (λ one. one ≡ map (is_next_at (Some q)) hosts) in
    elim (cases_eq q place) [
      | inl same ↦ subst shown (sym (ap (λ p. get_or (slice_set sets place (Some set)) p None) same ∙ get_or-set_same sets place (Some set) None lt)) (is ∙ ap (λ p. map (is_next_at (Some p)) hosts) (sym same))
      | inr not ↦ subst shown (sym (get_or-set_other sets place q (Some set) None not)) (are q)
    ]

-- places none of which is watched change nothing
pub none_more : (sets : List (Option (List Bool))) (place : ℕ) → get_or (sets ++ None ∷ []) place None ≡ get_or sets place None
none_more [] zero = refl
none_more [] (suc place) = refl
none_more (set ∷ sets) zero = refl
none_more (set ∷ sets) (suc place) = none_more sets place

pub same_watched : (hosts : List Standing) (sets more : List (Option (List Bool))) → ((place : ℕ) → get_or more place None ≡ get_or sets place None) → AreWatched hosts sets → AreWatched hosts more
same_watched hosts sets more same are = λ place. subst (λ (found : Option (List Bool)). IfSome found (λ set. set ≡ map (is_next_at (Some place)) hosts)) (sym (same place)) (are place)

pub none_watched : (hosts : List Standing) (sets : List (Option (List Bool))) → sets ≡ [] → AreWatched hosts sets
none_watched hosts sets none = subst (AreWatched hosts) (sym none) (λ place. tt)

-- how many are under way, as one host goes on
pub under_way_put : (hosts : List Standing) (h : ℕ) (old new : Standing) (was now : Bool) → h < length hosts → old ≡ get_or hosts h old → was ≡ is_under_way old → now ≡ is_under_way new
    → count_by is_under_way (slice_set hosts h new) + cond was 1 0 ≡ count_by is_under_way hosts + cond now 1 0
under_way_put hosts h old new was now lt there w n =
    let each : Standing → ℕ = λ (host : Standing). cond (is_under_way host) 1 0 in
    let rest = count_by is_under_way (slice_set hosts h new) in
    ap (λ b. rest + cond b 1 0) w ∙ ap (λ (host : Standing). rest + each host) there ∙ sum_by-set each hosts h new old lt ∙ ap (λ b. count_by is_under_way hosts + cond b 1 0) (sym n)

-- whether the set has a host before another one
or_yes : (a : Bool) → (a || true) ≡ true
or_yes true = refl
or_yes false = refl

some_taken : (set : List Bool) (n i : ℕ) → i < n → is_in set i ≡ true → has_some (take n set) ≡ true
some_taken [] n i lt e = let past : i < 0 = member_below [] i e in absurd (omega (arith, past))
some_taken (b ∷ set) zero i lt e = absurd (omega (arith, lt))
some_taken (b ∷ set) (suc n) zero lt e = ap (λ x. x || has_some (take n set)) e
some_taken (b ∷ set) (suc n) (suc i) lt e = ap (λ x. b || x) (some_taken set n i (omega (arith, lt)) e) ∙ or_yes b

none_taken : (set : List Bool) (n : ℕ) → ((i : ℕ) → i < n → is_in set i ≡ false) → has_some (take n set) ≡ false
none_taken [] zero off = refl
none_taken [] (suc n) off = refl
none_taken (b ∷ set) zero off = refl
none_taken (b ∷ set) (suc n) off = ap (λ x. x || has_some (take n set)) (off zero (omega arith)) ∙ none_taken set n (λ i lt. off (suc i) (omega (arith, lt)))

pub first_before : (set : List Bool) (host first : ℕ) → IsNextFrom set 0 first → nat_lt first host ≡ has_some (take host set)
first_before set host first next =
    elim (cases_lt first host) [
      | inl lt ↦ lt-ltb first host lt ∙ sym (some_taken set host first lt next.1)
      | inr le ↦ le-ltb first host le ∙ sym (none_taken set host (λ i lt. next.2 i (omega arith) (omega (arith, lt, le))))
    ]

pub none_before : (set : List Bool) (host : ℕ) → HasNoneFrom set 0 → false ≡ has_some (take host set)
none_before set host none = sym (none_taken set host (λ i lt. none i (omega arith)))

-- of a set that a test gives, as many are taken as of the hosts
pub some_mapped : (test : Standing → Bool) (hosts : List Standing) → has_some (map test hosts) ≡ list_any test hosts
some_mapped test [] = refl
some_mapped test (host ∷ hosts) = ap (λ b. test host || b) (some_mapped test hosts)

pub some_first : (test : Standing → Bool) (hosts : List Standing) (n : ℕ) (set : List Bool) → set ≡ map test hosts → has_some (take n set) ≡ list_any test (take n hosts)
some_first test hosts n set e = ap (λ xs. has_some (take n xs)) e ∙ ap has_some (take-map test n hosts) ∙ some_mapped test (take n hosts)

-- who is idle at a place, where that is kept
pub idle_here : (hosts : List Standing) (place : ℕ) (here : Option ℕ) (idle : List Bool) → same_place here (Some place) ≡ true → idle ≡ map (is_idle_at here) hosts → idle ≡ map (stands_at place) hosts
idle_here hosts place here idle same is = is ∙ ap (λ p. map (is_idle_at p) hosts) (is_place here place same)
