-- The hosts of a set alone are looked at, one after another: a list that says of the others what it is to say already says it of all in the end.
use Rattle.std.proofs.Common.{◌≡◌, ◌<◌, ◌≤◌, ◌+◌, ◌∙◌, ℕ, zero, suc, Bool, true, false, ◌||◌, not, List, [], ◌∷◌, Option, Some, None, map, length, is_some, slice_get, slice_set, get_or, arith, refl, ap, sym, inl, inr}
use Rattle.std.specs.Prelude.{⊤, replicate}
use Rattle.std.specs.Simd.Lanes.{zip2}
use Rattle.std.proofs.lemmas.Bool.{cases_lt}
use Rattle.std.proofs.lemmas.Option.{slice_get-get_or}
use Rattle.std.proofs.lemmas.List.{get_or_past, length-map, length-replicate}
use Rattle.std.proofs.lemmas.Simd.{zip2-map}
use Rattle.pb_planes.specs.Set.{is_in, IsNextFrom, HasNoneFrom}
use Rattle.pb_strategies.specs.declared.standings.Standing.{Standing}
use Rattle.pb_strategies.specs.Hosts.{nowhere, same_place, is_running, has_begun, is_unended, is_somewhere, is_next_at}

pub member_below : (set : List Bool) (h : ℕ) → is_in set h ≡ true → h < length set
member_below set h i = elim (cases_lt h (length set)) [
  | inl w ↦ w
  | inr w ↦ let past : true ≡ false = sym i ∙ get_or_past set h false w in cc
]

-- the host that stands there
pub found : {X : Type 0} (test : X → Bool) (xs : List X) (h : ℕ) (d : X) → is_in (map test xs) h ≡ true → (h < length xs) × (slice_get xs h ≡ Some (get_or xs h d))
found test xs h d i = let w = member_below (map test xs) h i in let long = length-map xs test in let below : h < length xs = omega (arith, w, long) in (below, slice_get-get_or xs h d below)

-- what the list has of the hosts that aren't in the set is what it is to have
abbrev pub Agrees : {X Y : Type 0} → (X → Y) → List Bool → List X → List Y → Type 0
Agrees f [] [] [] = ⊤
Agrees f [] [] (y ∷ ys) = ⊥
Agrees f [] (x ∷ xs) ys = ⊥
Agrees f (b ∷ set) [] ys = ⊥
Agrees f (b ∷ set) (x ∷ xs) [] = ⊥
Agrees f (b ∷ set) (x ∷ xs) (y ∷ ys) = (b ≡ false → y ≡ f x) × Agrees f set xs ys

-- the first so many are overwritten
abbrev pub overwritten : {X Y : Type 0} → (X → Y) → ℕ → List X → List Y → List Y
overwritten f zero xs ys = ys
overwritten f (suc n) [] ys = ys
overwritten f (suc n) (x ∷ xs) [] = []
overwritten f (suc n) (x ∷ xs) (y ∷ ys) = f x ∷ overwritten f n xs ys

overwritten_none : {X Y : Type 0} (f : X → Y) (n : ℕ) → overwritten f n [] [] ≡ []
overwritten_none f zero = refl
overwritten_none f (suc n) = refl

overwritten_skip : {X Y : Type 0} (f : X → Y) (set : List Bool) (xs : List X) (ys : List Y) → Agrees f set xs ys → (from h : ℕ) → from ≤ h → ((i : ℕ) → from ≤ i → i < h → is_in set i ≡ false) → overwritten f from xs ys ≡ overwritten f h xs ys
overwritten_skip f [] [] [] a from h le off = overwritten_none f from ∙ sym (overwritten_none f h)
overwritten_skip f [] [] (y ∷ ys) a from h le off = absurd a
overwritten_skip f [] (x ∷ xs) ys a from h le off = absurd a
overwritten_skip f (b ∷ set) [] ys a from h le off = absurd a
overwritten_skip f (b ∷ set) (x ∷ xs) [] a from h le off = absurd a
overwritten_skip f (b ∷ set) (x ∷ xs) (y ∷ ys) a zero zero le off = refl
overwritten_skip f (b ∷ set) (x ∷ xs) (y ∷ ys) a zero (suc h) le off =
    ap (λ here. here ∷ ys) (a.0 (off zero (omega arith) (omega arith)))
    ∙ ap (λ rest. f x ∷ rest) (overwritten_skip f set xs ys a.1 zero h (omega arith) (λ i l u. off (suc i) (omega arith) (omega (arith, u))))
overwritten_skip f (b ∷ set) (x ∷ xs) (y ∷ ys) a (suc from) zero le off = absurd (omega (arith, le))
overwritten_skip f (b ∷ set) (x ∷ xs) (y ∷ ys) a (suc from) (suc h) le off =
    ap (λ rest. f x ∷ rest) (overwritten_skip f set xs ys a.1 from h (omega (arith, le)) (λ i l u. off (suc i) (omega (arith, l)) (omega (arith, u))))

overwritten_all : {X Y : Type 0} (f : X → Y) (set : List Bool) (xs : List X) (ys : List Y) → Agrees f set xs ys → (from : ℕ) → ((i : ℕ) → from ≤ i → is_in set i ≡ false) → overwritten f from xs ys ≡ map f xs
overwritten_all f [] [] [] a from off = overwritten_none f from
overwritten_all f [] [] (y ∷ ys) a from off = absurd a
overwritten_all f [] (x ∷ xs) ys a from off = absurd a
overwritten_all f (b ∷ set) [] ys a from off = absurd a
overwritten_all f (b ∷ set) (x ∷ xs) [] a from off = absurd a
overwritten_all f (b ∷ set) (x ∷ xs) (y ∷ ys) a zero off =
    ap (λ here. here ∷ ys) (a.0 (off zero (omega arith))) ∙ ap (λ rest. f x ∷ rest) (overwritten_all f set xs ys a.1 zero (λ i l. off (suc i) (omega arith)))
overwritten_all f (b ∷ set) (x ∷ xs) (y ∷ ys) a (suc from) off = ap (λ rest. f x ∷ rest) (overwritten_all f set xs ys a.1 from (λ i l. off (suc i) (omega (arith, l))))

overwritten_set : {X Y : Type 0} (f : X → Y) (set : List Bool) (xs : List X) (ys : List Y) → Agrees f set xs ys → (h : ℕ) (x : X) → slice_get xs h ≡ Some x → slice_set (overwritten f h xs ys) h (f x) ≡ overwritten f (suc h) xs ys
overwritten_set f [] [] [] a zero x e = refl
overwritten_set f [] [] [] a (suc h) x e = refl
overwritten_set f [] [] (y ∷ ys) a h x e = absurd a
overwritten_set f [] (z ∷ xs) ys a h x e = absurd a
overwritten_set f (b ∷ set) [] ys a h x e = absurd a
overwritten_set f (b ∷ set) (z ∷ xs) [] a h x e = absurd a
overwritten_set f (b ∷ set) (z ∷ xs) (y ∷ ys) a zero x e = let same : z ≡ x = cc in ap (λ w. f w ∷ ys) (sym same)
overwritten_set f (b ∷ set) (z ∷ xs) (y ∷ ys) a (suc h) x e = ap (λ rest. f z ∷ rest) (overwritten_set f set xs ys a.1 h x e)

-- the next host is overwritten, behind which the next step begins
pub overwritten_step : {X Y : Type 0} (f : X → Y) (set : List Bool) (xs : List X) (ys old new : List Y) (from h : ℕ) (x : X) → Agrees f set xs ys → IsNextFrom set from h → slice_get xs h ≡ Some x → old ≡ overwritten f from xs ys → new ≡ slice_set old h (f x)
    → new ≡ overwritten f (h + 1) xs ys
overwritten_step f set xs ys old new from h x a next at o n =
    let behind : suc h ≡ h + 1 = omega arith in
    n ∙ ap (λ all. slice_set all h (f x)) (o ∙ overwritten_skip f set xs ys a from h next.0 next.2) ∙ overwritten_set f set xs ys a h x at ∙ ap (λ k. overwritten f k xs ys) behind

pub overwritten_end : {X Y : Type 0} (f : X → Y) (set : List Bool) (xs : List X) (ys old : List Y) (from : ℕ) → Agrees f set xs ys → HasNoneFrom set from → old ≡ overwritten f from xs ys → old ≡ map f xs
overwritten_end f set xs ys old from a none o = o ∙ overwritten_all f set xs ys a from none

pub overwritten_long : {X Y : Type 0} (f : X → Y) (set : List Bool) (xs : List X) (ys : List Y) → Agrees f set xs ys → (n : ℕ) → length (overwritten f n xs ys) ≡ length xs
overwritten_long f [] [] [] a zero = refl
overwritten_long f [] [] [] a (suc n) = refl
overwritten_long f [] [] (y ∷ ys) a n = absurd a
overwritten_long f [] (x ∷ xs) ys a n = absurd a
overwritten_long f (b ∷ set) [] ys a n = absurd a
overwritten_long f (b ∷ set) (x ∷ xs) [] a n = absurd a
overwritten_long f (b ∷ set) (x ∷ xs) (y ∷ ys) a zero = ap suc (overwritten_long f set xs ys a.1 zero)
overwritten_long f (b ∷ set) (x ∷ xs) (y ∷ ys) a (suc n) = ap suc (overwritten_long f set xs ys a.1 n)

-- a host without a next place is next nowhere
not_next : (place : Option ℕ) (host : Standing) → is_unended host ≡ false → false ≡ is_next_at place host
not_next place host e = by_next host.next e
  where
    by_next : (next : Option ℕ) → is_some next ≡ false → false ≡ same_place next place
    by_next None e = refl
    by_next (Some p) e = cc

pub next_agrees : (place : Option ℕ) (hosts : List Standing) → Agrees (is_next_at place) (map is_unended hosts) hosts (replicate (length hosts) false)
next_agrees place [] = tt
next_agrees place (host ∷ hosts) = (not_next place host, next_agrees place hosts)

pub mapped_long : (test : Standing → Bool) (hosts : List Standing) (set : List Bool) → set ≡ map test hosts → length set ≡ length hosts
mapped_long test hosts set e = ap length e ∙ length-map hosts test

pub emptied_long : (set old : List Bool) → set ≡ replicate (length old) false → length set ≡ length old
emptied_long set old e = ap length e ∙ length-replicate (length old) false

-- a host in none of the sets is outside of the batch
is_nowhere : (next runs : Option ℕ) (begun : Bool) → ((is_some next || begun) || is_some runs) ≡ false → ◌≡◌ {A = Standing} (record { next = next; runs = runs; has_begun = begun }) nowhere
is_nowhere None None false e = refl
is_nowhere None None true e = cc
is_nowhere None (Some r) false e = cc
is_nowhere None (Some r) true e = cc
is_nowhere (Some p) runs false e = cc
is_nowhere (Some p) runs true e = cc

abbrev pub forgotten : Standing → Standing
forgotten host = nowhere

pub forgets : (hosts : List Standing) → Agrees forgotten (map is_somewhere hosts) hosts hosts
forgets [] = tt
forgets (host ∷ hosts) = (is_nowhere host.next host.runs host.has_begun, forgets hosts)

pub all_forgotten : (hosts : List Standing) → map forgotten hosts ≡ replicate (length hosts) nowhere
all_forgotten [] = refl
all_forgotten (host ∷ hosts) = ap (λ rest. nowhere ∷ rest) (all_forgotten hosts)

pub are_somewhere : (hosts : List Standing) (unended begun running one both : List Bool) → unended ≡ map is_unended hosts → begun ≡ map has_begun hosts → running ≡ map is_running hosts → one ≡ zip2 (λ (a b : Bool). a || b) unended begun
    → both ≡ zip2 (λ (a b : Bool). a || b) one running → both ≡ map is_somewhere hosts
are_somewhere hosts unended begun running one both u b r o e =
    let half = o ∙ ap (λ xs. zip2 (λ (x y : Bool). x || y) xs begun) u ∙ ap (λ ys. zip2 (λ (x y : Bool). x || y) (map is_unended hosts) ys) b ∙ zip2-map (λ (x y : Bool). x || y) is_unended has_begun hosts in
    e ∙ ap (λ xs. zip2 (λ (x y : Bool). x || y) xs running) half ∙ ap (λ ys. zip2 (λ (x y : Bool). x || y) (map (λ (host : Standing). is_unended host || has_begun host) hosts) ys) r
    ∙ zip2-map (λ (x y : Bool). x || y) (λ (host : Standing). is_unended host || has_begun host) is_running hosts

pub not_not : (b : Bool) → not (not b) ≡ b
not_not true = refl
not_not false = refl
