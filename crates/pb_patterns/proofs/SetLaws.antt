-- Sets of hosts as functions of their numbers.
use Rattle.std.proofs.Common.{◌≡◌, ◌≢◌, ℕ, zero, suc, ◌+◌, ◌<◌, ◌≤◌, ◌==◌, ◌&&◌, ◌||◌, Bool, true, false, cond, List, [], ◌∷◌, ◌++◌, inl, inr, refl, sym, ◌∙◌, ap, length, length-set, get_or, set, take, replicate, arith, map, eq-eqb}
use Rattle.std.specs.Prelude.{Some, None, Option, position, slice_get, filter}
use Rattle.std.specs.List.{list_any, range_with_len}
use Rattle.std.specs.Simd.Lanes.{zip2}
use Rattle.std.proofs.lemmas.List.{ext_get_or, get_or-map, length-map, get_or-set_same, get_or-set_other, get_or-replicate, length-replicate, take_more, take_all, get_or_past, map-append}
use Rattle.std.proofs.lemmas.List.Folds.{list_any-append, list_any_more}
use Rattle.std.proofs.lemmas.List.FromFn.{get_or-range_with_len, length-range_with_len}
use Rattle.std.proofs.lemmas.List.Elements.{filter-append}
use Rattle.std.proofs.lemmas.List.Quantifiers.{position-Some}
use Rattle.std.proofs.lemmas.Option.{get_or_from_slice_get, slice_get_within}
use Rattle.std.proofs.lemmas.Simd.{get_or-zip2, length-zip2}
use Rattle.std.proofs.lemmas.Bool.{cases_lt, cases_eq}
use Rattle.std.proofs.lemmas.Bool.Decides.{nat_tests}
use Rattle.pb_planes.specs.Set.{is_in}
use Rattle.pb_inventory.specs.InventoryOf.{InventoryOf}
use Rattle.pb_inventory.specs.MemberSets.{members_in}
use Rattle.pb_patterns.specs.Sets.{each_host, is_meant, meant, one_host, contains}

pub length-each_host : (n : ℕ) (f : ℕ → Bool) → length (each_host n f) ≡ n
length-each_host n f = length-map (range_with_len 0 n) f ∙ length-range_with_len 0 n

pub each_host-at : (n : ℕ) (f : ℕ → Bool) (h : ℕ) → h < n → is_in (each_host n f) h ≡ f h
each_host-at n f h w = get_or-map f (range_with_len 0 n) h 0 false (omega (arith, w, length-range_with_len 0 n)) ∙ ap f (get_or-range_with_len 0 n h 0 w ∙ omega arith)

pub set_is : (n : ℕ) (f : ℕ → Bool) (hosts : List Bool) → length hosts ≡ n → ((h : ℕ) → h < n → is_in hosts h ≡ f h) → hosts ≡ each_host n f
set_is n f hosts size so_far =
    ext_get_or false _ _ (size ∙ sym (length-each_host n f)) (λ h w. let v : h < n = omega (arith, w, size) in so_far h v ∙ sym (each_host-at n f h v))

pub each_host-same : (n : ℕ) (f g : ℕ → Bool) → ((h : ℕ) → f h ≡ g h) → each_host n f ≡ each_host n g
each_host-same n f g same = set_is n g (each_host n f) (length-each_host n f) (λ h w. each_host-at n f h w ∙ same h)

-- the numbers below one more
range_more : (a n k : ℕ) → k ≡ a + n → range_with_len a (suc n) ≡ range_with_len a n ++ k ∷ []
range_more a zero k is = ap (λ t. t ∷ []) (omega (arith, is))
range_more a (suc n) k is = ap (λ t. a ∷ t) (range_more (a + 1) n k (omega (arith, is)))

pub range_next : (n m : ℕ) → m ≡ n + 1 → range_with_len 0 m ≡ range_with_len 0 n ++ n ∷ []
range_next n m is = let e : m ≡ suc n = omega (arith, is) in ap (range_with_len 0) e ∙ range_more 0 n n (omega arith)

pub filter_next : (p : ℕ → Bool) (n m : ℕ) → m ≡ n + 1 → filter p (range_with_len 0 m) ≡ filter p (range_with_len 0 n) ++ cond (p n) (n ∷ []) []
filter_next p n m is = ap (filter p) (range_next n m is) ∙ filter-append p (range_with_len 0 n) (n ∷ [])

or-false : (b : Bool) → (b || false) ≡ b
or-false true = refl
or-false false = refl

or-assoc : (a b c : Bool) → ((a || b) || c) ≡ (a || (b || c))
or-assoc true b c = refl
or-assoc false b c = refl

any_next : (p : ℕ → Bool) (n m : ℕ) → m ≡ n + 1 → list_any p (range_with_len 0 m) ≡ (list_any p (range_with_len 0 n) || p n)
any_next p n m is = ap (list_any p) (range_next n m is) ∙ list_any-append p (range_with_len 0 n) (n ∷ []) ∙ ap (λ b. list_any p (range_with_len 0 n) || b) (or-false (p n))

any_same : (p q : ℕ → Bool) (a n : ℕ) → ((k : ℕ) → a ≤ k → k < a + n → p k ≡ q k) → list_any p (range_with_len a n) ≡ list_any q (range_with_len a n)
any_same p q a zero same = refl
any_same p q a (suc n) same =
    rw (same a (omega arith) (omega arith), any_same p q (a + 1) n (λ k low high. same k (omega (arith, low)) (omega (arith, high)))) refl

-- sets are joined
pub or_at : (a b : List Bool) (h : ℕ) → length a ≡ length b → is_in (zip2 (λ x y. x || y) a b) h ≡ (is_in a h || is_in b h)
or_at a b h e = elim (cases_lt h (length a)) [
  | inl w ↦ get_or-zip2 _ a b h false false false w (omega (arith, w, e))
  | inr w ↦ rw (get_or_past a h false w, get_or_past b h false (omega (arith, w, e)), get_or_past (zip2 (λ x y. x || y) a b) h false (omega (arith, w, length-zip2 (λ x y. x || y) a b e))) refl
]

pub add_hit : (groups : List Bool) (members : ℕ → List Bool) (old hosts with' new : List Bool) (g m : ℕ) → m ≡ g + 1 → length hosts ≡ length old → length with' ≡ length hosts → with' ≡ members g → get_or groups g false ≡ true
    → new ≡ zip2 (λ x y. x || y) hosts with'
    → ((h : ℕ) → is_in hosts h ≡ (is_in old h || list_any (λ k. get_or groups k false && is_in (members k) h) (range_with_len 0 g)))
    → (length new ≡ length old) × ((h : ℕ) → is_in new h ≡ (is_in old h || list_any (λ k. get_or groups k false && is_in (members k) h) (range_with_len 0 m)))
add_hit groups members old hosts with' new g m next size width group hit is so_far = (
  ap length is ∙ length-zip2 (λ x y. x || y) hosts with' (sym width) ∙ size,
  (λ h. ap (λ s. is_in s h) is ∙ or_at hosts with' h (sym width) ∙ ap (λ b. b || is_in with' h) (so_far h)
      ∙ or-assoc (is_in old h) (list_any (λ k. get_or groups k false && is_in (members k) h) (range_with_len 0 g)) (is_in with' h)
      ∙ ap (λ b. is_in old h || (list_any (λ k. get_or groups k false && is_in (members k) h) (range_with_len 0 g) || b)) (ap (λ s. is_in s h) group ∙ ap (λ b. b && is_in (members g) h) (sym hit))
      ∙ ap (λ b. is_in old h || b) (sym (any_next (λ k. get_or groups k false && is_in (members k) h) g m next))),
)

pub add_missed : (groups : List Bool) (members : ℕ → List Bool) (old hosts new : List Bool) (g m : ℕ) → m ≡ g + 1 → length hosts ≡ length old → get_or groups g false ≡ false → new ≡ hosts
    → ((h : ℕ) → is_in hosts h ≡ (is_in old h || list_any (λ k. get_or groups k false && is_in (members k) h) (range_with_len 0 g)))
    → (length new ≡ length old) × ((h : ℕ) → is_in new h ≡ (is_in old h || list_any (λ k. get_or groups k false && is_in (members k) h) (range_with_len 0 m)))
add_missed groups members old hosts new g m next size missed is so_far = (
  ap length is ∙ size,
  (λ h. ap (λ s. is_in s h) is ∙ so_far h
      ∙ ap (λ b. is_in old h || b) (sym (any_next (λ k. get_or groups k false && is_in (members k) h) g m next
      ∙ ap (λ b. list_any (λ k. get_or groups k false && is_in (members k) h) (range_with_len 0 g) || (b && is_in (members g) h)) missed
      ∙ or-false _))),
)

hit_at : (test : List ℕ → Bool) (names : List (List ℕ)) (hits : List Bool) (k : ℕ) → hits ≡ map test names → k < length names → get_or hits k false ≡ test (get_or names k [])
hit_at test names hits k is w = ap (λ b. get_or b k false) is ∙ get_or-map test names k [] false w

pub meant_is : (inventory : InventoryOf) (test : List ℕ → Bool) (groups hosts begun new : List Bool) → groups ≡ map test inventory.groups → hosts ≡ map test inventory.hosts → begun ≡ hosts → length new ≡ length begun
    → ((h : ℕ) → is_in new h ≡ (is_in begun h || list_any (λ g. get_or groups g false && is_in (members_in inventory g) h) (range_with_len 0 (length inventory.groups))))
    → new ≡ meant inventory test
meant_is inventory test groups hosts begun new g h is size so_far =
    set_is (length inventory.hosts) (is_meant inventory test) new (size ∙ ap length is ∙ ap length h ∙ length-map inventory.hosts test)
    (λ k w. so_far k
    ∙ ap (λ b. b || list_any (λ g. get_or groups g false && is_in (members_in inventory g) k) (range_with_len 0 (length inventory.groups))) (ap (λ s. is_in s k) is ∙ hit_at test inventory.hosts hosts k h w)
    ∙ ap (λ b. test (get_or inventory.hosts k []) || b)
    (any_same _ _ 0 (length inventory.groups) (λ i low high. ap (λ b. b && is_in (members_in inventory i) k) (hit_at test inventory.groups groups i g (omega (arith, high))))))

-- one name more was looked at
pub push_hit : (test : List ℕ → Bool) (names : List (List ℕ)) (k m : ℕ) (name : List ℕ) (hits new : List Bool) (hit : Bool) → m ≡ k + 1 → slice_get names k ≡ Some name → hits ≡ map test (take k names)
    → new ≡ hits ++ hit ∷ [] → hit ≡ test name → new ≡ map test (take m names)
push_hit test names k m name hits new hit next there so pushed is =
    let w : k < length names = slice_get_within names k name there in
    pushed ∙ ap (λ t. t ++ hit ∷ []) so
    ∙ ap (λ b. map test (take k names) ++ b ∷ []) (is ∙ ap test (sym (get_or_from_slice_get names k name [] there)))
    ∙ sym (ap (λ i. map test (take i names)) next ∙ ap (map test) (take_more names k [] w) ∙ map-append test (take k names) (get_or names k [] ∷ []))

-- one host
same_number : (h k : ℕ) → h ≡ k → (h == k) ≡ true
same_number h k e = eq-eqb h k e

other_number : (h k : ℕ) → h ≢ k → (h == k) ≡ false
other_number h k e = grind (arith, nat_tests)

pub one_is : (n k : ℕ) (o : Option ℕ) (hosts : List Bool) → Some k ≡ o → k < n → hosts ≡ set (replicate n false) k true → hosts ≡ one_host n o
one_is n k o hosts found w is =
    set_is n (λ h. h == k) hosts (ap length is ∙ length-set _ _ _ ∙ length-replicate n false)
    (λ h v. ap (λ s. is_in s h) is ∙ elim (cases_eq h k) [
      | inl same ↦ ap (λ h. get_or (set (replicate n false) k true) h false) same ∙ get_or-set_same (replicate n false) k true false (omega (arith, w, length-replicate n false)) ∙ sym (same_number h k same)
      | inr other ↦ get_or-set_other (replicate n false) k h true false other ∙ get_or-replicate n h false false v ∙ sym (other_number h k other)
    ])
    ∙ ap (one_host n) found

pub none_is : (n : ℕ) (o : Option ℕ) (hosts : List Bool) → None ≡ o → hosts ≡ replicate n false → hosts ≡ one_host n o
none_is n o hosts found is =
    set_is n (λ k. false) hosts (ap length is ∙ length-replicate n false) (λ h w. ap (λ s. is_in s h) is ∙ get_or-replicate n h false false w) ∙ ap (one_host n) found

pub place_below : (p : List ℕ → Bool) (names : List (List ℕ)) (k : ℕ) → Some k ≡ position p names → k < length names
place_below p names k found = (position-Some p names k [] (sym found)).0

pub hosts_are : (n i : ℕ) (hosts : List ℕ) (s : List Bool) → length hosts ≤ i → length s ≡ n → ((h : ℕ) → h < n → is_in s h ≡ contains (take i hosts) h) → s ≡ each_host n (contains hosts)
hosts_are n i hosts s all size so_far = set_is n (contains hosts) s size (λ h w. so_far h w ∙ ap (λ hs. contains hs h) (take_all i hosts all))

-- ---- one host of a list more was looked at
or-true : (b : Bool) → (b || true) ≡ true
or-true true = refl
or-true false = refl

one_more : (hosts : List ℕ) (i m x h : ℕ) (r : Bool) → i < length hosts → x ≡ get_or hosts i 0 → m ≡ i + 1 → (x == h) ≡ r → contains (take m hosts) h ≡ (contains (take i hosts) h || r)
one_more hosts i m x h r w is next e =
    ap (λ n. contains (take n hosts) h) next ∙ list_any_more (λ k. k == h) hosts i 0 w ∙ ap (λ b. contains (take i hosts) h || b) (ap (λ k. k == h) (sym is) ∙ e)

pub host_put : (n i m x : ℕ) (hosts : List ℕ) (old new : List Bool) → i < length hosts → x ≡ get_or hosts i 0 → m ≡ i + 1 → x < n → length old ≡ n → ((h : ℕ) → h < n → is_in old h ≡ contains (take i hosts) h) → new ≡ set old x true
    → (length new ≡ n) × ((h : ℕ) → h < n → is_in new h ≡ contains (take m hosts) h)
host_put n i m x hosts old new w is next below size so_far put = (
  ap length put ∙ length-set _ _ _ ∙ size,
  (λ h v. ap (λ s. is_in s h) put ∙ elim (cases_eq h x) [
    | inl same ↦ ap (λ k. get_or (set old x true) k false) same ∙ get_or-set_same old x true false (omega (arith, below, size))
        ∙ sym (one_more hosts i m x h true w is next (same_number x h (sym same)) ∙ or-true (contains (take i hosts) h))
    | inr other ↦ get_or-set_other old x h true false other ∙ so_far h v
        ∙ sym (one_more hosts i m x h false w is next (other_number x h (λ e. other (sym e))) ∙ or-false (contains (take i hosts) h))
  ]),
)

pub host_passed : (n i m x : ℕ) (hosts : List ℕ) (old new : List Bool) → i < length hosts → x ≡ get_or hosts i 0 → m ≡ i + 1 → n ≤ x → length old ≡ n → ((h : ℕ) → h < n → is_in old h ≡ contains (take i hosts) h) → new ≡ old
    → (length new ≡ n) × ((h : ℕ) → h < n → is_in new h ≡ contains (take m hosts) h)
host_passed n i m x hosts old new w is next above size so_far same = (
  ap length same ∙ size,
  (λ h v. ap (λ s. is_in s h) same ∙ so_far h v
      ∙ sym (one_more hosts i m x h false w is next (other_number x h (λ e. omega (arith, e, v, above))) ∙ or-false (contains (take i hosts) h))),
)
