-- The order in which a subscript counts hosts.
use Rattle.std.proofs.Common.{◌≡◌, ◌≢◌, ℕ, zero, ◌+◌, ◌<◌, ◌==◌, ◌&&◌, ◌||◌, Bool, true, false, cond, List, [], ◌∷◌, ◌++◌, inl, inr, refl, sym, ◌∙◌, ap, length, length-set, get_or, set, take, arith, map, eq-eqb}
use Rattle.std.specs.Prelude.{Option, filter, not, if◌then◌else◌, ◌↔◌}
use Rattle.std.specs.List.{range_with_len}
use Rattle.std.proofs.lemmas.List.{get_or-set_same, get_or-set_other, take_more, get_or_past, map-append, append-nil}
use Rattle.std.proofs.lemmas.List.Folds.{list_any-append}
use Rattle.std.proofs.lemmas.List.Elements.{filter-append, filter_agree}
use Rattle.std.proofs.lemmas.Bool.{cases_lt, cases_eq}
use Rattle.std.proofs.lemmas.Bool.Decides.{nat_tests}
use Rattle.pb_planes.specs.Set.{is_in}
use Rattle.pb_groups.specs.declared.links.ChildLink.{ChildLink}
use Rattle.pb_groups.specs.declared.links.OwnHost.{OwnHost}
use Rattle.pb_groups.specs.Members.{IsMember, group_at, host_at, own_of}
use Rattle.pb_inventory.specs.InventoryOf.{InventoryOf}
use Rattle.pb_patterns.specs.Sets.{each_host, contains, once, own_hosts, in_order, listed, listing, picked, ordered, term_set}
use Rattle.pb_patterns.specs.declared.element.Subscript.{Subscript}

or-false : (b : Bool) → (b || false) ≡ b
or-false true = refl
or-false false = refl

pub contains-push : (hs : List ℕ) (h k : ℕ) → contains (hs ++ h ∷ []) k ≡ (contains hs k || (h == k))
contains-push hs h k = list_any-append (λ x. x == k) hs (h ∷ []) ∙ ap (λ b. contains hs k || b) (or-false (h == k))

swapped : (x y : ℕ) → (x == y) ≡ (y == x)
swapped x y = grind (arith, nat_tests)

-- the last of a list is new, or was there before
once_by : (h : ℕ) (hs : List ℕ) (y : ℕ) (a b : Bool) → (h == y) ≡ a → contains hs y ≡ b
    → h ∷ filter (λ other. not (other == h)) (if b then once hs else once hs ++ y ∷ []) ≡ (if a || b then once (h ∷ hs) else once (h ∷ hs) ++ y ∷ [])
once_by h hs y true true e f = refl
once_by h hs y false true e f = refl
once_by h hs y true false e f =
    ap (λ t. h ∷ t) (filter-append (λ other. not (other == h)) (once hs) (y ∷ [])
    ∙ ap (λ b. filter (λ other. not (other == h)) (once hs) ++ cond (not b) (y ∷ []) []) (swapped y h ∙ e) ∙ append-nil (filter (λ other. not (other == h)) (once hs)))
once_by h hs y false false e f =
    ap (λ t. h ∷ t) (filter-append (λ other. not (other == h)) (once hs) (y ∷ [])
    ∙ ap (λ b. filter (λ other. not (other == h)) (once hs) ++ cond (not b) (y ∷ []) []) (swapped y h ∙ e))

pub once-push : (hs : List ℕ) (y : ℕ) → once (hs ++ y ∷ []) ≡ (if contains hs y then once hs else once hs ++ y ∷ [])
once-push [] y = refl
once-push (h ∷ hs) y = ap (λ t. h ∷ filter (λ other. not (other == h)) t) (once-push hs y) ∙ once_by h hs y (h == y) (contains hs y) refl refl

-- one own host more
own_hosts-append : (xs ys : List OwnHost) (g : ℕ) → own_hosts (xs ++ ys) g ≡ own_hosts xs g ++ own_hosts ys g
own_hosts-append xs ys g = ap (map (λ o. o.host.0)) (filter-append (λ o. o.group.0 == g) xs ys) ∙ map-append (λ o. o.host.0) (filter (λ o. o.group.0 == g) xs) (filter (λ o. o.group.0 == g) ys)

own_hosts-more : (own : List OwnHost) (i m g : ℕ) → m ≡ i + 1 → i < length own → own_hosts (take m own) g ≡ own_hosts (take i own) g ++ own_hosts (get_or own i (own_of 0 0) ∷ []) g
own_hosts-more own i m g next w = ap (λ k. own_hosts (take k own) g) next ∙ ap (λ t. own_hosts t g) (take_more own i (own_of 0 0) w) ∙ own_hosts-append (take i own) (get_or own i (own_of 0 0) ∷ []) g

own_one : (o : OwnHost) (g : ℕ) → o.group.0 ≡ g → own_hosts (o ∷ []) g ≡ o.host.0 ∷ []
own_one o g is = ap (λ b. map (λ o. o.host.0) (cond b (o ∷ []) [])) (eq-eqb o.group.0 g is)

other_group : (a b : ℕ) → a ≢ b → (a == b) ≡ false
other_group a b e = grind (arith, nat_tests)

own_none : (o : OwnHost) (g : ℕ) → o.group.0 ≢ g → own_hosts (o ∷ []) g ≡ []
own_none o g other = ap (λ b. map (λ o. o.host.0) (cond b (o ∷ []) [])) (other_group o.group.0 g other)

put_at : (seen : List Bool) (host h : ℕ) → host < length seen → is_in (set seen host true) h ≡ (is_in seen h || (host == h))
put_at seen host h w = elim (cases_eq h host) [
  | inl same ↦ ap (λ h. get_or (set seen host true) h false) same ∙ get_or-set_same seen host true false w ∙ sym (ap (λ b. is_in seen h || b) (eq-eqb host h (sym same)) ∙ or-true (is_in seen h))
  | inr other ↦ get_or-set_other seen host h true false other ∙ sym (ap (λ b. is_in seen h || b) (other_group host h (λ e. other (sym e))) ∙ or-false (is_in seen h))
]
  where
    or-true : (b : Bool) → (b || true) ≡ true
    or-true true = refl
    or-true false = refl

pub own_more : (own : List OwnHost) (i m g host : ℕ) (order new : List ℕ) (old seen after : List Bool) → m ≡ i + 1 → i < length own → group_at own i ≡ g → host ≡ host_at own i → host < length seen
    → new ≡ (if is_in seen host then order else order ++ host ∷ []) → after ≡ set seen host true
    → (order ≡ once (own_hosts (take i own) g)) × (length seen ≡ length old) × ((h : ℕ) → is_in seen h ≡ contains (own_hosts (take i own) g) h)
    → (new ≡ once (own_hosts (take m own) g)) × (length after ≡ length old) × ((h : ℕ) → is_in after h ≡ contains (own_hosts (take m own) g) h)
own_more own i m g host order new old seen after next w group is below pushed put so_far =
    let L = own_hosts (take i own) g in
    let grown : own_hosts (take m own) g ≡ L ++ host ∷ [] =
    own_hosts-more own i m g next w ∙ ap (λ t. L ++ t) (own_one (get_or own i (own_of 0 0)) g group ∙ ap (λ h. h ∷ []) (sym is)) in (
      pushed ∙ ap (λ b. if b then order else order ++ host ∷ []) (so_far.2 host) ∙ ap (λ o. if contains L host then o else o ++ host ∷ []) so_far.0 ∙ sym (once-push L host) ∙ ap once (sym grown),
      ap length put ∙ length-set seen host true ∙ so_far.1,
      (λ h. ap (λ s. is_in s h) put ∙ put_at seen host h below ∙ ap (λ b. b || (host == h)) (so_far.2 h) ∙ sym (contains-push L host h) ∙ ap (λ t. contains t h) (sym grown)),
    )

pub own_passes : (own : List OwnHost) (i m g : ℕ) (order new : List ℕ) (old seen after : List Bool) → m ≡ i + 1 → i < length own → group_at own i ≢ g → new ≡ order → after ≡ seen
    → (order ≡ once (own_hosts (take i own) g)) × (length seen ≡ length old) × ((h : ℕ) → is_in seen h ≡ contains (own_hosts (take i own) g) h)
    → (new ≡ once (own_hosts (take m own) g)) × (length after ≡ length old) × ((h : ℕ) → is_in after h ≡ contains (own_hosts (take m own) g) h)
own_passes own i m g order new old seen after next w other same put so_far =
    let L = own_hosts (take i own) g in
    let kept : own_hosts (take m own) g ≡ L =
    own_hosts-more own i m g next w ∙ ap (λ t. L ++ t) (own_none (get_or own i (own_of 0 0)) g other) ∙ append-nil L in
    (same ∙ so_far.0 ∙ ap once (sym kept), ap length put ∙ so_far.1, (λ h. ap (λ s. is_in s h) put ∙ so_far.2 h ∙ ap (λ t. contains t h) (sym kept)))

-- a group's own hosts are hosts
below_by : (members : List Bool) (h : ℕ) → is_in members h ≡ true → h < length members
below_by members h i = elim (cases_lt h (length members)) [
  | inl w ↦ w
  | inr w ↦ let no : true ≡ false = sym i ∙ get_or_past members h false w in cc
]

pub own_below : (links : List ChildLink) (own : List OwnHost) (g : ℕ) (members : List Bool) (n : ℕ) → length members ≡ n → ((host : ℕ) → (is_in members host ≡ true) ↔ IsMember links own g host)
    → (k : ℕ) → k < length own → group_at own k ≡ g → host_at own k < n
own_below links own g members n size so_far k w group =
    omega (arith, size, below_by members (host_at own k) ((so_far (host_at own k)).1 (zero, g, refl, (k, w, group, refl))))

pub rest_is : (first : List ℕ) (hosts seen : List Bool) (order : List ℕ) → ((h : ℕ) → is_in seen h ≡ contains first h) → order ≡ once first ++ filter (λ h. is_in hosts h && not (is_in seen h)) (range_with_len 0 (length hosts))
    → order ≡ in_order first hosts
rest_is first hosts seen order so_far is =
    is ∙ ap (λ t. once first ++ t) (filter_agree (λ h. is_in hosts h && not (is_in seen h)) (λ h. is_in hosts h && not (contains first h)) (λ h. ap (λ b. is_in hosts h && not b) (so_far h)) (range_with_len 0 (length hosts)))

pub subscripted_is : (inventory : InventoryOf) (term : List ℕ) (s : Subscript) (n : ℕ) (hosts new : List Bool) (l : Option ℕ) (order slice part : List ℕ) → n ≡ length inventory.hosts → hosts ≡ term_set inventory term
    → l ≡ listing inventory term → order ≡ in_order (listed inventory l) hosts → slice ≡ order → part ≡ picked s slice → new ≡ each_host n (contains part)
    → new ≡ each_host (length inventory.hosts) (contains (picked s (ordered inventory term)))
subscripted_is inventory term s n hosts new l order slice part size set list ord read cut is =
    is ∙ ap (λ n. each_host n (contains part)) size
    ∙ ap (λ p. each_host (length inventory.hosts) (contains p))
    (cut ∙ ap (picked s) (read ∙ ord ∙ ap (λ l. in_order (listed inventory l) hosts) list ∙ ap (in_order (listed inventory (listing inventory term))) set))
