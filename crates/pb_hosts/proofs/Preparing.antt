-- What hosts learn of gifts, made before a row changes, comes to what they are given; and a host's own row may change before that or behind it.
use Rattle.std.proofs.Common.{◌≡◌, ◌≢◌, ℕ, zero, suc, ◌+◌, ◌<◌, ◌≤◌, Bool, true, false, cond, List, [], ◌∷◌, ◌++◌, length, drop, get_or, refl, sym, ◌∙◌, ap, subst, arith}
use Rattle.std.specs.Prelude.{Option, Some, None, IfSome, nat_lt, option_map, position, slice_get, slice_set, if◌then◌else◌}
use Rattle.std.specs.List.{position_or_len}
use Rattle.std.specs.Option.{option_map_or}
use Rattle.std.proofs.lemmas.Bool.{eqb-true, eqb-false, ltb-true, ltb-false, lt-ltb, le-ltb}
use Rattle.std.proofs.lemmas.List.{drop_all, drop_more}
use Rattle.pb_ids.specs.declared.numbers.HostNo.{HostNo}
use Rattle.pb_inventory.specs.InventoryOf.{InventoryOf}
use Rattle.pb_facts.specs.Facts.{FactsOf}
use Rattle.pb_facts.specs.Update.{applied}
use Rattle.pb_facts.specs.declared.update.FactsUpdate.{FactsUpdate}
use Rattle.pb_outcome.specs.declared.item.Item.{Item}
use Rattle.pb_outcome.specs.Items.{is_over}
use Rattle.pb_host.specs.FromPlan.{PlayOf}
use Rattle.pb_host.specs.FromTaskVars.{given_by, DelegatedFacts}
use Rattle.pb_host.proofs.FromTaskVars.{AreForOthers, all_for_others}
use Rattle.pb_host.specs.declared.host.Running.{Running}
use Rattle.pb_host.specs.Host.{HostOf, knows, task_at}
use Rattle.pb_host.specs.Turned.{applies}
use Rattle.pb_hosts.specs.declared.turned.HostUpdate.{HostUpdate}
use Rattle.pb_hosts.specs.Applied.{with_update}
use Rattle.pb_hosts.specs.Giving.{gives_with, gives_on, gives_now, takes, with_delegated, gifts_at}
use Rattle.pb_hosts.specs.Hosts.{change}
use Rattle.pb_hosts.specs.Prepared.{AreApartFrom, AreOnce, IsGift, IsJoinedAt, IsJoinedTo, IsTaken, is_for}
use Rattle.pb_hosts.proofs.Applying.{update_more}
use Rattle.pb_hosts.proofs.Giving.{apart, get_apart, same_change, twice}

-- ---- where it is kept
after_one : (p m : ℕ) → nat_lt (1 + p) (suc m) ≡ nat_lt p m
after_one p m = by_order (nat_lt p m) refl
  where
    by_order : (b : Bool) → nat_lt p m ≡ b → nat_lt (1 + p) (suc m) ≡ b
    by_order true e = lt-ltb (1 + p) (suc m) (let less = ltb-true p m e in omega (arith, less))
    by_order false e = le-ltb (1 + p) (suc m) (let least = ltb-false p m e in omega (arith, least))

next_place_on : (p m : ℕ) → cond (nat_lt (1 + p) (suc m)) (Some (1 + p)) None ≡ option_map suc (cond (nat_lt p m) (Some p) None)
next_place_on p m = rw (after_one p m) (by_order (nat_lt p m))
  where
    by_order : (b : Bool) → cond b (Some (1 + p)) None ≡ option_map suc (cond b (Some p) None)
    by_order true = ap Some (let one : 1 + p ≡ suc p = omega arith in one)
    by_order false = refl

-- behind one that is another's
pub position_on : {A : Type 0} (test : A → Bool) (x : A) (xs : List A) → test x ≡ false → position test (x ∷ xs) ≡ option_map suc (position test xs)
position_on test x xs e = rw e (next_place_on (position_or_len test xs) (length xs))

pub position_here : {A : Type 0} (test : A → Bool) (x : A) (xs : List A) → test x ≡ true → position test (x ∷ xs) ≡ Some 0
position_here test x xs e = rw e (rw (lt-ltb 0 (suc (length xs)) (omega arith)) refl)

-- one for this host stands there
abbrev IsThere : ℕ → List HostUpdate → ℕ → Type 0
IsThere h [] at = ⊥
IsThere h (one ∷ all) zero = one.host.0 ≡ h
IsThere h (one ∷ all) (suc at) = IsThere h all at

abbrev IsPlace : ℕ → List HostUpdate → Option ℕ → Type 0
IsPlace h all None = AreApartFrom h all
IsPlace h all (Some at) = IsThere h all at

placed : (h : ℕ) (all : List HostUpdate) → IsPlace h all (position (is_for h) all)
placed h [] = tt
placed h (one ∷ all) = by_host (is_for h one) refl (placed h all)
  where
    on : (found : Option ℕ) → one.host.0 ≢ h → IsPlace h all found → IsPlace h (one ∷ all) (option_map suc found)
    on None d rest = (d, rest)
    on (Some at) d rest = rest

    by_host : (here : Bool) → is_for h one ≡ here → IsPlace h all (position (is_for h) all) → IsPlace h (one ∷ all) (position (is_for h) (one ∷ all))
    by_host true e rest = subst (IsPlace h (one ∷ all)) (sym (position_here (is_for h) one all e)) (eqb-true one.host.0 h e)
    by_host false e rest = subst (IsPlace h (one ∷ all)) (sym (position_on (is_for h) one all e)) (on (position (is_for h) all) (eqb-false one.host.0 h e) rest)

placed_in : (h : ℕ) (all seen : List HostUpdate) (found place : Option ℕ) → seen ≡ all → found ≡ position (is_for h) seen → found ≡ place → IsPlace h all place
placed_in h all seen found place s f p = subst (IsPlace h all) (ap (position (is_for h)) (sym s) ∙ sym f ∙ p) (placed h all)

there_some : (h : ℕ) (all : List HostUpdate) (at : ℕ) → IsThere h all at → (one : HostUpdate) × (slice_get all at ≡ Some one) × (one.host.0 ≡ h)
there_some h [] at w = absurd w
there_some h (one ∷ all) zero w = (one, refl, w)
there_some h (one ∷ all) (suc at) w = there_some h all at w

-- ---- each of them is for another host
apart_more : (h : ℕ) (all : List HostUpdate) (new : HostUpdate) → AreApartFrom h all → new.host.0 ≢ h → AreApartFrom h (all ++ new ∷ [])
apart_more h [] new w d = (d, tt)
apart_more h (one ∷ all) new w d = (w.0, apart_more h all new w.1 d)

once_more : (all : List HostUpdate) (new : HostUpdate) → AreApartFrom new.host.0 all → AreOnce all → AreOnce (all ++ new ∷ [])
once_more [] new w once = (tt, tt)
once_more (one ∷ all) new w once = (apart_more one.host.0 all new once.0 (λ same. w.0 (sym same)), once_more all new w.1 once.1)

apart_set : (h : ℕ) (all : List HostUpdate) (at : ℕ) (one new : HostUpdate) → slice_get all at ≡ Some one → new.host.0 ≡ one.host.0 → AreApartFrom h all → AreApartFrom h (slice_set all at new)
apart_set h [] at one new e m w = tt
apart_set h (first ∷ all) zero one new e m w = let is : one ≡ first = cc in ((λ same. w.0 (sym (m ∙ ap (λ (u : HostUpdate). u.host.0) is) ∙ same)), w.1)
apart_set h (first ∷ all) (suc at) one new e m w = (w.0, apart_set h all at one new e m w.1)

once_set : (all : List HostUpdate) (at : ℕ) (one new : HostUpdate) → slice_get all at ≡ Some one → new.host.0 ≡ one.host.0 → AreOnce all → AreOnce (slice_set all at new)
once_set [] at one new e m once = tt
once_set (first ∷ all) zero one new e m once = let is : one ≡ first = cc in (subst (λ (h : ℕ). AreApartFrom h all) (sym (m ∙ ap (λ (u : HostUpdate). u.host.0) is)) once.0, once.1)
once_set (first ∷ all) (suc at) one new e m once = (apart_set first.host.0 all at one new e m once.0, once_set all at one new e m once.1)

-- ---- what they come to
-- what other hosts learn behind a change of one row leaves that change as it is
updates_apart : (h : ℕ) (f : HostOf → HostOf) (all : List HostUpdate) (rows : List HostOf) → AreApartFrom h all → with_update all (change rows h f) ≡ change (with_update all rows) h f
updates_apart h f [] rows w = refl
updates_apart h f (one ∷ all) rows w =
    ap (with_update all) (apart rows h one.host.0 f (applies one.update) w.0) ∙ updates_apart h f all (change rows one.host.0 (applies one.update)) w.1

here_joined : (h : ℕ) (f : HostOf → HostOf) (all : List HostUpdate) (one new : HostUpdate) → one.host.0 ≡ h → new.host.0 ≡ h → ((row : HostOf) → applies new.update row ≡ f (applies one.update row)) → AreApartFrom one.host.0 all → (rows : List HostOf)
    → with_update all (change rows new.host.0 (applies new.update)) ≡ change (with_update all (change rows one.host.0 (applies one.update))) h f
here_joined h f all one new o n same w rows =
    ap (λ (k : ℕ). with_update all (change rows k (applies new.update))) n
    ∙ ap (with_update all) (same_change rows h (applies new.update) (λ (row : HostOf). f (applies one.update row)) same ∙ sym (twice rows h (applies one.update) f))
    ∙ updates_apart h f all (change rows h (applies one.update)) (subst (λ (k : ℕ). AreApartFrom k all) o w)
    ∙ ap (λ (k : ℕ). change (with_update all (change rows k (applies one.update))) h f) (sym o)

rows_joined : (h : ℕ) (f : HostOf → HostOf) (all : List HostUpdate) (at : ℕ) (one new : HostUpdate) → slice_get all at ≡ Some one → one.host.0 ≡ h → new.host.0 ≡ h → ((row : HostOf) → applies new.update row ≡ f (applies one.update row)) → AreOnce all → (rows : List HostOf)
    → with_update (slice_set all at new) rows ≡ change (with_update all rows) h f
rows_joined h f [] at one new e o n same once rows = cc
rows_joined h f (first ∷ all) zero one new e o n same once rows =
    let is : one ≡ first = cc in
    here_joined h f all first new (ap (λ (u : HostUpdate). u.host.0) (sym is) ∙ o) n (λ row. same row ∙ ap (λ (u : HostUpdate). f (applies u.update row)) is) once.0 rows
rows_joined h f (first ∷ all) (suc at) one new e o n same once rows = rows_joined h f all at one new e o n same once.1 (change rows first.host.0 (applies first.update))

gift_is : (gift : DelegatedFacts) (given : HostUpdate) → IsGift gift given → (row : HostOf) → applies given.update row ≡ takes gift row
gift_is gift given is row = ap (λ (facts : FactsOf). knows facts row) (is.1 row.facts)

joined_is : (gift : DelegatedFacts) (given one new : HostUpdate) (next : FactsUpdate) → IsGift gift given → next ≡ given.update → ((facts : FactsOf) → applied new.update facts ≡ applied next (applied one.update facts)) → (row : HostOf)
    → applies new.update row ≡ takes gift (applies one.update row)
joined_is gift given one new next is n both row =
    ap (λ (facts : FactsOf). knows facts row)
    (both row.facts ∙ ap (λ (u : FactsUpdate). applied u (applied one.update row.facts)) n ∙ is.1 (applied one.update row.facts))

pub joined_there : (next : FactsUpdate) (all new : List HostUpdate) (at : ℕ) (one both : HostUpdate) → slice_get all at ≡ Some one → new ≡ slice_set all at both → both.host ≡ one.host
    → ((facts : FactsOf) → applied both.update facts ≡ applied next (applied one.update facts)) → IsJoinedAt next at all new
joined_there next all new at one both e n h b = subst (λ (o : Option HostUpdate). IfSome o (IsJoinedTo next at all new)) (sym e) (both, n, ap (λ (k : HostNo). k.0) h, b)

pub joined_nowhere : (next : FactsUpdate) (all new : List HostUpdate) (at : ℕ) → slice_get all at ≡ None → IsJoinedAt next at all new
joined_nowhere next all new at e = subst (λ (o : Option HostUpdate). IfSome o (IsJoinedTo next at all new)) (sym e) tt

-- ---- one gift more
-- behind what its host learns
pub taken_more : (gift : DelegatedFacts) (given : HostUpdate) (next : FactsUpdate) (all seen new : List HostUpdate) (found : Option ℕ) (at : ℕ) → IsGift gift given → next ≡ given.update → seen ≡ all → found ≡ position (is_for gift.host.0) seen → found ≡ Some at → AreOnce all
    → IsJoinedAt next at all new → IsTaken gift all new
taken_more gift given next all seen new found at is n s f p once joined =
    let there = there_some gift.host.0 all at (placed_in gift.host.0 all seen found (Some at) s f p) in
    by_one there.0 there.1 there.2 (subst (λ (o : Option HostUpdate). IfSome o (IsJoinedTo next at all new)) there.1 joined)
  where
    by_one : (one : HostUpdate) → slice_get all at ≡ Some one → one.host.0 ≡ gift.host.0 → IsJoinedTo next at all new one → IsTaken gift all new
    by_one one e o j = (
      subst AreOnce (sym j.1) (once_set all at one j.0 e j.2 once),
      (λ rows. ap (λ (us : List HostUpdate). with_update us rows) j.1 ∙ rows_joined gift.host.0 (takes gift) all at one j.0 e o (j.2 ∙ o) (joined_is gift given one j.0 next is n j.3) once rows),
    )

-- or behind what the others learn
rows_given : (gift : DelegatedFacts) (given : HostUpdate) (all : List HostUpdate) → IsGift gift given → (rows : List HostOf) → with_update (all ++ given ∷ []) rows ≡ change (with_update all rows) gift.host.0 (takes gift)
rows_given gift given all is rows =
    update_more all given rows
    ∙ ap (λ (h : ℕ). change (with_update all rows) h (applies given.update)) is.0
    ∙ same_change (with_update all rows) gift.host.0 (applies given.update) (takes gift) (gift_is gift given is)

pub taken_first : (gift : DelegatedFacts) (given : HostUpdate) (all seen new : List HostUpdate) (found : Option ℕ) → IsGift gift given → seen ≡ all → found ≡ position (is_for gift.host.0) seen → found ≡ None → AreOnce all → new ≡ all ++ given ∷ [] → IsTaken gift all new
taken_first gift given all seen new found is s f p once n =
    let others : AreApartFrom given.host.0 all = subst (λ (h : ℕ). AreApartFrom h all) (sym is.0) (placed_in gift.host.0 all seen found None s f p) in
    (subst AreOnce (sym n) (once_more all given others once), (λ rows. ap (λ (us : List HostUpdate). with_update us rows) n ∙ rows_given gift given all is rows))

-- ---- all of them
pub gifts_first : (gifts : List DelegatedFacts) (all : List HostUpdate) → all ≡ [] → AreOnce all × ((rows : List HostOf) → with_delegated (drop 0 gifts) (with_update all rows) ≡ with_delegated gifts rows)
gifts_first gifts all none = subst (λ (us : List HostUpdate). AreOnce us × ((rows : List HostOf) → with_delegated (drop 0 gifts) (with_update us rows) ≡ with_delegated gifts rows)) (sym none) (tt, λ rows. refl)

pub gifts_more : (gifts : List DelegatedFacts) (i : ℕ) (gift : DelegatedFacts) (all new : List HostUpdate) → i < length gifts → gift ≡ get_or gifts i gift → IsTaken gift all new
    → ((rows : List HostOf) → with_delegated (drop i gifts) (with_update all rows) ≡ with_delegated gifts rows)
    → AreOnce new × ((rows : List HostOf) → with_delegated (drop (i + 1) gifts) (with_update new rows) ≡ with_delegated gifts rows)
gifts_more gifts i gift all new inside is taken so_far = (taken.0, on)
  where
    left : gift ∷ drop (i + 1) gifts ≡ drop i gifts
    left = sym (drop_more gifts i gift inside ∙ ap (λ (g : DelegatedFacts). g ∷ drop (i + 1) gifts) (sym is))

    on : (rows : List HostOf) → with_delegated (drop (i + 1) gifts) (with_update new rows) ≡ with_delegated gifts rows
    on rows = ap (with_delegated (drop (i + 1) gifts)) (taken.1 rows) ∙ ap (λ (gs : List DelegatedFacts). with_delegated gs (with_update all rows)) left ∙ so_far rows

pub gifts_end : (gifts : List DelegatedFacts) (i : ℕ) (all : List HostUpdate) → length gifts ≤ i → ((rows : List HostOf) → with_delegated (drop i gifts) (with_update all rows) ≡ with_delegated gifts rows)
    → (rows : List HostOf) → with_update all rows ≡ with_delegated gifts rows
gifts_end gifts i all past so_far rows = sym (ap (λ (gs : List DelegatedFacts). with_delegated gs (with_update all rows)) (drop_all i gifts past)) ∙ so_far rows

-- ---- none of them is for the host whose own row changes
others_keep : (h : ℕ) (gifts : List DelegatedFacts) (rows : List HostOf) → AreForOthers h gifts → slice_get (with_delegated gifts rows) h ≡ slice_get rows h
others_keep h [] rows others = refl
others_keep h (gift ∷ gifts) rows others = others_keep h gifts (change rows gift.host.0 (takes gift)) others.1 ∙ get_apart rows h gift.host.0 (takes gift) others.0

given_apart : (h : ℕ) (f : HostOf → HostOf) (gifts : List DelegatedFacts) (rows : List HostOf) → AreForOthers h gifts → with_delegated gifts (change rows h f) ≡ change (with_delegated gifts rows) h f
given_apart h f [] rows others = refl
given_apart h f (gift ∷ gifts) rows others =
    ap (with_delegated gifts) (apart rows h gift.host.0 f (takes gift) others.0) ∙ given_apart h f gifts (change rows gift.host.0 (takes gift)) others.1

-- that row stays as it is where others are given this
pub row_kept : (h : ℕ) (given gifts : List DelegatedFacts) (rows mid : List HostOf) → AreForOthers h given → gifts ≡ given → mid ≡ with_delegated gifts rows → slice_get mid h ≡ slice_get rows h
row_kept h given gifts rows mid others g m =
    ap (λ (all : List HostOf). slice_get all h) (m ∙ ap (λ (gs : List DelegatedFacts). with_delegated gs rows) g) ∙ others_keep h given rows others

-- and where it changes then, the others might be given it behind that
pub given_then : (h : ℕ) (f : HostOf → HostOf) (given gifts : List DelegatedFacts) (rows mid new : List HostOf) → AreForOthers h given → gifts ≡ given → mid ≡ with_delegated gifts rows → new ≡ change mid h f → new ≡ with_delegated given (change rows h f)
given_then h f given gifts rows mid new others g m n =
    n
    ∙ ap (λ (all : List HostOf). change all h f) (m ∙ ap (λ (gs : List DelegatedFacts). with_delegated gs rows) g)
    ∙ sym (given_apart h f given rows others)

-- what a task gives is for other hosts than the one that started it
pub at_others : (inventory : InventoryOf) (play : PlayOf) (p h : ℕ) (items : List Item) → AreForOthers h (gifts_at inventory play p h items)
at_others inventory play p h items = by_over (is_over items)
  where
    by_over : (over : Bool) → AreForOthers h (if over then given_by inventory play p h (task_at play p items).result items else [])
    by_over true = all_for_others inventory play p h (task_at play p items).result items
    by_over false = tt

on_others : (inventory : InventoryOf) (play : PlayOf) (h : ℕ) (running : Option Running) → AreForOthers h (option_map_or (gives_with inventory play h) running [])
on_others inventory play h None = tt
on_others inventory play h (Some r) = at_others inventory play r.place h r.items

pub now_others : (inventory : InventoryOf) (play : PlayOf) (h : ℕ) (found : Option HostOf) → AreForOthers h (option_map_or (gives_on inventory play h) found [])
now_others inventory play h None = tt
now_others inventory play h (Some row) = on_others inventory play h row.running
