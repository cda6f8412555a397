-- A task that one host runs for all: the hosts in order, up to the first that does it.
use Rattle.std.proofs.Common.{◌≡◌, ◌⊎◌, inl, inr, ℕ, zero, suc, Bool, true, false, ◌||◌, List, [], ◌∷◌, map, take, refl, sym, ◌∙◌, ap, subst}
use Rattle.std.specs.Prelude.{nat_eq, Option, Some, None, is_some, slice_get, if◌then◌else◌}
use Rattle.std.specs.List.{list_any}
use Rattle.std.specs.Option.{option_map_or}
use Rattle.pb_strategies.specs.Hosts.{is_next_at, same_place}
use Rattle.pb_host.specs.declared.host.Running.{Running}
use Rattle.pb_host.specs.Host.{HostOf, is_at, next_place}
use Rattle.pb_host.specs.Runs.{is_running}
use Rattle.pb_host.specs.Standing.{standing}
use Rattle.pb_hosts.specs.Hosts.{change}
use Rattle.pb_hosts.specs.Turn.{has_done_run_once}
use Rattle.pb_hosts.proofs.Giving.{change_on}
use Rattle.pb_confluence.specs.Together.{until_played_out, by_each}
use Rattle.pb_independence.proofs.Tests.{or_false}
use Rattle.pb_confluence.proofs.Lists.{Every, map_changed}

abbrev pub IsIdle : HostOf → Type 0
IsIdle row = row.running ≡ None

-- past the place: the host neither stands there nor has done the task
abbrev pub IsPast : ℕ → HostOf → Type 0
IsPast p row = IsIdle row × (is_at p row ≡ false) × (has_done_run_once p row ≡ false)

abbrev pub Fresh : ℕ → HostOf → Type 0
Fresh p row = IsIdle row × (has_done_run_once p row ≡ false)

-- each host before host h is past it
abbrev pub Before : ℕ → List HostOf → ℕ → Type 0
Before p [] h = Unit {0}
Before p (row ∷ rows) zero = Unit {0}
Before p (row ∷ rows) (suc h) = IsPast p row × Before p rows h

-- hosts past the place, then perhaps one that runs or has done the task, and behind it none that does
abbrev pub Solo : ℕ → List HostOf → Type 0
Solo p [] = Unit {0}
Solo p (row ∷ rows) = (IsPast p row × Solo p rows) ⊎ Every (Fresh p) rows

if_true : (t : Bool) (xs ys : List HostOf) → t ≡ true → (if t then xs else ys) ≡ xs
if_true true xs ys e = refl
if_true false xs ys e = cc

if_false : (t : Bool) (xs ys : List HostOf) → t ≡ false → (if t then xs else ys) ≡ ys
if_false true xs ys e = cc
if_false false xs ys e = refl

if_same : (t : Bool) (xs ys : List HostOf) → ys ≡ xs → (if t then xs else ys) ≡ xs
if_same true xs ys e = refl
if_same false xs ys e = e

not_running : (x : Option Running) → is_some x ≡ true → x ≡ None → ⊥
not_running None e n = cc
not_running (Some r) e n = cc

pub fresh_idle : (p : ℕ) (rows : List HostOf) (h : ℕ) (row : HostOf) → Every (Fresh p) rows → slice_get rows h ≡ Some row → IsIdle row
fresh_idle p [] h row all e = cc
fresh_idle p (first ∷ rows) zero row all e = subst IsIdle (let same : first ≡ row = cc in same) all.0.0
fresh_idle p (first ∷ rows) (suc h) row all e = fresh_idle p rows h row all.1 e

-- ---- the host that runs is the first that isn't past the place
pub running_first : (p : ℕ) (rows : List HostOf) (h : ℕ) (row : HostOf) → Solo p rows → slice_get rows h ≡ Some row → is_running row ≡ true → Before p rows h
running_first p [] h row solo e runs = tt
running_first p (first ∷ rows) zero row solo e runs = tt
running_first p (first ∷ rows) (suc h) row (inl solo) e runs = (solo.0, running_first p rows h row solo.1 e runs)
running_first p (first ∷ rows) (suc h) row (inr fresh) e runs = absurd (not_running row.running runs (fresh_idle p rows h row fresh e))

-- and it stays so as that host goes on, or starts
pub solo_changed : (p : ℕ) (c : HostOf → HostOf) (rows : List HostOf) (h : ℕ) (row : HostOf) → Solo p rows → slice_get rows h ≡ Some row → is_running row ≡ true → Solo p (change rows h c)
solo_changed p c [] h row solo e runs = tt
solo_changed p c (first ∷ rows) zero row (inl solo) e runs = absurd (let same : first ≡ row = cc in not_running row.running runs (subst IsIdle same solo.0.0))
solo_changed p c (first ∷ rows) zero row (inr fresh) e runs = inr fresh
solo_changed p c (first ∷ rows) (suc h) row (inl solo) e runs = subst (Solo p) (sym (change_on first rows h c)) (inl (solo.0, solo_changed p c rows h row solo.1 e runs))
solo_changed p c (first ∷ rows) (suc h) row (inr fresh) e runs = absurd (not_running row.running runs (fresh_idle p rows h row fresh e))

pub solo_started : (p : ℕ) (c : HostOf → HostOf) (rows : List HostOf) (h : ℕ) → Every (Fresh p) rows → Before p rows h → Solo p (change rows h c)
solo_started p c [] h fresh before = tt
solo_started p c (first ∷ rows) zero fresh before = inr fresh.1
solo_started p c (first ∷ rows) (suc h) fresh before = subst (Solo p) (sym (change_on first rows h c)) (inl (before.0, solo_started p c rows h fresh.1 before.1))

pub solo_fresh : (p : ℕ) (rows : List HostOf) → Every (Fresh p) rows → Solo p rows
solo_fresh p [] all = tt
solo_fresh p (row ∷ rows) all = inr all.1

-- ---- nobody runs, and the task isn't done
idle_is : (x : Option Running) → is_some x ≡ false → x ≡ None
idle_is None e = refl
idle_is (Some r) e = cc

pub none_runs : (rows : List HostOf) → list_any is_running rows ≡ false → Every IsIdle rows
none_runs [] e = tt
none_runs (row ∷ rows) e = let two = or_false (is_running row) (list_any is_running rows) e in (idle_is row.running two.0, none_runs rows two.1)

pub open_fresh : (p : ℕ) (rows : List HostOf) → list_any is_running rows ≡ false → list_any (has_done_run_once p) rows ≡ false → Every (Fresh p) rows
open_fresh p [] e d = tt
open_fresh p (row ∷ rows) e d =
    let idle = or_false (is_running row) (list_any is_running rows) e in
    let done = or_false (has_done_run_once p row) (list_any (has_done_run_once p) rows) d in
    ((idle_is row.running idle.0, done.0), open_fresh p rows idle.1 done.1)

-- the first host there: those before it are past the place
there_same : (next : Option ℕ) (p : ℕ) → same_place next (Some p) ≡ false → option_map_or (λ q. nat_eq q p) next false ≡ false
there_same None p e = refl
there_same (Some q) p e = e

pub first_before : (p : ℕ) (rows : List HostOf) (h : ℕ) → Every (Fresh p) rows → list_any (is_next_at (Some p)) (take h (map standing rows)) ≡ false → Before p rows h
first_before p [] h fresh e = tt
first_before p (row ∷ rows) zero fresh e = tt
first_before p (row ∷ rows) (suc h) fresh e =
    let two = or_false (is_next_at (Some p) (standing row)) (list_any (is_next_at (Some p)) (take h (map standing rows))) e in
    ((fresh.0.0, there_same (next_place row) p two.0, fresh.0.1), first_before p rows h fresh.1 two.1)

-- ---- a change of the one host that F doesn't see, where F leaves those before it
module _ (p : ℕ) (F : HostOf → HostOf) (leaves : (row : HostOf) → IsIdle row → is_at p row ≡ false → F row ≡ row) where
  pub until_changed : (c : HostOf → HostOf) (rows : List HostOf) (h : ℕ) → Before p rows h → ((row : HostOf) → slice_get rows h ≡ Some row → F (c row) ≡ F row)
      → until_played_out p F (change rows h c) ≡ until_played_out p F rows
  until_changed c [] h before on = refl
  until_changed c (first ∷ rows) zero before on = ap (λ (r : HostOf). r ∷ (if has_done_run_once p r then rows else until_played_out p F rows)) (on first refl)
  until_changed c (first ∷ rows) (suc h) before on =
      let rest = until_changed c rows h before.1 on in
      let fresh : has_done_run_once p (F first) ≡ false = ap (has_done_run_once p) (leaves first before.0.0 before.0.1) ∙ before.0.2 in
      ap (until_played_out p F) (change_on first rows h c)
      ∙ ap (λ (t : List HostOf). F first ∷ t)
      (if_false (has_done_run_once p (F first)) (change rows h c) (until_played_out p F (change rows h c)) fresh ∙ rest ∙ sym (if_false (has_done_run_once p (F first)) rows (until_played_out p F rows) fresh))

  -- nobody is at the place
  pub until_left : (rows : List HostOf) → Every (λ row. IsIdle row × (is_at p row ≡ false)) rows → until_played_out p F rows ≡ rows
  until_left [] all = refl
  until_left (row ∷ rows) all =
      ap (λ (r : HostOf). r ∷ (if has_done_run_once p r then rows else until_played_out p F rows)) (leaves row all.0.0 all.0.1)
      ∙ ap (λ (t : List HostOf). row ∷ t) (if_same (has_done_run_once p row) rows (until_played_out p F rows) (until_left rows all.1))

  -- one host has done it
  run_once_here : (d any : Bool) → (d || any) ≡ true → any ≡ false → d ≡ true
  run_once_here true any e n = refl
  run_once_here false true e n = cc
  run_once_here false false e n = cc

  fresh_none : (rows : List HostOf) → Every (Fresh p) rows → list_any (has_done_run_once p) rows ≡ false
  fresh_none [] all = refl
  fresh_none (row ∷ rows) all = ap (λ (d : Bool). d || list_any (has_done_run_once p) rows) all.0.1 ∙ fresh_none rows all.1

  pub until_stays : (rows : List HostOf) → Solo p rows → Every (λ row. IsIdle row × (has_done_run_once p row ≡ true → is_at p row ≡ false)) rows → list_any (has_done_run_once p) rows ≡ true → until_played_out p F rows ≡ rows
  until_stays [] solo all e = refl
  until_stays (row ∷ rows) (inl solo) all e =
      ap (λ (r : HostOf). r ∷ (if has_done_run_once p r then rows else until_played_out p F rows)) (leaves row solo.0.0 solo.0.1)
      ∙ ap (λ (t : List HostOf). row ∷ t)
      (if_same (has_done_run_once p row) rows (until_played_out p F rows) (until_stays rows solo.1 all.1 (ap (λ (d : Bool). d || list_any (has_done_run_once p) rows) (sym solo.0.2) ∙ e)))
  until_stays (row ∷ rows) (inr fresh) all e =
      let done : has_done_run_once p row ≡ true = run_once_here (has_done_run_once p row) (list_any (has_done_run_once p) rows) e (fresh_none rows fresh) in
      ap (λ (r : HostOf). r ∷ (if has_done_run_once p r then rows else until_played_out p F rows)) (leaves row all.0.0 (all.0.1 done))
      ∙ ap (λ (t : List HostOf). row ∷ t) (if_true (has_done_run_once p row) rows (until_played_out p F rows) done)

-- ---- by each host, or by one for all
abbrev pub IfOnce : Bool → Type 0 → Type 0
IfOnce true A = A
IfOnce false A = Unit {0}

pub on_once : (b : Bool) (A B : Type 0) → (A → B) → IfOnce b A → IfOnce b B
on_once true A B on h = on h
on_once false A B on h = tt

pub by_changed : (once : Bool) (p : ℕ) (F : HostOf → HostOf) → ((row : HostOf) → IsIdle row → is_at p row ≡ false → F row ≡ row) → (c : HostOf → HostOf) (rows : List HostOf) (h : ℕ)
    → IfOnce once (Before p rows h) → ((row : HostOf) → slice_get rows h ≡ Some row → F (c row) ≡ F row) → by_each once p F (change rows h c) ≡ by_each once p F rows
by_changed true p F leaves c rows h before on = until_changed p F leaves c rows h before on
by_changed false p F leaves c rows h before on = map_changed F c rows h on
