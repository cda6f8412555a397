-- The start, the split of a fork's seat and its join.
use Rattle.std.proofs.Common.{◌≡◌, ◌≢◌, ◌⊎◌, ℕ, zero, suc, ◌+◌, ◌%◌, ◌<◌, ◌≤◌, cond, eqb, List, [], ◌∷◌, ◌++◌, map, length, get_or, set, replicate, None, refl, sym, ap, ◌∙◌, subst, inl, inr, ⊎_elim, arith, length-set, get_or-set_same, get_or-set_other, eq-eqb, ne_eqb, append-nil}
use mathlib.Core.Option.{some, none, some-injective, some-ne-none}
use mathlib.Core.Option as maybe
use mathlib.Core.Logic.{dite}
use native.Mathlib.Decide.{ℕ_discrete}
use lib.ListN.{get_elem?}
use Rattle.std.proofs.lemmas.List.{get_or-replicate, length-replicate}
use Rattle.atomic_table.specs.Table.{Splits, Joins, opening}
use Rattle.atomic_table.proofs.Lists.{at_set, set_else, at_longer, at_last}
use Rattle.pb_outcome.specs.declared.job.Job.{Job}
use Rattle.pb_outcome.specs.declared.outcome.Form.{Form}
use Rattle.pb_forks.specs.declared.views.ForkView.{ForkView}
use Rattle.pb_forks.specs.declared.views.MainView.{MainView}
use Rattle.pb_forks.specs.declared.views.Lodged.{Lodged}
use Rattle.pb_forks.specs.declared.views.Lodged.TheVariants.{Here, Away}
use Rattle.pb_forks.specs.declared.views.View.{View}
use Rattle.pb_forks.specs.declared.views.View.TheVariants.{Main, Fork, Spent}
use Rattle.pb_forks.specs.Logs.{Rises}
use Rattle.pb_forks.specs.Rule.{idle, Slot, Stands, Knows, Kept}
use Rattle.pb_forks.specs.Views.{fresh, first_main, lodged, main_dealt, dealt, next_fork, main_joined, joined, deals, start}
use Rattle.pb_forks.proofs.Keeps.{St, fork_at, put_there, not_both, same_number, stands_still}

at_end : {A : Type 0} (l : List A) (a b : A) (j : ℕ) → get_elem? (l ++ a ∷ []) j ≡ some b → ((j ≢ length l) × (get_elem? l j ≡ some b)) ⊎ ((j ≡ length l) × (a ≡ b))
at_end [] a b zero e = inr (refl, some-injective a b e)
at_end [] a b (suc j) e = absurd (some-ne-none b (sym e))
at_end (x ∷ xs) a b zero e = inl ((λ c. omega arith), e)
at_end (x ∷ xs) a b (suc j) e = ⊎_elim (λ t. let n = t.0 in inl ((λ c. n (omega arith)), t.1)) (λ t. inr (ap suc t.0, t.1)) (at_end xs a b j e)

abbrev nothing : Slot
nothing = None

abbrev homes_of : ℕ → List (maybe.Option Slot)
homes_of n = map some (replicate n nothing)

abbrev bare : maybe.Option (maybe.Option Slot)
bare = some (some None)

nothing_home : (k j : ℕ) → j < k → get_elem? (homes_of k) j ≡ bare
nothing_home zero j h = absurd (omega arith)
nothing_home (suc k) zero h = refl
nothing_home (suc k) (suc j) h = nothing_home k j (omega arith)

module _ (allows : Job → Form → Type 0) (k : ℕ) where
  abbrev Rule : St allows → Type 0
  Rule = Kept allows k

  pub opens : Rule (opening (replicate k 0) (replicate k None) (Main (first_main k)))
  opens = record {
    main_id = 0;
    main = first_main k;
    part = λ _. fresh;
    owner = λ _. 0;
    wide = length-replicate k 0;
    deep = lengths k;
    sees_all = length-replicate k 0;
    all_parts = length-replicate k (Here fresh);
    rises = tt;
    each_fork = λ j h. record {
      phase = idle;
      word_is = get_or-replicate k j 0 0 h;
      lists = (refl, refl, tt, ((λ e. absurd (omega arith)), λ _. nothing_home k j h));
      main_sees = ((λ _. get_or-replicate k j 0 0 h ∙ sym (get_or-replicate k j 0 0 h)), λ n. absurd (n (ap (λ z. z % 4) (get_or-replicate k j 0 0 h))));
      fork_sees = ((λ e. absurd (omega arith)), (λ e. absurd (omega arith)), λ e. absurd (omega arith));
    };
    main_seat = refl;
    stands = λ j h. subst (Stands (Main (first_main k) ∷ []) (λ _. 0) j fresh) (sym (get_or-replicate k j (Here fresh) Away h)) refl;
    each_seat = one;
  }
    where
      lengths : (n : ℕ) → length (homes_of n) ≡ n
      lengths zero = refl
      lengths (suc n) = ap suc (lengths n)

      one : (id : ℕ) (v : View) → get_elem? (Main (first_main k) ∷ []) id ≡ some v → Knows k 0 (first_main k) (λ _. fresh) (λ _. 0) id v
      one zero v e = subst (Knows k 0 (first_main k) (λ _. fresh) (λ _. 0) 0) (some-injective _ _ e) (refl, refl)
      one (suc id) v e = absurd (some-ne-none v (sym e))

  -- at the split of fork j's seat, the others know what they knew
  redealt : (id id' j : ℕ) (m : MainView) (main_id : ℕ) (part : ℕ → ForkView) (owner : ℕ → ℕ) (p : ForkView) → get_or m.parts j Away ≡ Here p → id' ≢ main_id → (v : View)
      → Knows k main_id m part owner id' v → Knows k main_id (record { log = m.log; seen = m.seen; looks = m.looks; hand = m.hand; parts = set m.parts j Away; next = j + 1 }) part (λ i. cond (eqb i j) id (owner i)) id' v
  redealt id id' j m main_id part owner p here ne (Main n) h = absurd (ne h.0)
  redealt id id' j m main_id part owner p here ne (Fork i q) h =
      let other : i ≢ j = λ c. (let both : Away ≡ Here p = sym h.3 ∙ (ap (λ z. get_or m.parts z Away) c ∙ here) in absurd (cc)) in
      (h.0, ap (λ b. cond b id (owner i)) (ne_eqb i j other) ∙ h.1, h.2, get_or-set_other m.parts j i Away Away other ∙ h.3)
  redealt id id' j m main_id part owner p here ne Spent h = tt

  -- a fork's view stands where it stood, when a seat is new
  stands_longer : (views : List View) (owner own : ℕ → ℕ) (id i : ℕ) (v a : View) (p : ForkView) → own i ≡ owner i → ((q : ForkView) → get_elem? views (owner i) ≡ some (Fork i q) → owner i ≢ id) → (l : Lodged)
      → Stands views owner i p l → Stands (set views id v ++ a ∷ []) own i p l
  stands_longer views owner own id i v a p e ne (Here q) h = h
  stands_longer views owner own id i v a p e ne Away h = ap (get_elem? (set views id v ++ a ∷ [])) e ∙ at_longer (set views id v) (a ∷ []) (owner i) _ (set_else views id (owner i) v (ne p h) ∙ h)

  pub splits : (id : ℕ) (m : MainView) (p : ForkView) → m.next < k → get_or m.parts m.next Away ≡ Here p → Splits Rule id (Main m) (dealt (Main m)) (next_fork (Main m))
  splits id m p lt here s r at =
      let known = r.each_seat id (Main m) at in
      let j = m.next in
      let new : ℕ = length (set s.views id (Main (main_dealt m))) in
      let own : ℕ → ℕ = λ i. cond (eqb i j) new (r.owner i) in
      let m' = main_dealt m in
      let stood : (i : ℕ) → i < k → Stands s.views r.owner i (r.part i) (get_or m.parts i Away) = subst (λ (z : MainView). (i : ℕ) → i < k → Stands s.views r.owner i (r.part i) (get_or z.parts i Away)) (sym known.1) r.stands in
      let same : p ≡ r.part j = subst (Stands s.views r.owner j (r.part j)) here (stood j lt) in
      let mine : lodged (get_or m.parts j Away) ≡ r.part j = ap lodged here ∙ same in
      let own_new : own j ≡ new = ap (λ b. cond b new (r.owner j)) (eq-eqb j j refl) in
      let views = set s.views id (Main m') ++ Fork j (lodged (get_or m.parts j Away)) ∷ [] in
      let parts_long : length m.parts ≡ k = ap (λ (z : MainView). length z.parts) known.1 ∙ r.all_parts in
      record {
        main_id = r.main_id;
        main = m';
        part = r.part;
        owner = own;
        wide = r.wide;
        deep = r.deep;
        sees_all = ap (λ (z : MainView). length z.seen) known.1 ∙ r.sees_all;
        all_parts = length-set m.parts j Away ∙ parts_long;
        rises = subst (λ (z : MainView). Rises 0 z.log) (sym known.1) r.rises;
        each_fork = fork_at allows k s r id m at;
        main_seat = at_longer (set s.views id (Main m')) _ r.main_id _ (subst (λ (z : ℕ). get_elem? (set s.views id (Main m')) z ≡ some (Main m')) known.0 (put_there s.views id (Main m) (Main m') at));
        stands = λ i l. dite (ℕ_discrete i j)
            (λ e. subst (λ (z : ℕ). Stands views own z (r.part z) (get_or m'.parts z Away)) (sym e)
            (subst (Stands views own j (r.part j)) (sym (get_or-set_same m.parts j Away Away (omega arith)))
            (ap (get_elem? views) own_new ∙ (at_last (set s.views id (Main m')) _ new refl ∙ ap (λ q. some (Fork j q)) mine))))
            (λ ne. subst (Stands views own i (r.part i)) (sym (get_or-set_other m.parts j i Away Away ne))
            (stands_longer s.views r.owner own id i (Main m') _ (r.part i) (ap (λ b. cond b new (r.owner i)) (ne_eqb i j ne)) (λ q there. not_both s.views id (r.owner i) i m q at there) _ (stood i l)));
        each_seat = λ i v e. ⊎_elim
            (λ (t : (i ≢ new) × (get_elem? (set s.views id (Main m')) i ≡ some v)). ⊎_elim
            (λ (u : (i ≡ id) × (Main m' ≡ v)). subst (Knows k r.main_id m' r.part own i) u.1 (u.0 ∙ known.0, refl))
            (λ (u : (i ≢ id) × (get_elem? s.views i ≡ some v)). let apart = u.0 in
            redealt new i j m r.main_id r.part r.owner p here (λ c. apart (c ∙ sym known.0)) v (subst (λ (z : MainView). Knows k r.main_id z r.part r.owner i v) (sym known.1) (r.each_seat i v u.1)))
            (at_set s.views id i (Main m') v t.1))
            (λ (t : (i ≡ new) × (Fork j (lodged (get_or m.parts j Away)) ≡ v)). subst (Knows k r.main_id m' r.part own i) t.1
            (lt, own_new ∙ sym t.0, mine, get_or-set_same m.parts j Away Away (omega arith)))
            (at_end (set s.views id (Main m')) (Fork j (lodged (get_or m.parts j Away))) v i e);
      }

  -- at the join of fork j's seat, the others know what they knew
  rejoined : (id' j : ℕ) (m m' : MainView) (main_id : ℕ) (part : ℕ → ForkView) (owner : ℕ → ℕ) (q : ForkView) → m'.parts ≡ set m.parts j (Here q) → id' ≢ main_id → id' ≢ owner j → (v : View) → Knows k main_id m part owner id' v → Knows k main_id m' part owner id' v
  rejoined id' j m m' main_id part owner q e ne other (Main n) h = absurd (ne h.0)
  rejoined id' j m m' main_id part owner q e ne other (Fork i p) h =
      (h.0, h.1, h.2, ap (λ (l : List Lodged). get_or l i Away) e ∙ (get_or-set_other m.parts j i (Here q) Away (λ c. other (sym h.1 ∙ ap owner c)) ∙ h.3))
  rejoined id' j m m' main_id part owner q e ne other Spent h = tt

  pub joins : (id : ℕ) (m : MainView) (other j : ℕ) (p : ForkView) → Joins Rule id (Main m) other (Fork j p) (joined (Main m) (Fork j p)) Spent
  joins id m other j p s r at apart at' =
      let known = r.each_seat id (Main m) at in
      let m' = main_joined j p m in
      let there : get_elem? s.views other ≡ some (Fork j p) = sym (set_else s.views id other (Main m') apart) ∙ at' in
      let fork = r.each_seat other (Fork j p) there in
      let lt = fork.0 in
      let views = set (set s.views id (Main m')) other Spent in
      let stood : (i : ℕ) → i < k → Stands s.views r.owner i (r.part i) (get_or m.parts i Away) = subst (λ (z : MainView). (i : ℕ) → i < k → Stands s.views r.owner i (r.part i) (get_or z.parts i Away)) (sym known.1) r.stands in
      let parts_long : length m.parts ≡ k = ap (λ (z : MainView). length z.parts) known.1 ∙ r.all_parts in
      record {
        main_id = r.main_id;
        main = m';
        part = r.part;
        owner = r.owner;
        wide = r.wide;
        deep = r.deep;
        sees_all = ap (λ (z : MainView). length z.seen) known.1 ∙ r.sees_all;
        all_parts = length-set m.parts j (Here p) ∙ parts_long;
        rises = subst (λ (z : MainView). Rises 0 z.log) (sym known.1) r.rises;
        each_fork = fork_at allows k s r id m at;
        main_seat = subst (λ (z : ℕ). get_elem? views z ≡ some (Main m')) known.0 (set_else (set s.views id (Main m')) other id Spent (λ c. apart (sym c)) ∙ put_there s.views id (Main m) (Main m') at);
        stands = λ i l. dite (ℕ_discrete i j)
            (λ e. subst (λ (z : ℕ). Stands views r.owner z (r.part z) (get_or m'.parts z Away)) (sym e) (subst (Stands views r.owner j (r.part j)) (sym (get_or-set_same m.parts j (Here p) Away (omega arith))) fork.2))
            (λ ne. subst (Stands views r.owner i (r.part i)) (sym (get_or-set_other m.parts j i (Here p) Away ne))
            (stands_still allows (set s.views id (Main m')) r.owner other i Spent (r.part i) (λ q there c. ne (same_number (set s.views id (Main m')) other (r.owner i) j i p q at' there c)) _
            (stands_still allows s.views r.owner id i (Main m') (r.part i) (λ q there. not_both s.views id (r.owner i) i m q at there) _ (stood i l))));
        each_seat = λ i v e. ⊎_elim
            (λ (t : (i ≡ other) × (Spent ≡ v)). subst (Knows k r.main_id m' r.part r.owner i) t.1 tt)
            (λ (t : (i ≢ other) × (get_elem? (set s.views id (Main m')) i ≡ some v)). ⊎_elim
            (λ (u : (i ≡ id) × (Main m' ≡ v)). subst (Knows k r.main_id m' r.part r.owner i) u.1 (u.0 ∙ known.0, refl))
            (λ (u : (i ≢ id) × (get_elem? s.views i ≡ some v)). let away = u.0 in let far = t.0 in
            rejoined i j m m' r.main_id r.part r.owner p refl (λ c. away (c ∙ sym known.0)) (λ c. far (c ∙ fork.1)) v (subst (λ (z : MainView). Knows k r.main_id z r.part r.owner i v) (sym known.1) (r.each_seat i v u.1)))
            (at_set s.views id i (Main m') v t.1))
            (at_set (set s.views id (Main m')) other i Spent v e);
      }

-- the splits of the first n seats leave the forks from n on where they were
pub deals-next : (n k : ℕ) → (deals n (first_main k)).next ≡ n
deals-next zero k = refl
deals-next (suc n) k = let e = deals-next n k in omega arith

pub deals-here : (n k j : ℕ) → n ≤ j → j < k → get_or (deals n (first_main k)).parts j Away ≡ Here fresh
deals-here zero k j a b = get_or-replicate k j (Here fresh) Away b
deals-here (suc n) k j a b =
    let m = deals n (first_main k) in
    let e = deals-next n k in
    get_or-set_other m.parts m.next j Away Away (λ c. omega arith) ∙ deals-here n k j (omega arith) b

-- the first n places of a list are Away
abbrev aways : ℕ → List Lodged → List Lodged
aways zero l = l
aways (suc n) l = set (aways n l) n Away

deals_are : (n k : ℕ) → deals n (first_main k) ≡ record { log = []; seen = replicate k 0; looks = 0; hand = 0; parts = aways n (replicate k (Here fresh)); next = n }
deals_are zero k = refl
deals_are (suc n) k =
    let e : n + 1 ≡ suc n = omega arith in
    ap main_dealt (deals_are n k) ∙ (λ i. record { log = []; seen = replicate k 0; looks = 0; hand = 0; parts = aways (suc n) (replicate k (Here fresh)); next = e i })

set_behind : (n : ℕ) (x y : Lodged) (ls : List Lodged) → set (replicate n Away ++ x ∷ ls) n y ≡ replicate n Away ++ y ∷ ls
set_behind zero x y ls = refl
set_behind (suc n) x y ls = ap (λ l. Away ∷ l) (set_behind n x y ls)

one_more : (n : ℕ) (ls : List Lodged) → replicate n Away ++ Away ∷ ls ≡ replicate (suc n) Away ++ ls
one_more zero ls = refl
one_more (suc n) ls = ap (λ l. Away ∷ l) (one_more n ls)

aways_are : (n m : ℕ) → aways n (replicate (n + m) (Here fresh)) ≡ replicate n Away ++ replicate m (Here fresh)
aways_are zero m = ap (λ z. replicate z (Here fresh)) (let e : zero + m ≡ m = omega arith in e)
aways_are (suc n) m =
    let e : suc n + m ≡ n + suc m = omega arith in
    ap (λ z. set (aways n (replicate z (Here fresh))) n Away) e ∙ (ap (λ l. set l n Away) (aways_are n (suc m)) ∙ (set_behind n (Here fresh) Away (replicate m (Here fresh)) ∙ one_more n (replicate m (Here fresh))))

all_away : (k : ℕ) → aways k (replicate k (Here fresh)) ≡ replicate k Away
all_away k =
    let e : k ≡ k + 0 = omega arith in
    ap (λ z. aways k (replicate z (Here fresh))) e ∙ (aways_are k 0 ∙ append-nil (replicate k Away))

pub deals_all : (k : ℕ) → deals k (first_main k) ≡ start k
deals_all k = deals_are k k ∙ ap (λ l. record { log = []; seen = replicate k 0; looks = 0; hand = 0; parts = l; next = k }) (all_away k)
