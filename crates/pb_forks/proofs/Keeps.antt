-- A step of one seat on one fork leaves the other forks and seats as they are.
use Rattle.std.proofs.Common.{◌≡◌, ◌≢◌, ℕ, zero, suc, ◌+◌, ◌<◌, Bool, true, false, cond, eqb, List, [], ◌∷◌, length, get_or, set, refl, sym, ap, ◌∙◌, subst, ⊎_elim, arith, length-set, get_or-set_same, get_or-set_other, eq-eqb, ne_eqb}
use mathlib.Core.Option.{some, none, some-injective, some-ne-none}
use mathlib.Core.Option as maybe
use mathlib.Core.Logic.{dite}
use native.Mathlib.Decide.{ℕ_discrete}
use lib.ListN.{get_elem?}
use Rattle.atomic_table.specs.Table.{State}
use Rattle.atomic_table.proofs.Lists.{at_set, set_else, set_here}
use Rattle.pb_outcome.specs.declared.job.Job.{Job}
use Rattle.pb_outcome.specs.declared.job.Report.{Report}
use Rattle.pb_outcome.specs.declared.outcome.Form.{Form}
use Rattle.pb_forks.specs.declared.views.ForkView.{ForkView}
use Rattle.pb_forks.specs.declared.views.MainView.{MainView}
use Rattle.pb_forks.specs.declared.views.Lodged.{Lodged}
use Rattle.pb_forks.specs.declared.views.Lodged.TheVariants.{Here, Away}
use Rattle.pb_forks.specs.declared.views.View.{View}
use Rattle.pb_forks.specs.declared.views.View.TheVariants.{Main, Fork, Spent}
use Rattle.pb_forks.specs.Logs.{offers_of, collects_of, Rises}
use Rattle.pb_forks.specs.Rule.{Phase, idle, offered, taken, answered, shut, Home, Slot, Lists, ForkOk, Stands, Knows, Kept}

-- a place that can be read lies within the list
pub within : {A : Type 0} (l : List A) (j : ℕ) (b : A) → get_elem? l j ≡ some b → j < length l
within [] j b e = absurd (some-ne-none b (sym e))
within (x ∷ xs) zero b e = omega arith
within (x ∷ xs) (suc j) b e = let h = within xs j b e in omega arith

-- where a list has a, and later b is put in its place, it has b
pub put_there : {A : Type 0} (l : List A) (j : ℕ) (a b : A) → get_elem? l j ≡ some a → get_elem? (set l j b) j ≡ some b
put_there l j a b e = set_here l j b (within l j a e)

abbrev as_main : View → MainView → MainView
as_main (Main m) d = m
as_main v d = d

abbrev is_main : View → Bool
is_main (Main m) = true
is_main v = false

abbrev number_or : ℕ → View → ℕ
number_or d (Fork j p) = j
number_or d v = d

-- a seat has one view
pub not_both : (views : List View) (id id' j : ℕ) (m : MainView) (p : ForkView) → get_elem? views id ≡ some (Main m) → get_elem? views id' ≡ some (Fork j p) → id' ≢ id
not_both views id id' j m p a b e =
    let same : Main m ≡ Fork j p = some-injective _ _ (sym a ∙ (ap (get_elem? views) (sym e) ∙ b)) in
    absurd (cc)

pub same_number : (views : List View) (id id' i j : ℕ) (p q : ForkView) → get_elem? views id ≡ some (Fork i p) → get_elem? views id' ≡ some (Fork j q) → id' ≡ id → j ≡ i
same_number views id id' i j p q a b e = ap (number_or 0) (some-injective _ _ (sym b ∙ (ap (get_elem? views) e ∙ a)))

module _ (allows : Job → Form → Type 0) where
  -- the main seat has the slot of fork j out as before
  abbrev pub SameHand : ℕ → ℕ → ℕ → Type 0
  SameHand hand hand' j = (hand' ≡ j + 1 → hand ≡ j + 1) × (hand ≡ j + 1 → hand' ≡ j + 1)

  relists : (j : ℕ) (h : Home) (os : List Job) (cs : List Report) (hand hand' : ℕ) (p : ForkView) → SameHand hand hand' j → (ph : Phase) → Lists allows j h os cs hand p ph → Lists allows j h os cs hand' p ph
  relists j h os cs hand hand' p f idle l = (l.0, l.1, l.2, ((λ e. l.3.0 (f.0 e)), λ n. l.3.1 (λ e. n (f.1 e))))
  relists j h os cs hand hand' p f (offered x) l = l
  relists j h os cs hand hand' p f (taken b x) l = l
  relists j h os cs hand hand' p f (answered r) l = l
  relists j h os cs hand hand' p f shut l = (l.0, l.1, l.2, ((λ e. l.3.0 (f.0 e)), λ n. l.3.1 (λ e. n (f.1 e))))

  pub same_fork : (j w w' : ℕ) (h h' : Home) (os os' : List Job) (cs cs' : List Report) (seen seen' hand hand' : ℕ) (p p' : ForkView) → w' ≡ w → h' ≡ h → os' ≡ os → cs' ≡ cs → seen' ≡ seen → p' ≡ p
      → SameHand hand hand' j → ForkOk allows j w h os cs seen hand p → ForkOk allows j w' h' os' cs' seen' hand' p'
  same_fork j w w' h h' os os' cs cs' seen seen' hand hand' p p' a b c d e f g ok =
      let there : ForkOk allows j w h os cs seen hand' p =
      record { phase = ok.phase; word_is = ok.word_is; lists = relists j h os cs hand hand' p g ok.phase ok.lists; main_sees = ok.main_sees; fork_sees = ok.fork_sees } in
      subst (λ (z : ℕ × Home × List Job × List Report × ℕ × ForkView). ForkOk allows j z.0 z.1 z.2 z.3 z.4 hand' z.5) (λ i. (sym a i, sym b i, sym c i, sym d i, sym e i, sym f i)) there

  abbrev pub St : Type 0
  St = State Slot View

  -- what the rule says of fork i in this state
  abbrev pub At : List ℕ → List (maybe.Option Slot) → MainView → (ℕ → ForkView) → ℕ → Type 0
  At ws hs m part i = ForkOk allows i (get_or ws i 0) (get_elem? hs i) (offers_of i m.log) (collects_of i m.log) (get_or m.seen i 0) m.hand (part i)

  pub main_is : (k : ℕ) (s : St) (r : Kept allows k s) (id : ℕ) (m : MainView) → get_elem? s.views id ≡ some (Main m) → (id ≡ r.main_id) × (m ≡ r.main)
  main_is k s r id m at = r.each_seat id (Main m) at

  pub fork_at : (k : ℕ) (s : St) (r : Kept allows k s) (id : ℕ) (m : MainView) → get_elem? s.views id ≡ some (Main m) → (j : ℕ) → j < k → At s.words s.homes m r.part j
  fork_at k s r id m at = subst (λ (z : MainView). (j : ℕ) → j < k → At s.words s.homes z r.part j) (sym (r.each_seat id (Main m) at).1) r.each_fork

  -- the main seat at id has the view m', which lodges the same forks
  reseat : (k id' : ℕ) (m m' : MainView) (main_id : ℕ) (part : ℕ → ForkView) (owner : ℕ → ℕ) → m'.parts ≡ m.parts → id' ≢ main_id → (v : View) → Knows k main_id m part owner id' v → Knows k main_id m' part owner id' v
  reseat k id' m m' main_id part owner e ne (Main n) h = absurd (ne h.0)
  reseat k id' m m' main_id part owner e ne (Fork j p) h = (h.0, h.1, h.2, ap (λ l. get_or l j Away) e ∙ h.3)
  reseat k id' m m' main_id part owner e ne Spent h = tt

  -- a fork's view stands where it stood, whatever a seat with another view does
  pub stands_still : (views : List View) (owner : ℕ → ℕ) (id j : ℕ) (v : View) (p : ForkView) → ((q : ForkView) → get_elem? views (owner j) ≡ some (Fork j q) → owner j ≢ id) → (l : Lodged) → Stands views owner j p l → Stands (set views id v) owner j p l
  stands_still views owner id j v p ne (Here q) h = h
  stands_still views owner id j v p ne Away h = set_else views id (owner j) v (ne p h) ∙ h

  pub main_step : (k : ℕ) (s : St) (r : Kept allows k s) (id j n : ℕ) (hs : List (maybe.Option Slot)) (m m' : MainView)
      → get_elem? s.views id ≡ some (Main m) → j < k
      → length hs ≡ length s.homes → ((i : ℕ) → i ≢ j → get_elem? hs i ≡ get_elem? s.homes i)
      → m'.parts ≡ m.parts → length m'.seen ≡ length m.seen → ((i : ℕ) → i ≢ j → get_or m'.seen i 0 ≡ get_or m.seen i 0)
      → ((i : ℕ) → i ≢ j → SameHand m.hand m'.hand i)
      → Rises 0 m'.log → ((i : ℕ) → i ≢ j → offers_of i m'.log ≡ offers_of i m.log) → ((i : ℕ) → i ≢ j → collects_of i m'.log ≡ collects_of i m.log)
      → ForkOk allows j n (get_elem? hs j) (offers_of j m'.log) (collects_of j m'.log) (get_or m'.seen j 0) m'.hand (r.part j)
      → Kept allows k (record { words = set s.words j n; homes = hs; views = set s.views id (Main m') })
  main_step k s r id j n hs m m' at lt deep others parts long sees hands rising os cs ok =
      let known = r.each_seat id (Main m) at in
      let wide = r.wide in
      let old = fork_at k s r id m at in
      record {
        main_id = r.main_id;
        main = m';
        part = r.part;
        owner = r.owner;
        wide = length-set s.words j n ∙ wide;
        deep = deep ∙ r.deep;
        sees_all = long ∙ (ap (λ (z : MainView). length z.seen) known.1 ∙ r.sees_all);
        all_parts = ap length parts ∙ (ap (λ (z : MainView). length z.parts) known.1 ∙ r.all_parts);
        rises = rising;
        each_fork = λ i l. dite (ℕ_discrete i j)
            (λ e. subst (At (set s.words j n) hs m' r.part) (sym e) (subst (λ (z : ℕ). ForkOk allows j z (get_elem? hs j) (offers_of j m'.log) (collects_of j m'.log) (get_or m'.seen j 0) m'.hand (r.part j)) (sym (get_or-set_same s.words j n 0 (omega arith))) ok))
            (λ ne. same_fork i _ _ _ _ _ _ _ _ _ _ _ _ _ _ (get_or-set_other s.words j i n 0 ne) (others i ne) (os i ne) (cs i ne) (sees i ne) refl (hands i ne) (old i l));
        main_seat = subst (λ (z : ℕ). get_elem? (set s.views id (Main m')) z ≡ some (Main m')) known.0 (put_there s.views id (Main m) (Main m') at);
        stands = λ i l. stands_still s.views r.owner id i (Main m') (r.part i) (λ q there. not_both s.views id (r.owner i) i m q at there) _ (subst (λ (ls : List Lodged). Stands s.views r.owner i (r.part i) (get_or ls i Away)) (sym (parts ∙ ap (λ (z : MainView). z.parts) known.1)) (r.stands i l));
        each_seat = λ i v e. ⊎_elim
            (λ (t : (i ≡ id) × (Main m' ≡ v)). subst (Knows k r.main_id m' r.part r.owner i) t.1 (t.0 ∙ known.0, refl))
            (λ (t : (i ≢ id) × (get_elem? s.views i ≡ some v)). let apart = t.0 in reseat k i r.main m' r.main_id r.part r.owner (parts ∙ ap (λ (z : MainView). z.parts) known.1) (λ c. apart (c ∙ sym known.0)) v (r.each_seat i v t.1))
            (at_set s.views id i (Main m') v e);
      }

  abbrev pub put : ℕ → ForkView → (ℕ → ForkView) → ℕ → ForkView
  put j p part i = cond (eqb i j) p (part i)

  pub put-here : (j : ℕ) (p : ForkView) (part : ℕ → ForkView) → put j p part j ≡ p
  put-here j p part = ap (λ b. cond b p (part j)) (eq-eqb j j refl)

  pub put-other : (j i : ℕ) (p : ForkView) (part : ℕ → ForkView) → i ≢ j → put j p part i ≡ part i
  put-other j i p part ne = ap (λ b. cond b p (part i)) (ne_eqb i j ne)

  -- the fork seat at id has the view p'
  refork : (k id id' j : ℕ) (p' : ForkView) (main : MainView) (main_id : ℕ) (part : ℕ → ForkView) (owner : ℕ → ℕ) → owner j ≡ id → id' ≢ id → (v : View) → Knows k main_id main part owner id' v → Knows k main_id main (put j p' part) owner id' v
  refork k id id' j p' main main_id part owner own ne (Main n) h = h
  refork k id id' j p' main main_id part owner own ne (Fork i q) h = (h.0, h.1, h.2 ∙ sym (put-other j i p' part (λ c. ne (sym h.1 ∙ (ap owner c ∙ own)))), h.3)
  refork k id id' j p' main main_id part owner own ne Spent h = tt

  pub fork_step : (k : ℕ) (s : St) (r : Kept allows k s) (id j n : ℕ) (hs : List (maybe.Option Slot)) (p p' : ForkView)
      → get_elem? s.views id ≡ some (Fork j p)
      → length hs ≡ length s.homes → ((i : ℕ) → i ≢ j → get_elem? hs i ≡ get_elem? s.homes i)
      → ForkOk allows j n (get_elem? hs j) (offers_of j r.main.log) (collects_of j r.main.log) (get_or r.main.seen j 0) r.main.hand p'
      → Kept allows k (record { words = set s.words j n; homes = hs; views = set s.views id (Fork j p') })
  fork_step k s r id j n hs p p' at deep others ok =
      let known = r.each_seat id (Fork j p) at in
      let lt = known.0 in
      let wide = r.wide in
      let m = r.main in
      record {
        main_id = r.main_id;
        main = r.main;
        part = put j p' r.part;
        owner = r.owner;
        wide = length-set s.words j n ∙ wide;
        deep = deep ∙ r.deep;
        sees_all = r.sees_all;
        all_parts = r.all_parts;
        rises = r.rises;
        each_fork = λ i l. dite (ℕ_discrete i j)
            (λ e. subst (At (set s.words j n) hs m (put j p' r.part)) (sym e)
            (subst (λ (z : ℕ × ForkView). ForkOk allows j z.0 (get_elem? hs j) (offers_of j m.log) (collects_of j m.log) (get_or m.seen j 0) m.hand z.1) (λ t. (sym (get_or-set_same s.words j n 0 (omega arith)) t, sym (put-here j p' r.part) t)) ok))
            (λ ne. same_fork i _ _ _ _ _ _ _ _ _ _ _ _ _ _ (get_or-set_other s.words j i n 0 ne) (others i ne) refl refl refl (put-other j i p' r.part ne) ((λ z. z), λ z. z) (r.each_fork i l));
        main_seat = set_else s.views id r.main_id (Fork j p') (λ c. not_both s.views r.main_id id j m p r.main_seat at (sym c)) ∙ r.main_seat;
        stands = λ i l. dite (ℕ_discrete i j)
            (λ e. subst (λ (z : ℕ). Stands (set s.views id (Fork j p')) r.owner z (put j p' r.part z) (get_or m.parts z Away)) (sym e)
            (subst (Stands (set s.views id (Fork j p')) r.owner j (put j p' r.part j)) (sym known.3)
            (subst (λ (z : ℕ × ForkView). get_elem? (set s.views id (Fork j p')) z.0 ≡ some (Fork j z.1)) (λ t. (sym known.1 t, sym (put-here j p' r.part) t)) (put_there s.views id (Fork j p) (Fork j p') at))))
            (λ ne. subst (λ (z : ForkView). Stands (set s.views id (Fork j p')) r.owner i z (get_or m.parts i Away)) (sym (put-other j i p' r.part ne))
            (stands_still s.views r.owner id i (Fork j p') (r.part i) (λ q there c. ne (same_number s.views id (r.owner i) j i p q at there c)) _ (r.stands i l)));
        each_seat = λ i v e. ⊎_elim
            (λ (t : (i ≡ id) × (Fork j p' ≡ v)). subst (Knows k r.main_id m (put j p' r.part) r.owner i) t.1 (lt, known.1 ∙ sym t.0, sym (put-here j p' r.part), known.3))
            (λ (t : (i ≢ id) × (get_elem? s.views i ≡ some v)). refork k id i j p' m r.main_id r.part r.owner known.1 t.0 v (r.each_seat i v t.1))
            (at_set s.views id i (Fork j p') v e);
      }
