-- Each step keeps the rule.
use Rattle.std.proofs.Common.{◌≡◌, ◌≢◌, ℕ, ◌+◌, ◌*◌, ◌/◌, ◌%◌, ◌^◌, ◌<◌, true, false, true≢false, List, [], ◌∷◌, ◌++◌, length, get_or, set, Some, None, refl, sym, ap, ◌∙◌, subst, arith, length-set, get_or-set_same, get_or-set_other}
use mathlib.Core.Option.{some, none}
use lib.ListN.{get_elem?}
use Rattle.atomic_table.specs.Table.{step, Allows, keeps, takes, gives}
use Rattle.atomic_table.proofs.Lists.{set_here, set_else}
use Rattle.pb_outcome.specs.declared.job.Job.{Job}
use Rattle.pb_outcome.specs.declared.job.Report.{Report}
use Rattle.pb_outcome.specs.declared.outcome.Form.{Form}
use Rattle.pb_forks.specs.declared.parcel.Parcel.TheVariants.{Work, Done}
use Rattle.pb_forks.specs.declared.views.Entry.TheVariants.{Offered, Collected}
use Rattle.pb_forks.specs.declared.views.ForkView.{ForkView}
use Rattle.pb_forks.specs.declared.views.MainView.{MainView}
use Rattle.pb_forks.specs.declared.views.View.{View}
use Rattle.pb_forks.specs.declared.views.View.TheVariants.{Main, Fork}
use Rattle.pb_forks.specs.Logs.{offers_of, collects_of, IsAbove, Rises, Fits, Answered}
use Rattle.pb_forks.specs.Rule.{Phase, idle, offered, taken, answered, shut, word_of, Slot, Lists, ForkOk, Kept}
use Rattle.pb_forks.specs.Views.{MainSees, main_looked, main_hand, main_did, main_shut, fork_looked, fork_holds, fork_took, fork_answered}
use Rattle.pb_forks.specs.Steps.{Mine, MainLook, MainGrab, MainLay, MainOffer, MainCollect, MainShut, ForkLook, ForkTake, ForkGrab, ForkLay, ForkAnswer}
use Rattle.pb_forks.proofs.Logs.{offers-other, offers-here, offers-collected, collects-other, collects-here, collects-offered, rises-collected, rises-offered, answered-more, last_answer, same_last, is_idle, is_offered, is_taken, is_answered}
use Rattle.pb_forks.proofs.Keeps.{St, SameHand, fork_at, main_step, fork_step}

-- the job, or the report, of the slot that was taken last
abbrev job_in : Job → List (ℕ × Slot) → Job
job_in d ((n, Some (Work x)) ∷ cs) = x
job_in d _ = d

abbrev report_in : Report → List (ℕ × Slot) → Report
report_in d ((n, Some (Done q)) ∷ cs) = q
report_in d _ = d

-- a seat that has just seen a word sees it
sees_it : (seen w : ℕ) → seen ≡ w → MainSees seen w
sees_it seen w e = ((λ _. sym e), λ _. (ap (λ n. n / 4) (sym e), omega arith))

-- a job that is out goes on
goes_on : (seen w n : ℕ) → MainSees seen w → 0 < w % 4 → w % 4 < 3 → n ≡ w + 1 → MainSees seen n
goes_on seen w n g a b e = ((λ z. let c = g.0 z in absurd (omega arith)), λ z. let c = g.1 z in let d = c.0 in let f = c.1 in (omega arith, omega arith))

module _ (allows : Job → Form → Type 0) (k slots id j : ℕ) where
  abbrev Rule : St allows → Type 0
  Rule = Kept allows k

  -- whether the main seat has the slot of fork j out is nothing to the other forks
  lays : (h : ℕ) → h ≡ j + 1 → (i : ℕ) → i ≢ j → SameHand allows h 0 i
  lays h e i ne = ((λ c. absurd (omega arith)), λ c. absurd (ne (omega arith)))

  grabs : (h : ℕ) → h ≡ 0 → (i : ℕ) → i ≢ j → SameHand allows h (j + 1) i
  grabs h e i ne = ((λ c. absurd (ne (omega arith))), λ c. absurd (omega arith))

  still : (h i : ℕ) → i ≢ j → SameHand allows h h i
  still h i ne = ((λ z. z), λ z. z)

  -- A seat's `me` is given by its two parts
  seated : (f : ℕ → ℕ) (then : Mine → ℕ → Mine → Type 0) (me : Mine) (v : View) (c : List (ℕ × Slot)) → me.0 ≡ v → me.1 ≡ c → Allows Rule slots id (v, c) j f (then (v, c)) → Allows Rule slots id me j f (then me)
  seated f then me v c a b h = subst (λ (z : Mine). Allows Rule slots id z j f (then z)) (λ i. (sym a i, sym b i)) h

  pub main_looks : (me : Mine) (m : MainView) → j < k → me.0 ≡ Main m → me.1 ≡ [] → Allows Rule slots id me j (λ n. n) (MainLook (step slots j 0 0 none) me)
  main_looks me m lt a b = seated (λ n. n) (MainLook (step slots j 0 0 none)) me (Main m) [] a b (λ s r deep at small.
      let n : ℕ = get_or s.words j 0 in
      let m' = main_looked j n m in
      let ok = fork_at allows k s r id m at j lt in
      let same : get_or m'.seen j 0 ≡ n = get_or-set_same m.seen j n 0 (let e = r.sees_all in omega (arith, ap (λ (z : MainView). length z.seen) (r.each_seat id (Main m) at).1)) in (
        Main m',
        keeps,
        tt,
        main_step allows k s r id j n s.homes m m' at lt refl (λ _ _. refl) refl (length-set m.seen j n) (λ i ne. get_or-set_other m.seen j i n 0 ne) (still m.hand)
            (subst (λ (z : MainView). Rises 0 z.log) (sym (r.each_seat id (Main m) at).1) r.rises) (λ _ _. refl) (λ _ _. refl)
            (record { phase = ok.phase; word_is = ok.word_is; lists = ok.lists; main_sees = sees_it _ _ same; fork_sees = ok.fork_sees }),
        (refl, refl, ok.main_sees),
      ))

  rising : (s : St allows) (r : Rule s) (m : MainView) → get_elem? s.views id ≡ some (Main m) → Rises 0 m.log
  rising s r m at = subst (λ (z : MainView). Rises 0 z.log) (sym (r.each_seat id (Main m) at).1) r.rises

  long : (s : St allows) (r : Rule s) (m : MainView) → get_elem? s.views id ≡ some (Main m) → length m.seen ≡ k
  long s r m at = ap (λ (z : MainView). length z.seen) (r.each_seat id (Main m) at).1 ∙ r.sees_all

  -- the lists of fork j in a phase
  abbrev InPhase : St allows → MainView → ForkView → Phase → Type 0
  InPhase s m p ph = Lists allows j (get_elem? s.homes j) (offers_of j m.log) (collects_of j m.log) m.hand p ph

  -- where the main view has seen 0, the fork is idle
  idles : (s : St allows) (r : Rule s) (m : MainView) → get_elem? s.views id ≡ some (Main m) → j < k → get_or m.seen j 0 ≡ 0 → (get_or s.words j 0 ≡ 0) × InPhase s m (r.part j) idle
  idles s r m at lt zero_seen =
      let ok = fork_at allows k s r id m at j lt in
      let w : get_or s.words j 0 ≡ 0 = ok.main_sees.0 (ap (λ (n : ℕ). n % 4) zero_seen) ∙ zero_seen in
      (w, subst (InPhase s m (r.part j)) (is_idle ok.phase (sym ok.word_is ∙ w)) ok.lists)

  pub main_grabs : (me : Mine) (m : MainView) → j < k → me.0 ≡ Main m → me.1 ≡ [] → get_or m.seen j 0 ≡ 0 → m.hand ≡ 0 → Allows Rule slots id me j (λ n. n) (MainGrab (step slots j 0 0 none) me)
  main_grabs me m lt a b zero_seen free = seated (λ n. n) (MainGrab (step slots j 0 0 none)) me (Main m) [] a b (λ s r deep at small.
      let n : ℕ = get_or s.words j 0 in
      let hs = set s.homes j none in
      let ok = fork_at allows k s r id m at j lt in
      let here = idles s r m at lt zero_seen in
      let tall = r.deep in
      let l = here.1 in (
        Main (main_hand (j + 1) m),
        takes j None,
        l.3.1 (λ c. omega arith),
        main_step allows k s r id j n hs m (main_hand (j + 1) m) at lt (length-set s.homes j none) (λ i ne. set_else s.homes j i none ne) refl refl (λ _ _. refl) (grabs m.hand free) (rising s r m at) (λ _ _. refl) (λ _ _. refl)
            (record { phase = idle; word_is = here.0; lists = (l.0, l.1, l.2, ((λ _. set_here s.homes j none (omega arith)), λ z. absurd (z refl))); main_sees = ok.main_sees; fork_sees = ok.fork_sees }),
        (refl, refl),
      ))

  pub main_lays : (me : Mine) (m : MainView) → j < k → me.0 ≡ Main m → me.1 ≡ (j, None) ∷ [] → get_or m.seen j 0 ≡ 0 → m.hand ≡ j + 1 → Allows Rule slots id me j (λ n. n) (MainLay (step slots j 0 0 none) me)
  main_lays me m lt a b zero_seen mine = seated (λ n. n) (MainLay (step slots j 0 0 none)) me (Main m) ((j, None) ∷ []) a b (λ s r deep at small.
      let n : ℕ = get_or s.words j 0 in
      let hs = set s.homes j (some None) in
      let ok = fork_at allows k s r id m at j lt in
      let here = idles s r m at lt zero_seen in
      let l = here.1 in
      let tall = r.deep in (
        Main (main_hand 0 m),
        gives,
        tt,
        main_step allows k s r id j n hs m (main_hand 0 m) at lt (length-set s.homes j (some None)) (λ i ne. set_else s.homes j i (some None) ne) refl refl (λ _ _. refl) (lays m.hand mine) (rising s r m at) (λ _ _. refl) (λ _ _. refl)
            (record { phase = idle; word_is = here.0; lists = (l.0, l.1, l.2, ((λ z. absurd (omega arith)), λ _. set_here s.homes j (some None) (omega arith))); main_sees = ok.main_sees; fork_sees = ok.fork_sees }),
        (refl, refl),
      ))

  pub main_offers : (me : Mine) (m : MainView) (x : Job) → j < k → me.0 ≡ Main m → me.1 ≡ (j, Some (Work x)) ∷ [] → get_or m.seen j 0 ≡ 0 → m.hand ≡ j + 1 → IsAbove m.log x.ticket.0 → x.ticket.0 < 2 ^ 62
      → Allows Rule slots id me j (λ _. 4 * x.ticket.0 + 1) (MainOffer (step slots j (4 * x.ticket.0 + 1) 0 none) me)
  main_offers me m x lt a b zero_seen mine above low = seated (λ _. 4 * x.ticket.0 + 1) (MainOffer (step slots j (4 * x.ticket.0 + 1) 0 none)) me (Main m) ((j, Some (Work x)) ∷ []) a b (λ s r deep at small.
      let n : ℕ = 4 * x.ticket.0 + 1 in
      let hs = set s.homes j (some (Some (Work x))) in
      let m' = main_did j n 0 (Offered j x) m in
      let ok = fork_at allows k s r id m at j lt in
      let here = idles s r m at lt zero_seen in
      let l = here.1 in
      let tall = r.deep in
      let same : get_or m'.seen j 0 ≡ n = get_or-set_same m.seen j n 0 (let e = long s r m at in omega arith) in
      let w : get_or s.words j 0 ≡ 0 = here.0 in
      let f = ok.fork_sees in (
        Main m',
        gives,
        tt,
        main_step allows k s r id j n hs m m' at lt (length-set s.homes j (some (Some (Work x)))) (λ i ne. set_else s.homes j i (some (Some (Work x))) ne) refl (length-set m.seen j n) (λ i ne. get_or-set_other m.seen j i n 0 ne)
            (lays m.hand mine) (rises-offered 0 j x m.log (omega arith) above low (rising s r m at)) (λ i ne. offers-other i j x m.log ne) (λ i _. collects-offered i j x m.log)
            (record {
              phase = offered x;
              word_is = refl;
              lists = (offers-here j x m.log ∙ ap (λ ls. ls ++ x ∷ []) l.0, collects-offered j j x m.log ∙ l.1, l.2, set_here s.homes j (some (Some (Work x))) (omega arith));
              main_sees = sees_it _ _ same;
              fork_sees = ((λ z. let c = f.0 z in absurd (omega arith)), (λ z. let c = f.1 z in absurd (omega arith)), λ z. let c = f.2 z in absurd (omega arith));
            }),
        λ y e. let is : x ≡ y = ap (job_in x) e in ((λ i. Main (main_did j n 0 (Offered j (is i)) m)), refl, (w, ap (λ (z : Job). 4 * z.ticket.0 + 1) is)),
      ))

  pub main_collects : (me : Mine) (m : MainView) → j < k → me.0 ≡ Main m → me.1 ≡ [] → get_or m.seen j 0 % 4 ≡ 3 → m.hand ≡ 0 → Allows Rule slots id me j (λ _. 0) (MainCollect allows (step slots j 0 0 none) me)
  main_collects me m lt a b three free = seated (λ _. 0) (MainCollect allows (step slots j 0 0 none)) me (Main m) [] a b (λ s r deep at small.
      let hs = set s.homes j none in
      let ok = fork_at allows k s r id m at j lt in
      let p = r.part j in
      let w : get_or s.words j 0 ≡ get_or m.seen j 0 = (let c = ok.main_sees.1 (λ z. omega arith) in let d = c.0 in let f = c.1 in omega arith) in
      let is = is_answered ok.phase (ap (λ (n : ℕ). n % 4) (sym ok.word_is ∙ w) ∙ three) in
      let rep = is.0 in
      let l = subst (InPhase s m p) is.1 ok.lists in
      let found : get_or s.words j 0 ≡ 4 * rep.ticket.0 + 3 = ok.word_is ∙ ap word_of is.1 in
      let last = last_answer allows p.takes (collects_of j m.log) rep (subst (Answered allows p.takes) l.1 l.2) in
      let m' = main_did j 0 (j + 1) (Collected j rep) m in
      let same : get_or m'.seen j 0 ≡ 0 = get_or-set_same m.seen j 0 0 (let e = long s r m at in omega arith) in
      let tall = r.deep in
      let f = ok.fork_sees in (
        Main m',
        takes j (Some (Done rep)),
        l.3,
        main_step allows k s r id j 0 hs m m' at lt (length-set s.homes j none) (λ i ne. set_else s.homes j i none ne) refl (length-set m.seen j 0) (λ i ne. get_or-set_other m.seen j i 0 0 ne)
            (grabs m.hand free) (rises-collected 0 j rep m.log (rising s r m at)) (λ i _. offers-collected i j rep m.log) (λ i ne. collects-other i j rep m.log ne)
            (record {
              phase = idle;
              word_is = refl;
              lists = (offers-collected j j rep m.log ∙ l.0, collects-here j rep m.log ∙ sym l.1, l.2, ((λ _. set_here s.homes j none (omega arith)), λ z. absurd (z refl)));
              main_sees = sees_it _ _ same;
              fork_sees = ((λ z. let c = f.0 z in absurd (omega arith)), (λ z. let c = f.1 z in absurd (omega arith)), λ z. let c = f.2 z in absurd (omega arith));
            }),
        (rep, sym w ∙ found, (last.0, last.1, l.0 ∙ last.2, last.3), (found, refl), refl, refl),
      ))

  pub main_shuts : (me : Mine) (m : MainView) → j < k → me.0 ≡ Main m → me.1 ≡ [] → get_or m.seen j 0 ≡ 0 → Allows Rule slots id me j (λ _. 4) (MainShut (step slots j 4 0 none) me)
  main_shuts me m lt a b zero_seen = seated (λ _. 4) (MainShut (step slots j 4 0 none)) me (Main m) [] a b (λ s r deep at small.
      let m' = main_shut j m in
      let ok = fork_at allows k s r id m at j lt in
      let here = idles s r m at lt zero_seen in
      let w : get_or s.words j 0 ≡ 0 = here.0 in
      let same : get_or m'.seen j 0 ≡ 4 = get_or-set_same m.seen j 4 0 (let e = long s r m at in omega arith) in
      let f = ok.fork_sees in (
        Main m',
        keeps,
        tt,
        main_step allows k s r id j 4 s.homes m m' at lt refl (λ _ _. refl) refl (length-set m.seen j 4) (λ i ne. get_or-set_other m.seen j i 4 0 ne) (still m.hand) (rising s r m at) (λ _ _. refl) (λ _ _. refl)
            (record {
              phase = shut;
              word_is = refl;
              lists = here.1;
              main_sees = sees_it _ _ same;
              fork_sees = ((λ z. let c = f.0 z in absurd (omega arith)), (λ z. let c = f.1 z in absurd (omega arith)), λ z. sym z);
            }),
        (refl, refl, (w, refl)),
      ))

  -- The fork's steps. What the rule says of fork j, once its seat's view is known
  mine_at : (s : St allows) (r : Rule s) (p : ForkView) → get_elem? s.views id ≡ some (Fork j p) → ForkOk allows j (get_or s.words j 0) (get_elem? s.homes j) (offers_of j r.main.log) (collects_of j r.main.log) (get_or r.main.seen j 0) r.main.hand p
  mine_at s r p at = let known = r.each_seat id (Fork j p) at in subst (ForkOk allows j (get_or s.words j 0) (get_elem? s.homes j) (offers_of j r.main.log) (collects_of j r.main.log) (get_or r.main.seen j 0) r.main.hand) (sym known.2) (r.each_fork j known.0)

  pub fork_looks : (me : Mine) (p : ForkView) → me.0 ≡ Fork j p → me.1 ≡ [] → Allows Rule slots id me j (λ n. n) (ForkLook (step slots j 0 0 none) me)
  fork_looks me p a b = seated (λ n. n) (ForkLook (step slots j 0 0 none)) me (Fork j p) [] a b (λ s r deep at small.
      let n : ℕ = get_or s.words j 0 in
      let ok = mine_at s r p at in (
        Fork j (fork_looked n p),
        keeps,
        tt,
        fork_step allows k s r id j n s.homes p (fork_looked n p) at refl (λ _ _. refl)
            (record { phase = ok.phase; word_is = ok.word_is; lists = unlooked s r p n ok.phase ok.lists; main_sees = ok.main_sees; fork_sees = ((λ _. refl), (λ _. refl), λ _. refl) }),
        (refl, refl, ok.fork_sees),
      ))
    where
      unlooked : (s : St allows) (r : Rule s) (p : ForkView) (n : ℕ) (ph : Phase) → InPhase s r.main p ph → InPhase s r.main (fork_looked n p) ph
      unlooked s r p n idle l = l
      unlooked s r p n (offered x) l = l
      unlooked s r p n (taken before x) l = l
      unlooked s r p n (answered q) l = l
      unlooked s r p n shut l = l

  pub fork_takes : (me : Mine) (p : ForkView) (new : ℕ) → me.0 ≡ Fork j p → me.1 ≡ [] → p.seen % 4 ≡ 1 → new ≡ p.seen + 1 → Allows Rule slots id me j (λ _. new) (ForkTake (step slots j new 0 none) me)
  fork_takes me p new a b one next = seated (λ _. new) (ForkTake (step slots j new 0 none)) me (Fork j p) [] a b (λ s r deep at small.
      let hs = set s.homes j none in
      let ok = mine_at s r p at in
      let w : get_or s.words j 0 ≡ p.seen = ok.fork_sees.0 one in
      let is = is_offered ok.phase (ap (λ (n : ℕ). n % 4) (sym ok.word_is ∙ w) ∙ one) in
      let x = is.0 in
      let l = subst (InPhase s r.main p) is.1 ok.lists in
      let found : get_or s.words j 0 ≡ 4 * x.ticket.0 + 1 = ok.word_is ∙ ap word_of is.1 in
      let g = ok.main_sees in
      let tall = r.deep in
      let lt = (r.each_seat id (Fork j p) at).0 in
      let new_is : new ≡ 4 * x.ticket.0 + 2 = omega arith in (
        Fork j (fork_took new x p),
        takes j (Some (Work x)),
        l.3,
        fork_step allows k s r id j new hs p (fork_took new x p) at (length-set s.homes j none) (λ i ne. set_else s.homes j i none ne)
            (record {
              phase = taken p.takes x;
              word_is = new_is;
              lists = (l.0, l.1, refl, l.2, ((λ _. set_here s.homes j none (omega arith)), λ z. absurd (z refl)));
              main_sees = goes_on _ _ _ g (omega arith) (omega arith) (omega arith);
              fork_sees = ((λ _. refl), (λ _. refl), λ _. refl);
            }),
        (x, sym w ∙ found, refl, refl, (found, new_is)),
      ))

  takens : (s : St allows) (r : Rule s) (p : ForkView) → get_elem? s.views id ≡ some (Fork j p) → p.seen % 4 ≡ 2
      → (before : List Job) × (x : Job) × (get_or s.words j 0 ≡ 4 * x.ticket.0 + 2) × (get_or s.words j 0 ≡ p.seen) × InPhase s r.main p (taken before x)
  takens s r p at two =
      let ok = mine_at s r p at in
      let w : get_or s.words j 0 ≡ p.seen = ok.fork_sees.1 two in
      let is = is_taken ok.phase (ap (λ (n : ℕ). n % 4) (sym ok.word_is ∙ w) ∙ two) in
      (is.0, is.1, ok.word_is ∙ ap word_of is.2, w, subst (InPhase s r.main p) is.2 ok.lists)

  pub fork_lays : (me : Mine) (p : ForkView) → me.0 ≡ Fork j p → me.1 ≡ (j, None) ∷ [] → p.seen % 4 ≡ 2 → Allows Rule slots id me j (λ n. n) (ForkLay (step slots j 0 0 none) me)
  fork_lays me p a b two = seated (λ n. n) (ForkLay (step slots j 0 0 none)) me (Fork j p) ((j, None) ∷ []) a b (λ s r deep at small.
      let n : ℕ = get_or s.words j 0 in
      let hs = set s.homes j (some None) in
      let ok = mine_at s r p at in
      let here = takens s r p at two in
      let l = here.4 in
      let tall = r.deep in
      let lt = (r.each_seat id (Fork j p) at).0 in (
        Fork j (fork_holds false p),
        gives,
        tt,
        fork_step allows k s r id j n hs p (fork_holds false p) at (length-set s.homes j (some None)) (λ i ne. set_else s.homes j i (some None) ne)
            (record { phase = taken here.0 here.1; word_is = here.2; lists = (l.0, l.1, l.2, l.3, ((λ z. absurd (true≢false (sym z))), λ _. set_here s.homes j (some None) (omega arith))); main_sees = ok.main_sees; fork_sees = ok.fork_sees }),
        (refl, refl),
      ))

  pub fork_grabs : (me : Mine) (p : ForkView) → me.0 ≡ Fork j p → me.1 ≡ [] → p.seen % 4 ≡ 2 → p.holds ≡ false → Allows Rule slots id me j (λ n. n) (ForkGrab (step slots j 0 0 none) me)
  fork_grabs me p a b two free = seated (λ n. n) (ForkGrab (step slots j 0 0 none)) me (Fork j p) [] a b (λ s r deep at small.
      let n : ℕ = get_or s.words j 0 in
      let hs = set s.homes j none in
      let ok = mine_at s r p at in
      let here = takens s r p at two in
      let tall = r.deep in
      let lt = (r.each_seat id (Fork j p) at).0 in
      let l = here.4 in (
        Fork j (fork_holds true p),
        takes j None,
        l.4.1 (λ z. true≢false (sym z ∙ free)),
        fork_step allows k s r id j n hs p (fork_holds true p) at (length-set s.homes j none) (λ i ne. set_else s.homes j i none ne)
            (record { phase = taken here.0 here.1; word_is = here.2; lists = (l.0, l.1, l.2, l.3, ((λ _. set_here s.homes j none (omega arith)), λ z. absurd (z refl))); main_sees = ok.main_sees; fork_sees = ok.fork_sees }),
        (refl, refl),
      ))

  pub fork_answers : (me : Mine) (p : ForkView) (rep : Report) (before : List Job) (x : Job) (new : ℕ) → me.0 ≡ Fork j p → me.1 ≡ (j, Some (Done rep)) ∷ [] → p.seen % 4 ≡ 2 → new ≡ p.seen + 1
      → p.takes ≡ before ++ x ∷ [] → Fits allows x rep → Allows Rule slots id me j (λ _. new) (ForkAnswer (step slots j new 0 none) me)
  fork_answers me p rep before x new a b two next took fits = seated (λ _. new) (ForkAnswer (step slots j new 0 none)) me (Fork j p) ((j, Some (Done rep)) ∷ []) a b (λ s r deep at small.
      let hs = set s.homes j (some (Some (Done rep))) in
      let ok = mine_at s r p at in
      let here = takens s r p at two in
      let l = here.4 in
      let tall = r.deep in
      let lt = (r.each_seat id (Fork j p) at).0 in
      let last = same_last before here.0 x here.1 (sym took ∙ l.2) in
      let ticket : here.1.ticket.0 ≡ rep.ticket.0 = ap (λ (y : Job). y.ticket.0) (sym last.1) ∙ ap (λ t. t.0) (sym fits.0) in
      let found = here.2 in
      let sees = here.3 in
      let g = ok.main_sees in
      let old_is : get_or s.words j 0 ≡ 4 * rep.ticket.0 + 2 = omega arith in
      let new_is : new ≡ 4 * rep.ticket.0 + 3 = omega arith in (
        Fork j (fork_answered new rep p),
        gives,
        tt,
        fork_step allows k s r id j new hs p (fork_answered new rep p) at (length-set s.homes j (some (Some (Done rep)))) (λ i ne. set_else s.homes j i (some (Some (Done rep))) ne)
            (record {
              phase = answered rep;
              word_is = new_is;
              lists = (
                l.0,
                ap (λ ls. ls ++ rep ∷ []) (sym l.1),
                subst (λ ls. Answered allows ls (p.answers ++ rep ∷ [])) (sym took) (answered-more allows before p.answers x rep (subst (λ ls. Answered allows ls p.answers) (sym last.0) l.3) fits),
                set_here s.homes j (some (Some (Done rep))) (omega arith),
              );
              main_sees = goes_on _ _ _ g (omega arith) (omega arith) (omega arith);
              fork_sees = ((λ _. refl), (λ _. refl), λ _. refl);
            }),
        λ q e. let is : rep ≡ q = ap (report_in rep) e in
            ((λ i. Fork j (fork_answered new (is i) p)), refl, (old_is ∙ ap (λ (z : Report). 4 * z.ticket.0 + 2) is, new_is ∙ ap (λ (z : Report). 4 * z.ticket.0 + 3) is)),
      ))
