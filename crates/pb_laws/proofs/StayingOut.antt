-- Who is out stays out: of each host of the batch, the places to which further answers can lead it are none from which what it answered keeps it.
use Rattle.std.proofs.Common.{◌≡◌, ◌≢◌, ℕ, zero, suc, ◌+◌, ◌<◌, Bool, true, false, ◌&&◌, ◌||◌, not, List, [], ◌∷◌, ◌++◌, length, refl, sym, ◌∙◌, ap, subst, arith, append_assoc, append-nil, ◌⊎◌, inl, inr}
use Rattle.std.specs.Prelude.{◌==◌, Option, Some, None, slice_get, slice_index_or, if◌then◌else◌}
use Rattle.std.specs.List.{list_any}
use Rattle.std.proofs.lemmas.Bool.{eq-eqb}
use Rattle.pb_places.specs.Caught.{caught_places}
use Rattle.pb_planes.specs.Set.{is_in as is_member}
use Rattle.pb_plan.specs.Plan.{PlanOf}
use Rattle.pb_tree.specs.Answer.{AnswerOf}
use Rattle.pb_tree.specs.Laws.{counts}
use Rattle.pb_tree.specs.Tree.{TreeOf}
use Rattle.pb_tree.specs.Walk.{Passage, Stopped, Through, passage, reach_of, is_halted, unforced, unless_active, status_in, status_of, status_now}
use Rattle.pb_tree.specs.declared.answer.Kind.{Kind}
use Rattle.pb_tree.specs.declared.answer.Kind.TheVariants as kinds
use Rattle.pb_tree.specs.declared.tree.Status.{Status}
use Rattle.pb_tree.proofs.Rise.{second_passed}
use Rattle.pb_host.specs.declared.step_result.TaskEnd.{TaskEnd}
use Rattle.pb_host.specs.declared.host.Running.{Running}
use Rattle.pb_host.specs.Ends.{answer_of, kind_of, plain_answer}
use Rattle.pb_host.specs.Host.{place_of, is_active, first_rows}
use Rattle.pb_state.proofs.Stands.{both}
use Rattle.pb_state.proofs.Walked.{not_halted}
use Rattle.pb_laws.specs.History.{HostTask, Happening, Starts, Reports, Ends, Given}
use Rattle.pb_laws.specs.Laws.{Always, holds_from, so_far, tree_at, answers, is_always_for, is_forced, may_follow, is_caught, keeps_out, is_halted_again, is_kept_out, out_is_out}
use Rattle.pb_laws.proofs.Telling.{Seen, AreGiven, one_given, AreInside, AreLed, none_led, rest_led, one_led, Tells, Opening, Starting, Sending, Reporting, Turning, Closing, Stopping, Forking, IsOpening, IsStarting, put, waiting_of, active_of, task_on, leads}
use Rattle.pb_laws.proofs.Holding.{given_holds, always}
use Rattle.pb_laws.proofs.JobsInOrder.{put_get, same_self, apart}
use Rattle.pb_laws.proofs.InOrder.{AreAnswers, answers_of, first_answers, rest_answers, given_answers, answered_next, counts_all, first_fresh}
use Rattle.pb_laws.proofs.Stopping.{is_bad, is_over, outs}
use Rattle.pb_laws.proofs.Leaving.{Follows, Leaves, leaves, through_none}
use Rattle.pb_laws.proofs.Ending.{is_ended, ends_as, last_ends}

-- ---- one answer
-- where a walk stopped
stops_at : (kind : Kind) (tree : TreeOf) (p q : Passage) (place : ℕ) → Leaves kind tree p q → place_of (reach_of p) ≡ Some place → (is_bad kind ≡ true → slice_index_or (caught_places tree) place false ≡ false)
    → Follows kind tree place q
stops_at kind tree (Stopped here marks) q place l at u =
    let same : here ≡ place = cc in
    subst (λ (k : ℕ). Follows kind tree k q) same (l (λ bad. ap (λ (k : ℕ). slice_index_or (caught_places tree) k false) same ∙ u bad))
stops_at kind tree (Through k w) q place l at u = absurd (let no : None ≡ Some place = sym (through_none k w) ∙ at in cc)

follows_at : (kind : Kind) (tree : TreeOf) (p place : ℕ) (q : Passage) → Follows kind tree p q → place_of (reach_of q) ≡ Some place → (is_over kind ≡ false) × ((is_always_for tree.handlers 0 tree.nodes p place || is_forced tree place) ≡ true)
follows_at kind tree p place (Stopped here marks) f at = let same : here ≡ place = cc in (f.0, ap (λ (k : ℕ). is_always_for tree.handlers 0 tree.nodes p k || is_forced tree k) (sym same) ∙ f.1)
follows_at kind tree p place (Through k w) f at = absurd (let no : None ≡ Some place = sym (through_none k w) ∙ at in cc)

follows_good : (kind : Kind) (tree : TreeOf) (p : ℕ) (q : Passage) → Follows kind tree p q → ends_as q ≡ Some kinds.Good → ⊥
follows_good kind tree p (Stopped here marks) f e = cc
follows_good kind tree p (Through kinds.Good w) f e = let no : true ≡ false = f in cc
follows_good kind tree p (Through kinds.Bad w) f e = cc
follows_good kind tree p (Through kinds.Halted w) f e = cc
follows_good kind tree p (Through kinds.Gone w) f e = cc
follows_good kind tree p (Through kinds.Ended w) f e = cc

ends_none : (k : Kind) (p : Passage) (place : ℕ) → ends_as p ≡ Some k → place_of (reach_of p) ≡ Some place → ⊥
ends_none k (Stopped here marks) place e at = cc
ends_none k (Through j w) place e at = let no : None ≡ Some place = sym (through_none j w) ∙ at in cc

follow_on : (plan : PlanOf) (play h place q : ℕ) → (is_always_for (tree_at plan play).handlers 0 (tree_at plan play).nodes place q || is_forced (tree_at plan play) q) ≡ true
    → may_follow plan (record { play = play; host = h; place = place }) (record { play = play; host = h; place = q }) ≡ true
follow_on plan play h place q e = both (play == play) _ (same_self play) e

-- it keeps no host from where it goes on
kept_goes : (plan : PlanOf) (play h place q : ℕ) (kind : Kind) (p r : Passage) (so : Bool) → (outs kind kind ≡ true → Leaves kind (tree_at plan play) p r) → place_of (reach_of p) ≡ Some place → place_of (reach_of r) ≡ Some q
    → so ≡ false → keeps_out plan (record { play = play; host = h; place = place }) kind (record { play = play; host = h; place = q }) so ≡ false
kept_goes plan play h place q kinds.Good p r so l at to e = e
kept_goes plan play h place q kinds.Ended p r so l at to e = refl
kept_goes plan play h place q kinds.Gone p r so l at to e =
    let follows = follows_at kinds.Gone (tree_at plan play) place q r (stops_at kinds.Gone (tree_at plan play) p r place (l refl) at (λ bad. cc)) to in
    absurd (let no : true ≡ false = follows.0 in cc)
kept_goes plan play h place q kinds.Halted p r so l at to e =
    let follows = follows_at kinds.Halted (tree_at plan play) place q r (stops_at kinds.Halted (tree_at plan play) p r place (l refl) at (λ bad. cc)) to in
    ap (λ (may : Bool). not may || so) (follow_on plan play h place q follows.1) ∙ e
kept_goes plan play h place q kinds.Bad p r so l at to e = by_caught (is_caught plan (record { play = play; host = h; place = place })) refl
  where
    by_caught : (b : Bool) → is_caught plan (record { play = play; host = h; place = place }) ≡ b
        → ((not b && not (may_follow plan (record { play = play; host = h; place = place }) (record { play = play; host = h; place = q }))) || so) ≡ false
    by_caught true c = e
    by_caught false c =
        let follows = follows_at kinds.Bad (tree_at plan play) place q r (stops_at kinds.Bad (tree_at plan play) p r place (l refl) at (λ bad. c)) to in
        ap (λ (may : Bool). not may || so) (follow_on plan play h place q follows.1) ∙ e

-- and none from anything where it comes through good
kept_good : (plan : PlanOf) (play h place : ℕ) (task : HostTask) (kind : Kind) (p r : Passage) (so : Bool) → (outs kind kind ≡ true → Leaves kind (tree_at plan play) p r) → place_of (reach_of p) ≡ Some place → ends_as r ≡ Some kinds.Good
    → so ≡ false → keeps_out plan (record { play = play; host = h; place = place }) kind task so ≡ false
kept_good plan play h place task kinds.Good p r so l at to e = e
kept_good plan play h place task kinds.Ended p r so l at to e = refl
kept_good plan play h place task kinds.Gone p r so l at to e = absurd (follows_good kinds.Gone (tree_at plan play) place r (stops_at kinds.Gone (tree_at plan play) p r place (l refl) at (λ bad. cc)) to)
kept_good plan play h place task kinds.Halted p r so l at to e = absurd (follows_good kinds.Halted (tree_at plan play) place r (stops_at kinds.Halted (tree_at plan play) p r place (l refl) at (λ bad. cc)) to)
kept_good plan play h place task kinds.Bad p r so l at to e = by_caught (is_caught plan (record { play = play; host = h; place = place })) refl
  where
    by_caught : (b : Bool) → is_caught plan (record { play = play; host = h; place = place }) ≡ b → ((not b && not (may_follow plan (record { play = play; host = h; place = place }) task)) || so) ≡ false
    by_caught true c = e
    by_caught false c = absurd (follows_good kinds.Bad (tree_at plan play) place r (stops_at kinds.Bad (tree_at plan play) p r place (l refl) at (λ bad. c)) to)

kept_ended : (plan : PlanOf) (before task : HostTask) (kind : Kind) (so : Bool) → is_ended kind ≡ true → keeps_out plan before kind task so ≡ false
kept_ended plan before task kinds.Good so e = cc
kept_ended plan before task kinds.Bad so e = cc
kept_ended plan before task kinds.Halted so e = cc
kept_ended plan before task kinds.Gone so e = cc
kept_ended plan before task kinds.Ended so e = refl

-- ---- what holds of a host of the batch, by what it answered there
record Held (plan : PlanOf) (play h : ℕ) (past : List Happening) (xs : List AnswerOf) : Type 0 where
  goes : (more : List AnswerOf) (q : ℕ) → leads plan play (xs ++ more) ≡ Some q → is_kept_out plan (record { play = play; host = h; place = q }) past ≡ false
  good : (more : List AnswerOf) → ends_as (passage (tree_at plan play) (xs ++ more)) ≡ Some kinds.Good → (task : HostTask) → task.host ≡ h → is_kept_out plan task past ≡ false
  over : ends_as (passage (tree_at plan play) xs) ≡ Some kinds.Ended → (task : HostTask) → task.host ≡ h → is_kept_out plan task past ≡ false
  none : xs ≡ [] → (task : HostTask) → task.host ≡ h → is_kept_out plan task past ≡ false

not_empty : (xs : List AnswerOf) (a : AnswerOf) → xs ++ a ∷ [] ≡ [] → ⊥
not_empty [] a e = cc
not_empty (x ∷ xs) a e = cc

held_more : (plan : PlanOf) (play h place : ℕ) (past new : List Happening) (xs : List AnswerOf) (a : AnswerOf) → leads plan play xs ≡ Some place → counts xs a ≡ true
    → ((task : HostTask) → task.host ≡ h → is_kept_out plan task new ≡ keeps_out plan (record { play = play; host = h; place = place }) a.kind task (is_kept_out plan task past))
    → Held plan play h past xs → Held plan play h new (xs ++ a ∷ [])
held_more plan play h place past new xs a at c keeps held =
    record {
      goes = λ more q to.
          let further : leads plan play (xs ++ a ∷ more) ≡ Some q = ap (leads plan play) (sym (append_assoc xs (a ∷ []) more)) ∙ to in
          keeps (record { play = play; host = h; place = q }) refl
          ∙ kept_goes plan play h place q a.kind (passage (tree_at plan play) xs) (passage (tree_at plan play) (xs ++ a ∷ more)) (is_kept_out plan (record { play = play; host = h; place = q }) past)
          (λ e. leaves (tree_at plan play) xs a more c e) at further (held.goes (a ∷ more) q further);
      good = λ more to task same.
          let further : ends_as (passage (tree_at plan play) (xs ++ a ∷ more)) ≡ Some kinds.Good = ap (λ (ys : List AnswerOf). ends_as (passage (tree_at plan play) ys)) (sym (append_assoc xs (a ∷ []) more)) ∙ to in
          keeps task same
          ∙ kept_good plan play h place task a.kind (passage (tree_at plan play) xs) (passage (tree_at plan play) (xs ++ a ∷ more)) (is_kept_out plan task past) (λ e. leaves (tree_at plan play) xs a more c e) at further
          (held.good (a ∷ more) further task same);
      over = λ to task same. keeps task same ∙ kept_ended plan (record { play = play; host = h; place = place }) task a.kind (is_kept_out plan task past) (last_ends (tree_at plan play) xs a place at to);
      none = λ e task same. absurd (not_empty xs a e);
    }

-- one that doesn't count
held_again : (plan : PlanOf) (play h place : ℕ) (past new : List Happening) (xs : List AnswerOf) (a : AnswerOf) → leads plan play xs ≡ Some place → counts xs a ≡ false
    → ((task : HostTask) → task.host ≡ h → is_kept_out plan task new ≡ is_kept_out plan task past) → Held plan play h past xs → Held plan play h new (xs ++ a ∷ [])
held_again plan play h place past new xs a at c keeps held =
    record {
      goes = λ more q to. keeps (record { play = play; host = h; place = q }) refl ∙ held.goes (a ∷ more) q (ap (leads plan play) (sym (append_assoc xs (a ∷ []) more)) ∙ to);
      good = λ more to task same. keeps task same ∙ held.good (a ∷ more) (ap (λ (ys : List AnswerOf). ends_as (passage (tree_at plan play) ys)) (sym (append_assoc xs (a ∷ []) more)) ∙ to) task same;
      over = λ to task same. absurd (ends_none kinds.Ended (passage (tree_at plan play) (xs ++ a ∷ [])) place to (ap place_of (second_passed (tree_at plan play) xs a c) ∙ at));
      none = λ e task same. absurd (not_empty xs a e);
    }

held_same : (plan : PlanOf) (play h : ℕ) (past new : List Happening) (xs : List AnswerOf) → ((task : HostTask) → task.host ≡ h → is_kept_out plan task new ≡ is_kept_out plan task past) → Held plan play h past xs → Held plan play h new xs
held_same plan play h past new xs keeps held =
    record {
      goes = λ more q to. keeps (record { play = play; host = h; place = q }) refl ∙ held.goes more q to;
      good = λ more to task same. keeps task same ∙ held.good more to task same;
      over = λ to task same. keeps task same ∙ held.over to task same;
      none = λ e task same. keeps task same ∙ held.none e task same;
    }

held_first : (plan : PlanOf) (play h : ℕ) (past : List Happening) (xs : List AnswerOf) → ((task : HostTask) → task.host ≡ h → is_kept_out plan task past ≡ false) → Held plan play h past xs
held_first plan play h past xs clear =
    record {
      goes = λ more q to. clear (record { play = play; host = h; place = q }) refl;
      good = λ more to task same. clear task same;
      over = λ to task same. clear task same;
      none = λ e task same. clear task same;
    }

-- ---- a task that ended, and an answer that was given
then_is : (b : Bool) (x y : Bool) → b ≡ true → (if b then x else y) ≡ x
then_is true x y e = refl
then_is false x y e = cc

else_is : (b : Bool) (x y : Bool) → b ≡ false → (if b then x else y) ≡ y
else_is true x y e = cc
else_is false x y e = refl

and_first : (a b : Bool) → a ≡ false → (a && b) ≡ false
and_first true b e = cc
and_first false b e = refl

ends_keeps : (plan : PlanOf) (before : HostTask) (end : TaskEnd) (notified : List ℕ) (past : List Happening) (h : ℕ) → before.host ≡ h → (task : HostTask) → task.host ≡ h
    → is_kept_out plan task (Ends before end notified ∷ past) ≡ keeps_out plan before (kind_of end) task (is_kept_out plan task past)
ends_keeps plan before end notified past h whose task same =
    then_is (before.host == task.host) (keeps_out plan before (kind_of end) task (is_kept_out plan task past)) (is_kept_out plan task past) (eq-eqb before.host task.host (whose ∙ sym same))

ends_apart : (plan : PlanOf) (before : HostTask) (end : TaskEnd) (notified : List ℕ) (past : List Happening) (h : ℕ) → before.host ≢ h → (task : HostTask) → task.host ≡ h
    → is_kept_out plan task (Ends before end notified ∷ past) ≡ is_kept_out plan task past
ends_apart plan before end notified past h d task same =
    else_is (before.host == task.host) (keeps_out plan before (kind_of end) task (is_kept_out plan task past)) (is_kept_out plan task past) (apart before.host task.host (λ e. d (e ∙ same)))

given_apart : (plan : PlanOf) (before : HostTask) (kind : Kind) (past : List Happening) (h : ℕ) → before.host ≢ h → (task : HostTask) → task.host ≡ h → is_kept_out plan task (Given before kind ∷ past) ≡ is_kept_out plan task past
given_apart plan before kind past h d task same =
    else_is ((before.host == task.host) && not (is_halted_again before.host kind past)) (keeps_out plan before kind task (is_kept_out plan task past)) (is_kept_out plan task past)
    (and_first (before.host == task.host) (not (is_halted_again before.host kind past)) (apart before.host task.host (λ e. d (e ∙ same))))

turned_and : (a b : Bool) → (a && b) ≡ (b && a)
turned_and true true = refl
turned_and true false = refl
turned_and false true = refl
turned_and false false = refl

held_given : (plan : PlanOf) (play h place : ℕ) (past : List Happening) (xs : List AnswerOf) (kind : Kind) → answers h past ≡ xs → leads plan play xs ≡ Some place → Held plan play h past xs
    → Held plan play h (Given (record { play = play; host = h; place = place }) kind ∷ past) (xs ++ plain_answer kind ∷ [])
held_given plan play h place past xs kind was at held = by_again (is_halted_again h kind past) refl
  where
    other : (b : Bool) → is_halted_again h kind past ≡ b → counts xs (plain_answer kind) ≡ not b
    other b e = ap not (turned_and (list_any (λ (a : AnswerOf). is_halted a.kind) xs) (is_halted kind) ∙ ap (λ (ys : List AnswerOf). is_halted kind && list_any (λ (a : AnswerOf). is_halted a.kind) ys) (sym was) ∙ e)

    by_again : (b : Bool) → is_halted_again h kind past ≡ b → Held plan play h (Given (record { play = play; host = h; place = place }) kind ∷ past) (xs ++ plain_answer kind ∷ [])
    by_again true e =
        held_again plan play h place past (Given (record { play = play; host = h; place = place }) kind ∷ past) xs (plain_answer kind) at (other true e)
        (λ task same.
        else_is ((h == task.host) && not (is_halted_again h kind past)) (keeps_out plan (record { play = play; host = h; place = place }) kind task (is_kept_out plan task past)) (is_kept_out plan task past)
        (turned_and (h == task.host) (not (is_halted_again h kind past)) ∙ and_first (not (is_halted_again h kind past)) (h == task.host) (ap not e))) held
    by_again false e =
        held_more plan play h place past (Given (record { play = play; host = h; place = place }) kind ∷ past) xs (plain_answer kind) at (other false e)
        (λ task same.
        then_is ((h == task.host) && not (is_halted_again h kind past)) (keeps_out plan (record { play = play; host = h; place = place }) kind task (is_kept_out plan task past)) (is_kept_out plan task past)
        (both (h == task.host) (not (is_halted_again h kind past)) (eq-eqb h task.host (sym same)) (ap not e))) held

held_ended : (plan : PlanOf) (play h place : ℕ) (past : List Happening) (xs : List AnswerOf) (end : TaskEnd) (notified : List ℕ) → leads plan play xs ≡ Some place → Held plan play h past xs
    → Held plan play h (Ends (record { play = play; host = h; place = place }) end notified ∷ past) (xs ++ answer_of end notified ∷ [])
held_ended plan play h place past xs end notified at held =
    held_more plan play h place past (Ends (record { play = play; host = h; place = place }) end notified ∷ past) xs (answer_of end notified) at
    (counts_all (list_any (λ (b : AnswerOf). is_halted b.kind) xs) (is_halted (kind_of end)) (not_halted end)) (ends_keeps plan (record { play = play; host = h; place = place }) end notified past h refl) held

-- ---- what a turn gives
AllHeld : PlanOf → ℕ → List Bool → ℕ → List Happening → List (List AnswerOf) → Type 0
AllHeld plan play inside h past walked = (k : ℕ) (xs : List AnswerOf) → slice_get walked k ≡ Some xs → is_member inside (h + k) ≡ true → Held plan play (h + k) past xs

led_apart : (plan : PlanOf) (play h : ℕ) (walked : List (List AnswerOf)) (happens : List Happening) (new : List (List AnswerOf)) → AreLed plan play h walked happens new → (j : ℕ) (past : List Happening) → j < h
    → (task : HostTask) → task.host ≡ j → is_kept_out plan task (so_far past happens) ≡ is_kept_out plan task past
led_apart plan play h walked happens new (none_led k) j past l task same = refl
led_apart plan play h walked happens new (rest_led k xs {walked = w} {happens = hs} {new = n} led) j past l task same = led_apart plan play (h + 1) w hs n led j past (omega (arith, l)) task same
led_apart plan play h walked happens new (one_led k place xs kind {walked = w} {happens = hs} {new = n} at led) j past l task same =
    led_apart plan play h ((xs ++ plain_answer kind ∷ []) ∷ w) hs n led j (Given (record { play = play; host = h; place = place }) kind ∷ past) l task same
    ∙ given_apart plan (record { play = play; host = h; place = place }) kind past j (λ e. omega (arith, e, l)) task same

led_held : (plan : PlanOf) (play h : ℕ) (inside : List Bool) (walked : List (List AnswerOf)) (happens : List Happening) (new : List (List AnswerOf)) → AreLed plan play h walked happens new → (past : List Happening)
    → AreAnswers h past walked → AllHeld plan play inside h past walked → AllHeld plan play inside h (so_far past happens) new
unfolding AllHeld
led_held plan play h inside walked happens new (none_led j) past are held k ys e i = cc
led_held plan play h inside walked happens new (rest_led j xs {walked = w} {happens = hs} {new = n} led) past are held zero ys e i =
    held_same plan play (h + 0) past (so_far past happens) ys (λ task same. led_apart plan play (h + 1) w hs n led (h + 0) past (omega arith) task same) (held 0 ys e i)
led_held plan play h inside walked happens new (rest_led j xs {walked = w} {happens = hs} {new = n} led) past are held (suc k) ys e i =
    let same : (h + 1) + k ≡ h + suc k = omega arith in
    subst (λ (j : ℕ). Held plan play j (so_far past happens) ys) same
    (led_held plan play (h + 1) inside w hs n led past (rest_answers h past xs w are)
    (λ m zs f b. let there : h + suc m ≡ (h + 1) + m = omega arith in subst (λ (j : ℕ). Held plan play j past zs) there (held (suc m) zs f (ap (is_member inside) there ∙ b))) k ys e (ap (is_member inside) same ∙ i))
led_held plan play h inside walked happens new (one_led j place xs kind {walked = w} {happens = hs} {new = n} at led) past are held k ys e i =
    led_held plan play h inside ((xs ++ plain_answer kind ∷ []) ∷ w) hs n led (Given (record { play = play; host = h; place = place }) kind ∷ past) (given_answers plan play h place past xs kind w are) more k ys e i
  where
    more : (m : ℕ) (zs : List AnswerOf) → slice_get ((xs ++ plain_answer kind ∷ []) ∷ w) m ≡ Some zs → is_member inside (h + m) ≡ true
        → Held plan play (h + m) (Given (record { play = play; host = h; place = place }) kind ∷ past) zs
    more zero zs f b =
        let first : h ≡ h + 0 = omega arith in
        let went : xs ++ plain_answer kind ∷ [] ≡ zs = cc in
        subst (λ (us : List AnswerOf). Held plan play (h + 0) (Given (record { play = play; host = h; place = place }) kind ∷ past) us) went
        (subst (λ (m : ℕ). Held plan play m (Given (record { play = play; host = h; place = place }) kind ∷ past) (xs ++ plain_answer kind ∷ [])) first
        (held_given plan play h place past xs kind (first_answers h past xs w are) at (subst (λ (m : ℕ). Held plan play m past xs) (sym first) (held 0 xs refl b))))
    more (suc m) zs f b =
        held_same plan play (h + suc m) past (Given (record { play = play; host = h; place = place }) kind ∷ past) zs
        (given_apart plan (record { play = play; host = h; place = place }) kind past (h + suc m) (λ same. omega (arith, same))) (held (suc m) zs f b)

-- what the hosts of a batch are given is nothing to another one
inside_apart : (plan : PlanOf) (inside : List Bool) (h : ℕ) (task : HostTask) (past happens : List Happening) → is_member inside h ≡ false → task.host ≡ h → AreGiven happens → AreInside inside happens
    → is_kept_out plan task (so_far past happens) ≡ is_kept_out plan task past
inside_apart plan inside h task past [] out same given only = refl
inside_apart plan inside h task past (x ∷ xs) out same (one_given before kind given) only =
    inside_apart plan inside h task (Given before kind ∷ past) xs out same given only.1
    ∙ given_apart plan before kind past h (λ e. let both_ways : true ≡ false = sym only.0 ∙ ap (is_member inside) e ∙ out in absurd (let no = both_ways in cc)) task same

-- ---- what is kept from event to event
record Outs (plan : PlanOf) (past : List Happening) (v : Seen) : Type 0 where
  answered : (h : ℕ) (xs : List AnswerOf) → slice_get v.walked h ≡ Some xs → answers h past ≡ xs
  -- a host that is active and in no batch may go on anywhere, and a host that waits is active
  clear : (h : ℕ) → (v.is_open ≡ true → is_member v.inside h ≡ false) → is_member v.active h ≡ true → (task : HostTask) → task.host ≡ h → is_kept_out plan task past ≡ false
  awaits_batch : (h : ℕ) → (v.is_open ≡ true → is_member v.inside h ≡ false) → is_member v.waiting h ≡ true → is_member v.active h ≡ true
  held : v.is_open ≡ true → (h : ℕ) (xs : List AnswerOf) → is_member v.inside h ≡ true → slice_get v.walked h ≡ Some xs → Held plan v.play h past xs
  -- a host of the batch is active by what it answered there
  stands : v.is_open ≡ true → (h : ℕ) (xs : List AnswerOf) → is_member v.inside h ≡ true → slice_get v.walked h ≡ Some xs → is_member v.active h ≡ true → (xs ≡ []) ⊎ (is_active (status_now (tree_at plan v.play) xs) ≡ true)

shut_out : (v : Seen) (h : ℕ) → v.is_open ≡ false → v.is_open ≡ true → is_member v.inside h ≡ false
shut_out v h shut o = absurd (let both_ways : true ≡ false = sym o ∙ shut in cc)

-- one entry changed
put_apart : (xs : List Bool) (h k : ℕ) (x : Bool) → k ≢ h → is_member (put xs h x) k ≡ is_member xs k
put_apart [] h k x d = refl
put_apart (y ∷ ys) zero zero x d = absurd (d refl)
put_apart (y ∷ ys) zero (suc k) x d = refl
put_apart (y ∷ ys) (suc h) zero x d = refl
put_apart (y ∷ ys) (suc h) (suc k) x d = put_apart ys h k x (λ same. d (ap suc same))

put_is : (xs : List Bool) (h : ℕ) (x : Bool) → is_member (put xs h x) h ≡ true → x ≡ true
put_is [] h x e = cc
put_is (y ∷ ys) zero x e = e
put_is (y ∷ ys) (suc h) x e = put_is ys h x e

out_apart : (inside : List Bool) (host h : ℕ) → is_member inside host ≡ true → is_member inside h ≡ false → h ≢ host
out_apart inside host h i out = λ same. let both_ways : true ≡ false = sym i ∙ ap (is_member inside) (sym same) ∙ out in absurd (let no = both_ways in cc)

-- ---- a batch that closes
-- a walk at its end that leaves its host active came through good, or ended the play
ends_well : (had : Bool) (p : Passage) (other : Status) → place_of (reach_of p) ≡ None → is_active (unless_active (status_in had p) other) ≡ true → (ends_as p ≡ Some kinds.Good) ⊎ (ends_as p ≡ Some kinds.Ended)
ends_well had (Stopped place marks) other at is = cc
ends_well had (Through kinds.Good w) other at is = inl refl
ends_well had (Through kinds.Ended w) other at is = inr refl
ends_well had (Through kinds.Gone w) other at is = cc
ends_well true (Through kinds.Bad w) other at is = cc
ends_well false (Through kinds.Bad w) other at is = cc
ends_well true (Through kinds.Halted w) other at is = cc
ends_well false (Through kinds.Halted w) other at is = cc

closed_clear : (plan : PlanOf) (play h : ℕ) (past : List Happening) (xs : List AnswerOf) → Held plan play h past xs → leads plan play xs ≡ None → (xs ≡ []) ⊎ (is_active (status_now (tree_at plan play) xs) ≡ true)
    → (task : HostTask) → task.host ≡ h → is_kept_out plan task past ≡ false
closed_clear plan play h past xs held done (inl none) task same = held.none none task same
closed_clear plan play h past xs held done (inr is) task same =
    elim (ends_well (list_any (λ (a : AnswerOf). is_halted a.kind) xs) (passage (tree_at plan play) xs) (status_of (unforced (tree_at plan play)) xs) done is) [
      | inl e ↦ held.good [] (ap (λ (ys : List AnswerOf). ends_as (passage (tree_at plan play) ys)) (append-nil xs) ∙ e) task same
      | inr e ↦ held.over e task same
    ]

-- ---- who is in no batch
clear_next : (plan : PlanOf) (past : List Happening) (v new : Seen) (happens : List Happening) → Tells plan v happens new → Outs plan past v → (h : ℕ) → (new.is_open ≡ true → is_member new.inside h ≡ false) → is_member new.active h ≡ true
    → (task : HostTask) → task.host ≡ h → is_kept_out plan task (so_far past happens) ≡ false
clear_next plan past v new happens (Opening n more tasks inside waiting is) outs h out act task same = outs.clear h (shut_out v h is.shut) act task same
clear_next plan past v new happens (Starting true host place items end notified is so) outs h out act task same =
    let d = out_apart v.inside host h is.inside (out is.opened) in
    ends_apart plan (task_on v host place) end notified (Starts (task_on v host place) ∷ past) h (λ e. d (sym e)) task same
    ∙ outs.clear h out (sym (put_apart v.active host h (is_active (status_now (tree_at plan v.play) (is.answers ++ answer_of end notified ∷ []))) d) ∙ act) task same
clear_next plan past v new happens (Starting false host place items end notified is so) outs h out act task same = outs.clear h out act task same
clear_next plan past v new happens (Sending host item attempt ticket r is) outs h out act task same = outs.clear h out act task same
clear_next plan past v new happens (Reporting true host item ticket r items end notified is so) outs h out act task same =
    let d = out_apart v.inside host h is.inside (out is.opened) in
    ends_apart plan (task_on v host r.place) end notified (Reports host item ticket.0 ∷ past) h (λ e. d (sym e)) task same
    ∙ outs.clear h out (sym (put_apart v.active host h (is_active (status_now (tree_at plan v.play) (is.answers ++ answer_of end notified ∷ []))) d) ∙ act) task same
clear_next plan past v new happens (Reporting false host item ticket r items end notified is so) outs h out act task same = outs.clear h out act task same
clear_next plan past v new happens (Turning more happenings opened given is) outs h out act task same =
    inside_apart plan v.inside h task past happens (out opened) same given is.only ∙ outs.clear h out (sym (is.still h (out opened)) ∙ act) task same
clear_next plan past v new happens (Closing tasks inside waiting is) outs h out act task same = by_inside (is_member v.inside h) refl
  where
    by_inside : (b : Bool) → is_member v.inside h ≡ b → is_kept_out plan task past ≡ false
    by_inside true i =
        let known = is.known h i in
        closed_clear plan v.play h past known.0 (outs.held is.opened h known.0 i known.1) (is.done h known.0 i known.1) (outs.stands is.opened h known.0 i known.1 act) task same
    by_inside false i = outs.clear h (λ o. i) act task same
clear_next plan past v new happens Stopping outs h out act task same = outs.clear h out act task same
clear_next plan past v new happens (Forking n) outs h out act task same = outs.clear h out act task same

chosen_active : (plan : PlanOf) (past : List Happening) (v : Seen) (n : ℕ) (tasks : List (Option Running)) (inside waiting : List Bool) → IsOpening plan v n tasks inside waiting → Outs plan past v → (h : ℕ) → is_member waiting h ≡ true → is_member v.active h ≡ true
chosen_active plan past v n tasks inside waiting is outs h w =
    elim is.how [ inl on ↦ outs.awaits_batch h (shut_out v h is.shut) (ap (λ (all : List Bool). is_member all h) (sym on.2) ∙ w) | inr begins ↦ is.chosen begins.0 h w ]

waits_next : (plan : PlanOf) (past : List Happening) (v new : Seen) (happens : List Happening) → Tells plan v happens new → Outs plan past v → (h : ℕ) → (new.is_open ≡ true → is_member new.inside h ≡ false) → is_member new.waiting h ≡ true
    → is_member new.active h ≡ true
waits_next plan past v new happens (Opening n more tasks inside waiting is) outs h out w = chosen_active plan past v n tasks inside waiting is outs h w
waits_next plan past v new happens (Starting true host place items end notified is so) outs h out w =
    put_apart v.active host h (is_active (status_now (tree_at plan v.play) (is.answers ++ answer_of end notified ∷ []))) (out_apart v.inside host h is.inside (out is.opened)) ∙ outs.awaits_batch h out w
waits_next plan past v new happens (Starting false host place items end notified is so) outs h out w = outs.awaits_batch h out w
waits_next plan past v new happens (Sending host item attempt ticket r is) outs h out w = outs.awaits_batch h out w
waits_next plan past v new happens (Reporting true host item ticket r items end notified is so) outs h out w =
    put_apart v.active host h (is_active (status_now (tree_at plan v.play) (is.answers ++ answer_of end notified ∷ []))) (out_apart v.inside host h is.inside (out is.opened)) ∙ outs.awaits_batch h out w
waits_next plan past v new happens (Reporting false host item ticket r items end notified is so) outs h out w = outs.awaits_batch h out w
waits_next plan past v new happens (Turning more happenings opened given is) outs h out w = is.still h (out opened) ∙ outs.awaits_batch h out w
waits_next plan past v new happens (Closing tasks inside waiting is) outs h out w = let left = is.still h w in outs.awaits_batch h (λ o. left.1) left.0
waits_next plan past v new happens Stopping outs h out w = outs.awaits_batch h out w
waits_next plan past v new happens (Forking n) outs h out w = outs.awaits_batch h out w

-- ---- who is in the batch
ended_held : (plan : PlanOf) (v : Seen) (host place h : ℕ) (past : List Happening) (xs ys : List AnswerOf) (end : TaskEnd) (notified : List ℕ) → leads plan v.play xs ≡ Some place
    → (is_member v.inside host ≡ true → Held plan v.play host past xs) → ((zs : List AnswerOf) → slice_get v.walked h ≡ Some zs → Held plan v.play h past zs) → is_member v.inside h ≡ true
    → slice_get (put v.walked host (xs ++ answer_of end notified ∷ [])) h ≡ Some ys → Held plan v.play h (Ends (task_on v host place) end notified ∷ past) ys
ended_held plan v host place h past xs ys end notified at was other i e =
    elim (put_get v.walked host h (xs ++ answer_of end notified ∷ []) ys e) [
      | inl w ↦
          subst (λ (zs : List AnswerOf). Held plan v.play h (Ends (task_on v host place) end notified ∷ past) zs) w.1
          (subst (λ (k : ℕ). Held plan v.play k (Ends (task_on v host place) end notified ∷ past) (xs ++ answer_of end notified ∷ [])) (sym w.0)
          (held_ended plan v.play host place past xs end notified at (was (ap (is_member v.inside) (sym w.0) ∙ i))))
      | inr w ↦
          held_same plan v.play h past (Ends (task_on v host place) end notified ∷ past) ys (ends_apart plan (task_on v host place) end notified past h (λ same. w.0 (sym same))) (other ys w.1)
    ]

put_held : (plan : PlanOf) (v : Seen) (host h : ℕ) (past : List Happening) (xs ys : List AnswerOf) → slice_get v.walked host ≡ Some xs → ((zs : List AnswerOf) → slice_get v.walked h ≡ Some zs → Held plan v.play h past zs)
    → slice_get (put v.walked host xs) h ≡ Some ys → Held plan v.play h past ys
put_held plan v host h past xs ys there other e =
    elim (put_get v.walked host h xs ys e) [
      | inl w ↦ subst (λ (zs : List AnswerOf). Held plan v.play h past zs) w.1 (other xs (ap (slice_get v.walked) w.0 ∙ there))
      | inr w ↦ other ys w.1
    ]

quiet_held : (plan : PlanOf) (play h : ℕ) (past : List Happening) (now : Happening) (xs : List AnswerOf) → ((task : HostTask) → is_kept_out plan task (now ∷ past) ≡ is_kept_out plan task past) → Held plan play h past xs → Held plan play h (now ∷ past) xs
quiet_held plan play h past now xs quiet held = held_same plan play h past (now ∷ past) xs (λ task same. quiet task) held

held_next : (plan : PlanOf) (past : List Happening) (v new : Seen) (happens : List Happening) → Tells plan v happens new → Outs plan past v → new.is_open ≡ true → (h : ℕ) (xs : List AnswerOf) → is_member new.inside h ≡ true
    → slice_get new.walked h ≡ Some xs → Held plan new.play h (so_far past happens) xs
unfolding AllHeld
held_next plan past v new happens (Opening n more tasks inside waiting is) outs o h xs i e =
    held_first plan n h (so_far past happens) xs (λ task same. outs.clear h (shut_out v h is.shut) (chosen_active plan past v n tasks inside waiting is outs h (is.joins h i)) task same)
held_next plan past v new happens (Starting true host place items end notified is so) outs o h xs i e =
    ended_held plan v host place h (Starts (task_on v host place) ∷ past) is.answers xs end notified is.at
    (λ b. quiet_held plan v.play host past (Starts (task_on v host place)) is.answers (λ task. refl) (outs.held o host is.answers b is.answered))
    (λ zs f. quiet_held plan v.play h past (Starts (task_on v host place)) zs (λ task. refl) (outs.held o h zs i f)) i e
held_next plan past v new happens (Starting false host place items end notified is so) outs o h xs i e =
    put_held plan v host h (Starts (task_on v host place) ∷ past) is.answers xs is.answered (λ zs f. quiet_held plan v.play h past (Starts (task_on v host place)) zs (λ task. refl) (outs.held o h zs i f)) e
held_next plan past v new happens (Sending host item attempt ticket r is) outs o h xs i e = held_same plan v.play h past (so_far past happens) xs (λ task same. refl) (outs.held o h xs i e)
held_next plan past v new happens (Reporting true host item ticket r items end notified is so) outs o h xs i e =
    ended_held plan v host r.place h (Reports host item ticket.0 ∷ past) is.answers xs end notified is.at
    (λ b. quiet_held plan v.play host past (Reports host item ticket.0) is.answers (λ task. refl) (outs.held o host is.answers b is.answered))
    (λ zs f. quiet_held plan v.play h past (Reports host item ticket.0) zs (λ task. refl) (outs.held o h zs i f)) i e
held_next plan past v new happens (Reporting false host item ticket r items end notified is so) outs o h xs i e =
    put_held plan v host h (Reports host item ticket.0 ∷ past) is.answers xs is.answered (λ zs f. quiet_held plan v.play h past (Reports host item ticket.0) zs (λ task. refl) (outs.held o h zs i f)) e
held_next plan past v new happens (Turning more happenings opened given is) outs o h xs i e =
    let same : 0 + h ≡ h = omega arith in
    subst (λ (k : ℕ). Held plan v.play k (so_far past happens) xs) same
    (led_held plan v.play 0 v.inside v.walked happens is.walked is.led past (answers_of past v.walked outs.answered)
    (λ k ys f b. let there : k ≡ 0 + k = omega arith in subst (λ (j : ℕ). Held plan v.play j past ys) there (outs.held opened k ys (ap (is_member v.inside) there ∙ b) f)) h xs e (ap (is_member v.inside) same ∙ i))
held_next plan past v new happens (Closing tasks inside waiting is) outs o h xs i e = absurd (let shut : false ≡ true = o in cc)
held_next plan past v new happens Stopping outs o h xs i e = held_same plan v.play h past (so_far past happens) xs (λ task same. refl) (outs.held o h xs i e)
held_next plan past v new happens (Forking n) outs o h xs i e = held_same plan v.play h past (so_far past happens) xs (λ task same. refl) (outs.held o h xs i e)

-- whether they are active
ended_stands : (plan : PlanOf) (v : Seen) (host h : ℕ) (past : List Happening) (xs ys : List AnswerOf) (answer : AnswerOf) → Outs plan past v → v.is_open ≡ true → is_member v.inside h ≡ true
    → slice_get (put v.walked host (xs ++ answer ∷ [])) h ≡ Some ys → is_member (put v.active host (is_active (status_now (tree_at plan v.play) (xs ++ answer ∷ [])))) h ≡ true
    → (ys ≡ []) ⊎ (is_active (status_now (tree_at plan v.play) ys) ≡ true)
ended_stands plan v host h past xs ys answer outs o i e act =
    elim (put_get v.walked host h (xs ++ answer ∷ []) ys e) [
      | inl w ↦
          inr (
          ap (λ (zs : List AnswerOf). is_active (status_now (tree_at plan v.play) zs)) (sym w.1)
          ∙ put_is v.active host (is_active (status_now (tree_at plan v.play) (xs ++ answer ∷ [])))
          (ap (is_member (put v.active host (is_active (status_now (tree_at plan v.play) (xs ++ answer ∷ []))))) (sym w.0) ∙ act)
          )
      | inr w ↦ outs.stands o h ys i w.1 (sym (put_apart v.active host h (is_active (status_now (tree_at plan v.play) (xs ++ answer ∷ []))) w.0) ∙ act)
    ]

put_stands : (plan : PlanOf) (v : Seen) (host h : ℕ) (past : List Happening) (xs ys : List AnswerOf) → Outs plan past v → v.is_open ≡ true → is_member v.inside h ≡ true → slice_get v.walked host ≡ Some xs
    → slice_get (put v.walked host xs) h ≡ Some ys → is_member v.active h ≡ true → (ys ≡ []) ⊎ (is_active (status_now (tree_at plan v.play) ys) ≡ true)
put_stands plan v host h past xs ys outs o i there e act =
    elim (put_get v.walked host h xs ys e) [
      | inl w ↦ outs.stands o h ys i (ap (slice_get v.walked) w.0 ∙ there ∙ ap (λ (zs : List AnswerOf). Some zs) w.1) act
      | inr w ↦ outs.stands o h ys i w.1 act
    ]

stands_next : (plan : PlanOf) (past : List Happening) (v new : Seen) (happens : List Happening) → Tells plan v happens new → Outs plan past v → new.is_open ≡ true → (h : ℕ) (xs : List AnswerOf) → is_member new.inside h ≡ true
    → slice_get new.walked h ≡ Some xs → is_member new.active h ≡ true → (xs ≡ []) ⊎ (is_active (status_now (tree_at plan new.play) xs) ≡ true)
stands_next plan past v new happens (Opening n more tasks inside waiting is) outs o h xs i e act = inl (is.fresh h xs e)
stands_next plan past v new happens (Starting true host place items end notified is so) outs o h xs i e act = ended_stands plan v host h past is.answers xs (answer_of end notified) outs o i e act
stands_next plan past v new happens (Starting false host place items end notified is so) outs o h xs i e act = put_stands plan v host h past is.answers xs outs o i is.answered e act
stands_next plan past v new happens (Sending host item attempt ticket r is) outs o h xs i e act = outs.stands o h xs i e act
stands_next plan past v new happens (Reporting true host item ticket r items end notified is so) outs o h xs i e act = ended_stands plan v host h past is.answers xs (answer_of end notified) outs o i e act
stands_next plan past v new happens (Reporting false host item ticket r items end notified is so) outs o h xs i e act = put_stands plan v host h past is.answers xs outs o i is.answered e act
stands_next plan past v new happens (Turning more happenings opened given is) outs o h xs i e act = elim (is.shows h xs i act e) [ inl w ↦ outs.stands o h xs i w.0 w.1 | inr w ↦ inr w ]
stands_next plan past v new happens (Closing tasks inside waiting is) outs o h xs i e act = absurd (let shut : false ≡ true = o in cc)
stands_next plan past v new happens Stopping outs o h xs i e act = outs.stands o h xs i e act
stands_next plan past v new happens (Forking n) outs o h xs i e act = outs.stands o h xs i e act

-- ---- the law
start_not_out : (plan : PlanOf) (past : List Happening) (v : Seen) (host place : ℕ) → IsStarting plan v host place → Outs plan past v → out_is_out plan past (Starts (task_on v host place)) ≡ true
start_not_out plan past v host place is outs =
    ap not ((outs.held is.opened host is.answers is.inside is.answered).goes [] place (ap (leads plan v.play) (append-nil is.answers) ∙ is.at))

none_starts_out : (plan : PlanOf) (past : List Happening) (v new : Seen) (happens : List Happening) → Tells plan v happens new → Outs plan past v → holds_from (out_is_out plan) past happens ≡ true
none_starts_out plan past v new happens (Opening n more tasks inside waiting is) outs = refl
none_starts_out plan past v new happens (Starting true host place items end notified is so) outs = both (out_is_out plan past (Starts (task_on v host place))) true (start_not_out plan past v host place is outs) refl
none_starts_out plan past v new happens (Starting false host place items end notified is so) outs = both (out_is_out plan past (Starts (task_on v host place))) true (start_not_out plan past v host place is outs) refl
none_starts_out plan past v new happens (Sending host item attempt ticket r is) outs = refl
none_starts_out plan past v new happens (Reporting true host item ticket r items end notified is so) outs = refl
none_starts_out plan past v new happens (Reporting false host item ticket r items end notified is so) outs = refl
none_starts_out plan past v new happens (Turning more happenings opened given is) outs = given_holds (out_is_out plan) (λ before task how. refl) past happens given
none_starts_out plan past v new happens (Closing tasks inside waiting is) outs = refl
none_starts_out plan past v new happens Stopping outs = refl
none_starts_out plan past v new happens (Forking n) outs = refl

first_waits : (h n k : ℕ) → is_member (waiting_of (first_rows h n)) k ≡ true → is_member (active_of (first_rows h n)) k ≡ true
first_waits h zero k e = e
first_waits h (suc n) zero e = cc
first_waits h (suc n) (suc k) e = first_waits (h + 1) n k e

pub outs_stay_out : Always out_is_out
outs_stay_out =
    always out_is_out Outs
    (record {
      begins = λ plan n. refl;
      first = λ plan forks pool.
          record {
            answered = λ h xs e. first_fresh 0 (length plan.inventory.hosts) h xs e;
            clear = λ h out act task same. refl;
            awaits_batch = λ h out w. first_waits 0 (length plan.inventory.hosts) h w;
            held = λ o. absurd (let shut : false ≡ true = o in cc);
            stands = λ o. absurd (let shut : false ≡ true = o in cc);
          };
      now = λ plan past v new happens tells outs. none_starts_out plan past v new happens tells outs;
      next = λ plan past v new happens tells outs.
          record {
            answered = answered_next plan past v new happens tells outs.answered;
            clear = clear_next plan past v new happens tells outs;
            awaits_batch = waits_next plan past v new happens tells outs;
            held = held_next plan past v new happens tells outs;
            stands = stands_next plan past v new happens tells outs;
          };
    })
