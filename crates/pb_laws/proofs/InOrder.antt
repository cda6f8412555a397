-- Hosts go through a play in its order: what a host answered, by what has happened, is what the machine keeps of it.
use Rattle.std.proofs.Common.{◌≡◌, ◌≢◌, ℕ, zero, suc, ◌+◌, ◌<◌, ◌≤◌, Bool, true, false, ◌&&◌, ◌||◌, not, List, [], ◌∷◌, ◌++◌, length, refl, sym, ◌∙◌, ap, arith, ◌⊎◌, inl, inr}
use Rattle.std.specs.Prelude.{◌==◌, nat_le, Option, Some, None, is_some, is_none, slice_get, if◌then◌else◌}
use Rattle.std.specs.List.{list_any}
use Rattle.std.specs.Option.{option_map_or}
use Rattle.std.proofs.lemmas.Bool.{eq-eqb, le-leb}
use Rattle.pb_planes.specs.Set.{is_in as is_member}
use Rattle.pb_plan.specs.Plan.{PlanOf}
use Rattle.pb_tree.specs.Answer.{AnswerOf}
use Rattle.pb_tree.specs.Laws.{IsAbove}
use Rattle.pb_tree.specs.Walk.{reach, is_halted}
use Rattle.pb_tree.specs.declared.answer.Kind.{Kind}
use Rattle.pb_tree.specs.declared.tree.Reach.{Reach}
use Rattle.pb_tree.specs.declared.tree.Reach.TheVariants.{At, Done}
use Rattle.pb_tree.proofs.Rise.{places_rise as tree_rises}
use Rattle.pb_host.specs.declared.step_result.TaskEnd.{TaskEnd}
use Rattle.pb_host.specs.declared.host.Running.{Running}
use Rattle.pb_host.specs.Ends.{answer_of, kind_of, plain_answer}
use Rattle.pb_hosts.specs.Hosts.{one_if}
use Rattle.pb_state.specs.Machine.{first_state}
use Rattle.pb_host.specs.Host.{first_rows, place_of}
use Rattle.pb_state.proofs.Stands.{both}
use Rattle.pb_state.proofs.Walked.{not_halted}
use Rattle.pb_laws.specs.History.{HostTask, Happening, MayRun, Starts, Reports, Ends, Given}
use Rattle.pb_laws.specs.Laws.{Always, holds_from, so_far, batch_of, running, is_same_task, runs, tree_at, answers, leads_to, stands_at, each_host, is_of, is_linear_play, is_not_before, in_order, have_walked}
use Rattle.pb_laws.proofs.Telling.{Seen, AreBehind, AreLed, none_led, rest_led, one_led, Tells, Opening, Starting, Sending, Reporting, Turning, Closing, Stopping, Forking, IsStarting, put, tasks_of, walked_of, task_on, leads, seen}
use Rattle.pb_laws.proofs.Holding.{given_holds, given_same, always}
use Rattle.pb_laws.proofs.WithinForks.{idle_next, first_idle}
use Rattle.pb_laws.proofs.OwnHosts.{batch_next}
use Rattle.pb_laws.proofs.JobsInOrder.{put_get, put_there, same_or_apart, idle_none, same_self, apart, or_first, task_self, run_next}

-- ---- what hosts answered
then_is : (b : Bool) (xs ys : List AnswerOf) → b ≡ true → (if b then xs else ys) ≡ xs
then_is true xs ys e = refl
then_is false xs ys e = cc

else_is : (b : Bool) (xs ys : List AnswerOf) → b ≡ false → (if b then xs else ys) ≡ ys
else_is true xs ys e = cc
else_is false xs ys e = refl

-- of these hosts, the first of which has the number h
pub AreAnswers : ℕ → List Happening → List (List AnswerOf) → Type 0
AreAnswers h past walked = (k : ℕ) (xs : List AnswerOf) → slice_get walked k ≡ Some xs → answers (h + k) past ≡ xs

pub answers_of : (past : List Happening) (walked : List (List AnswerOf)) → ((k : ℕ) (xs : List AnswerOf) → slice_get walked k ≡ Some xs → answers k past ≡ xs) → AreAnswers 0 past walked
unfolding AreAnswers
answers_of past walked was = λ k xs e. ap (λ (j : ℕ). answers j past) (let same : 0 + k ≡ k = omega arith in same) ∙ was k xs e

-- what later hosts are given is nothing to an earlier one
led_below : (plan : PlanOf) (play h : ℕ) (walked : List (List AnswerOf)) (happens : List Happening) (new : List (List AnswerOf)) → AreLed plan play h walked happens new → (j : ℕ) (past : List Happening) → j < h
    → answers j (so_far past happens) ≡ answers j past
led_below plan play h walked happens new (none_led k) j past l = refl
led_below plan play h walked happens new (rest_led k xs {walked = w} {happens = hs} {new = n} led) j past l = led_below plan play (h + 1) w hs n led j past (omega (arith, l))
led_below plan play h walked happens new (one_led k place xs kind {walked = w} {happens = hs} {new = n} at led) j past l =
    led_below plan play h ((xs ++ plain_answer kind ∷ []) ∷ w) hs n led j (Given (record { play = play; host = h; place = place }) kind ∷ past) l
    ∙ else_is (h == j) (answers j past ++ plain_answer kind ∷ []) (answers j past) (apart h j (λ same. omega (arith, same, l)))

pub first_answers : (h : ℕ) (past : List Happening) (xs : List AnswerOf) (walked : List (List AnswerOf)) → AreAnswers h past (xs ∷ walked) → answers h past ≡ xs
unfolding AreAnswers
first_answers h past xs walked are = ap (λ (k : ℕ). answers k past) (let same : h ≡ h + 0 = omega arith in same) ∙ are 0 xs refl

pub rest_answers : (h : ℕ) (past : List Happening) (xs : List AnswerOf) (walked : List (List AnswerOf)) → AreAnswers h past (xs ∷ walked) → AreAnswers (h + 1) past walked
unfolding AreAnswers
rest_answers h past xs walked are = λ k ys e. ap (λ (j : ℕ). answers j past) (let same : (h + 1) + k ≡ h + suc k = omega arith in same) ∙ are (suc k) ys e

-- one answer more of the first of them
pub given_answers : (plan : PlanOf) (play h place : ℕ) (past : List Happening) (xs : List AnswerOf) (kind : Kind) (walked : List (List AnswerOf)) → AreAnswers h past (xs ∷ walked)
    → AreAnswers h (Given (record { play = play; host = h; place = place }) kind ∷ past) ((xs ++ plain_answer kind ∷ []) ∷ walked)
unfolding AreAnswers
given_answers plan play h place past xs kind walked are zero ys e =
    then_is (h == h + 0) (answers (h + 0) past ++ plain_answer kind ∷ []) (answers (h + 0) past) (eq-eqb h (h + 0) (let same : h ≡ h + 0 = omega arith in same))
    ∙ ap (λ (zs : List AnswerOf). zs ++ plain_answer kind ∷ []) (are 0 xs refl) ∙ (let same : xs ++ plain_answer kind ∷ [] ≡ ys = cc in same)
given_answers plan play h place past xs kind walked are (suc k) ys e =
    else_is (h == h + suc k) (answers (h + suc k) past ++ plain_answer kind ∷ []) (answers (h + suc k) past) (apart h (h + suc k) (λ same. omega (arith, same))) ∙ are (suc k) ys e

led_answers : (plan : PlanOf) (play h : ℕ) (walked : List (List AnswerOf)) (happens : List Happening) (new : List (List AnswerOf)) → AreLed plan play h walked happens new → (past : List Happening)
    → AreAnswers h past walked → AreAnswers h (so_far past happens) new
unfolding AreAnswers
led_answers plan play h walked happens new (none_led j) past are k ys e = cc
led_answers plan play h walked happens new (rest_led j xs {walked = w} {happens = hs} {new = n} led) past are zero ys e =
    led_below plan play (h + 1) w hs n led (h + 0) past (omega arith) ∙ are 0 xs refl ∙ (let same : xs ≡ ys = cc in same)
led_answers plan play h walked happens new (rest_led j xs {walked = w} {happens = hs} {new = n} led) past are (suc k) ys e =
    ap (λ (i : ℕ). answers i (so_far past happens)) (let same : h + suc k ≡ (h + 1) + k = omega arith in same) ∙ led_answers plan play (h + 1) w hs n led past (rest_answers h past xs w are) k ys e
led_answers plan play h walked happens new (one_led j place xs kind {walked = w} {happens = hs} {new = n} at led) past are k ys e =
    led_answers plan play h ((xs ++ plain_answer kind ∷ []) ∷ w) hs n led (Given (record { play = play; host = h; place = place }) kind ∷ past) (given_answers plan play h place past xs kind w are) k ys e

-- each is given where the host stands
stands_there : (plan : PlanOf) (play host place : ℕ) (past : List Happening) (xs : List AnswerOf) → answers host past ≡ xs → leads plan play xs ≡ Some place
    → stands_at plan (record { play = play; host = host; place = place }) past ≡ true
stands_there plan play host place past xs e at =
    ap (λ (next : Option ℕ). option_map_or (λ p. p == place) next false) (ap (leads plan play) e ∙ at) ∙ same_self place

led_holds : (plan : PlanOf) (play h : ℕ) (walked : List (List AnswerOf)) (happens : List Happening) (new : List (List AnswerOf)) → AreLed plan play h walked happens new → (past : List Happening)
    → AreAnswers h past walked → holds_from (in_order plan) past happens ≡ true
led_holds plan play h walked happens new (none_led j) past are = refl
led_holds plan play h walked happens new (rest_led j xs {walked = w} {happens = hs} {new = n} led) past are = led_holds plan play (h + 1) w hs n led past (rest_answers h past xs w are)
led_holds plan play h walked happens new (one_led j place xs kind {walked = w} {happens = hs} {new = n} at led) past are =
    both (stands_at plan (record { play = play; host = h; place = place }) past) _ (stands_there plan play h place past xs (first_answers h past xs w are) at)
    (led_holds plan play h ((xs ++ plain_answer kind ∷ []) ∷ w) hs n led (Given (record { play = play; host = h; place = place }) kind ∷ past) (given_answers plan play h place past xs kind w are))

-- ---- what is kept from event to event
busy : Option (Option Running) → ℕ
busy None = 0
busy (Some None) = 0
busy (Some (Some r)) = 1

record Walks (plan : PlanOf) (past : List Happening) (v : Seen) : Type 0 where
  answered : (h : ℕ) (xs : List AnswerOf) → slice_get v.walked h ≡ Some xs → answers h past ≡ xs
  batch : v.is_open ≡ true → batch_of v.play past ≡ v.inside
  run : (h : ℕ) (r : Running) → slice_get v.tasks h ≡ Some (Some r) → runs (task_on v h r.place) past ≡ true
  one : (h : ℕ) → running (is_of h) past ≡ busy (slice_get v.tasks h)
  idle : v.is_open ≡ false → list_any is_some v.tasks ≡ false
  behind : v.is_open ≡ true → AreBehind plan v.play v.inside v.walked v.place

-- a host's answer added to what it answered
ends_with : (past : List Happening) (host h : ℕ) (play place : ℕ) (end : TaskEnd) (notified : List ℕ) (xs ys : List AnswerOf) → answers host past ≡ xs → (h ≡ host) × ((xs ++ answer_of end notified ∷ []) ≡ ys)
    → answers h (Ends (record { play = play; host = host; place = place }) end notified ∷ past) ≡ ys
ends_with past host h play place end notified xs ys e same =
    then_is (host == h) (answers h past ++ answer_of end notified ∷ []) (answers h past) (eq-eqb host h (sym same.0))
    ∙ ap (λ (zs : List AnswerOf). zs ++ answer_of end notified ∷ []) (ap (λ (k : ℕ). answers k past) same.0 ∙ e) ∙ same.1

ends_other : (past : List Happening) (host h : ℕ) (play place : ℕ) (end : TaskEnd) (notified : List ℕ) → h ≢ host → answers h (Ends (record { play = play; host = host; place = place }) end notified ∷ past) ≡ answers h past
ends_other past host h play place end notified d = else_is (host == h) (answers h past ++ answer_of end notified ∷ []) (answers h past) (apart host h (λ same. d (sym same)))

pub answered_next : (plan : PlanOf) (past : List Happening) (v new : Seen) (happens : List Happening) → Tells plan v happens new → ((h : ℕ) (xs : List AnswerOf) → slice_get v.walked h ≡ Some xs → answers h past ≡ xs)
    → (h : ℕ) (xs : List AnswerOf) → slice_get new.walked h ≡ Some xs → answers h (so_far past happens) ≡ xs
unfolding AreAnswers
answered_next plan past v new happens (Opening n more tasks inside waiting is) was h xs e = sym (is.fresh h xs e)
answered_next plan past v new happens (Starting true host place items end notified is so) was h xs e =
    elim (put_get v.walked host h (is.answers ++ answer_of end notified ∷ []) xs e) [
      | inl w ↦ ends_with (Starts (task_on v host place) ∷ past) host h v.play place end notified is.answers xs (was host is.answers is.answered) w
      | inr w ↦ ends_other (Starts (task_on v host place) ∷ past) host h v.play place end notified w.0 ∙ was h xs w.1
    ]
answered_next plan past v new happens (Starting false host place items end notified is so) was h xs e =
    elim (put_get v.walked host h is.answers xs e) [ inl w ↦ ap (λ (k : ℕ). answers k past) w.0 ∙ was host is.answers is.answered ∙ w.1 | inr w ↦ was h xs w.1 ]
answered_next plan past v new happens (Sending host item attempt ticket r is) was h xs e = was h xs e
answered_next plan past v new happens (Reporting true host item ticket r items end notified is so) was h xs e =
    elim (put_get v.walked host h (is.answers ++ answer_of end notified ∷ []) xs e) [
      | inl w ↦ ends_with (Reports host item ticket.0 ∷ past) host h v.play r.place end notified is.answers xs (was host is.answers is.answered) w
      | inr w ↦ ends_other (Reports host item ticket.0 ∷ past) host h v.play r.place end notified w.0 ∙ was h xs w.1
    ]
answered_next plan past v new happens (Reporting false host item ticket r items end notified is so) was h xs e =
    elim (put_get v.walked host h is.answers xs e) [ inl w ↦ ap (λ (k : ℕ). answers k past) w.0 ∙ was host is.answers is.answered ∙ w.1 | inr w ↦ was h xs w.1 ]
answered_next plan past v new happens (Turning more happenings opened given is) was h xs e =
    ap (λ (k : ℕ). answers k (so_far past happens)) (let same : h ≡ 0 + h = omega arith in same)
    ∙ led_answers plan v.play 0 v.walked happens is.walked is.led past (answers_of past v.walked was) h xs e
answered_next plan past v new happens (Closing tasks inside waiting is) was h xs e = sym (is.fresh h xs e)
answered_next plan past v new happens Stopping was h xs e = was h xs e
answered_next plan past v new happens (Forking n) was h xs e = was h xs e

-- how many tasks a host runs
one_same : (h : ℕ) → one_if (h == h) ≡ 1
one_same h = ap one_if (same_self h)

one_apart : (host h : ℕ) → h ≢ host → one_if (host == h) ≡ 0
one_apart host h d = ap one_if (apart host h (λ same. d (sym same)))

put_apart : {A : Type 0} (xs : List A) (h k : ℕ) (x : A) → k ≢ h → slice_get (put xs h x) k ≡ slice_get xs k
put_apart [] h k x d = refl
put_apart (y ∷ ys) zero zero x d = absurd (d refl)
put_apart (y ∷ ys) zero (suc k) x d = refl
put_apart (y ∷ ys) (suc h) zero x d = refl
put_apart (y ∷ ys) (suc h) (suc k) x d = put_apart ys h k x (λ same. d (ap suc same))

idle_busy : (tasks : List (Option Running)) (h : ℕ) → list_any is_some tasks ≡ false → busy (slice_get tasks h) ≡ 0
unfolding busy
idle_busy [] h idle = refl
idle_busy (None ∷ tasks) zero idle = refl
idle_busy (None ∷ tasks) (suc h) idle = idle_busy tasks h idle
idle_busy (Some r ∷ tasks) h idle = cc

-- one host's task begins or ends; the others run what they ran
began : (past : List Happening) (tasks : List (Option Running)) (host h play place : ℕ) (old : Option Running) (r : Running) → slice_get tasks host ≡ Some None → ((k : ℕ) → running (is_of k) past ≡ busy (slice_get tasks k))
    → running (is_of h) (Starts (record { play = play; host = host; place = place }) ∷ past) ≡ busy (slice_get (put tasks host (Some r)) h)
unfolding busy
began past tasks host h play place old r there was = by_host (same_or_apart h host)
  where
    by_host : (h ≡ host) ⊎ (h ≢ host) → running (is_of h) (Starts (record { play = play; host = host; place = place }) ∷ past) ≡ busy (slice_get (put tasks host (Some r)) h)
    by_host (inl same) =
        let before : running (is_of h) past ≡ 0 = was h ∙ ap (λ (k : ℕ). busy (slice_get tasks k)) same ∙ ap busy there in
        let counts_it : one_if (host == h) ≡ 1 = ap (λ (k : ℕ). one_if (host == k)) same ∙ one_same host in
        let now : busy (slice_get (put tasks host (Some r)) h) ≡ 1 = ap (λ (k : ℕ). busy (slice_get (put tasks host (Some r)) k)) same ∙ ap busy (put_there tasks host (Some r) None there) in
        omega (arith, before, counts_it, now)
    by_host (inr other) =
        let before = was h in
        let free = one_apart host h other in
        let now = ap busy (put_apart tasks host h (Some r) other) in
        omega (arith, before, free, now)

ended : (past : List Happening) (tasks : List (Option Running)) (host h play place : ℕ) (end : TaskEnd) (notified : List ℕ) (r : Running) → slice_get tasks host ≡ Some (Some r)
    → ((k : ℕ) → running (is_of k) past ≡ busy (slice_get tasks k)) → running (is_of h) (Ends (record { play = play; host = host; place = place }) end notified ∷ past) ≡ busy (slice_get (put tasks host None) h)
unfolding busy
ended past tasks host h play place end notified r there was = by_host (same_or_apart h host)
  where
    by_host : (h ≡ host) ⊎ (h ≢ host) → running (is_of h) (Ends (record { play = play; host = host; place = place }) end notified ∷ past) ≡ busy (slice_get (put tasks host None) h)
    by_host (inl same) =
        let before : running (is_of h) past ≡ 1 = was h ∙ ap (λ (k : ℕ). busy (slice_get tasks k)) same ∙ ap busy there in
        let counts_it : one_if (host == h) ≡ 1 = ap (λ (k : ℕ). one_if (host == k)) same ∙ one_same host in
        let now : busy (slice_get (put tasks host None) h) ≡ 0 = ap (λ (k : ℕ). busy (slice_get (put tasks host None) k)) same ∙ ap busy (put_there tasks host None (Some r) there) in
        omega (arith, before, counts_it, now)
    by_host (inr other) =
        let before = was h in
        let free = one_apart host h other in
        let now = ap busy (put_apart tasks host h None other) in
        omega (arith, before, free, now)

-- one that goes on is one still
kept_on : (past : List Happening) (tasks : List (Option Running)) (host h : ℕ) (old new : Option Running) → slice_get tasks host ≡ Some old → busy (Some old) ≡ busy (Some new) → ((k : ℕ) → running (is_of k) past ≡ busy (slice_get tasks k))
    → running (is_of h) past ≡ busy (slice_get (put tasks host new) h)
kept_on past tasks host h old new there same_busy was = by_host (same_or_apart h host)
  where
    by_host : (h ≡ host) ⊎ (h ≢ host) → running (is_of h) past ≡ busy (slice_get (put tasks host new) h)
    by_host (inl same) =
        was h ∙ ap (λ (k : ℕ). busy (slice_get tasks k)) same ∙ ap busy there ∙ same_busy ∙ sym (ap busy (put_there tasks host new old there)) ∙ ap (λ (k : ℕ). busy (slice_get (put tasks host new) k)) (sym same)
    by_host (inr other) = was h ∙ sym (ap busy (put_apart tasks host h new other))

-- a task that ends as it starts
at_once : (past : List Happening) (h : ℕ) (task : HostTask) (end : TaskEnd) (notified : List ℕ) → running (is_of h) (Ends task end notified ∷ Starts task ∷ past) ≡ running (is_of h) past
at_once past h task end notified = omega arith

one_next : (plan : PlanOf) (past : List Happening) (v new : Seen) (happens : List Happening) → Tells plan v happens new → (v.is_open ≡ false → list_any is_some v.tasks ≡ false)
    → ((h : ℕ) → running (is_of h) past ≡ busy (slice_get v.tasks h)) → (h : ℕ) → running (is_of h) (so_far past happens) ≡ busy (slice_get new.tasks h)
unfolding busy
one_next plan past v new happens (Opening n more tasks inside waiting is) idle was h = was h ∙ idle_busy v.tasks h (idle is.shut) ∙ sym (idle_busy tasks h is.idle)
one_next plan past v new happens (Starting true host place items end notified is so) idle was h = at_once past h (task_on v host place) end notified ∙ kept_on past v.tasks host h None None is.idle refl was
one_next plan past v new happens (Starting false host place items end notified is so) idle was h = began past v.tasks host h v.play place None (record { place = place; items = items; out = None }) is.idle was
one_next plan past v new happens (Sending host item attempt ticket r is) idle was h = kept_on past v.tasks host h (Some r) (Some (record r { out = Some ticket })) is.there refl was
one_next plan past v new happens (Reporting true host item ticket r items end notified is so) idle was h = ended (Reports host item ticket.0 ∷ past) v.tasks host h v.play r.place end notified r is.there was
one_next plan past v new happens (Reporting false host item ticket r items end notified is so) idle was h = kept_on past v.tasks host h (Some r) (Some (record { place = r.place; items = items; out = None })) is.there refl was
one_next plan past v new happens (Turning more happenings opened given is) idle was h = given_same (running (is_of h)) (λ before done how. refl) past happens given ∙ was h
one_next plan past v new happens (Closing tasks inside waiting is) idle was h = was h ∙ idle_busy v.tasks h is.before ∙ sym (idle_busy tasks h is.idle)
one_next plan past v new happens Stopping idle was h = was h
one_next plan past v new happens (Forking n) idle was h = was h

-- ---- no host goes back
at_of : (r : Reach) (p : ℕ) → place_of r ≡ Some p → r ≡ At p
at_of (At q) p e = ap At (let same : q ≡ p = cc in same)
at_of (Done ending) p e = cc

pub counts_all : (any halted : Bool) → halted ≡ false → not (any && halted) ≡ true
counts_all true halted e = rw e refl
counts_all false halted e = refl

above : (r : Reach) (p q : ℕ) → IsAbove p r → place_of r ≡ Some q → p < q
above (At k) p q a e = let same : k ≡ q = cc in omega (arith, a, same)
above (Done ending) p q a e = cc

-- an answer of a task leads further on
leads_further : (plan : PlanOf) (play place q : ℕ) (xs : List AnswerOf) (end : TaskEnd) (notified : List ℕ) → leads plan play xs ≡ Some place → leads plan play (xs ++ answer_of end notified ∷ []) ≡ Some q → place < q
leads_further plan play place q xs end notified at to =
    above (reach (tree_at plan play) (xs ++ answer_of end notified ∷ [])) place q
    (tree_rises (tree_at plan play) xs (answer_of end notified) place (at_of (reach (tree_at plan play) xs) place at) (counts_all (list_any (λ (b : AnswerOf). is_halted b.kind) xs) (is_halted (kind_of end)) (not_halted end))) to

behind_more : (plan : PlanOf) (v : Seen) (host place : ℕ) (xs : List AnswerOf) (end : TaskEnd) (notified : List ℕ) → slice_get v.walked host ≡ Some xs → leads plan v.play xs ≡ Some place
    → AreBehind plan v.play v.inside v.walked v.place → AreBehind plan v.play v.inside (put v.walked host (xs ++ answer_of end notified ∷ [])) v.place
behind_more plan v host place xs end notified there at was = λ linear h ys p q inside got to current.
    elim (put_get v.walked host h (xs ++ answer_of end notified ∷ []) ys got) [
      | inl w ↦
          let further = leads_further plan v.play place q xs end notified at (ap (leads plan v.play) w.1 ∙ to) in
          let before = was linear host xs p place (ap (is_member v.inside) (sym w.0) ∙ inside) there at current in
          omega (arith, further, before)
      | inr w ↦ was linear h ys p q inside w.1 to current
    ]

behind_same : (plan : PlanOf) (v : Seen) (host : ℕ) (xs : List AnswerOf) → slice_get v.walked host ≡ Some xs
    → AreBehind plan v.play v.inside v.walked v.place → AreBehind plan v.play v.inside (put v.walked host xs) v.place
behind_same plan v host xs there was = λ linear h ys p q inside got to current.
    elim (put_get v.walked host h xs ys got) [
      | inl w ↦ was linear h ys p q inside (ap (slice_get v.walked) w.0 ∙ there ∙ ap (λ (zs : List AnswerOf). Some zs) w.1) to current
      | inr w ↦ was linear h ys p q inside w.1 to current
    ]

behind_next : (plan : PlanOf) (v new : Seen) (happens : List Happening) → Tells plan v happens new → (v.is_open ≡ true → AreBehind plan v.play v.inside v.walked v.place)
    → new.is_open ≡ true → AreBehind plan new.play new.inside new.walked new.place
behind_next plan v new happens (Opening n more tasks inside waiting is) was o = is.behind
behind_next plan v new happens (Starting true host place items end notified is so) was o = behind_more plan v host place is.answers end notified is.answered is.at (was o)
behind_next plan v new happens (Starting false host place items end notified is so) was o = behind_same plan v host is.answers is.answered (was o)
behind_next plan v new happens (Sending host item attempt ticket r is) was o = was o
behind_next plan v new happens (Reporting true host item ticket r items end notified is so) was o = behind_more plan v host r.place is.answers end notified is.answered is.at (was o)
behind_next plan v new happens (Reporting false host item ticket r items end notified is so) was o = behind_same plan v host is.answers is.answered (was o)
behind_next plan v new happens (Turning more happenings opened given is) was o = is.behind
behind_next plan v new happens (Closing tasks inside waiting is) was o = absurd (let shut : false ≡ true = o in cc)
behind_next plan v new happens Stopping was o = was o
behind_next plan v new happens (Forking n) was o = was o

-- ---- the laws
each_from : (test : ℕ → Bool) (k : ℕ) (hosts : List Bool) → ((h : ℕ) → is_member hosts h ≡ true → test (k + h) ≡ true) → each_host test k hosts ≡ true
each_from test k [] holds = refl
each_from test k (inside ∷ hosts) holds =
    both (not inside || test k) (each_host test (k + 1) hosts) (by_inside inside (λ i. ap test (let same : k ≡ k + 0 = omega arith in same) ∙ holds 0 i))
    (each_from test (k + 1) hosts (λ h i. ap test (let same : (k + 1) + h ≡ k + suc h = omega arith in same) ∙ holds (suc h) i))
  where
    by_inside : (b : Bool) → (b ≡ true → test k ≡ true) → (not b || test k) ≡ true
    by_inside true e = e refl
    by_inside false e = refl

not_linear_or : (linear rest : Bool) → (linear ≡ true → rest ≡ true) → (not linear || rest) ≡ true
not_linear_or true rest e = e refl
not_linear_or false rest e = refl

at_least : (p : ℕ) (next : Option ℕ) → ((q : ℕ) → next ≡ Some q → p ≤ q) → option_map_or (λ q. nat_le p q) next true ≡ true
at_least p None e = refl
at_least p (Some q) e = le-leb p q (e q refl)

start_in_order : (plan : PlanOf) (past : List Happening) (v : Seen) (host place : ℕ) → IsStarting plan v host place → Walks plan past v → in_order plan past (Starts (task_on v host place)) ≡ true
unfolding busy
start_in_order plan past v host place is walks =
    both (stands_at plan (task_on v host place) past && (running (is_of host) past == 0)) (not (is_linear_play plan v.play) || each_host (is_not_before plan (task_on v host place) past) 0 (batch_of v.play past))
    (both (stands_at plan (task_on v host place) past) (running (is_of host) past == 0) (stands_there plan v.play host place past is.answers (walks.answered host is.answers is.answered) is.at)
    (eq-eqb (running (is_of host) past) 0 (walks.one host ∙ ap busy is.idle)))
    (not_linear_or (is_linear_play plan v.play) (each_host (is_not_before plan (task_on v host place) past) 0 (batch_of v.play past))
    (λ linear. ap (each_host (is_not_before plan (task_on v host place) past) 0) (walks.batch is.opened)
    ∙ each_from (is_not_before plan (task_on v host place) past) 0 v.inside
    (λ h inside. ap (is_not_before plan (task_on v host place) past) (let same : 0 + h ≡ h = omega arith in same) ∙ not_before linear h inside)))
  where
    not_before : is_linear_play plan v.play ≡ true → (h : ℕ) → is_member v.inside h ≡ true → is_not_before plan (task_on v host place) past h ≡ true
    not_before linear h inside =
        let known = is.known h inside in
        at_least place (leads_to plan v.play h past)
        (λ q to. walks.behind is.opened linear h known.0 place q inside known.1 (sym (ap (leads plan v.play) (walks.answered h known.0 known.1)) ∙ to) (is.current linear))

order_holds : (plan : PlanOf) (past : List Happening) (v new : Seen) (happens : List Happening) → Tells plan v happens new → Walks plan past v → holds_from (in_order plan) past happens ≡ true
unfolding AreAnswers
order_holds plan past v new happens (Opening n more tasks inside waiting is) walks = refl
order_holds plan past v new happens (Starting true host place items end notified is so) walks =
    both (in_order plan past (Starts (task_on v host place))) (in_order plan (Starts (task_on v host place) ∷ past) (Ends (task_on v host place) end notified) && true) (start_in_order plan past v host place is walks)
    (both (in_order plan (Starts (task_on v host place) ∷ past) (Ends (task_on v host place) end notified)) true
    (both (stands_at plan (task_on v host place) past) (is_same_task (task_on v host place) (task_on v host place) || runs (task_on v host place) past)
    (stands_there plan v.play host place past is.answers (walks.answered host is.answers is.answered) is.at)
    (or_first (is_same_task (task_on v host place) (task_on v host place)) (runs (task_on v host place) past) (task_self (task_on v host place)))) refl)
order_holds plan past v new happens (Starting false host place items end notified is so) walks = both (in_order plan past (Starts (task_on v host place))) true (start_in_order plan past v host place is walks) refl
order_holds plan past v new happens (Sending host item attempt ticket r is) walks = refl
order_holds plan past v new happens (Reporting true host item ticket r items end notified is so) walks =
    both (in_order plan (Reports host item ticket.0 ∷ past) (Ends (task_on v host r.place) end notified)) true
    (both (stands_at plan (task_on v host r.place) past) (runs (task_on v host r.place) past) (stands_there plan v.play host r.place past is.answers (walks.answered host is.answers is.answered) is.at) (walks.run host r is.there)) refl
order_holds plan past v new happens (Reporting false host item ticket r items end notified is so) walks = refl
order_holds plan past v new happens (Turning more happenings opened given is) walks =
    led_holds plan v.play 0 v.walked happens is.walked is.led past (answers_of past v.walked walks.answered)
order_holds plan past v new happens (Closing tasks inside waiting is) walks = refl
order_holds plan past v new happens Stopping walks = refl
order_holds plan past v new happens (Forking n) walks = refl

walked_holds : (plan : PlanOf) (past : List Happening) (v new : Seen) (happens : List Happening) → Tells plan v happens new → Walks plan past v → holds_from (have_walked plan) past happens ≡ true
walked_holds plan past v new happens (Opening n more tasks inside waiting is) walks = refl
walked_holds plan past v new happens (Starting true host place items end notified is so) walks = refl
walked_holds plan past v new happens (Starting false host place items end notified is so) walks = refl
walked_holds plan past v new happens (Sending host item attempt ticket r is) walks = refl
walked_holds plan past v new happens (Reporting true host item ticket r items end notified is so) walks = refl
walked_holds plan past v new happens (Reporting false host item ticket r items end notified is so) walks = refl
walked_holds plan past v new happens (Turning more happenings opened given is) walks = given_holds (have_walked plan) (λ before task how. refl) past happens given
walked_holds plan past v new happens (Closing tasks inside waiting is) walks =
    both (each_host (λ host. is_none (leads_to plan v.play host past)) 0 (batch_of v.play past)) true
    (ap (each_host (λ host. is_none (leads_to plan v.play host past)) 0) (walks.batch is.opened)
    ∙ each_from (λ host. is_none (leads_to plan v.play host past)) 0 v.inside
    (λ h i. ap (λ (host : ℕ). is_none (leads_to plan v.play host past)) (let same : 0 + h ≡ h = omega arith in same)
    ∙ (let known = is.known h i in ap is_none (ap (leads plan v.play) (walks.answered h known.0 known.1) ∙ is.done h known.0 i known.1)))) refl
walked_holds plan past v new happens Stopping walks = refl
walked_holds plan past v new happens (Forking n) walks = refl

pub first_fresh : (h n k : ℕ) (xs : List AnswerOf) → slice_get (walked_of (first_rows h n)) k ≡ Some xs → [] ≡ xs
first_fresh h zero k xs e = cc
first_fresh h (suc n) zero xs e = let same : [] ≡ xs = cc in same
first_fresh h (suc n) (suc k) xs e = first_fresh (h + 1) n k xs e

walks_first : (plan : PlanOf) (forks pool : ℕ) → Walks plan (MayRun forks ∷ []) (seen (first_state plan forks pool))
walks_first plan forks pool =
    record {
      answered = λ h xs e. first_fresh 0 (length plan.inventory.hosts) h xs e;
      batch = λ o. cc;
      run = λ h r e. absurd (idle_none (tasks_of (first_rows 0 (length plan.inventory.hosts))) h r (first_idle 0 (length plan.inventory.hosts)) e);
      one = λ h. sym (idle_busy (tasks_of (first_rows 0 (length plan.inventory.hosts))) h (first_idle 0 (length plan.inventory.hosts)));
      idle = λ shut. first_idle 0 (length plan.inventory.hosts);
      behind = λ o. absurd (let shut : false ≡ true = o in cc);
    }

walks_next : (plan : PlanOf) (past : List Happening) (v new : Seen) (happens : List Happening) → Tells plan v happens new → Walks plan past v → Walks plan (so_far past happens) new
walks_next plan past v new happens tells walks =
    record {
      answered = answered_next plan past v new happens tells walks.answered;
      batch = batch_next plan past v new happens tells walks.batch;
      run = run_next plan past v new happens tells walks.run;
      one = one_next plan past v new happens tells walks.idle walks.one;
      idle = idle_next plan v new happens tells walks.idle;
      behind = behind_next plan v new happens tells walks.behind;
    }

pub hosts_keep_order : Always in_order
hosts_keep_order =
    always in_order Walks
    (record {
      begins = λ plan n. refl;
      first = walks_first;
      now = λ plan past v new happens tells walks. order_holds plan past v new happens tells walks;
      next = λ plan past v new happens tells walks. walks_next plan past v new happens tells walks;
    })

pub batches_are_walked : Always have_walked
batches_are_walked =
    always have_walked Walks
    (record {
      begins = λ plan n. refl;
      first = walks_first;
      now = λ plan past v new happens tells walks. walked_holds plan past v new happens tells walks;
      next = λ plan past v new happens tells walks. walks_next plan past v new happens tells walks;
    })
