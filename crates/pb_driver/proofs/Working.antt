-- Workers that are started, do their work and come back.
use Rattle.std.proofs.Common.{◌≡◌, ℕ, zero, suc, ◌<◌, Bool, true, false, List, [], ◌∷◌, ◌++◌, map, reverse, length, refl, sym, ◌∙◌, ap, subst, arith, append_assoc, length-append}
use Rattle.std.proofs.lemmas.List.{append-nil, map-append, length-map, length-reverse, reverse-append, reverse-reverse}
use Rattle.std.proofs.lemmas.List.Sorted.{IsPermutation-refl}
use Rattle.std.specs.Prelude.{All, IsPermutation, Some, slice_get, slice_index_or}
use Rattle.std.specs.declared.thread.PromisedHandle.{PromisedHandle}
use Rattle.pb_forks.specs.declared.seats.ForkSeat.{ForkSeat}
use Rattle.pb_forks.specs.declared.seats.MainSeat.{MainSeat}
use Rattle.pb_forks.specs.declared.seats.Pool.{Pool}
use Rattle.pb_forks.specs.declared.closed.PoolEnd.{PoolEnd}
use Rattle.pb_forks.specs.declared.views.Entry.{Entry}
use Rattle.pb_forks.specs.declared.views.ForkView.{ForkView}
use Rattle.pb_forks.specs.declared.views.MainView.{MainView}
use Rattle.pb_forks.specs.declared.views.Lodged.TheVariants.{Here}
use Rattle.pb_forks.specs.Ends.{end_view, end_word, IsJoined, EndedFork, EndedShut, HasEqualLists}
use Rattle.pb_forks.specs.Logs.{offers_of, collects_of, IsBeginning}
use Rattle.pb_forks.specs.Mailbox.{HasLists}
use Rattle.pb_forks.specs.Seats.{fork_view, main_view, number, forks_of, IsForkOf, IsFreshOf, IsEachOnce, IsMainOf}
use Rattle.pb_forks.specs.Views.{fresh, upto}
use Rattle.pb_outcome.specs.declared.job.Job.{Job}
use Rattle.pb_outcome.specs.declared.job.Report.{Report}
use Rattle.pb_outcome.specs.declared.outcome.Form.{Form}
use Rattle.pb_runner.specs.Served.{HasServed}
use Rattle.pb_driver.specs.declared.workers.Back.{Back}
use Rattle.pb_driver.specs.declared.workers.Worker.{Worker}
use Rattle.pb_driver.specs.Workers.{AllShut, AreFresh, AreWorks, AreWorkersOf, ArePaired, HasItsShare, HaveShares, IsLeft, IsStarted, IsWorkOf, began, runner_of, seat_of}

-- ---- lists
pub reverse_snoc : {X : Type 0} (xs : List X) (x : X) → reverse (xs ++ x ∷ []) ≡ x ∷ reverse xs
reverse_snoc xs x = reverse-append xs (x ∷ [])

pub map_reverse : {X Y : Type 0} (f : X → Y) (xs : List X) → map f (reverse xs) ≡ reverse (map f xs)
map_reverse f [] = refl
map_reverse f (x ∷ xs) =
    ap (map f) (reverse-append (x ∷ []) xs) ∙ map-append f (reverse xs) (x ∷ []) ∙ ap (λ l. l ++ f x ∷ []) (map_reverse f xs) ∙ sym (reverse-append (f x ∷ []) (map f xs))

-- one that is popped and one that is pushed
pub moved_one : {X Y : Type 0} (f : X → Y) (rest : List X) (x : X) (done : List Y) (whole : List Y) → done ++ reverse (map f (rest ++ x ∷ [])) ≡ whole → (done ++ f x ∷ []) ++ reverse (map f rest) ≡ whole
moved_one f rest x done whole was =
    append_assoc done (f x ∷ []) (reverse (map f rest)) ∙ ap (λ l. done ++ l) (sym (reverse_snoc (map f rest) (f x)) ∙ ap reverse (sym (map-append f rest (x ∷ [])))) ∙ was

pub paired_one : {X W : Type 0} (f : W → X) (rest : List X) (x : X) (done : List W) (w : W) (whole : List X) → f w ≡ x → map f done ++ reverse (rest ++ x ∷ []) ≡ whole → map f (done ++ w ∷ []) ++ reverse rest ≡ whole
paired_one f rest x done w whole is was =
    ap (λ l. l ++ reverse rest) (map-append f done (w ∷ []) ∙ ap (λ y. map f done ++ y ∷ []) is) ∙ append_assoc (map f done) (x ∷ []) (reverse rest) ∙ ap (λ l. map f done ++ l) (sym (reverse_snoc rest x)) ∙ was

-- ---- workers
module _ {N : Type 0} (ran : N → List (Job × Form) → N → Type 0) where
  pub works_more : (vs ws : List (Worker N)) (v w : Worker N) → AreWorks ran vs ws → IsWorkOf ran v w → AreWorks ran (vs ++ v ∷ []) (ws ++ w ∷ [])
  works_more [] [] v w are is = (is, tt)
  works_more [] (x ∷ ws) v w are is = absurd are
  works_more (x ∷ vs) [] v w are is = absurd are
  works_more (x ∷ vs) (y ∷ ws) v w are is = (are.0, works_more vs ws v w are.1 is)

  works_both : (vs ws xs ys : List (Worker N)) → AreWorks ran vs ws → AreWorks ran xs ys → AreWorks ran (vs ++ xs) (ws ++ ys)
  works_both [] [] xs ys are more = more
  works_both [] (x ∷ ws) xs ys are more = absurd are
  works_both (x ∷ vs) [] xs ys are more = absurd are
  works_both (x ∷ vs) (y ∷ ws) xs ys are more = (are.0, works_both vs ws xs ys are.1 more)

  pub works_back : (vs ws : List (Worker N)) → AreWorks ran vs ws → AreWorks ran (reverse vs) (reverse ws)
  works_back [] [] are = tt
  works_back [] (x ∷ ws) are = absurd are
  works_back (x ∷ vs) [] are = absurd are
  works_back (v ∷ vs) (w ∷ ws) are =
      subst (λ l. AreWorks ran l (reverse (w ∷ ws))) (sym (reverse-append (v ∷ []) vs))
      (subst (AreWorks ran (reverse vs ++ v ∷ [])) (sym (reverse-append (w ∷ []) ws)) (works_more (reverse vs) (reverse ws) v w (works_back vs ws are.1) are.0))

  pub works_same : ((r : N) → ran r [] r) → (ws : List (Worker N)) → AreWorks ran ws ws
  works_same none [] = tt
  works_same none (w ∷ ws) = (((refl, refl), ([], none w.runner, sym (append-nil (fork_view w.seat).takes), sym (append-nil (fork_view w.seat).answers))), works_same none ws)

  pub works_many : (vs ws : List (Worker N)) → AreWorks ran vs ws → length ws ≡ length vs
  works_many [] [] are = refl
  works_many [] (x ∷ ws) are = absurd are
  works_many (x ∷ vs) [] are = absurd are
  works_many (v ∷ vs) (w ∷ ws) are = ap suc (works_many vs ws are.1)

  pub works_numbers : (vs ws : List (Worker N)) → AreWorks ran vs ws → map (λ (w : Worker N). number w.seat) ws ≡ map (λ (w : Worker N). number w.seat) vs
  works_numbers [] [] are = refl
  works_numbers [] (x ∷ ws) are = absurd are
  works_numbers (x ∷ vs) [] are = absurd are
  works_numbers (v ∷ vs) (w ∷ ws) are = λ i. are.0.0.1 i ∷ works_numbers vs ws are.1 i

  pub works_of : (pool : Pool N) (vs ws : List (Worker N)) → AreWorkersOf pool vs → AreWorks ran vs ws → AreWorkersOf pool ws
  works_of pool [] [] of are = tt
  works_of pool [] (x ∷ ws) of are = absurd are
  works_of pool (x ∷ vs) [] of are = absurd are
  works_of pool (v ∷ vs) (w ∷ ws) of are = (are.0.0.0 ∙ of.0, works_of pool vs ws of.1 are.1)

  -- all have threads
  pub started_none : (all : List (Worker N)) (handles : List (PromisedHandle (Worker N) (Back N))) → all ≡ [] ++ reverse (map began handles) → IsStarted ran all [] handles
  started_none all handles is = ([], [], [], tt, refl, is)

  -- one for which none could be made is back in its place
  pub started_back : (all rest : List (Worker N)) (v w : Worker N) (handles : List (PromisedHandle (Worker N) (Back N))) → IsWorkOf ran v w
      → all ≡ (rest ++ v ∷ []) ++ reverse (map began handles) → IsStarted ran all (rest ++ w ∷ []) handles
  started_back all rest v w handles is split = (rest, v ∷ [], w ∷ [], (is, tt), refl, split)

  -- one comes back from its thread
  pub joined_one : (all left : List (Worker N)) (others : List (PromisedHandle (Worker N) (Back N))) (h : PromisedHandle (Worker N) (Back N)) (w : Worker N) → IsWorkOf ran (began h) w
      → IsStarted ran all left (others ++ h ∷ []) → IsStarted ran all (left ++ w ∷ []) others
  joined_one all left others h w is started =
      let rest = started.0 in
      let tried = started.1 in
      let back = started.2 in (
        rest,
        tried ++ began h ∷ [],
        back ++ w ∷ [],
        works_more tried back (began h) w started.3 is,
        ap (λ l. l ++ w ∷ []) started.4 ∙ append_assoc rest back (w ∷ []),
        sym (ap (λ l. l ++ reverse (map began others)) (sym (append_assoc rest tried (began h ∷ []))) ∙ moved_one began others h (rest ++ tried) all (sym started.5)),
      )

  pub joined_all : ((r : N) → ran r [] r) → (all left : List (Worker N)) → IsStarted ran all left [] → AreWorks ran all left
  joined_all none all left started =
      let rest = started.0 in
      let tried = started.1 in
      let back = started.2 in
      let is : all ≡ rest ++ tried = started.5 ∙ append-nil (rest ++ tried) in
      subst (λ l. AreWorks ran l left) (sym is) (subst (AreWorks ran (rest ++ tried)) (sym started.4) (works_both rest rest tried back (works_same none rest) started.3))

-- the last one goes to a thread
pub started_one : {N : Type 0} (all rest : List (Worker N)) (v : Worker N) (handles : List (PromisedHandle (Worker N) (Back N))) (h : PromisedHandle (Worker N) (Back N)) → began h ≡ v
    → all ≡ (rest ++ v ∷ []) ++ reverse (map began handles) → all ≡ rest ++ reverse (map began (handles ++ h ∷ []))
started_one all rest v handles h is split =
    split ∙ append_assoc rest (v ∷ []) (reverse (map began handles))
    ∙ ap (λ l. rest ++ l) (ap (λ w. w ∷ reverse (map began handles)) (sym is) ∙ sym (reverse_snoc (map began handles) (began h)) ∙ ap reverse (sym (map-append began handles (h ∷ []))))

pub last_worker : {N : Type 0} (pool : Pool N) (rest : List (Worker N)) (w : Worker N) → AreWorkersOf pool (rest ++ w ∷ []) → AreWorkersOf pool rest × IsForkOf pool w.seat
last_worker pool [] w are = (tt, are.0)
last_worker pool (v ∷ rest) w are = let more = last_worker pool rest w are.1 in ((are.0, more.0), more.1)

pub fresh_of : {N : Type 0} (pool : Pool N) (ws : List (Worker N)) → AreFresh pool ws → AreWorkersOf pool ws
fresh_of pool [] are = tt
fresh_of pool (w ∷ ws) are = (are.0.0, fresh_of pool ws are.1)

-- whether all workers were started, or all forks were shut: the main seat stays the pool's
pub main_stays : {N : Type 0} (pool : Pool N) (old new : MainSeat) (started : Bool) → IsMainOf pool old → (started ≡ true → new ≡ old) → (started ≡ false → AllShut pool old new) → IsMainOf pool new
main_stays pool old new true main all refused = subst (λ (m : MainSeat). IsMainOf pool m) (sym (all refl)) main
main_stays pool old new false main all refused = (refused refl).0 ∙ main

pub none_left : {X : Type 0} (xs : List X) (n : ℕ) → n ≡ length xs → n ≡ 0 → xs ≡ []
none_left [] n e none = refl
none_left (x ∷ xs) n e none = absurd (omega (arith, e, none))

-- ---- taken apart, in the order of the forks
abbrev fork_number : {N : Type 0} → Worker N → ℕ
fork_number w = number w.seat

all_more : {X : Type 0} (P : X → Type 0) (x : X) (xs : List X) → P x → All P xs → All P (x ∷ xs)
all_more P x xs first rest zero d lt = first
all_more P x xs first rest (suc k) d lt = rest k d (omega (arith, lt))

module _ {N : Type 0} (pool : Pool N) where
  workers_more : (ws : List (Worker N)) (w : Worker N) → AreWorkersOf pool ws → IsForkOf pool w.seat → AreWorkersOf pool (ws ++ w ∷ [])
  workers_more [] w are is = (is, tt)
  workers_more (v ∷ ws) w are is = (are.0, workers_more ws w are.1 is)

  workers_back : (ws : List (Worker N)) → AreWorkersOf pool ws → AreWorkersOf pool (reverse ws)
  workers_back [] are = tt
  workers_back (w ∷ ws) are = subst (AreWorkersOf pool) (sym (reverse-append (w ∷ []) ws)) (workers_more (reverse ws) w (workers_back ws are.1) are.0)

  fresh_more : (ws : List (Worker N)) (w : Worker N) → AreFresh pool ws → IsFreshOf pool w.seat → AreFresh pool (ws ++ w ∷ [])
  fresh_more [] w are is = (is, tt)
  fresh_more (v ∷ ws) w are is = (are.0, fresh_more ws w are.1 is)

  fresh_back : (ws : List (Worker N)) → AreFresh pool ws → AreFresh pool (reverse ws)
  fresh_back [] are = tt
  fresh_back (w ∷ ws) are = subst (AreFresh pool) (sym (reverse-append (w ∷ []) ws)) (fresh_more (reverse ws) w (fresh_back ws are.1) are.0)

  fresh_at : (ws : List (Worker N)) (j : ℕ) (w : Worker N) → AreFresh pool ws → slice_get ws j ≡ Some w → IsFreshOf pool w.seat
  fresh_at [] j w are e = cc
  fresh_at (v ∷ ws) zero w are e = let same : v ≡ w = cc in subst (λ (x : Worker N). IsFreshOf pool x.seat) same are.0
  fresh_at (v ∷ ws) (suc j) w are e = fresh_at ws j w are.1 e

  all_seats : (ws : List (Worker N)) → AreWorkersOf pool ws → All (IsForkOf pool) (map seat_of ws)
  all_seats [] are = λ k d lt. absurd (omega (arith, lt))
  all_seats (w ∷ ws) are = all_more (IsForkOf pool) w.seat (map seat_of ws) are.0 (all_seats ws are.1)

  pub seats_each : (ws : List (Worker N)) → AreWorkersOf pool ws → All (IsForkOf pool) (reverse (map seat_of ws))
  seats_each ws are = subst (All (IsForkOf pool)) (map_reverse seat_of ws) (all_seats (reverse ws) (workers_back ws are))

numbers_of : {N : Type 0} (ws : List (Worker N)) → map number (map seat_of ws) ≡ map (λ (w : Worker N). number w.seat) ws
numbers_of [] = refl
numbers_of (w ∷ ws) = ap (λ l. number w.seat ∷ l) (numbers_of ws)

in_order : {N : Type 0} (k : ℕ) (ws : List (Worker N)) → map (λ (w : Worker N). number w.seat) ws ≡ reverse (upto k) → map (λ (w : Worker N). number w.seat) (reverse ws) ≡ upto k
in_order k ws e = map_reverse (λ w. number w.seat) ws ∙ ap reverse e ∙ reverse-reverse (upto k)

pub seats_once : {N : Type 0} (k : ℕ) (ws : List (Worker N)) → map (λ (w : Worker N). number w.seat) ws ≡ reverse (upto k) → IsEachOnce k (reverse (map seat_of ws))
seats_once k ws e =
    let same : map number (reverse (map seat_of ws)) ≡ upto k = ap (map number) (sym (map_reverse seat_of ws)) ∙ numbers_of (reverse ws) ∙ in_order k ws e in
    subst (λ ns. IsPermutation (upto k) ns) (sym same) (IsPermutation-refl (upto k))

upto_length : (k : ℕ) → length (upto k) ≡ k
upto_length zero = refl
upto_length (suc k) = let e = upto_length k in length-append (upto k) (k ∷ []) ∙ omega arith

pub workers_many : {N : Type 0} (k : ℕ) (ws : List (Worker N)) → map (λ (w : Worker N). number w.seat) ws ≡ reverse (upto k) → length ws ≡ k
workers_many k ws e = sym (length-map ws (λ w. number w.seat)) ∙ ap length e ∙ length-reverse (upto k) ∙ upto_length k

pub seats_many : {N : Type 0} (k : ℕ) (ws : List (Worker N)) → map (λ (w : Worker N). number w.seat) ws ≡ reverse (upto k) → length (reverse (map runner_of ws)) ≡ k
seats_many k ws e = length-reverse (map runner_of ws) ∙ length-map ws runner_of ∙ workers_many k ws e

-- fork j's worker is the one at j
by_last : {X : Type 0} {C : Type 0} (xs : List X) (x y : X) (j : ℕ) → slice_get (xs ++ x ∷ []) j ≡ Some y → (slice_get xs j ≡ Some y → C) → (j ≡ length xs → y ≡ x → C) → C
by_last [] x y zero e front last = last refl (let same : x ≡ y = cc in sym same)
by_last [] x y (suc j) e front last = cc
by_last (z ∷ xs) x y zero e front last = front e
by_last (z ∷ xs) x y (suc j) e front last = by_last xs x y j e front (λ at same. last (ap suc at) same)

upto_at : (k j n : ℕ) → slice_get (upto k) j ≡ Some n → (n ≡ j) × (j < k)
upto_at zero j n e = cc
upto_at (suc k) j n e =
    by_last (upto k) k n j e
    (λ front. let before = upto_at k j n front in (before.0, omega (arith, before.1)))
    (λ at same. let long = upto_length k in (same ∙ omega (arith, at, long), omega (arith, at, long)))

at_map : {X Y : Type 0} (f : X → Y) (xs : List X) (j : ℕ) (x : X) → slice_get xs j ≡ Some x → slice_get (map f xs) j ≡ Some (f x)
at_map f [] j x e = cc
at_map f (y ∷ xs) zero x e = let same : y ≡ x = cc in ap (λ z. Some (f z)) same
at_map f (y ∷ xs) (suc j) x e = at_map f xs j x e

all_at : {X : Type 0} (P : X → Type 0) (xs : List X) (j : ℕ) (x : X) → All P xs → slice_get xs j ≡ Some x → P x
all_at P [] j x all e = cc
all_at P (y ∷ xs) zero x all e = let same : y ≡ x = cc in subst P same (all 0 y (omega arith))
all_at P (y ∷ xs) (suc j) x all e = all_at P xs j x (λ k d lt. all (suc k) d (omega (arith, lt))) e

-- a beginning that is as long is the whole
whole : {X : Type 0} (xs ys : List X) → IsBeginning xs ys → length xs ≡ length ys → ys ≡ xs
whole xs ys begins long =
    let none : begins.0 ≡ [] = none_left begins.0 (length begins.0) refl (let e = ap length begins.1 ∙ length-append xs begins.0 in omega (arith, e, long)) in
    begins.1 ∙ ap (λ l. xs ++ l) none ∙ append-nil xs

same_long : {X Y : Type 0} (f : X → ℕ) (h : Y → ℕ) (xs : List X) (ys : List Y) → map f xs ≡ map h ys → length xs ≡ length ys
same_long f h xs ys e = sym (length-map xs f) ∙ ap length e ∙ length-map ys h

here_same : (p q : ForkView) → Here p ≡ Here q → p ≡ q
here_same p q e = cc

module _ {N : Type 0} (ran : N → List (Job × Form) → N → Type 0) where
  record Found (vs us : List (Worker N)) (j : ℕ) (old new : N) : Type 0 where
    pub v : Worker N
    pub u : Worker N
    pub work : IsWorkOf ran v u
    pub old_is : v.runner ≡ old
    pub new_is : u.runner ≡ new
    pub at_old : slice_get vs j ≡ Some v
    pub at_new : slice_get us j ≡ Some u

  found : (vs us : List (Worker N)) (j : ℕ) (old new : N) → AreWorks ran vs us → slice_get (map runner_of vs) j ≡ Some old → slice_get (map runner_of us) j ≡ Some new → Found vs us j old new
  found [] us j old new are e f = cc
  found (v ∷ vs) [] j old new are e f = absurd are
  found (v ∷ vs) (u ∷ us) zero old new are e f = record { v = v; u = u; work = are.0; old_is = let same : v.runner ≡ old = cc in same; new_is = let same : u.runner ≡ new = cc in same; at_old = refl; at_new = refl }
  found (v ∷ vs) (u ∷ us) (suc j) old new are e f =
      let rest = found vs us j old new are.1 e f in
      record { v = rest.v; u = rest.u; work = rest.work; old_is = rest.old_is; new_is = rest.new_is; at_old = rest.at_old; at_new = rest.at_new }

  -- what the runner of one fork ran is what went to it
  share_of : (allows : Job → Form → Type 0) (j w : ℕ) (log : List Entry) (m : MainView) (p q : ForkView) (old new : N) → HasServed ran old new fresh q → m.log ≡ log → p ≡ q → HasLists allows w (offers_of j m.log) p.takes p.answers (collects_of j m.log)
      → HasEqualLists j m p → HasItsShare ran old new log j
  share_of allows j w log m p q old new served logs same lists equal =
      let offers : offers_of j m.log ≡ p.takes = whole p.takes (offers_of j m.log) lists.taken (sym (same_long (λ (x : Job). x.ticket.0) (λ (x : Job). x.ticket.0) (offers_of j m.log) p.takes equal.0)) in
      let answers : p.answers ≡ collects_of j m.log = whole (collects_of j m.log) p.answers lists.collected (sym (same_long (λ (r : Report). r.ticket.0) (λ (r : Report). r.ticket.0) p.answers (collects_of j m.log) equal.2)) in (
        served.0,
        served.1,
        sym served.2 ∙ ap (λ (x : ForkView). x.takes) (sym same) ∙ sym offers ∙ ap (offers_of j) logs,
        sym served.3 ∙ ap (λ (x : ForkView). x.answers) (sym same) ∙ answers ∙ ap (collects_of j) logs,
      )

  pub shares : (pool : Pool N) (allows : Job → Form → Type 0) (before after : List (Worker N)) (main : MainSeat) (end : PoolEnd) (seats : List ForkSeat) (news : List N) → ArePaired pool before → IsLeft ran pool before main after
      → seats ≡ reverse (map seat_of after) → news ≡ reverse (map runner_of after) → (end_view end).log ≡ (main_view main).log → All (λ (s : ForkSeat). IsJoined (end_view end) (number s) (fork_view s)) seats
      → ((j : ℕ) → j < forks_of pool → (p : ForkView) × IsJoined (end_view end) j p × EndedFork allows j (end_word end j) (end_view end) p) → ((j : ℕ) → j < forks_of pool → slice_index_or (main_view main).seen j 0 ≡ 4 → EndedShut j end)
      → HaveShares ran (reverse (map runner_of before)) news (main_view main).log
  shares pool allows before after main end seats news paired left seats_are news_are logs joined each_ended shut = λ j old new e f.
      let vs = reverse before in
      let us = reverse after in
      let at = found vs us j old new (works_back ran before after left.1) (ap (λ l. slice_get l j) (map_reverse runner_of before) ∙ e) (ap (λ l. slice_get l j) (map_reverse runner_of after ∙ sym news_are) ∙ f) in
      let numbers : map (λ (w : Worker N). number w.seat) vs ≡ upto (forks_of pool) = in_order (forks_of pool) before paired.1 in
      let number_at = upto_at (forks_of pool) j (number at.v.seat) (ap (λ l. slice_get l j) (sym numbers) ∙ at_map (λ (w : Worker N). number w.seat) vs j at.v at.at_old) in
      let unused = fresh_at pool vs j at.v (fresh_back pool before paired.0) at.at_old in
      let here : IsJoined (end_view end) (number at.u.seat) (fork_view at.u.seat) =
      all_at (λ (s : ForkSeat). IsJoined (end_view end) (number s) (fork_view s)) seats j at.u.seat joined (ap (λ l. slice_get l j) (seats_are ∙ sym (map_reverse seat_of after)) ∙ at_map seat_of us j at.u at.at_new) in
      let mine : number at.u.seat ≡ j = at.work.0.1 ∙ number_at.0 in
      let here_j : IsJoined (end_view end) j (fork_view at.u.seat) = subst (λ (n : ℕ). IsJoined (end_view end) n (fork_view at.u.seat)) mine here in
      let ended = shut j number_at.1 (left.2 j number_at.1) in
      let tells = each_ended j number_at.1 in
      let same_p : ended.1 ≡ fork_view at.u.seat = here_same ended.1 (fork_view at.u.seat) (sym ended.2 ∙ here_j) in
      let same_q : tells.0 ≡ ended.1 = here_same tells.0 ended.1 (sym tells.1 ∙ ended.2) in
      let served : HasServed ran at.v.runner at.u.runner fresh (fork_view at.u.seat) = subst (λ (p : ForkView). HasServed ran at.v.runner at.u.runner p (fork_view at.u.seat)) unused.1 at.work.1 in
      let from : HasServed ran old new fresh (fork_view at.u.seat) = subst (λ (r : N). HasServed ran old r fresh (fork_view at.u.seat)) at.new_is (subst (λ (r : N). HasServed ran r at.u.runner fresh (fork_view at.u.seat)) at.old_is served) in
      share_of allows j (end_word end j) (main_view main).log (end_view end) ended.1 (fork_view at.u.seat) old new from logs same_p
      (subst (λ (p : ForkView). HasLists allows (end_word end j) (offers_of j (end_view end).log) p.takes p.answers (collects_of j (end_view end).log)) same_q tells.2.lists) ended.3

-- ---- a pool before its run
pub seats_long : (seats : List ForkSeat) (k : ℕ) → map number seats ≡ upto k → length seats ≡ k
seats_long seats k e = sym (length-map seats number) ∙ ap length e ∙ upto_length k

fresh_each : {N : Type 0} (pool : Pool N) (ws : List (Worker N)) → ((j : ℕ) (s : ForkSeat) → slice_get (map seat_of ws) j ≡ Some s → IsFreshOf pool s) → AreFresh pool ws
fresh_each pool [] each = tt
fresh_each pool (w ∷ ws) each = (each 0 w.seat refl, fresh_each pool ws (λ j s e. each (suc j) s e))

-- what is at some place of a list's reverse is in the list
all_snoc : {X : Type 0} (P : X → Type 0) (xs : List X) (x : X) → All P xs → P x → All P (xs ++ x ∷ [])
all_snoc P [] x all is = all_more P x [] is all
all_snoc P (y ∷ xs) x all is = all_more P y (xs ++ x ∷ []) (all 0 y (omega arith)) (all_snoc P xs x (λ k d lt. all (suc k) d (omega (arith, lt))) is)

all_back : {X : Type 0} (P : X → Type 0) (xs : List X) → All P xs → All P (reverse xs)
all_back P [] all = all
all_back P (x ∷ xs) all = subst (All P) (sym (reverse-append (x ∷ []) xs)) (all_snoc P (reverse xs) x (all_back P xs (λ k d lt. all (suc k) d (omega (arith, lt)))) (all 0 x (omega arith)))

pub paired_fresh : {N : Type 0} (pool : Pool N) (k : ℕ) (seats : List ForkSeat) (ws : List (Worker N)) → forks_of pool ≡ k → All (IsFreshOf pool) seats → map number seats ≡ upto k → map seat_of ws ≡ reverse seats → ArePaired pool ws
paired_fresh pool k seats ws same all numbers is = (
  fresh_each pool ws (λ j s e. all_at (IsFreshOf pool) (reverse seats) j s (all_back (IsFreshOf pool) seats all) (ap (λ l. slice_get l j) (sym is) ∙ e)),
  sym (numbers_of ws) ∙ ap (map number) is ∙ map_reverse number seats ∙ ap reverse (numbers ∙ ap upto (sym same)),
)

-- ---- and after it
pub left_workers : {N : Type 0} (ran : N → List (Job × Form) → N → Type 0) (pool : Pool N) (before after : List (Worker N)) (main : MainSeat) → ArePaired pool before → IsLeft ran pool before main after
    → AreWorkersOf pool after × (map (λ (w : Worker N). number w.seat) after ≡ reverse (upto (forks_of pool)))
left_workers ran pool before after main paired left = (works_of ran pool before after (fresh_of pool before paired.0) left.1, works_numbers ran before after left.1 ∙ paired.1)

pub runners_back : {N : Type 0} (before : List (Worker N)) (olds : List N) → map runner_of before ≡ reverse olds → reverse (map runner_of before) ≡ olds
runners_back before olds e = ap reverse e ∙ reverse-reverse olds

pub paired_many : {N : Type 0} (ws : List (Worker N)) (seats : List ForkSeat) → map seat_of ws ≡ reverse seats → length ws ≡ length seats
paired_many ws seats e = sym (length-map ws seat_of) ∙ ap length e ∙ length-reverse seats
