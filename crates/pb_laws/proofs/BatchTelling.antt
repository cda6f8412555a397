-- What batches tell: a turn, a batch that opens and one that closes; and so each event that is possible tells what one of the cases says.
use Rattle.std.proofs.Common.{◌≡◌, ℕ, zero, suc, ◌+◌, ◌≤◌, Bool, true, false, ◌&&◌, not, List, [], ◌∷◌, ◌++◌, map, length, drop, refl, sym, ◌∙◌, ap, subst, arith, append_assoc, append-nil, ◌⊎◌, inl, inr}
use Rattle.std.specs.Prelude.{Option, Some, None, slice_get, is_some, is_none, if◌then◌else◌}
use Rattle.std.specs.List.{list_any}
use Rattle.std.specs.Option.{option_map_or}
use Rattle.pb_inventory.specs.InventoryOf.{InventoryOf}
use Rattle.pb_planes.specs.Set.{is_in as is_member}
use Rattle.pb_plan.specs.Plan.{PlayOf, PlanOf}
use Rattle.pb_strategies.specs.declared.strategy.Strategy.{Strategy}
use Rattle.pb_strategies.specs.MayStart.{is_linear}
use Rattle.pb_tree.specs.Answer.{AnswerOf}
use Rattle.pb_tree.specs.declared.answer.Kind.{Kind}
use Rattle.pb_tree.specs.Tree.{TreeOf}
use Rattle.pb_tree.specs.Walk.{reach, status_now}
use Rattle.pb_state.specs.declared.event.Event.{Event}
use Rattle.pb_state.specs.declared.event.Event.TheVariants.{Open, Start, Send, Report as Reported, Turn, Close, Stop, Forks}
use Rattle.pb_hosts.specs.Batches.{has_batch_left, joins, room_behind, joined_first}
use Rattle.pb_host.specs.Runs.{is_running}
use Rattle.pb_hosts.specs.Hosts.{least_place}
use Rattle.pb_state.specs.Machine.{possible, after, first_by, open_play, opened_by, after_open, closed, batch_of, turned_in, may_turn_in, may_close_in}
use Rattle.pb_host.specs.Host.{HostOf, no_tree, place_of, next_place, is_active, as_play_begins, left}
use Rattle.pb_state.specs.State.{State}
use Rattle.pb_host.specs.Ends.{plain_answer}
use Rattle.pb_hosts.specs.Turn.{turned_by}
use Rattle.pb_state.specs.Walks.{AreNumbered}
use Rattle.pb_hosts.proofs.Batching.{joins_waits}
use Rattle.pb_state.proofs.StepNumbers.{and_left, and_right}
use Rattle.pb_state.proofs.Moves.{IsSound, open_of}
use Rattle.pb_state.proofs.Opening.{GoesOn, Begins, open_case}
use Rattle.pb_state.proofs.Idle.{turn_linear}
use Rattle.pb_hosts.proofs.Turning.{Goes, IsGiven, turned_by_case, goes_tree, goes_inside, goes_waits, goes_running}
use Rattle.pb_state.proofs.Walks.{AllIn, IsOfPlan}
use Rattle.pb_laws.specs.History.{Happening, Opens, Given, Closes, at_place, given_beyond, given_in, batch_in, happenings}
use Rattle.pb_laws.specs.Laws.{selects, tree_at}
use Rattle.pb_laws.proofs.Telling.{Seen, tasks_of, waiting_of, active_of, walked_of, leads, seen, AreBehind, AreFresh, AreLed, AreGiven, AreInside, Tells, map_kept, any_tasks, play_there, tree_there, next_leads, row_of, row_inside, all_known, least_some, rows_behind, none_led, rest_led, one_led, none_given, one_given, Opening, Turning, Closing, Stopping, Forking}
use Rattle.pb_laws.proofs.TaskTelling.{start_tells, send_tells, report_tells}

-- ---- a turn
given_more : (xs ys : List Happening) → AreGiven xs → AreGiven ys → AreGiven (xs ++ ys)
given_more [] ys a b = b
given_more (x ∷ xs) ys (one_given task kind a) b = one_given task kind (given_more xs ys a b)

given_there : (play host : ℕ) (place : Option ℕ) (answer : AnswerOf) → AreGiven (at_place play host place (λ task. Given task answer.kind ∷ []))
given_there play host None answer = none_given
given_there play host (Some p) answer = one_given (record { play = play; host = host; place = p }) answer.kind none_given

beyond_given : (play host : ℕ) (tree : TreeOf) (had more : List AnswerOf) → AreGiven (given_beyond play host tree had more)
beyond_given play host tree had [] = none_given
beyond_given play host tree had (answer ∷ more) =
    given_more (at_place play host (place_of (reach tree had)) (λ task. Given task answer.kind ∷ [])) (given_beyond play host tree (had ++ answer ∷ []) more)
    (given_there play host (place_of (reach tree had)) answer) (beyond_given play host tree (had ++ answer ∷ []) more)

pub rows_given : (play host : ℕ) (olds news : List HostOf) → AreGiven (given_in play host olds news)
rows_given play host [] news = none_given
rows_given play host (old ∷ olds) [] = none_given
rows_given play host (old ∷ olds) (new ∷ news) =
    given_more (given_beyond play host old.tree old.answers (drop (length old.answers) new.answers)) (given_in play (host + 1) olds news)
    (beyond_given play host old.tree old.answers (drop (length old.answers) new.answers)) (rows_given play (host + 1) olds news)

turned_kept : {A : Type 0} (of : HostOf → A) → ((f : HostOf → HostOf) → Goes f → (row : HostOf) → of (f row) ≡ of row) → (inventory : InventoryOf) (play : PlayOf) (s : State)
    → map of (turned_by inventory play (batch_of s) s.place).rows ≡ map of s.rows
turned_kept of kept inventory play s =
    turned_by_case (λ (rows : List HostOf). map of rows ≡ map of s.rows) (λ f goes rows same. map_kept of f (kept f goes) rows ∙ same) inventory play (batch_of s) s.place refl

-- what a turn gives a host: answers, each where it stands then
plain : List Kind → List AnswerOf
plain [] = []
plain (kind ∷ kinds) = plain_answer kind ∷ plain kinds

plain_more : (kinds : List Kind) (kind : Kind) → plain (kinds ++ kind ∷ []) ≡ plain kinds ++ plain_answer kind ∷ []
unfolding plain
plain_more [] kind = refl
plain_more (first ∷ kinds) kind = ap (λ (rest : List AnswerOf). plain_answer first ∷ rest) (plain_more kinds kind)

AllAt : Bool → TreeOf → List AnswerOf → List Kind → Type 0
AllAt inside tree xs [] = Unit {0}
AllAt inside tree xs (kind ∷ kinds) = ((p : ℕ) × ((if inside then place_of (reach tree xs) else None) ≡ Some p)) × AllAt inside tree (xs ++ plain_answer kind ∷ []) kinds

all_at_more : (inside : Bool) (tree : TreeOf) (xs : List AnswerOf) (kinds : List Kind) (kind : Kind) (p : ℕ) → AllAt inside tree xs kinds → (if inside then place_of (reach tree (xs ++ plain kinds)) else None) ≡ Some p
    → AllAt inside tree xs (kinds ++ kind ∷ [])
unfolding AllAt plain
all_at_more inside tree xs [] kind p all e = ((p, ap (λ (ys : List AnswerOf). if inside then place_of (reach tree ys) else None) (sym (append-nil xs)) ∙ e), tt)
all_at_more inside tree xs (first ∷ kinds) kind p all e =
    (all.0, all_at_more inside tree (xs ++ plain_answer first ∷ []) kinds kind p all.1 (ap (λ (ys : List AnswerOf). if inside then place_of (reach tree ys) else None) (append_assoc xs (plain_answer first ∷ []) (plain kinds)) ∙ e))

record Grows (old new : HostOf) : Type 0 where
  kinds : List Kind
  tree : new.tree ≡ old.tree
  inside : new.in_batch ≡ old.in_batch
  answers : new.answers ≡ old.answers ++ plain kinds
  at : AllAt old.in_batch old.tree old.answers kinds
  status : ((new.status ≡ old.status) × (new.answers ≡ old.answers)) ⊎ ((new.status ≡ status_now new.tree new.answers) × (old.in_batch ≡ true))

AllGrow : List HostOf → List HostOf → Type 0
AllGrow [] [] = Unit {0}
AllGrow [] (new ∷ news) = ⊥
AllGrow (old ∷ olds) [] = ⊥
AllGrow (old ∷ olds) (new ∷ news) = Grows old new × AllGrow olds news

stays_so : (old : HostOf) → Grows old old
unfolding plain AllAt
stays_so old = record { kinds = []; tree = refl; inside = refl; answers = sym (append-nil old.answers); at = tt; status = inl (refl, refl) }

all_stay : (rows : List HostOf) → AllGrow rows rows
unfolding AllGrow
all_stay [] = tt
all_stay (row ∷ rows) = (stays_so row, all_stay rows)

inside_is : (b : Bool) (next : Option ℕ) (p : ℕ) → (if b then next else None) ≡ Some p → b ≡ true
inside_is true next p e = refl
inside_is false next p e = cc

grows_more : (old row new : HostOf) → Grows old row → (new ≡ row) ⊎ IsGiven row new → Grows old new
grows_more old row new grows (inl same) = subst (Grows old) (sym same) grows
grows_more old row new grows (inr given) =
    record {
      kinds = grows.kinds ++ given.kind ∷ [];
      tree = ap (λ (r : HostOf). r.tree) given.is ∙ grows.tree;
      inside = ap (λ (r : HostOf). r.in_batch) given.is ∙ grows.inside;
      answers =
          ap (λ (r : HostOf). r.answers) given.is ∙ ap (λ (xs : List AnswerOf). xs ++ plain_answer given.kind ∷ []) grows.answers
          ∙ append_assoc old.answers (plain grows.kinds) (plain_answer given.kind ∷ []) ∙ ap (λ (ys : List AnswerOf). old.answers ++ ys) (sym (plain_more grows.kinds given.kind));
      at = all_at_more old.in_batch old.tree old.answers grows.kinds given.kind given.place grows.at
          (next_so row.in_batch old.in_batch row.tree old.tree row.answers (old.answers ++ plain grows.kinds) grows.inside grows.tree grows.answers given.next);
      status = inr (subst (λ (r : HostOf). r.status ≡ status_now r.tree r.answers) (sym given.is) refl, sym grows.inside ∙ inside_is row.in_batch (place_of (reach row.tree row.answers)) given.place given.next);
    }
  where
    next_so : (a b : Bool) (t u : TreeOf) (xs ys : List AnswerOf) → a ≡ b → t ≡ u → xs ≡ ys → (if a then place_of (reach t xs) else None) ≡ Some given.place → (if b then place_of (reach u ys) else None) ≡ Some given.place
    next_so a b t u xs ys e f g n = rw (← e, ← f, ← g) n

all_grow : (f : HostOf → HostOf) → Goes f → (olds rows : List HostOf) → AllGrow olds rows → AllGrow olds (map f rows)
unfolding AllGrow
all_grow f goes [] [] all = tt
all_grow f goes [] (row ∷ rows) all = absurd all
all_grow f goes (old ∷ olds) [] all = absurd all
all_grow f goes (old ∷ olds) (row ∷ rows) all = (grows_more old row (f row) all.0 (goes row), all_grow f goes olds rows all.1)

drop_all : (xs ys : List AnswerOf) → drop (length xs) (xs ++ ys) ≡ ys
drop_all [] ys = refl
drop_all (x ∷ xs) ys = drop_all xs ys

-- so what happens in it leads the hosts
row_led : (plan : PlanOf) (play h : ℕ) (inside : Bool) (tree : TreeOf) (xs : List AnswerOf) (kinds : List Kind) (walked : List (List AnswerOf)) (happens : List Happening) (new : List (List AnswerOf))
    → AllAt inside tree xs kinds → (inside ≡ true → tree ≡ tree_at plan play) → AreLed plan play (h + 1) walked happens new
    → AreLed plan play h (xs ∷ walked) (given_beyond play h tree xs (plain kinds) ++ happens) ((xs ++ plain kinds) ∷ new)
unfolding AllAt plain
row_led plan play h inside tree xs [] walked happens new all same led =
    subst (λ (ys : List AnswerOf). AreLed plan play h (xs ∷ walked) happens (ys ∷ new)) (sym (append-nil xs)) (rest_led h xs led)
row_led plan play h inside tree xs (kind ∷ kinds) walked happens new all same led =
    subst (λ (ys : List AnswerOf). AreLed plan play h (xs ∷ walked) (given_beyond play h tree xs (plain_answer kind ∷ plain kinds) ++ happens) (ys ∷ new)) (append_assoc xs (plain_answer kind ∷ []) (plain kinds))
    (subst (λ (more : List Happening). AreLed plan play h (xs ∷ walked) more (((xs ++ plain_answer kind ∷ []) ++ plain kinds) ∷ new)) (sym (first_given (place_of (reach tree xs)) (in_place inside (place_of (reach tree xs)) all.0.0 all.0.1)))
    (one_led h all.0.0 xs kind (ap (λ (t : TreeOf). place_of (reach t xs)) (sym (same (inside_is inside (place_of (reach tree xs)) all.0.0 all.0.1))) ∙ in_place inside (place_of (reach tree xs)) all.0.0 all.0.1)
    (row_led plan play h inside tree (xs ++ plain_answer kind ∷ []) kinds walked happens new all.1 same led)))
  where
    in_place : (b : Bool) (next : Option ℕ) (p : ℕ) → (if b then next else None) ≡ Some p → next ≡ Some p
    in_place true next p e = e
    in_place false next p e = cc

    first_given : (next : Option ℕ) → next ≡ Some all.0.0
        → (at_place play h next (λ task. Given task kind ∷ []) ++ given_beyond play h tree (xs ++ plain_answer kind ∷ []) (plain kinds)) ++ happens
        ≡ Given (record { play = play; host = h; place = all.0.0 }) kind ∷ (given_beyond play h tree (xs ++ plain_answer kind ∷ []) (plain kinds) ++ happens)
    first_given None e = cc
    first_given (Some p) e =
        ap (λ (k : ℕ). Given (record { play = play; host = h; place = k }) kind ∷ (given_beyond play h tree (xs ++ plain_answer kind ∷ []) (plain kinds) ++ happens)) (let same_place : p ≡ all.0.0 = cc in same_place)

rows_led : (plan : PlanOf) (play h : ℕ) (tree : TreeOf) (olds news : List HostOf) → tree ≡ tree_at plan play → AllIn tree olds → AllGrow olds news → AreLed plan play h (walked_of olds) (given_in play h olds news) (walked_of news)
unfolding AllGrow
rows_led plan play h tree [] [] same all grow = none_led h
rows_led plan play h tree [] (new ∷ news) same all grow = absurd grow
rows_led plan play h tree (old ∷ olds) [] same all grow = absurd grow
rows_led plan play h tree (old ∷ olds) (new ∷ news) same all grow =
    subst
    (λ (ys : List AnswerOf). AreLed plan play h (old.answers ∷ walked_of olds) (given_beyond play h old.tree old.answers (drop (length old.answers) ys) ++ given_in play (h + 1) olds news) (ys ∷ walked_of news))
    (sym grow.0.answers)
    (subst
    (λ (more : List AnswerOf). AreLed plan play h (old.answers ∷ walked_of olds) (given_beyond play h old.tree old.answers more ++ given_in play (h + 1) olds news) ((old.answers ++ plain grow.0.kinds) ∷ walked_of news))
    (sym (drop_all old.answers (plain grow.0.kinds)))
    (row_led plan play h old.in_batch old.tree old.answers grow.0.kinds (walked_of olds) (given_in play (h + 1) olds news) (walked_of news) grow.0.at (λ i. all.0 i ∙ same)
    (rows_led plan play (h + 1) tree olds news same all.1 grow.1)))

-- to hosts of the batch alone
both_inside : (inside : List Bool) (xs ys : List Happening) → AreInside inside xs → AreInside inside ys → AreInside inside (xs ++ ys)
both_inside inside [] ys a b = b
both_inside inside (Given task kind ∷ xs) ys a b = (a.0, both_inside inside xs ys a.1 b)
both_inside inside (now ∷ xs) ys a b = both_inside inside xs ys a b

there_inside : (inside : List Bool) (play host : ℕ) (place : Option ℕ) (kind : Kind) → is_member inside host ≡ true → AreInside inside (at_place play host place (λ task. Given task kind ∷ []))
there_inside inside play host None kind i = tt
there_inside inside play host (Some p) kind i = (i, tt)

beyond_inside : (inside : List Bool) (play host : ℕ) (tree : TreeOf) (had more : List AnswerOf) → is_member inside host ≡ true → AreInside inside (given_beyond play host tree had more)
beyond_inside inside play host tree had [] i = tt
beyond_inside inside play host tree had (answer ∷ more) i =
    both_inside inside (at_place play host (place_of (reach tree had)) (λ task. Given task answer.kind ∷ [])) (given_beyond play host tree (had ++ answer ∷ []) more)
    (there_inside inside play host (place_of (reach tree had)) answer.kind i) (beyond_inside inside play host tree (had ++ answer ∷ []) more i)

kinds_inside : (inside : List Bool) (play host : ℕ) (b : Bool) (tree : TreeOf) (xs : List AnswerOf) (kinds : List Kind) → AllAt b tree xs kinds → (b ≡ true → is_member inside host ≡ true)
    → AreInside inside (given_beyond play host tree xs (plain kinds))
unfolding AllAt plain
kinds_inside inside play host b tree xs [] all i = tt
kinds_inside inside play host b tree xs (kind ∷ kinds) all i = beyond_inside inside play host tree xs (plain_answer kind ∷ plain kinds) (i (inside_is b (place_of (reach tree xs)) all.0.0 all.0.1))

rows_inside : (inside : List Bool) (play h : ℕ) (olds news : List HostOf) → AllGrow olds news → ((k : ℕ) → is_member (batch_in olds) k ≡ true → is_member inside (h + k) ≡ true) → AreInside inside (given_in play h olds news)
unfolding AllGrow
rows_inside inside play h [] news grow i = tt
rows_inside inside play h (old ∷ olds) [] grow i = tt
rows_inside inside play h (old ∷ olds) (new ∷ news) grow i =
    both_inside inside (given_beyond play h old.tree old.answers (drop (length old.answers) new.answers)) (given_in play (h + 1) olds news)
    (subst (λ (more : List AnswerOf). AreInside inside (given_beyond play h old.tree old.answers more)) (sym (ap (drop (length old.answers)) grow.0.answers ∙ drop_all old.answers (plain grow.0.kinds)))
    (kinds_inside inside play h old.in_batch old.tree old.answers grow.0.kinds grow.0.at (λ b. ap (is_member inside) (let same : h ≡ h + 0 = omega arith in same) ∙ i 0 b)))
    (rows_inside inside play (h + 1) olds news grow.1 (λ k b. ap (is_member inside) (let same : (h + 1) + k ≡ h + suc k = omega arith in same) ∙ i (suc k) b))

-- and what they are then
rows_still : (olds news : List HostOf) (h : ℕ) → AllGrow olds news → is_member (batch_in olds) h ≡ false → is_member (active_of news) h ≡ is_member (active_of olds) h
unfolding AllGrow
rows_still [] [] h grow out = refl
rows_still [] (new ∷ news) h grow out = absurd grow
rows_still (old ∷ olds) [] h grow out = absurd grow
rows_still (old ∷ olds) (new ∷ news) zero grow out = by_status grow.0.status
  where
    by_status : ((new.status ≡ old.status) × (new.answers ≡ old.answers)) ⊎ ((new.status ≡ status_now new.tree new.answers) × (old.in_batch ≡ true)) → is_active new.status ≡ is_active old.status
    by_status (inl same) = ap is_active same.0
    by_status (inr now) = absurd (let both_ways : true ≡ false = sym now.1 ∙ out in cc)
rows_still (old ∷ olds) (new ∷ news) (suc h) grow out = rows_still olds news h grow.1 out

rows_show : (tree : TreeOf) (olds news : List HostOf) (h : ℕ) (xs : List AnswerOf) → AllGrow olds news → AllIn tree olds → is_member (batch_in olds) h ≡ true → is_member (active_of news) h ≡ true → slice_get (walked_of news) h ≡ Some xs
    → ((slice_get (walked_of olds) h ≡ Some xs) × (is_member (active_of olds) h ≡ true)) ⊎ (is_active (status_now tree xs) ≡ true)
unfolding AllGrow
rows_show tree [] [] h xs grow all inside is there = cc
rows_show tree [] (new ∷ news) h xs grow all inside is there = absurd grow
rows_show tree (old ∷ olds) [] h xs grow all inside is there = absurd grow
rows_show tree (old ∷ olds) (new ∷ news) zero xs grow all inside is there = by_status grow.0.status
  where
    by_status : ((new.status ≡ old.status) × (new.answers ≡ old.answers)) ⊎ ((new.status ≡ status_now new.tree new.answers) × (old.in_batch ≡ true))
        → ((Some old.answers ≡ Some xs) × (is_active old.status ≡ true)) ⊎ (is_active (status_now tree xs) ≡ true)
    by_status (inl same) = inl (ap (λ (ys : List AnswerOf). Some ys) (sym same.1) ∙ there, ap is_active (sym same.0) ∙ is)
    by_status (inr now) =
        let whose : new.tree ≡ tree = grow.0.tree ∙ all.0 inside in
        let went : new.answers ≡ xs = cc in
        inr (ap (λ (ys : List AnswerOf). is_active (status_now tree ys)) (sym went) ∙ ap (λ (t : TreeOf). is_active (status_now t new.answers)) (sym whose) ∙ ap is_active (sym now.0) ∙ is)
rows_show tree (old ∷ olds) (new ∷ news) (suc h) xs grow all inside is there = rows_show tree olds news h xs grow.1 all.1 inside is there

turn_tells : (plan : PlanOf) (s : State) (found : Option PlayOf) → open_play plan s ≡ found → option_map_or (may_turn_in s) found false ≡ true → IsOfPlan plan s
    → Tells plan (seen s) (given_in s.play 0 s.rows (option_map_or (turned_in plan.inventory s) found s).rows) (seen (option_map_or (turned_in plan.inventory s) found s))
turn_tells plan s None o may of = cc
turn_tells plan s (Some play) o may of =
    subst (λ (new : Seen). Tells plan (seen s) (given_in s.play 0 s.rows (turned_in plan.inventory s play).rows) new) (sym sees)
    (Turning (has_batch_left (turned_by plan.inventory play (batch_of s) s.place).sizes_left) (given_in s.play 0 s.rows (turned_in plan.inventory s play).rows) (open_of plan s (may_turn_in s) (Some play) o may)
    (rows_given s.play 0 s.rows (turned_in plan.inventory s play).rows)
    (record {
      walked = walked_of (turned_in plan.inventory s play).rows;
      led = rows_led plan s.play 0 play.tree s.rows (turned_in plan.inventory s play).rows (sym (tree_there plan s.play play (play_there plan s play o))) (of play o) grow;
      only = rows_inside (batch_in s.rows) s.play 0 s.rows (turned_in plan.inventory s play).rows grow (λ k i. ap (is_member (batch_in s.rows)) (let same : 0 + k ≡ k = omega arith in same) ∙ i);
      active = active_of (turned_in plan.inventory s play).rows;
      still = λ h out. rows_still s.rows (turned_in plan.inventory s play).rows h grow out;
      shows = λ h xs inside is there.
          subst (λ (tree : TreeOf). ((slice_get (walked_of s.rows) h ≡ Some xs) × (is_member (active_of s.rows) h ≡ true)) ⊎ (is_active (status_now tree xs) ≡ true)) (sym (tree_there plan s.play play (play_there plan s play o)))
          (rows_show play.tree s.rows (turned_in plan.inventory s play).rows h xs grow (of play o) inside is there);
      place = least_place (turned_in plan.inventory s play).rows;
      behind =
          subst (λ (inside : List Bool). AreBehind plan s.play inside (walked_of (turned_in plan.inventory s play).rows) (least_place (turned_in plan.inventory s play).rows))
          (turned_kept (λ (row : HostOf). row.in_batch) goes_inside plan.inventory play s)
          (rows_behind plan s.play play (turned_in plan.inventory s play).rows (least_place (turned_in plan.inventory s play).rows) (play_there plan s play o)
          (turned_by_case (AllIn play.tree) (λ f goes rows all. map_in play.tree f goes rows all) plan.inventory play (batch_of s) s.place (of play o))
          (first_is play.strategy (turn_linear s play may)));
    }))
  where
    grow : AllGrow s.rows (turned_in plan.inventory s play).rows
    grow = turned_by_case (AllGrow s.rows) (λ f goes rows all. all_grow f goes s.rows rows all) plan.inventory play (batch_of s) s.place (all_stay s.rows)

    first_is : (strategy : Strategy) → is_linear strategy ≡ true → least_place (turned_in plan.inventory s play).rows ≡ first_by strategy (turned_in plan.inventory s play).rows
    first_is strategy linear = ap (λ (b : Bool). if b then least_place (turned_in plan.inventory s play).rows else None) (sym linear)

    map_in : (tree : TreeOf) (f : HostOf → HostOf) → Goes f → (rows : List HostOf) → AllIn tree rows → AllIn tree (map f rows)
    map_in tree f goes [] all = tt
    map_in tree f goes (row ∷ rows) all = (λ i. goes_tree f goes row ∙ all.0 (sym (goes_inside f goes row) ∙ i), map_in tree f goes rows all.1)

    sees : seen (turned_in plan.inventory s play)
        ≡ record (seen s) { has_more = has_batch_left (turned_by plan.inventory play (batch_of s) s.place).sizes_left; active = active_of (turned_in plan.inventory s play).rows; walked = walked_of (turned_in plan.inventory s play).rows; place = least_place (turned_in plan.inventory s play).rows }
    sees =
        rw (
          turned_kept (λ (row : HostOf). row.running) goes_running plan.inventory play s,
          turned_kept (λ (row : HostOf). row.in_batch) goes_inside plan.inventory play s,
          turned_kept (λ (row : HostOf). row.awaits_batch) goes_waits plan.inventory play s,
        ) refl

-- ---- a batch that opens
joined_fresh : (tree : TreeOf) (room : ℕ) (rows : List HostOf) → AreFresh (walked_of (joined_first tree room rows))
joined_fresh tree room [] h xs e = cc
joined_fresh tree room (row ∷ rows) zero xs e = let same : [] ≡ xs = cc in sym same
joined_fresh tree room (row ∷ rows) (suc h) xs e = joined_fresh tree (room_behind room row.awaits_batch) rows h xs e

joined_idle : (tree : TreeOf) (room : ℕ) (rows : List HostOf) → list_any is_some (tasks_of (joined_first tree room rows)) ≡ false
joined_idle tree room [] = refl
joined_idle tree room (row ∷ rows) = joined_idle tree (room_behind room row.awaits_batch) rows

joined_waiting : (tree : TreeOf) (room : ℕ) (rows : List HostOf) → waiting_of (joined_first tree room rows) ≡ waiting_of rows
joined_waiting tree room [] = refl
joined_waiting tree room (row ∷ rows) = ap (λ (rest : List Bool). row.awaits_batch ∷ rest) (joined_waiting tree (room_behind room row.awaits_batch) rows)

joined_active : (tree : TreeOf) (room : ℕ) (rows : List HostOf) → active_of (joined_first tree room rows) ≡ active_of rows
joined_active tree room [] = refl
joined_active tree room (row ∷ rows) = ap (λ (rest : List Bool). is_active row.status ∷ rest) (joined_active tree (room_behind room row.awaits_batch) rows)

joined_waits : (tree : TreeOf) (room : ℕ) (rows : List HostOf) (h : ℕ) → is_member (batch_in (joined_first tree room rows)) h ≡ true → is_member (waiting_of (joined_first tree room rows)) h ≡ true
joined_waits tree room [] h e = e
joined_waits tree room (row ∷ rows) zero e = joins_waits room row.awaits_batch e
joined_waits tree room (row ∷ rows) (suc h) e = joined_waits tree (room_behind room row.awaits_batch) rows h e

called_are : (hosts : List Bool) (k : ℕ) (rows : List HostOf) (h : ℕ) → AreNumbered k rows → is_member (waiting_of (map (as_play_begins hosts) rows)) h ≡ true → is_member hosts (k + h) ≡ true
called_are hosts k [] h all e = cc
called_are hosts k (row ∷ rows) zero all e =
    ap (is_member hosts) (let same : k + 0 ≡ k = omega arith in same ∙ sym all.0) ∙ and_left (is_member hosts row.host) _ e
called_are hosts k (row ∷ rows) (suc h) all e = ap (is_member hosts) (let same : k + suc h ≡ (k + 1) + h = omega arith in same) ∙ called_are hosts (k + 1) rows h all.1 e

called_active : (hosts : List Bool) (rows : List HostOf) (h : ℕ) → is_member (waiting_of (map (as_play_begins hosts) rows)) h ≡ true → is_member (active_of rows) h ≡ true
called_active hosts [] h e = e
called_active hosts (row ∷ rows) zero e = and_right (is_member hosts row.host) _ e
called_active hosts (row ∷ rows) (suc h) e = called_active hosts rows h e

begun_active : (s : State) (n batch : ℕ) (sizes : List ℕ) (rows : List HostOf) (play : PlayOf) → GoesOn s n batch sizes rows ⊎ Begins s n batch sizes rows play → active_of rows ≡ active_of s.rows
begun_active s n batch sizes rows play (inl on) = ap active_of on.4
begun_active s n batch sizes rows play (inr begun) = ap active_of begun.4 ∙ map_kept (λ (row : HostOf). is_active row.status) (as_play_begins play.hosts) (λ row. refl) s.rows

begun_chosen : (s : State) (n batch : ℕ) (sizes : List ℕ) (rows : List HostOf) (play : PlayOf) (size : ℕ) → GoesOn s n batch sizes rows ⊎ Begins s n batch sizes rows play → has_batch_left s.sizes_left ≡ false
    → (h : ℕ) → is_member (waiting_of (joined_first play.tree size rows)) h ≡ true → is_member (active_of s.rows) h ≡ true
begun_chosen s n batch sizes rows play size (inl on) more h e = absurd (let both_ways : true ≡ false = sym on.0 ∙ more in cc)
begun_chosen s n batch sizes rows play size (inr begun) more h e =
    called_active play.hosts s.rows h (ap (λ (waiting : List Bool). is_member waiting h) (sym (joined_waiting play.tree size rows ∙ ap waiting_of begun.4)) ∙ e)

joined_in : (tree : TreeOf) (room : ℕ) (rows : List HostOf) → AllIn tree (joined_first tree room rows)
joined_in tree room [] = tt
joined_in tree room (row ∷ rows) = (λ i. by_inside (joins room row.awaits_batch) i, joined_in tree (room_behind room row.awaits_batch) rows)
  where
    by_inside : (b : Bool) → b ≡ true → (if b then tree else no_tree) ≡ tree
    by_inside true e = refl
    by_inside false e = cc

opened_how : (plan : PlanOf) (s : State) (n batch : ℕ) (sizes : List ℕ) (rows : List HostOf) (play : PlayOf) (size : ℕ) → AreNumbered 0 s.rows → slice_get plan.plays n ≡ Some play
    → GoesOn s n batch sizes rows ⊎ Begins s n batch sizes rows play
    → ((has_batch_left s.sizes_left ≡ true) × (n ≡ s.play) × (waiting_of (joined_first play.tree size rows) ≡ waiting_of s.rows))
    ⊎ ((has_batch_left s.sizes_left ≡ false) × (s.play ≤ n) × ((h : ℕ) → is_member (waiting_of (joined_first play.tree size rows)) h ≡ true → selects plan n h ≡ true))
opened_how plan s n batch sizes rows play size all there (inl on) = inl (on.0, on.1, joined_waiting play.tree size rows ∙ ap waiting_of on.4)
opened_how plan s n batch sizes rows play size all there (inr begun) =
    inr (
      begun.0,
      begun.1,
      λ h e.
          ap (λ (found : Option PlayOf). option_map_or (λ (p : PlayOf). is_member p.hosts h) found false) there
          ∙ ap (is_member play.hosts) (let same : h ≡ 0 + h = omega arith in same)
          ∙ called_are play.hosts 0 s.rows h all (ap (λ (waiting : List Bool). is_member waiting h) (sym (joined_waiting play.tree size rows ∙ ap waiting_of begun.4)) ∙ e),
    )

may_open_shut : (stopped opened ended more : Bool) → (not stopped && not opened && not ended && more) ≡ true → opened ≡ false
may_open_shut stopped true ended more e =
    let two = and_left (not stopped && not true && not ended) more e in
    let one = and_left (not stopped && not true) (not ended) two in
    absurd (let none = and_right (not stopped) false one in cc)
may_open_shut stopped false ended more e = refl

open_tells : (plan : PlanOf) (s : State) → possible plan s Open ≡ true → AreNumbered 0 s.rows
    → Tells plan (seen s) (Opens (after_open plan s).play (batch_in (after_open plan s).rows) ∷ []) (seen (after_open plan s))
open_tells plan s may all =
    open_case (λ (new : State). Tells plan (seen s) (Opens new.play (batch_in new.rows) ∷ []) (seen new)) plan s
    (λ none. absurd (none (and_right (not s.stopped && not s.is_open && not s.ended) _ may)))
    (λ n batch sizes rows play size is.
    subst (λ (active : List Bool). Tells plan (seen s) (Opens n (batch_in (joined_first play.tree size rows)) ∷ []) (record (seen (opened_by s n batch sizes rows play size)) { active = active })) (sym (joined_active play.tree size rows ∙ begun_active s n batch sizes rows play is.how))
    (Opening n (has_batch_left (drop 1 sizes)) (tasks_of (joined_first play.tree size rows)) (batch_in (joined_first play.tree size rows)) (waiting_of (joined_first play.tree size rows))
    (record {
      shut = may_open_shut s.stopped s.is_open s.ended _ may;
      walked = walked_of (joined_first play.tree size rows);
      fresh = joined_fresh play.tree size rows;
      place = first_by play.strategy (joined_first play.tree size rows);
      behind = rows_behind plan n play (joined_first play.tree size rows) (first_by play.strategy (joined_first play.tree size rows)) is.there (joined_in play.tree size rows) refl;
      idle = joined_idle play.tree size rows;
      joins = joined_waits play.tree size rows;
      chosen = begun_chosen s n batch sizes rows play size is.how;
      how = opened_how plan s n batch sizes rows play size all is.there is.how;
    })))

-- ---- and one that closes
left_idle : (rows : List HostOf) → list_any is_some (tasks_of (map left rows)) ≡ false
left_idle [] = refl
left_idle (row ∷ rows) = left_idle rows

left_outside : (rows : List HostOf) (h : ℕ) → is_member (batch_in (map left rows)) h ≡ false
left_outside [] h = refl
left_outside (row ∷ rows) zero = refl
left_outside (row ∷ rows) (suc h) = left_outside rows h

not_true : (b : Bool) → not b ≡ true → b ≡ false
not_true true e = cc
not_true false e = refl

left_waits : (rows : List HostOf) (h : ℕ) → is_member (waiting_of (map left rows)) h ≡ true → (is_member (waiting_of rows) h ≡ true) × (is_member (batch_in rows) h ≡ false)
left_waits [] h e = cc
left_waits (row ∷ rows) zero e = (and_left row.awaits_batch _ e, not_true row.in_batch (and_right row.awaits_batch _ e))
left_waits (row ∷ rows) (suc h) e = left_waits rows h e

left_fresh : (rows : List HostOf) → AreFresh (walked_of (map left rows))
left_fresh [] h xs e = cc
left_fresh (row ∷ rows) zero xs e = let same : [] ≡ xs = cc in sym same
left_fresh (row ∷ rows) (suc h) xs e = left_fresh rows h xs e

none_least : (rows : List HostOf) (h : ℕ) (row : HostOf) → least_place rows ≡ None → slice_get rows h ≡ Some row → next_place row ≡ None
none_least rows h row none there = by_next (next_place row) refl
  where
    by_next : (next : Option ℕ) → next_place row ≡ next → next ≡ None
    by_next None e = refl
    by_next (Some q) e = absurd (let some = least_some rows h row q there e in let both_ways : true ≡ false = sym some ∙ ap is_some none in cc)

close_least : (a : Bool) (least : Option ℕ) → (a && is_none least) ≡ true → least ≡ None
close_least a None e = refl
close_least a (Some p) e = absurd (let none = and_right a false e in cc)

close_idle : (a b c d : Bool) → (a && b && not c && d) ≡ true → c ≡ false
close_idle a b c d e = not_true c (and_right (a && b) (not c) (and_left (a && b && not c) d e))

close_done : (plan : PlanOf) (s : State) (found : Option PlayOf) → open_play plan s ≡ found → option_map_or (may_close_in s) found false ≡ true → IsOfPlan plan s
    → (h : ℕ) (xs : List AnswerOf) → is_member (batch_in s.rows) h ≡ true → slice_get (walked_of s.rows) h ≡ Some xs → leads plan s.play xs ≡ None
close_done plan s None o may of h xs inside walked = cc
close_done plan s (Some play) o may of h xs inside walked =
    let found = row_of s.rows h xs walked in
    let i = row_inside s.rows h found.0 found.1 inside in
    ap (leads plan s.play) (sym found.2) ∙ sym (next_leads plan s.play play s.rows h found.0 (play_there plan s play o) (of play o) found.1 i)
    ∙ none_least s.rows h found.0 (close_least (not s.stopped && is_none s.place && not (list_any is_running s.rows)) (least_place s.rows) may) found.1

close_tells : (plan : PlanOf) (s : State) → possible plan s Close ≡ true → IsOfPlan plan s → Tells plan (seen s) (Closes s.play ∷ []) (seen (closed s))
close_tells plan s may of =
    subst (λ (active : List Bool). Tells plan (seen s) (Closes s.play ∷ []) (record (seen (closed s)) { active = active })) (sym (map_kept (λ (row : HostOf). is_active row.status) left (λ row. refl) s.rows))
    (Closing (tasks_of (map left s.rows)) (batch_in (map left s.rows)) (waiting_of (map left s.rows))
    (record {
      opened = open_of plan s (may_close_in s) (open_play plan s) refl may;
      before = any_tasks s.rows ∙ by_play (open_play plan s) may;
      done = close_done plan s (open_play plan s) refl may of;
      known = all_known s.rows;
      walked = walked_of (map left s.rows);
      fresh = left_fresh s.rows;
      idle = left_idle s.rows;
      none = left_outside s.rows;
      still = left_waits s.rows;
    }))
  where
    by_play : (found : Option PlayOf) → option_map_or (may_close_in s) found false ≡ true → list_any is_running s.rows ≡ false
    by_play None e = cc
    by_play (Some play) e = close_idle (not s.stopped) (is_none s.place) (list_any is_running s.rows) (is_none (least_place s.rows)) e

-- ---- all events
pub tells : (plan : PlanOf) (s : State) (e : Event) → possible plan s e ≡ true → AreNumbered 0 s.rows → IsOfPlan plan s → IsSound s → Tells plan (seen s) (happenings plan s e (after plan s e)) (seen (after plan s e))
tells plan s Open may all of sound = open_tells plan s may all
tells plan s (Start h) may all of sound = start_tells plan s h.0 (open_play plan s) refl may of
tells plan s (Send h item attempt ticket) may all of sound = send_tells plan s h item attempt ticket (open_play plan s) refl may
tells plan s (Reported r) may all of sound = report_tells plan s r (open_play plan s) refl may of sound
tells plan s Turn may all of sound = turn_tells plan s (open_play plan s) refl may of
tells plan s Close may all of sound = close_tells plan s may of
tells plan s Stop may all of sound = Stopping
tells plan s (Forks n) may all of sound = Forking n
