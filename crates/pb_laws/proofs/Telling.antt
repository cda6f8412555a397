-- What the laws see of a state, and of each event what it tells and does to what is seen (`Tells`): a proof of a law goes by these cases alone, and sees no row.
use Rattle.std.proofs.Common.{◌≡◌, ℕ, zero, suc, ◌+◌, ◌≤◌, Bool, true, false, ◌||◌, List, [], ◌∷◌, ◌++◌, map, refl, sym, ◌∙◌, ap, subst, arith, ◌⊎◌}
use Rattle.std.specs.Prelude.{Option, Some, None, option_map, slice_get, slice_index_or, is_some, min, nat_lt, if◌then◌else◌}
use Rattle.std.specs.List.{list_any}
use Rattle.std.specs.Option.{option_map_or}
use Rattle.pb_ids.specs.declared.numbers.Ticket.{Ticket}
use Rattle.pb_limits.specs.Counts.{has_room_for, running as count_running, running_at as count_running_at}
use Rattle.pb_conditions.specs.declared.attempt.Back.{Back}
use Rattle.pb_conditions.specs.declared.attempt.Back.TheVariants.{Again}
use Rattle.pb_outcome.specs.declared.gather.ItemResult.{ItemResult}
use Rattle.pb_outcome.specs.declared.item.Item.{Item}
use Rattle.pb_outcome.specs.declared.job.Call.{Call}
use Rattle.pb_outcome.specs.Items.{next_item, is_over}
use Rattle.pb_planes.specs.Set.{is_in as is_member}
use Rattle.pb_plan.specs.Plan.{PlayOf, PlanOf, throttles_of}
use Rattle.pb_task_vars.specs.declared.gifts.DelegatedFacts.{DelegatedFacts}
use Rattle.pb_strategies.specs.Hosts.{runs_in}
use Rattle.pb_strategies.specs.MayStart.{is_linear}
use Rattle.pb_tree.specs.Answer.{AnswerOf}
use Rattle.pb_tree.specs.declared.answer.Kind.{Kind}
use Rattle.pb_tree.specs.Tree.{TreeOf}
use Rattle.pb_tree.specs.Walk.{reach, status_now}
use Rattle.pb_host.specs.declared.step_result.TaskEnd.{TaskEnd}
use Rattle.pb_host.specs.declared.host.Running.{Running}
use Rattle.pb_hosts.specs.Batches.{has_batch_left}
use Rattle.pb_host.specs.Attempts.{back_in, attempt_after, attempt_next}
use Rattle.pb_host.specs.Ends.{answer_of, plain_answer}
use Rattle.pb_host.specs.Runs.{is_running}
use Rattle.pb_hosts.specs.Hosts.{change, at_row, lesser, least_place}
use Rattle.pb_hosts.specs.Giving.{with_delegated}
use Rattle.pb_state.specs.Machine.{first_by, open_play, play_behind}
use Rattle.pb_host.specs.Host.{HostOf, no_tree, place_of, next_place, is_active, sent_running}
use Rattle.pb_state.specs.State.{State}
use Rattle.pb_host.specs.Standing.{standing}
use Rattle.pb_hosts.proofs.Giving.{change_on, given_map, map_same}
use Rattle.pb_state.proofs.Walks.{AllIn}
use Rattle.pb_laws.specs.History.{HostTask, Happening, MayRun, Opens, Starts, Sends, Reports, Ends, Given, Closes, Stops, batch_in}
use Rattle.pb_laws.specs.Laws.{selects, tree_at, is_linear_play, attempts_at}

-- ---- what is seen of a state
pub record Seen : Type 0 where
  pub play : ℕ
  pub is_open : Bool
  pub has_more : Bool
  pub forks : ℕ
  pub sends : ℕ
  pub stopped : Bool
  -- of each host what it runs, whether it is in the batch, and whether it waits for one of the play
  pub tasks : List (Option Running)
  pub inside : List Bool
  pub waiting : List Bool
  -- whether it is active
  pub active : List Bool
  -- what it answered in the open batch, and in a linear play the place at which the batch is
  pub walked : List (List AnswerOf)
  pub place : Option ℕ

abbrev pub tasks_of : List HostOf → List (Option Running)
tasks_of rows = map (λ (row : HostOf). row.running) rows

abbrev pub waiting_of : List HostOf → List Bool
waiting_of rows = map (λ (row : HostOf). row.awaits_batch) rows

abbrev pub active_of : List HostOf → List Bool
active_of rows = map (λ (row : HostOf). is_active row.status) rows

abbrev pub walked_of : List HostOf → List (List AnswerOf)
walked_of rows = map (λ (row : HostOf). row.answers) rows

-- where answers lead a host in the tree of a play
abbrev pub leads : PlanOf → ℕ → List AnswerOf → Option ℕ
leads plan play xs = place_of (reach (tree_at plan play) xs)

abbrev pub seen : State → Seen
seen s =
    record {
      play = s.play;
      is_open = s.is_open;
      has_more = has_batch_left s.sizes_left;
      forks = s.forks;
      sends = s.sends;
      stopped = s.stopped;
      tasks = tasks_of s.rows;
      inside = batch_in s.rows;
      waiting = waiting_of s.rows;
      active = active_of s.rows;
      walked = walked_of s.rows;
      place = s.place;
    }

-- the places of the tasks that run
abbrev pub places : List (Option Running) → List (Option ℕ)
places tasks = map (λ (running : Option Running). option_map (λ (r : Running). r.place) running) tasks

-- a list with another entry at one place
abbrev pub put : {A : Type 0} → List A → ℕ → A → List A
put [] h x = []
put (y ∷ ys) zero x = x ∷ ys
put (y ∷ ys) (suc h) x = y ∷ put ys h x

abbrev pub task_on : Seen → ℕ → ℕ → HostTask
task_on v host place = record { play = v.play; host = host; place = place }

-- a task that is over has ended, and else its host runs it
abbrev pub ended_so : Bool → HostTask → TaskEnd → List ℕ → List Happening
ended_so true task end notified = Ends task end notified ∷ []
ended_so false task end notified = []

abbrev pub left_so : Bool → ℕ → List Item → Option Running
left_so true place items = None
left_so false place items = Some (record { place = place; items = items; out = None })

abbrev pub answered_so : Bool → List AnswerOf → AnswerOf → List AnswerOf
answered_so true xs answer = xs ++ answer ∷ []
answered_so false xs answer = xs

-- a host that answered is active or not, by what it answered
abbrev pub active_so : Bool → List Bool → ℕ → TreeOf → List AnswerOf → AnswerOf → List Bool
active_so true active host tree xs answer = put active host (is_active (status_now tree (xs ++ answer ∷ [])))
active_so false active host tree xs answer = active

-- no host of the batch is at a place before the current one
abbrev pub AreBehind : PlanOf → ℕ → List Bool → List (List AnswerOf) → Option ℕ → Type 0
AreBehind plan play inside walked place =
    is_linear_play plan play ≡ true → (h : ℕ) (xs : List AnswerOf) (p q : ℕ) → is_member inside h ≡ true → slice_get walked h ≡ Some xs → leads plan play xs ≡ Some q → place ≡ Some p → p ≤ q

-- no host has answered anything
abbrev pub AreFresh : List (List AnswerOf) → Type 0
AreFresh walked = (h : ℕ) (xs : List AnswerOf) → slice_get walked h ≡ Some xs → xs ≡ []

-- of each host of the batch it is known what it answered
abbrev pub AreKnown : List Bool → List (List AnswerOf) → Type 0
AreKnown inside walked = (h : ℕ) → is_member inside h ≡ true → (xs : List AnswerOf) × (slice_get walked h ≡ Some xs)

-- hosts, the first of which has the number h, are given answers, each at the place where it stands
pub data AreLed (plan : PlanOf) (play : ℕ) : ℕ → List (List AnswerOf) → List Happening → List (List AnswerOf) → Type 0 where
  none_led : (h : ℕ) → AreLed plan play h [] [] []
  rest_led : (h : ℕ) (xs : List AnswerOf) {walked : List (List AnswerOf)} {happens : List Happening} {new : List (List AnswerOf)} → AreLed plan play (h + 1) walked happens new
      → AreLed plan play h (xs ∷ walked) happens (xs ∷ new)
  one_led : (h place : ℕ) (xs : List AnswerOf) (kind : Kind) {walked : List (List AnswerOf)} {happens : List Happening} {new : List (List AnswerOf)} → leads plan play xs ≡ Some place
      → AreLed plan play h ((xs ++ plain_answer kind ∷ []) ∷ walked) happens new
      → AreLed plan play h (xs ∷ walked) (Given (record { play = play; host = h; place = place }) kind ∷ happens) new

pub data AreGiven : List Happening → Type 0 where
  none_given : AreGiven []
  one_given : (task : HostTask) (kind : Kind) {rest : List Happening} → AreGiven rest → AreGiven (Given task kind ∷ rest)

-- each is given to a host of the batch
abbrev pub AreInside : List Bool → List Happening → Type 0
AreInside inside [] = Unit {0}
AreInside inside (Given task kind ∷ rest) = (is_member inside task.host ≡ true) × AreInside inside rest
AreInside inside (now ∷ rest) = AreInside inside rest

-- ---- the items of a task
-- no attempt at one of them has come back
abbrev pub AreUntried : List Item → Type 0
AreUntried [] = Unit {0}
AreUntried (item ∷ items) = (item.tried ≡ 0) × AreUntried items

-- a task starts with these items
pub record HasBegun (over : Bool) (items : List Item) : Type 0 where
  pub ends : is_over items ≡ over
  pub untried : AreUntried items

-- an attempt came back, and made these items of the others; another one follows only where it is one of those that the task allows
pub record HasComeBack (most : ℕ) (old : List Item) (over : Bool) (items : List Item) : Type 0 where
  pub ends : is_over items ≡ over
  pub judge : Item → Call → Back
  pub back : items ≡ back_in judge old
  pub allowed : (item : Item) (call : Call) (result : ItemResult) → judge item call ≡ Again result → attempt_after item.tried + 1 ≤ most

-- ---- what the events need
pub record IsOpening (plan : PlanOf) (v : Seen) (n : ℕ) (tasks : List (Option Running)) (inside waiting : List Bool) : Type 0 where
  pub shut : v.is_open ≡ false
  pub walked : List (List AnswerOf)
  pub fresh : AreFresh walked
  pub place : Option ℕ
  pub behind : AreBehind plan n inside walked place
  pub idle : list_any is_some tasks ≡ false
  pub joins : (h : ℕ) → is_member inside h ≡ true → is_member waiting h ≡ true
  pub chosen : v.has_more ≡ false → (h : ℕ) → is_member waiting h ≡ true → is_member v.active h ≡ true
  pub how : ((v.has_more ≡ true) × (n ≡ v.play) × (waiting ≡ v.waiting))
      ⊎ ((v.has_more ≡ false) × (v.play ≤ n) × ((h : ℕ) → is_member waiting h ≡ true → selects plan n h ≡ true))

pub record IsStarting (plan : PlanOf) (v : Seen) (host place : ℕ) : Type 0 where
  pub play : PlayOf
  pub there : slice_get plan.plays v.play ≡ Some play
  pub opened : v.is_open ≡ true
  pub idle : slice_get v.tasks host ≡ Some None
  pub inside : is_member v.inside host ≡ true
  pub room : nat_lt (count_running (places v.tasks)) v.forks ≡ true
  pub throttle : has_room_for (count_running_at (places v.tasks) place) (slice_index_or (throttles_of play.places) place 0) ≡ true
  pub answers : List AnswerOf
  pub answered : slice_get v.walked host ≡ Some answers
  pub at : leads plan v.play answers ≡ Some place
  pub known : AreKnown v.inside v.walked
  pub current : is_linear_play plan v.play ≡ true → v.place ≡ Some place

pub record IsSending (v : Seen) (host item attempt : ℕ) (ticket : Ticket) (r : Running) : Type 0 where
  pub opened : v.is_open ≡ true
  pub there : slice_get v.tasks host ≡ Some (Some r)
  pub free : r.out ≡ None
  pub next : next_item r.items ≡ Some item
  pub attempt_is : attempt_next r.items ≡ attempt
  pub number : ticket.0 ≡ v.sends

pub record IsReporting (plan : PlanOf) (v : Seen) (host item : ℕ) (ticket : Ticket) (r : Running) : Type 0 where
  pub opened : v.is_open ≡ true
  pub there : slice_get v.tasks host ≡ Some (Some r)
  pub out : option_map (λ (t : Ticket). t.0) r.out ≡ Some ticket.0
  pub next : next_item r.items ≡ Some item
  pub inside : is_member v.inside host ≡ true
  pub answers : List AnswerOf
  pub answered : slice_get v.walked host ≡ Some answers
  pub at : leads plan v.play answers ≡ Some r.place

pub record IsTurning (plan : PlanOf) (v : Seen) (happenings : List Happening) : Type 0 where
  pub walked : List (List AnswerOf)
  pub led : AreLed plan v.play 0 v.walked happenings walked
  pub only : AreInside v.inside happenings
  pub active : List Bool
  pub still : (h : ℕ) → is_member v.inside h ≡ false → is_member active h ≡ is_member v.active h
  pub shows : (h : ℕ) (xs : List AnswerOf) → is_member v.inside h ≡ true → is_member active h ≡ true → slice_get walked h ≡ Some xs
      → ((slice_get v.walked h ≡ Some xs) × (is_member v.active h ≡ true)) ⊎ (is_active (status_now (tree_at plan v.play) xs) ≡ true)
  pub place : Option ℕ
  pub behind : AreBehind plan v.play v.inside walked place

pub record IsClosing (plan : PlanOf) (v : Seen) (tasks : List (Option Running)) (inside waiting : List Bool) : Type 0 where
  pub opened : v.is_open ≡ true
  pub before : list_any is_some v.tasks ≡ false
  pub done : (h : ℕ) (xs : List AnswerOf) → is_member v.inside h ≡ true → slice_get v.walked h ≡ Some xs → leads plan v.play xs ≡ None
  pub known : AreKnown v.inside v.walked
  pub walked : List (List AnswerOf)
  pub fresh : AreFresh walked
  pub idle : list_any is_some tasks ≡ false
  pub none : (h : ℕ) → is_member inside h ≡ false
  pub still : (h : ℕ) → is_member waiting h ≡ true → (is_member v.waiting h ≡ true) × (is_member v.inside h ≡ false)

-- what an event tells, and what is seen after it
pub data Tells (plan : PlanOf) (v : Seen) : List Happening → Seen → Type 0 where
  Opening : (n : ℕ) (more : Bool) (tasks : List (Option Running)) (inside waiting : List Bool) → (is : IsOpening plan v n tasks inside waiting)
      → Tells plan v (Opens n inside ∷ [])
      (record { play = n; is_open = true; has_more = more; forks = v.forks; sends = v.sends; stopped = v.stopped; tasks = tasks; inside = inside; waiting = waiting; active = v.active; walked = is.walked; place = is.place })
  Starting : (over : Bool) (host place : ℕ) (items : List Item) (end : TaskEnd) (notified : List ℕ) → (is : IsStarting plan v host place) → HasBegun over items
      → Tells plan v (Starts (task_on v host place) ∷ ended_so over (task_on v host place) end notified)
      (record v { tasks = put v.tasks host (left_so over place items); active = active_so over v.active host (tree_at plan v.play) is.answers (answer_of end notified); walked = put v.walked host (answered_so over is.answers (answer_of end notified)) })
  Sending : (host item attempt : ℕ) (ticket : Ticket) (r : Running) → IsSending v host item attempt ticket r
      → Tells plan v (Sends (task_on v host r.place) item attempt ticket.0 ∷ []) (record v { tasks = put v.tasks host (Some (sent_running ticket r)); sends = v.sends + 1 })
  Reporting : (over : Bool) (host item : ℕ) (ticket : Ticket) (r : Running) (items : List Item) (end : TaskEnd) (notified : List ℕ) → (is : IsReporting plan v host item ticket r) → HasComeBack (attempts_at plan v.play r.place) r.items over items
      → Tells plan v (Reports host item ticket.0 ∷ ended_so over (task_on v host r.place) end notified)
      (record v { tasks = put v.tasks host (left_so over r.place items); active = active_so over v.active host (tree_at plan v.play) is.answers (answer_of end notified); walked = put v.walked host (answered_so over is.answers (answer_of end notified)) })
  Turning : (more : Bool) (happenings : List Happening) → v.is_open ≡ true → AreGiven happenings → (is : IsTurning plan v happenings) → Tells plan v happenings (record v { has_more = more; active = is.active; walked = is.walked; place = is.place })
  Closing : (tasks : List (Option Running)) (inside waiting : List Bool) → (is : IsClosing plan v tasks inside waiting)
      → Tells plan v (Closes v.play ∷ [])
      (record { play = play_behind v.has_more v.play; is_open = false; has_more = v.has_more; forks = v.forks; sends = v.sends; stopped = v.stopped; tasks = tasks; inside = inside; waiting = waiting; active = v.active; walked = is.walked; place = v.place })
  Stopping : Tells plan v (Stops ∷ []) (record v { stopped = true })
  Forking : (n : ℕ) → Tells plan v (MayRun n ∷ []) (record v { forks = n })

-- ---- rows as lists
pub get_map : {A : Type 0} (of : HostOf → A) (rows : List HostOf) (h : ℕ) → slice_get (map of rows) h ≡ option_map of (slice_get rows h)
get_map of [] h = refl
get_map of (row ∷ rows) zero = refl
get_map of (row ∷ rows) (suc h) = get_map of rows h

pub put_change : {A : Type 0} (of : HostOf → A) (f : HostOf → HostOf) (rows : List HostOf) (h : ℕ) (row : HostOf) → slice_get rows h ≡ Some row
    → map of (change rows h f) ≡ put (map of rows) h (of (f row))
put_change of f [] h row e = cc
put_change of f (first ∷ rows) zero row e = let same : first ≡ row = cc in ap (λ (r : HostOf). of (f r) ∷ map of rows) same
put_change of f (first ∷ rows) (suc h) row e = rw (change_on first rows h f) (ap (λ rest. of first ∷ rest) (put_change of f rows h row e))

pub put_same : {A : Type 0} (xs : List A) (h : ℕ) (x : A) → slice_get xs h ≡ Some x → put xs h x ≡ xs
put_same [] h x e = cc
put_same {A = A} (y ∷ ys) zero x e = let same : y ≡ x = cc in ap (λ (z : A). z ∷ ys) (sym same)
put_same {A = A} (y ∷ ys) (suc h) x e = ap (λ (rest : List A). y ∷ rest) (put_same ys h x e)

pub map_kept : {A : Type 0} (of : HostOf → A) (f : HostOf → HostOf) → ((row : HostOf) → of (f row) ≡ of row) → (rows : List HostOf) → map of (map f rows) ≡ map of rows
map_kept of f same [] = refl
map_kept of f same (row ∷ rows) = rw (same row, map_kept of f same rows) refl

pub runs_places : (rows : List HostOf) → runs_in (map standing rows) ≡ places (tasks_of rows)
runs_places [] = refl
runs_places (row ∷ rows) = ap (λ (rest : List (Option ℕ)). option_map (λ (r : Running). r.place) row.running ∷ rest) (runs_places rows)

pub any_tasks : (rows : List HostOf) → list_any is_some (tasks_of rows) ≡ list_any is_running rows
any_tasks [] = refl
any_tasks (row ∷ rows) = ap (λ (b : Bool). is_some row.running || b) (any_tasks rows)

pub member_in : (rows : List HostOf) (h : ℕ) (row : HostOf) → slice_get rows h ≡ Some row → row.in_batch ≡ true → is_member (batch_in rows) h ≡ true
member_in [] h row e i = cc
member_in (first ∷ rows) zero row e i = let same : first ≡ row = cc in rw same i
member_in (first ∷ rows) (suc h) row e i = member_in rows h row e i

pub row_at : (test : HostOf → Bool) (rows : List HostOf) (h : ℕ) → at_row test rows h ≡ true → (row : HostOf) × (slice_get rows h ≡ Some row) × (test row ≡ true)
row_at test rows h e = by_found (slice_get rows h) refl e
  where
    by_found : (found : Option HostOf) → slice_get rows h ≡ found → option_map_or test found false ≡ true → (row : HostOf) × (slice_get rows h ≡ Some row) × (test row ≡ true)
    by_found None f t = cc
    by_found (Some row) f t = (row, f, t)

-- one row changed, and then what is given to other hosts
pub changed_seen : (s : State) (gifts : List DelegatedFacts) (h : ℕ) (f : HostOf → HostOf) (row : HostOf) (task : Option Running) (active : List Bool) (walked : List (List AnswerOf)) → slice_get s.rows h ≡ Some row → (f row).running ≡ task
    → active_of (change s.rows h f) ≡ active → walked_of (change s.rows h f) ≡ walked → ((r : HostOf) → (f r).in_batch ≡ r.in_batch) → ((r : HostOf) → (f r).awaits_batch ≡ r.awaits_batch)
    → seen (record s { rows = with_delegated gifts (change s.rows h f) }) ≡ record (seen s) { tasks = put (tasks_of s.rows) h task; active = active; walked = walked }
changed_seen s gifts h f row task active walked there runs acts walks inside awaits_batch =
    let tasks : tasks_of (with_delegated gifts (change s.rows h f)) ≡ put (tasks_of s.rows) h task =
    given_map (λ (r : HostOf). r.running) (λ gift r. refl) gifts (change s.rows h f) ∙ put_change (λ (r : HostOf). r.running) f s.rows h row there ∙ ap (put (tasks_of s.rows) h) runs in
    let batch : batch_in (with_delegated gifts (change s.rows h f)) ≡ batch_in s.rows =
    given_map (λ (r : HostOf). r.in_batch) (λ gift r. refl) gifts (change s.rows h f) ∙ map_same (λ (r : HostOf). r.in_batch) f inside s.rows h in
    let waiting : waiting_of (with_delegated gifts (change s.rows h f)) ≡ waiting_of s.rows =
    given_map (λ (r : HostOf). r.awaits_batch) (λ gift r. refl) gifts (change s.rows h f) ∙ map_same (λ (r : HostOf). r.awaits_batch) f awaits_batch s.rows h in
    let acted : active_of (with_delegated gifts (change s.rows h f)) ≡ active = given_map (λ (r : HostOf). is_active r.status) (λ gift r. refl) gifts (change s.rows h f) ∙ acts in
    let went : walked_of (with_delegated gifts (change s.rows h f)) ≡ walked = given_map (λ (r : HostOf). r.answers) (λ gift r. refl) gifts (change s.rows h f) ∙ walks in
    rw (tasks, batch, waiting, acted, went) refl

-- ---- the play that is open
pub play_there : (plan : PlanOf) (s : State) (play : PlayOf) → open_play plan s ≡ Some play → slice_get plan.plays s.play ≡ Some play
play_there plan s play o = by_open s.is_open o
  where
    by_open : (b : Bool) → (if b then slice_get plan.plays s.play else None) ≡ Some play → slice_get plan.plays s.play ≡ Some play
    by_open true e = e
    by_open false e = cc

-- the tree of a host of the batch is that of the open play
pub in_tree : (tree : TreeOf) (rows : List HostOf) (h : ℕ) (row : HostOf) → AllIn tree rows → slice_get rows h ≡ Some row → row.in_batch ≡ true → row.tree ≡ tree
in_tree tree [] h row all e i = cc
in_tree tree (first ∷ rows) zero row all e i = let same : first ≡ row = cc in subst (λ (r : HostOf). r.in_batch ≡ true → r.tree ≡ tree) same all.0 i
in_tree tree (first ∷ rows) (suc h) row all e i = in_tree tree rows h row all.1 e i

pub tree_there : (plan : PlanOf) (n : ℕ) (play : PlayOf) → slice_get plan.plays n ≡ Some play → tree_at plan n ≡ play.tree
tree_there plan n play e = ap (λ (found : Option PlayOf). option_map_or (λ (p : PlayOf). p.tree) found no_tree) e

-- where its answers lead a host of the batch, and where it is next
pub next_leads : (plan : PlanOf) (n : ℕ) (play : PlayOf) (rows : List HostOf) (h : ℕ) (row : HostOf) → slice_get plan.plays n ≡ Some play → AllIn play.tree rows → slice_get rows h ≡ Some row → row.in_batch ≡ true
    → next_place row ≡ leads plan n row.answers
next_leads plan n play rows h row there all e i =
    by_inside row.in_batch i ∙ ap (λ (tree : TreeOf). place_of (reach tree row.answers)) (in_tree play.tree rows h row all e i ∙ sym (tree_there plan n play there))
  where
    by_inside : (b : Bool) → b ≡ true → (if b then place_of (reach row.tree row.answers) else None) ≡ place_of (reach row.tree row.answers)
    by_inside true f = refl
    by_inside false f = cc

pub answers_there : (rows : List HostOf) (h : ℕ) (row : HostOf) → slice_get rows h ≡ Some row → slice_get (walked_of rows) h ≡ Some row.answers
answers_there rows h row e = get_map (λ (r : HostOf). r.answers) rows h ∙ ap (option_map (λ (r : HostOf). r.answers)) e

-- whose answers these are
pub row_of : (rows : List HostOf) (h : ℕ) (xs : List AnswerOf) → slice_get (walked_of rows) h ≡ Some xs → (row : HostOf) × (slice_get rows h ≡ Some row) × (row.answers ≡ xs)
row_of [] h xs e = cc
row_of (row ∷ rows) zero xs e = (row, refl, let same : row.answers ≡ xs = cc in same)
row_of (row ∷ rows) (suc h) xs e = row_of rows h xs e

pub row_inside : (rows : List HostOf) (h : ℕ) (row : HostOf) → slice_get rows h ≡ Some row → is_member (batch_in rows) h ≡ true → row.in_batch ≡ true
row_inside [] h row e i = cc
row_inside (first ∷ rows) zero row e i = let same : first ≡ row = cc in rw (← same) i
row_inside (first ∷ rows) (suc h) row e i = row_inside rows h row e i

pub all_known : (rows : List HostOf) → AreKnown (batch_in rows) (walked_of rows)
all_known [] h i = cc
all_known (row ∷ rows) zero i = (row.answers, refl)
all_known (row ∷ rows) (suc h) i = all_known rows h i

-- the least place is at most each other one
lesser_left : (a b : Option ℕ) (p q : ℕ) → lesser a b ≡ Some p → a ≡ Some q → p ≤ q
lesser_left None b p q e f = cc
lesser_left (Some a) None p q e f = let one : a ≡ p = cc in let other : a ≡ q = cc in omega (arith, one, other)
lesser_left (Some a) (Some b) p q e f = let one : min a b ≡ p = cc in let other : a ≡ q = cc in omega (arith, one, other)

lesser_right : (a b : Option ℕ) (p q : ℕ) → lesser a b ≡ Some p → ((r : ℕ) → b ≡ Some r → r ≤ q) → is_some b ≡ true → p ≤ q
lesser_right a None p q e below some = cc
lesser_right None (Some b) p q e below some = let one : b ≡ p = cc in let least = below b refl in omega (arith, one, least)
lesser_right (Some a) (Some b) p q e below some = let one : min a b ≡ p = cc in let least = below b refl in omega (arith, one, least)

pub least_some : (rows : List HostOf) (h : ℕ) (row : HostOf) (q : ℕ) → slice_get rows h ≡ Some row → next_place row ≡ Some q → is_some (least_place rows) ≡ true
least_some [] h row q e n = cc
least_some (first ∷ rows) zero row q e n = by_next (next_place first) (let same : first ≡ row = cc in ap next_place same ∙ n) (least_place rows)
  where
    by_next : (next : Option ℕ) → next ≡ Some q → (rest : Option ℕ) → is_some (lesser next rest) ≡ true
    by_next None f rest = cc
    by_next (Some a) f None = refl
    by_next (Some a) f (Some b) = refl
least_some (first ∷ rows) (suc h) row q e n = by_rest (next_place first) (least_place rows) (least_some rows h row q e n)
  where
    by_rest : (next rest : Option ℕ) → is_some rest ≡ true → is_some (lesser next rest) ≡ true
    by_rest None rest f = f
    by_rest (Some a) None f = cc
    by_rest (Some a) (Some b) f = refl

least_most : (rows : List HostOf) (h : ℕ) (row : HostOf) (p q : ℕ) → slice_get rows h ≡ Some row → next_place row ≡ Some q → least_place rows ≡ Some p → p ≤ q
least_most [] h row p q e n l = cc
least_most (first ∷ rows) zero row p q e n l = lesser_left (next_place first) (least_place rows) p q l (let same : first ≡ row = cc in ap next_place same ∙ n)
least_most (first ∷ rows) (suc h) row p q e n l = lesser_right (next_place first) (least_place rows) p q l (λ r f. least_most rows h row r q e n f) (least_some rows h row q e n)

-- so no host of the batch is before it
pub rows_behind : (plan : PlanOf) (n : ℕ) (play : PlayOf) (rows : List HostOf) (place : Option ℕ) → slice_get plan.plays n ≡ Some play → AllIn play.tree rows → place ≡ first_by play.strategy rows
    → AreBehind plan n (batch_in rows) (walked_of rows) place
rows_behind plan n play rows place there all is = λ linear h xs p q inside walked to at.
    let found = row_of rows h xs walked in
    let i = row_inside rows h found.0 found.1 inside in
    let next : next_place found.0 ≡ Some q = next_leads plan n play rows h found.0 there all found.1 i ∙ ap (leads plan n) found.2 ∙ to in
    least_most rows h found.0 p q found.1 next (by_linear (is_linear play.strategy) (sym (linear_there plan n play there) ∙ linear) ∙ sym is ∙ at)
  where
    linear_there : (plan : PlanOf) (n : ℕ) (play : PlayOf) → slice_get plan.plays n ≡ Some play → is_linear_play plan n ≡ is_linear play.strategy
    linear_there plan n play e = ap (λ (found : Option PlayOf). option_map_or (λ (p : PlayOf). is_linear p.strategy) found false) e

    by_linear : (b : Bool) → b ≡ true → least_place rows ≡ (if b then least_place rows else None)
    by_linear true e = refl
    by_linear false e = cc
