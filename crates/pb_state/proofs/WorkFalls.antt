-- Each event but a command leaves less to do.
use Rattle.std.proofs.Common.{◌≡◌, ℕ, zero, suc, ◌+◌, ◌-◌, ◌*◌, ◌<◌, ◌≤◌, Bool, true, false, ◌&&◌, not, List, [], ◌∷◌, length, map, drop, get_or, refl, sym, ◌∙◌, ap, arith, ◌⊎◌, inl, inr, suc-mul}
use Rattle.std.specs.Prelude.{Option, Some, None, slice_get, sum_by, if◌then◌else◌}
use Rattle.std.specs.Option.{option_map_or}
use Rattle.std.proofs.lemmas.List.{drop_more, length-map}
use Rattle.std.proofs.lemmas.List.Sums.{sum_by-cons}
use Rattle.std.proofs.lemmas.Option.{slice_get_within, get_or_from_slice_get}
use Rattle.pb_tree.specs.Tree.{TreeOf, size_of}
use Rattle.pb_state.specs.declared.event.Event.{Event}
use Rattle.pb_state.specs.declared.event.Event.TheVariants.{Open, Start, Send, Report as Reported, Turn, Close, Stop, Forks}
use Rattle.pb_plan.specs.Plan.{PlayOf, PlanOf}
use Rattle.pb_hosts.specs.Batches.{has_batch_left, play_host_count, joins, room_behind, joined_first}
use Rattle.pb_host.specs.Host.{HostOf, no_tree, next_place, as_play_begins, joined, left}
use Rattle.pb_state.specs.State.{State}
use Rattle.pb_hosts.specs.Hosts.{least_place}
use Rattle.pb_state.specs.Machine.{possible, after, open_play, may_open, is_left, may_close_in, opened_by, after_open, play_behind, closed}
use Rattle.pb_batches.specs.Sizes.{batch_sizes}
use Rattle.pb_state.specs.Run.{is_command}
use Rattle.pb_state.specs.Work.{most_events, place_work, row_work, batch_work, batches_work, later_work, rest_work, between_work, work_in, work}
use Rattle.pb_hosts.proofs.Batching.{few_play_hosts, length-joined}
use Rattle.pb_state.proofs.FewBatches.{few_batches}
use Rattle.pb_state.proofs.SizesLeft.{later_one}
use Rattle.pb_state.proofs.Opening.{GoesOn, Begins, IsOpening, open_case, rows_case}
use Rattle.pb_state.proofs.BatchWork.{and_left, and_right, not_false, with_more, turn_work_at_most, start_in_less, send_in_less, report_in_less, times, turn_in_less}

-- a close
open_is : (plan : PlanOf) (s : State) (play : PlayOf) (b : Bool) → s.is_open ≡ b → open_play plan s ≡ Some play → b ≡ true
open_is plan s play true t e = refl
open_is plan s play false t e = let no : open_play plan s ≡ None = rw t refl in cc

play_there : (plan : PlanOf) (s : State) (play : PlayOf) (b : Bool) → (if b then slice_get plan.plays s.play else None) ≡ Some play → slice_get plan.plays s.play ≡ Some play
play_there plan s play true o = o
play_there plan s play false o = cc

-- where batches are left the play is the same, and else the next one
abbrev closed_by : PlanOf → State → Bool → ℕ
closed_by plan s sizes_left =
    if sizes_left then option_map_or (rest_work plan (length (map left s.rows)) s.sizes_left (play_behind sizes_left s.play)) (slice_get plan.plays (play_behind sizes_left s.play)) 0
    else later_work (length (map left s.rows)) (drop (play_behind sizes_left s.play) plan.plays)

closed_at_most : (plan : PlanOf) (s : State) (play : PlayOf) (sizes_left : Bool) → slice_get plan.plays s.play ≡ Some play → closed_by plan s sizes_left ≤ rest_work plan (length (map left s.rows)) s.sizes_left s.play play
closed_at_most plan s play true e =
    let same : closed_by plan s true ≡ rest_work plan (length (map left s.rows)) s.sizes_left s.play play =
    ap (λ (found : Option PlayOf). option_map_or (rest_work plan (length (map left s.rows)) s.sizes_left s.play) found 0) e in
    omega (arith, same)
closed_at_most plan s play false e =
    with_more (later_work (length (map left s.rows)) (drop (s.play + 1) plan.plays)) (later_work (length (map left s.rows)) (drop (s.play + 1) plan.plays)) (batches_work (length (map left s.rows)) s.sizes_left play) (omega arith)

close_in_less : (plan : PlanOf) (s : State) (found : Option PlayOf) → open_play plan s ≡ found → option_map_or (may_close_in s) found false ≡ true → work plan (closed s) < work plan s
close_in_less plan s None o e = cc
close_in_less plan s (Some play) o e =
    let same : rest_work plan (length (map left s.rows)) s.sizes_left s.play play ≡ rest_work plan (length s.rows) s.sizes_left s.play play = rw (length-map s.rows left) refl in
    let old : work plan s ≡ work_in plan s (Some play) = ap (work_in plan s) o in
    let new : work plan (closed s) ≤ rest_work plan (length (map left s.rows)) s.sizes_left s.play play = closed_at_most plan s play (has_batch_left s.sizes_left) (play_there plan s play s.is_open o) in
    omega (arith, same, old, new)

-- an open
smaller : (tree : TreeOf) (b : Bool) → size_of (if b then tree else no_tree) ≤ size_of tree
smaller tree true = omega arith
smaller tree false = omega arith

fresh : (tree : TreeOf) (inside : Bool) (row : HostOf) → row_work (joined tree inside row) ≤ most_events * size_of tree
fresh tree inside row = most (next_place (joined tree inside row))
  where
    most : (next : Option ℕ) → place_work (joined tree inside row) next ≤ most_events * size_of tree
    most None = omega arith
    most (Some p) = omega (arith, smaller tree inside)

fresh_all : (tree : TreeOf) (room : ℕ) (rows : List HostOf) → sum_by row_work (joined_first tree room rows) ≤ length rows * (most_events * size_of tree)
fresh_all tree room [] = omega arith
fresh_all tree room (row ∷ rows) =
    let one = fresh tree (joins room row.awaits_batch) row in
    let rest = fresh_all tree (room_behind room row.awaits_batch) rows in
    omega (arith, sum_by-cons row_work (joined tree (joins room row.awaits_batch) row) (joined_first tree (room_behind room row.awaits_batch) rows), one, rest, suc-mul (length rows) (most_events * size_of tree))

later_at : (n : ℕ) (plays : List PlayOf) (i : ℕ) (play : PlayOf) → slice_get plays i ≡ Some play → later_work n (drop i plays) ≡ n * batch_work n play + later_work n (drop (i + 1) plays)
later_at n plays i play e =
    let here : get_or plays i play ≡ play = get_or_from_slice_get plays i play play e in
    let cut : drop i plays ≡ get_or plays i play ∷ drop (i + 1) plays = drop_more plays i play (slice_get_within plays i play e) in
    ap (later_work n) cut ∙ ap (λ (p : PlayOf). n * batch_work n p + later_work n (drop (i + 1) plays)) here

-- plays that are passed over leave less to do
one_fewer : (n : ℕ) (plays : List PlayOf) (i : ℕ) → later_work n (drop (suc i) plays) ≤ later_work n (drop i plays)
one_fewer n [] zero = omega arith
one_fewer n [] (suc i) = omega arith
one_fewer n (play ∷ plays) zero = omega arith
one_fewer n (play ∷ plays) (suc i) = one_fewer n plays i

some_fewer : (n : ℕ) (plays : List PlayOf) (i k : ℕ) → later_work n (drop (k + i) plays) ≤ later_work n (drop i plays)
some_fewer n plays i zero = let same : 0 + i ≡ i = omega arith in rw same (omega arith)
some_fewer n plays i (suc k) = let same : suc k + i ≡ suc (k + i) = omega arith in rw same (omega (arith, one_fewer n plays (k + i), some_fewer n plays i k))

fewer : (n : ℕ) (plays : List PlayOf) (i j : ℕ) → i ≤ j → later_work n (drop j plays) ≤ later_work n (drop i plays)
fewer n plays i j l = let at : (j - i) + i ≡ j = omega (arith, l) in rw at at (some_fewer n plays i (j - i))

-- what is left once a batch of a play has opened
opened_work : (plan : PlanOf) (s : State) (n batch : ℕ) (sizes : List ℕ) (rows : List HostOf) (play : PlayOf) (size : ℕ) → slice_get plan.plays n ≡ Some play → length rows ≡ length s.rows
    → work plan (opened_by s n batch sizes rows play size) < batch_work (length s.rows) play + rest_work plan (length s.rows) (drop 1 sizes) n play
opened_work plan s n batch sizes rows play size e l =
    let state = opened_by s n batch sizes rows play size in
    let new : work plan state ≡ work_in plan state (Some play) = ap (work_in plan state) e in
    let as_many : length (joined_first play.tree size rows) ≡ length s.rows = length-joined play.tree size rows ∙ l in
    let same : rest_work plan (length (joined_first play.tree size rows)) (drop 1 sizes) n play ≡ rest_work plan (length s.rows) (drop 1 sizes) n play = rw as_many refl in
    let most : length rows * (most_events * size_of play.tree) ≡ length s.rows * (most_events * size_of play.tree) = ap (λ k. k * (most_events * size_of play.tree)) l in
    let turn = turn_work_at_most state.place (least_place state.rows) in
    omega (arith, new, same, most, turn, fresh_all play.tree size rows)

-- the batches of a play, of which the first is one
first_batch : (plan : PlanOf) (n k : ℕ) (sizes : List ℕ) (play : PlayOf) (size : ℕ) → slice_get sizes 0 ≡ Some size
    → batch_work k play + rest_work plan k (drop 1 sizes) n play ≡ batches_work k sizes play + later_work k (drop (n + 1) plan.plays)
first_batch plan n k sizes play size e =
    let one : batches_work k sizes play ≡ suc (length (drop 1 sizes)) * batch_work k play = ap (λ m. m * batch_work k play) (later_one sizes size e) in
    omega (arith, one, suc-mul (length (drop 1 sizes)) (batch_work k play))

goes_less : (plan : PlanOf) (s : State) (n batch : ℕ) (sizes : List ℕ) (rows : List HostOf) (play : PlayOf) (size : ℕ) → s.is_open ≡ false → IsOpening plan s n batch sizes rows play size → GoesOn s n batch sizes rows
    → batches_work (length s.rows) sizes play + later_work (length s.rows) (drop (n + 1) plan.plays) ≤ work plan s
goes_less plan s n batch sizes rows play size c is on =
    let closed_work : work plan s ≡ between_work plan s = ap (λ (b : Bool). work_in plan s (if b then slice_get plan.plays s.play else None)) c in
    let between : between_work plan s ≡ option_map_or (rest_work plan (length s.rows) s.sizes_left s.play) (slice_get plan.plays s.play) 0 =
    ap (λ (b : Bool). if b then option_map_or (rest_work plan (length s.rows) s.sizes_left s.play) (slice_get plan.plays s.play) 0 else later_work (length s.rows) (drop s.play plan.plays)) on.0 in
    let there : slice_get plan.plays s.play ≡ Some play = ap (slice_get plan.plays) (sym on.1) ∙ is.there in
    let found : option_map_or (rest_work plan (length s.rows) s.sizes_left s.play) (slice_get plan.plays s.play) 0 ≡ rest_work plan (length s.rows) s.sizes_left s.play play =
    ap (λ (f : Option PlayOf). option_map_or (rest_work plan (length s.rows) s.sizes_left s.play) f 0) there in
    let same : batches_work (length s.rows) sizes play + later_work (length s.rows) (drop (n + 1) plan.plays) ≡ rest_work plan (length s.rows) s.sizes_left s.play play =
    ap (λ (k : List ℕ). batches_work (length s.rows) k play + later_work (length s.rows) (drop (n + 1) plan.plays)) on.3
    ∙ ap (λ (m : ℕ). batches_work (length s.rows) s.sizes_left play + later_work (length s.rows) (drop (m + 1) plan.plays)) on.1 in
    omega (arith, closed_work, between, found, same)

begins_less : (plan : PlanOf) (s : State) (n batch : ℕ) (sizes : List ℕ) (rows : List HostOf) (play : PlayOf) (size : ℕ) → s.is_open ≡ false → IsOpening plan s n batch sizes rows play size → Begins s n batch sizes rows play
    → batches_work (length s.rows) sizes play + later_work (length s.rows) (drop (n + 1) plan.plays) ≤ work plan s
begins_less plan s n batch sizes rows play size c is begun =
    let closed_work : work plan s ≡ between_work plan s = ap (λ (b : Bool). work_in plan s (if b then slice_get plan.plays s.play else None)) c in
    let between : between_work plan s ≡ later_work (length s.rows) (drop s.play plan.plays) =
    ap (λ (b : Bool). if b then option_map_or (rest_work plan (length s.rows) s.sizes_left s.play) (slice_get plan.plays s.play) 0 else later_work (length s.rows) (drop s.play plan.plays)) begun.0 in
    let count : length sizes ≡ length (batch_sizes play.serial (play_host_count play.hosts s.rows)) = ap length begun.3 in
    let few : length sizes ≤ length s.rows = omega (arith, count, few_batches play.serial (play_host_count play.hosts s.rows), few_play_hosts play.hosts s.rows) in
    let most = times (batch_work (length s.rows) play) (length sizes) (length s.rows) few in
    let at = later_at (length s.rows) plan.plays n play is.there in
    let passed = fewer (length s.rows) plan.plays s.play n begun.1 in
    omega (arith, closed_work, between, most, at, passed)

how_less : (plan : PlanOf) (s : State) (n batch : ℕ) (sizes : List ℕ) (rows : List HostOf) (play : PlayOf) (size : ℕ) → s.is_open ≡ false → IsOpening plan s n batch sizes rows play size
    → GoesOn s n batch sizes rows ⊎ Begins s n batch sizes rows play → batches_work (length s.rows) sizes play + later_work (length s.rows) (drop (n + 1) plan.plays) ≤ work plan s
how_less plan s n batch sizes rows play size c is (inl on) = goes_less plan s n batch sizes rows play size c is on
how_less plan s n batch sizes rows play size c is (inr begun) = begins_less plan s n batch sizes rows play size c is begun

open_next_less : (plan : PlanOf) (s : State) → s.is_open ≡ false → is_left plan s ≡ true → work plan (after_open plan s) < work plan s
open_next_less plan s c left_some =
    open_case (λ (new : State). work plan new < work plan s) plan s (λ none. absurd (none left_some))
    (λ n batch sizes rows play size is.
    let stay : length rows ≡ length s.rows = rows_case (λ (all : List HostOf). length all ≡ length s.rows) plan s n batch sizes rows play size is refl (λ hosts. length-map s.rows (as_play_begins hosts)) in
    let opened = opened_work plan s n batch sizes rows play size is.there stay in
    let first = first_batch plan n (length s.rows) sizes play size is.first in
    let old = how_less plan s n batch sizes rows play size c is is.how in
    omega (arith, opened, first, old))

open_less : (plan : PlanOf) (s : State) → may_open plan s ≡ true → work plan (after plan s Open) < work plan s
open_less plan s e =
    let three = and_left (not s.stopped && not s.is_open && not s.ended) _ e in
    let two = and_left (not s.stopped && not s.is_open) _ three in
    open_next_less plan s (not_false s.is_open (and_right (not s.stopped) _ two)) (and_right (not s.stopped && not s.is_open && not s.ended) _ e)

falls : (plan : PlanOf) (s : State) (e : Event) → 0 < s.forks → is_command e ≡ false → possible plan s e ≡ true → work plan (after plan s e) < work plan s
falls plan s Open f m p = open_less plan s p
falls plan s (Start h) f m p = start_in_less plan s h.0 (open_play plan s) refl p
falls plan s (Send h item attempt ticket) f m p = send_in_less plan s h.0 item attempt ticket (open_play plan s) refl p
falls plan s (Reported r) f m p = report_in_less plan s r (open_play plan s) refl p
falls plan s Turn f m p = turn_in_less plan s (open_play plan s) f refl p
falls plan s Close f m p = close_in_less plan s (open_play plan s) refl p
falls plan s Stop f m p = cc
falls plan s (Forks n) f m p = cc

pub falls_if : (plan : PlanOf) (s : State) (e : Event) → possible plan s e ≡ true → 0 < s.forks → is_command e ≡ false → work plan (after plan s e) < work plan s
falls_if plan s e p f m = falls plan s e f m p
