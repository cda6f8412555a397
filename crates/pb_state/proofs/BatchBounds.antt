-- Each step of the batch keeps the state's numbers within their bounds: a turn, an open and a close. The bounds leave room for one step more.
use Rattle.std.proofs.Common.{◌≡◌, ℕ, zero, suc, ◌+◌, ◌-◌, ◌*◌, ◌^◌, ◌<◌, ◌≤◌, Bool, true, false, ◌&&◌, ◌||◌, List, [], ◌∷◌, ◌++◌, length, map, drop, refl, sym, ◌∙◌, ap, subst, arith, suc-mul, inl, inr}
use Rattle.std.specs.Bool.{OnTrue}
use Rattle.std.specs.List.{list_any}
use Rattle.std.specs.Prelude.{Option, Some, None, IfSome, slice_get, sum_by, not, if◌then◌else◌}
use Rattle.std.proofs.lemmas.List.{length-map}
use Rattle.std.proofs.lemmas.List.Sums.{sum_by-cons}
use Rattle.pb_facts.specs.Facts.{FactsOf}
use Rattle.pb_inventory.specs.InventoryOf.{InventoryOf}
use Rattle.pb_plan.specs.Plan.{PlayOf}
use Rattle.pb_tree.specs.Answer.{AnswerOf}
use Rattle.pb_tree.specs.declared.answer.Kind.{Kind}
use Rattle.pb_tree.specs.Tree.{TreeOf, size_of}
use Rattle.pb_tree.specs.Walk.{reach, one_halted, without_halted, is_halted}
use Rattle.pb_task_vars.specs.FromItems.{max_items}
use Rattle.pb_host.specs.declared.host.Running.{Running}
use Rattle.pb_hosts.specs.Batches.{has_batch_left, joins, room_behind, joined_first}
use Rattle.pb_host.specs.Host.{HostOf, no_tree, first_rows, place_of, next_place, answered, as_play_begins, joined, left}
use Rattle.pb_host.specs.Ends.{IsAtMost, plain_answer}
use Rattle.pb_host.specs.Runs.{is_running}
use Rattle.pb_state.specs.Machine.{play_behind}
use Rattle.pb_state.specs.Bounds.{run_places, running_jobs, running_items, plays_behind, IsPlacedIn, IsWithin, AllWithin, max_jobs, most_jobs, IsBounded}
use Rattle.pb_hosts.specs.Turn.{BatchOf, turned_by}
use Rattle.pb_hosts.proofs.Batching.{joins_waits, length-joined}
use Rattle.pb_hosts.proofs.FirstRows.{length-first}
use Rattle.pb_hosts.proofs.Turning.{Goes, turned_by_case, turned_hosts, idle_map}
use Rattle.pb_state.proofs.Walked.{at_below, place_at, in_if}
use Rattle.pb_state.proofs.Within.{at_most_to, none_at_most, none_running, in_waits, as_in}

-- ---- a turn
-- an answer more is one more that counts at most
abbrev IsOneMore : ℕ → ℕ → Type 0
IsOneMore m n = (m ≤ n) × (n ≤ m + 1)

behind_none : (b : Bool) (last : AnswerOf) → IsOneMore 0 (length (if b then [] else last ∷ []))
behind_none true last = (omega arith, omega arith)
behind_none false last = (omega arith, omega arith)

without_most : (answers : List AnswerOf) (last : AnswerOf) → IsOneMore (length (without_halted answers)) (length (without_halted (answers ++ last ∷ [])))
without_most [] last = behind_none (is_halted last.kind) last
without_most (a ∷ answers) last = chosen (is_halted a.kind) (without_halted answers) (without_halted (answers ++ last ∷ [])) (without_most answers last)
  where
    chosen : (b : Bool) (xs ys : List AnswerOf) → IsOneMore (length xs) (length ys) → IsOneMore (length (if b then xs else a ∷ xs)) (length (if b then ys else a ∷ ys))
    chosen true xs ys e = e
    chosen false xs ys e = (omega (arith, e.0), omega (arith, e.1))

first_alone : (b : Bool) (last : AnswerOf) → IsOneMore 0 (length (if b then last ∷ [] else last ∷ []))
first_alone true last = (omega arith, omega arith)
first_alone false last = (omega arith, omega arith)

pub one_most : (answers : List AnswerOf) (last : AnswerOf) → (length (one_halted answers) ≤ length (one_halted (answers ++ last ∷ []))) × (length (one_halted (answers ++ last ∷ [])) ≤ length (one_halted answers) + 1)
one_most [] last = first_alone (is_halted last.kind) last
one_most (a ∷ answers) last =
    chosen (is_halted a.kind) (without_halted answers) (without_halted (answers ++ last ∷ [])) (one_halted answers) (one_halted (answers ++ last ∷ [])) (without_most answers last) (one_most answers last)
  where
    chosen : (b : Bool) (xs ys us vs : List AnswerOf) → IsOneMore (length xs) (length ys) → IsOneMore (length us) (length vs) → IsOneMore (length (if b then a ∷ xs else a ∷ us)) (length (if b then a ∷ ys else a ∷ vs))
    chosen true xs ys us vs e f = (omega (arith, e.0), omega (arith, e.1))
    chosen false xs ys us vs e f = (omega (arith, f.0), omega (arith, f.1))

or_left : (a b : Bool) → (a || b) ≡ false → a ≡ false
or_left true b e = e
or_left false b e = refl

or_right : (a b : Bool) → (a || b) ≡ false → b ≡ false
or_right true b e = cc
or_right false b e = e

-- a host that is given an answer had a place left
given_within : (goes_on : Bool) (k p : ℕ) (kind : Kind) (broken : Bool) (facts : FactsOf) (row : HostOf) → next_place row ≡ Some p → is_running row ≡ false → IsWithin true goes_on k row
    → IsWithin true goes_on k (record (answered (plain_answer kind) row) { is_broken = broken; facts = facts })
given_within goes_on k p kind broken facts row next idle w =
    let more = one_most row.answers (plain_answer kind) in
    let inside = in_if row.in_batch (place_of (reach row.tree row.answers)) p next in
    let below = at_below row.tree row.answers p (place_at (reach row.tree row.answers) row.in_batch p next) in
    let none : run_places row.running ≡ 0 = ap run_places (none_running row row.running refl idle) in (
      at_most_to row.counts _ _ (omega (arith, more.0)) w.0,
      omega (arith, more.1, below, w.2, none),
      w.2,
      w.3,
      as_in row.in_batch (record (answered (plain_answer kind) row) { is_broken = broken; facts = facts }) inside (in_waits row.in_batch row inside w.4),
    )

goes_within : (goes_on : Bool) (k : ℕ) (f : HostOf → HostOf) → Goes f → (row : HostOf) → is_running row ≡ false → IsWithin true goes_on k row → IsWithin true goes_on k (f row)
goes_within goes_on k f goes row idle w =
    elim (goes row) [
      | inl same ↦ subst (IsWithin true goes_on k) (sym same) w
      | inr given ↦ subst (IsWithin true goes_on k) (sym given.is) (given_within goes_on k given.place given.kind given.broken given.facts row given.next idle w)
    ]

goes_jobs : (goes_on : Bool) (k : ℕ) (f : HostOf → HostOf) → Goes f → (row : HostOf) → most_jobs true goes_on k row ≤ most_jobs true goes_on k (f row)
goes_jobs goes_on k f goes row =
    elim (goes row) [
      | inl same ↦ rw same (omega arith)
      | inr given ↦ rw given.is (let more = one_most row.answers (plain_answer given.kind) in omega (arith, more.0))
    ]

-- the rows of an open batch, in which nobody runs
abbrev IsIdle : Bool → ℕ → ℕ → List HostOf → Type 0
IsIdle goes_on k sends rows = (list_any is_running rows ≡ false) × AllWithin true goes_on k rows × (sends ≤ sum_by (most_jobs true goes_on k) rows)

map_within : (goes_on : Bool) (k : ℕ) (f : HostOf → HostOf) → Goes f → (rows : List HostOf) → list_any is_running rows ≡ false → AllWithin true goes_on k rows → AllWithin true goes_on k (map f rows)
map_within goes_on k f goes [] idle w = tt
map_within goes_on k f goes (row ∷ rows) idle w =
    (goes_within goes_on k f goes row (or_left (is_running row) _ idle) w.0, map_within goes_on k f goes rows (or_right (is_running row) _ idle) w.1)

map_jobs : (goes_on : Bool) (k : ℕ) (f : HostOf → HostOf) → Goes f → (rows : List HostOf) → sum_by (most_jobs true goes_on k) rows ≤ sum_by (most_jobs true goes_on k) (map f rows)
map_jobs goes_on k f goes [] = omega arith
map_jobs goes_on k f goes (row ∷ rows) =
    let one = goes_jobs goes_on k f goes row in
    let rest = map_jobs goes_on k f goes rows in
    omega (arith, one, rest, sum_by-cons (most_jobs true goes_on k) row rows, sum_by-cons (most_jobs true goes_on k) (f row) (map f rows))

map_idle : (goes_on : Bool) (k sends : ℕ) (f : HostOf → HostOf) → Goes f → (rows : List HostOf) → IsIdle goes_on k sends rows → IsIdle goes_on k sends (map f rows)
map_idle goes_on k sends f goes rows w =
    (sym (idle_map f goes rows) ∙ w.0, map_within goes_on k f goes rows w.0 w.1, let more = map_jobs goes_on k f goes rows in omega (arith, more, w.2))

-- while a batch is open the bounds don't ask which batches are left
within_on : (goes_on goes : Bool) (k : ℕ) (rows : List HostOf) → AllWithin true goes_on k rows → AllWithin true goes k rows
within_on goes_on goes k [] w = tt
within_on goes_on goes k (row ∷ rows) w = (w.0, within_on goes_on goes k rows w.1)

jobs_on : (goes_on goes : Bool) (k : ℕ) (rows : List HostOf) → sum_by (most_jobs true goes_on k) rows ≡ sum_by (most_jobs true goes k) rows
jobs_on goes_on goes k [] = refl
jobs_on goes_on goes k (row ∷ rows) =
    let rest = jobs_on goes_on goes k rows in
    omega (arith, rest, sum_by-cons (most_jobs true goes_on k) row rows, sum_by-cons (most_jobs true goes k) row rows)

pub turn_bounded : (batch : ℕ) (sizes_left new_later : List ℕ) (play sends : ℕ) (is_open : Bool) (inventory : InventoryOf) (p : PlayOf) (place : Option ℕ) (rows new : List HostOf) → IsBounded is_open batch sizes_left play sends rows
    → is_open ≡ true → list_any is_running rows ≡ false → new ≡ (turned_by inventory p (record { rows = rows; sizes_left = sizes_left }) place).rows → length new_later ≤ length sizes_left → IsBounded is_open batch new_later play sends new
turn_bounded batch sizes_left new_later play sends true inventory p place rows new b o idle n l =
    let batch_then : BatchOf = record { rows = rows; sizes_left = sizes_left } in
    let kept = turned_by_case (IsIdle (has_batch_left sizes_left) play sends) (map_idle (has_batch_left sizes_left) play sends) inventory p batch_then place (idle, b.counts, b.jobs) in
    let hosts = turned_hosts inventory p batch_then place in
    rw n
    (record {
      counts = within_on (has_batch_left sizes_left) (has_batch_left new_later) play (turned_by inventory p batch_then place).rows kept.1;
      plays = b.plays;
      under_way = b.under_way;
      hosts = omega (arith, hosts, b.hosts);
      batches = omega (arith, l, b.batches);
      jobs = let same = jobs_on (has_batch_left sizes_left) (has_batch_left new_later) play (turned_by inventory p batch_then place).rows in omega (arith, same, kept.2);
    })
turn_bounded batch sizes_left new_later play sends false inventory p place rows new b o idle n l = cc

-- the plays that a host has behind it
behind_most : (under_way : Bool) (play : ℕ) (row : HostOf) → plays_behind under_way play row ≤ play + 1
behind_most true play row = by_waits row.awaits_batch
  where
    by_waits : (awaits_batch : Bool) → (if true && not awaits_batch then play + 1 else play) ≤ play + 1
    by_waits true = omega arith
    by_waits false = omega arith
behind_most false play row = omega arith

behind_least : (under_way : Bool) (play : ℕ) (row : HostOf) → play ≤ plays_behind under_way play row
behind_least true play row = by_waits row.awaits_batch
  where
    by_waits : (awaits_batch : Bool) → play ≤ (if true && not awaits_batch then play + 1 else play)
    by_waits true = omega arith
    by_waits false = omega arith
behind_least false play row = omega arith

behind_waits : (under_way : Bool) (play : ℕ) (row : HostOf) → row.awaits_batch ≡ true → plays_behind under_way play row ≡ play
behind_waits true play row w = ap (λ (awaits_batch : Bool). if true && not awaits_batch then play + 1 else play) w
behind_waits false play row w = refl

-- the most that rows can have sent stays far below a number's end
jobs_at_most : (found : Option Running) → running_items found ≤ max_items → running_jobs found ≤ max_jobs * run_places found
jobs_at_most None m = omega arith
jobs_at_most (Some r) m = omega (arith, m)

most_at_most : (goes_on : Bool) (play : ℕ) (rows : List HostOf) → play < 256 → AllWithin true goes_on play rows → sum_by (most_jobs true goes_on play) rows ≤ length rows * 4252794880000
most_at_most goes_on play [] b w = omega arith
most_at_most goes_on play (row ∷ rows) b w =
    let one = jobs_at_most row.running w.0.3 in
    omega (arith, w.0.1, b, one, behind_most true play row, most_at_most goes_on play rows b w.1, sum_by-cons (most_jobs true goes_on play) row rows, suc-mul (length rows) 4252794880000)

pub sends_below : (batch : ℕ) (sizes_left : List ℕ) (play sends : ℕ) (is_open : Bool) (rows : List HostOf) → IsBounded is_open batch sizes_left play sends rows → is_open ≡ true → sends < 2 ^ 62
sends_below batch sizes_left play sends true rows b o =
    let most = most_at_most (has_batch_left sizes_left) play rows b.under_way b.counts in
    let total : length rows * 4252794880000 ≤ 1048576 * 4252794880000 = omega (arith, b.hosts) in
    omega (arith, b.jobs, most, total)
sends_below batch sizes_left play sends false rows b o = cc

-- room for one count more
room_in : (goes_on : Bool) (play h : ℕ) (rows : List HostOf) → play ≤ 256 → AllWithin true goes_on play rows → IfSome (slice_get rows h) (λ row. IsAtMost row.counts (2 ^ 64 - 2))
room_in goes_on play h [] b w = tt
room_in goes_on play zero (row ∷ rows) b w = at_most_to row.counts _ _ (omega (arith, b, w.0.1, behind_most true play row)) w.0.0
room_in goes_on play (suc h) (row ∷ rows) b w = room_in goes_on play h rows b w.1

pub room_at : (batch : ℕ) (sizes_left : List ℕ) (play sends h : ℕ) (is_open : Bool) (rows : List HostOf) → is_open ≡ true → IsBounded is_open batch sizes_left play sends rows → IfSome (slice_get rows h) (λ row. IsAtMost row.counts (2 ^ 64 - 2))
room_at batch sizes_left play sends h true rows o b = room_in (has_batch_left sizes_left) play h rows b.plays b.counts
room_at batch sizes_left play sends h false rows o b = cc

-- a count fits 32 bits, whether a batch is open or not
few_in : (is_open goes_on : Bool) (play h : ℕ) (rows : List HostOf) (row : HostOf) → play ≤ 256 → AllWithin is_open goes_on play rows → slice_get rows h ≡ Some row → IsAtMost row.counts (2 ^ 32 - 2)
few_in is_open goes_on play h [] row b w e = cc
few_in true goes_on play zero (first ∷ rows) row b w e =
    let same : first ≡ row = cc in
    subst (λ (r : HostOf). IsAtMost r.counts (2 ^ 32 - 2)) same (at_most_to first.counts _ _ (omega (arith, b, w.0.1, behind_most true play first)) w.0.0)
few_in false goes_on play zero (first ∷ rows) row b w e =
    let same : first ≡ row = cc in
    subst (λ (r : HostOf). IsAtMost r.counts (2 ^ 32 - 2)) same (at_most_to first.counts _ _ (omega (arith, b, behind_most goes_on play first)) w.0)
few_in is_open goes_on play (suc h) (first ∷ rows) row b w e = few_in is_open goes_on play h rows row b w.1 e

pub few_at : (batch : ℕ) (sizes_left : List ℕ) (play sends h : ℕ) (is_open : Bool) (rows : List HostOf) (row : HostOf) → IsBounded is_open batch sizes_left play sends rows → slice_get rows h ≡ Some row → IsAtMost row.counts (2 ^ 32 - 2)
few_at batch sizes_left play sends h is_open rows row b e = few_in is_open (has_batch_left sizes_left) play h rows row b.plays b.counts e

-- an open: a host that joins was one that waited
joined_size : (tree : TreeOf) (b : Bool) → size_of tree ≤ 16384 → size_of (if b then tree else no_tree) ≤ 16384
joined_size tree true s = s
joined_size tree false s = omega arith

joined_placed : (tree : TreeOf) (inside : Bool) (row : HostOf) → (inside ≡ true → row.awaits_batch ≡ true) → IsPlacedIn inside (joined tree inside row)
joined_placed tree true row w = w refl
joined_placed tree false row w = refl

joined_all : (goes_on sizes_left : Bool) (play n : ℕ) (tree : TreeOf) (room : ℕ) (rows : List HostOf) → size_of tree ≤ 16384 → ((row : HostOf) → plays_behind goes_on play row ≤ plays_behind true n row)
    → AllWithin false goes_on play rows → AllWithin true sizes_left n (joined_first tree room rows)
joined_all goes_on sizes_left play n tree room [] s l w = tt
joined_all goes_on sizes_left play n tree room (row ∷ rows) s l w = (
  (
    at_most_to row.counts _ _ (omega (arith, l row)) w.0,
    omega arith,
    joined_size tree (joins room row.awaits_batch) s,
    omega arith,
    joined_placed tree (joins room row.awaits_batch) row (λ e. joins_waits room row.awaits_batch e),
  ),
  joined_all goes_on sizes_left play n tree (room_behind room row.awaits_batch) rows s l w.1,
)

joined_jobs : (goes_on sizes_left : Bool) (play n : ℕ) (tree : TreeOf) (room : ℕ) (rows : List HostOf) → ((row : HostOf) → plays_behind goes_on play row ≤ plays_behind true n row)
    → sum_by (most_jobs false goes_on play) rows ≤ sum_by (most_jobs true sizes_left n) (joined_first tree room rows)
joined_jobs goes_on sizes_left play n tree room [] l = omega arith
joined_jobs goes_on sizes_left play n tree room (row ∷ rows) l =
    let rest = joined_jobs goes_on sizes_left play n tree (room_behind room row.awaits_batch) rows l in
    let one = l row in
    omega (arith, one, rest, sum_by-cons (most_jobs false goes_on play) row rows, sum_by-cons (most_jobs true sizes_left n) (joined tree (joins room row.awaits_batch) row) (joined_first tree (room_behind room row.awaits_batch) rows))

-- the play goes on: a batch of it is left
later_fewer : (sizes_left : List ℕ) → has_batch_left sizes_left ≡ true → length sizes_left ≡ suc (length (drop 1 sizes_left))
later_fewer [] e = cc
later_fewer (size ∷ sizes_left) e = refl

pub go_on_bounded : (batch : ℕ) (sizes_left : List ℕ) (play sends size : ℕ) (is_open : Bool) (tree : TreeOf) (rows new : List HostOf) → IsBounded is_open batch sizes_left play sends rows → size_of tree ≤ 16384 → is_open ≡ false
    → has_batch_left sizes_left ≡ true → new ≡ joined_first tree size rows → IsBounded true (batch + 1) (drop 1 sizes_left) play sends new
go_on_bounded batch sizes_left play sends size true tree rows new b s f l e = cc
go_on_bounded batch sizes_left play sends size false tree rows new b s f l e =
    let same : (row : HostOf) → plays_behind (has_batch_left sizes_left) play row ≤ plays_behind true play row = λ row. (let is = ap (λ (on : Bool). plays_behind on play row) l in omega (arith, is)) in
    rw e (record {
      counts = joined_all (has_batch_left sizes_left) (has_batch_left (drop 1 sizes_left)) play play tree size rows s same b.counts;
      plays = b.plays;
      under_way = on_true (has_batch_left sizes_left) (play < 256) l b.under_way;
      hosts = rw (length-joined tree size rows) b.hosts;
      batches = omega (arith, later_fewer sizes_left l, b.batches);
      jobs = let more = joined_jobs (has_batch_left sizes_left) (has_batch_left (drop 1 sizes_left)) play play tree size rows same in omega (arith, more, b.jobs);
    })
  where
    on_true : (goes_on : Bool) (P : Type 0) → goes_on ≡ true → OnTrue goes_on P → P
    on_true true P e p = p
    on_true false P e p = cc

pub batch_below : (batch : ℕ) (sizes_left : List ℕ) (play sends : ℕ) (is_open : Bool) (rows : List HostOf) → IsBounded is_open batch sizes_left play sends rows → batch < 4294967295
batch_below batch sizes_left play sends is_open rows b = let most = b.batches in omega (arith, most)

-- a play begins: nobody waits for a batch of the one before
called_all : (play : ℕ) (hosts : List Bool) (rows : List HostOf) → AllWithin false false play rows → AllWithin false false play (map (as_play_begins hosts) rows)
called_all play hosts [] w = tt
called_all play hosts (row ∷ rows) w = (w.0, called_all play hosts rows w.1)

called_jobs : (play : ℕ) (hosts : List Bool) (rows : List HostOf) → sum_by (most_jobs false false play) rows ≡ sum_by (most_jobs false false play) (map (as_play_begins hosts) rows)
called_jobs play hosts [] = refl
called_jobs play hosts (row ∷ rows) =
    let rest = called_jobs play hosts rows in
    omega (arith, rest, sum_by-cons (most_jobs false false play) row rows, sum_by-cons (most_jobs false false play) (as_play_begins hosts row) (map (as_play_begins hosts) rows))

begun_bounded : (batch : ℕ) (sizes_left : List ℕ) (play n sends size : ℕ) (sizes : List ℕ) (tree : TreeOf) (hosts : List Bool) (rows : List HostOf) → length rows ≤ 1048576 → AllWithin false false play rows
    → sends ≤ sum_by (most_jobs false false play) rows → size_of tree ≤ 16384 → play ≤ n → n < 256 → length sizes ≤ 1048576
    → IsBounded true 0 (drop 1 sizes) n sends (joined_first tree size (map (as_play_begins hosts) rows))
begun_bounded batch sizes_left play n sends size sizes tree hosts rows h w j s l p few =
    let most : (row : HostOf) → plays_behind false play row ≤ plays_behind true n row = λ row. (let least = behind_least true n row in omega (arith, least, l)) in
    record {
      counts = joined_all false (has_batch_left (drop 1 sizes)) play n tree size (map (as_play_begins hosts) rows) s most (called_all play hosts rows w);
      plays = omega (arith, p);
      under_way = p;
      hosts = rw (length-joined tree size (map (as_play_begins hosts) rows), length-map rows (as_play_begins hosts)) h;
      batches = let fewer = length-tail sizes in omega (arith, fewer, few);
      jobs =
          let more = joined_jobs false (has_batch_left (drop 1 sizes)) play n tree size (map (as_play_begins hosts) rows) most in
          let same = called_jobs play hosts rows in
          omega (arith, more, same, j);
    }
  where
    length-tail : (sizes : List ℕ) → length (drop 1 sizes) ≤ length sizes
    length-tail [] = omega arith
    length-tail (first ∷ rest) = omega arith

pub begin_bounded : (batch : ℕ) (sizes_left : List ℕ) (play n sends size : ℕ) (is_open goes_on : Bool) (sizes : List ℕ) (tree : TreeOf) (hosts : List Bool) (rows new : List HostOf) → IsBounded is_open batch sizes_left play sends rows
    → size_of tree ≤ 16384 → is_open ≡ false → has_batch_left sizes_left ≡ goes_on → goes_on ≡ false → play ≤ n → n < 256 → length sizes ≤ 1048576 → new ≡ joined_first tree size (map (as_play_begins hosts) rows)
    → IsBounded true 0 (drop 1 sizes) n sends new
begin_bounded batch sizes_left play n sends size true goes_on sizes tree hosts rows new b s f k g l p few e = cc
begin_bounded batch sizes_left play n sends size false true sizes tree hosts rows new b s f k g l p few e = cc
begin_bounded batch sizes_left play n sends size false false sizes tree hosts rows new b s f k g l p few e =
    rw e
    (begun_bounded batch sizes_left play n sends size sizes tree hosts rows b.hosts (subst (λ (on : Bool). AllWithin false on play rows) k b.counts)
    (subst (λ (on : Bool). sends ≤ sum_by (most_jobs false on play) rows) k b.jobs) s l p few)

-- a close: a host that was in the batch has the play behind it
waits_no_more : (awaits_batch inside : Bool) → inside ≡ true → (awaits_batch && not inside) ≡ false
waits_no_more true true e = refl
waits_no_more false true e = refl
waits_no_more awaits_batch false e = cc

waits_still : (awaits_batch inside : Bool) → inside ≡ false → (awaits_batch && not inside) ≡ awaits_batch
waits_still true false e = refl
waits_still false false e = refl
waits_still awaits_batch true e = cc

left_behind : (play : ℕ) (row : HostOf) (inside : Bool) → row.in_batch ≡ inside → IsPlacedIn inside row → length (one_halted row.answers) + run_places row.running ≤ 16384 → (goes_on : Bool)
    → 16384 * plays_behind true play row + (length (one_halted row.answers) + run_places row.running) ≤ 16384 * plays_behind goes_on (if goes_on then play else play + 1) (left row)
left_behind play row true i placed most true =
    let behind = behind_waits true play row placed in
    let out : plays_behind true play (left row) ≡ play + 1 = ap (λ (b : Bool). if true && not b then play + 1 else play) (waits_no_more row.awaits_batch row.in_batch i) in
    omega (arith, behind, out, most)
left_behind play row false i placed most true =
    let same : plays_behind true play (left row) ≡ plays_behind true play row = ap (λ (b : Bool). if true && not b then play + 1 else play) (waits_still row.awaits_batch row.in_batch i) in
    omega (arith, same, placed)
left_behind play row true i placed most false = let behind = behind_waits true play row placed in omega (arith, behind, most)
left_behind play row false i placed most false = let behind = behind_most true play row in omega (arith, behind, placed)

left_all : (goes_on : Bool) (play : ℕ) (rows : List HostOf) → AllWithin true goes_on play rows → AllWithin false goes_on (if goes_on then play else play + 1) (map left rows)
left_all goes_on play [] w = tt
left_all goes_on play (row ∷ rows) w =
    let one = left_behind play row row.in_batch refl w.0.4 w.0.1 goes_on in
    (at_most_to row.counts _ _ (omega (arith, one)) w.0.0, left_all goes_on play rows w.1)

left_jobs : (goes_on : Bool) (play : ℕ) (rows : List HostOf) → AllWithin true goes_on play rows
    → sum_by (most_jobs true goes_on play) rows ≤ sum_by (most_jobs false goes_on (if goes_on then play else play + 1)) (map left rows)
left_jobs goes_on play [] w = omega arith
left_jobs goes_on play (row ∷ rows) w =
    let jobs = jobs_at_most row.running w.0.3 in
    let one = left_behind play row row.in_batch refl w.0.4 w.0.1 goes_on in
    omega (arith, jobs, one, left_jobs goes_on play rows w.1, sum_by-cons (most_jobs true goes_on play) row rows, sum_by-cons (most_jobs false goes_on (if goes_on then play else play + 1)) (left row) (map left rows))

closed_bounded : (batch : ℕ) (sizes_left : List ℕ) (play sends : ℕ) (rows : List HostOf) → IsBounded true batch sizes_left play sends rows → IsBounded false batch sizes_left (play_behind (has_batch_left sizes_left) play) sends (map left rows)
closed_bounded batch sizes_left play sends rows b =
    record {
      counts = left_all (has_batch_left sizes_left) play rows b.counts;
      plays = at_most (has_batch_left sizes_left) b.under_way;
      under_way = below (has_batch_left sizes_left) b.under_way;
      hosts = rw (length-map rows left) b.hosts;
      batches = b.batches;
      jobs = let more = left_jobs (has_batch_left sizes_left) play rows b.counts in omega (arith, more, b.jobs);
    }
  where
    at_most : (goes_on : Bool) → play < 256 → play_behind goes_on play ≤ 256
    at_most true l = omega (arith, l)
    at_most false l = omega (arith, l)

    below : (goes_on : Bool) → play < 256 → OnTrue (false || goes_on) (play_behind goes_on play < 256)
    below true l = l
    below false l = tt

pub close_bounded : (batch : ℕ) (sizes_left : List ℕ) (play number sends : ℕ) (is_open : Bool) (rows new : List HostOf) → IsBounded is_open batch sizes_left play sends rows → is_open ≡ true → number ≡ play_behind (has_batch_left sizes_left) play
    → new ≡ map left rows → IsBounded false batch sizes_left number sends new
close_bounded batch sizes_left play number sends true rows new b o p e = rw (p, e) (closed_bounded batch sizes_left play sends rows b)
close_bounded batch sizes_left play number sends false rows new b o p e = cc

-- the beginning
first_all : (h n : ℕ) → AllWithin false false 0 (first_rows h n)
first_all h zero = tt
first_all h (suc n) = (none_at_most 0, first_all (h + 1) n)

pub first_bounded : (rows : List HostOf) (sizes_left : List ℕ) (n : ℕ) → n ≤ 1048576 → rows ≡ first_rows 0 n → sizes_left ≡ [] → IsBounded false 0 sizes_left 0 0 rows
first_bounded rows sizes_left n m e l =
    rw (e, l) (record { counts = first_all 0 n; plays = omega arith; under_way = tt; hosts = rw (length-first 0 n) m; batches = omega arith; jobs = omega arith })
