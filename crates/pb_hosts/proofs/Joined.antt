-- As a batch opens, the first hosts that wait take the walks that were made for them, one after another: so the rows are as the batch opens.
use Rattle.std.proofs.Common.{◌≡◌, ℕ, zero, suc, ◌+◌, ◌-◌, ◌<◌, ◌≤◌, Bool, true, false, List, [], ◌∷◌, length, map, replicate, refl, sym, ◌∙◌, ap, subst, arith, cond}
use Rattle.std.specs.Prelude.{Option, Some, None, slice_set, min, nat_lt, count_by, if◌then◌else◌}
use Rattle.std.proofs.lemmas.Bool.{lt-ltb}
use Rattle.std.proofs.lemmas.List.{length-replicate, nil_from_length}
use Rattle.std.proofs.lemmas.List.Sums.{sum_by-cons}
use Rattle.pb_cursors.specs.Walks.{PlayWalkOf, walk_from}
use Rattle.pb_planes.specs.Set.{is_in as is_member, IsNextFrom, HasNoneFrom}
use Rattle.pb_tree.specs.Tree.{TreeOf}
use Rattle.pb_host.specs.Host.{HostOf, is_waiting, joined}
use Rattle.pb_host.specs.Runs.{has_send}
use Rattle.pb_host.specs.Walking.{with_walk}
use Rattle.pb_hosts.specs.Batches.{joins, room_behind, joined_first}
use Rattle.pb_hosts.specs.Due.{is_inside}
use Rattle.pb_hosts.specs.Hosts.{change}
use Rattle.pb_hosts.specs.Joining.{first_walks, taken, walks_behind, joined_by}
use Rattle.pb_hosts.proofs.Giving.{change_on}

-- ---- so many of the first hosts have joined or not, with the walks that they leave; those behind them are in no batch
abbrev pub opened : ℕ → List PlayWalkOf → List HostOf → List HostOf
opened zero walks rows = map (with_walk None) rows
opened (suc n) walks [] = []
opened (suc n) walks (row ∷ rows) = with_walk (taken row.awaits_batch walks) row ∷ opened n (walks_behind row.awaits_batch walks) rows

abbrev pub walks_left : ℕ → List PlayWalkOf → List HostOf → List PlayWalkOf
walks_left zero walks rows = walks
walks_left (suc n) walks [] = walks
walks_left (suc n) walks (row ∷ rows) = walks_left n (walks_behind row.awaits_batch walks) rows

opened_none : (n : ℕ) (walks : List PlayWalkOf) → opened n walks [] ≡ []
opened_none zero walks = refl
opened_none (suc n) walks = refl

left_none : (n : ℕ) (walks : List PlayWalkOf) → walks_left n walks [] ≡ walks
left_none zero walks = refl
left_none (suc n) walks = refl

-- a host that doesn't wait is passed over
opened_skip : (rows : List HostOf) (walks : List PlayWalkOf) (from h : ℕ) → from ≤ h → ((i : ℕ) → from ≤ i → i < h → is_member (map is_waiting rows) i ≡ false) → opened from walks rows ≡ opened h walks rows
opened_skip [] walks from h le off = opened_none from walks ∙ sym (opened_none h walks)
opened_skip (row ∷ rows) walks zero zero le off = refl
opened_skip (row ∷ rows) walks zero (suc h) le off =
    let out : row.awaits_batch ≡ false = off zero (omega arith) (omega arith) in
    ap (λ (b : Bool). with_walk (taken b walks) row ∷ opened zero (walks_behind b walks) rows) (sym out)
    ∙ ap (λ (rest : List HostOf). with_walk (taken row.awaits_batch walks) row ∷ rest)
    (opened_skip rows (walks_behind row.awaits_batch walks) zero h (omega arith) (λ i l b. off (suc i) (omega arith) (omega (arith, b))))
opened_skip (row ∷ rows) walks (suc from) zero le off = absurd (omega (arith, le))
opened_skip (row ∷ rows) walks (suc from) (suc h) le off =
    ap (λ (rest : List HostOf). with_walk (taken row.awaits_batch walks) row ∷ rest)
    (opened_skip rows (walks_behind row.awaits_batch walks) from h (omega (arith, le)) (λ i l b. off (suc i) (omega (arith, l)) (omega (arith, b))))

left_skip : (rows : List HostOf) (walks : List PlayWalkOf) (from h : ℕ) → from ≤ h → ((i : ℕ) → from ≤ i → i < h → is_member (map is_waiting rows) i ≡ false) → walks_left from walks rows ≡ walks_left h walks rows
left_skip [] walks from h le off = left_none from walks ∙ sym (left_none h walks)
left_skip (row ∷ rows) walks zero zero le off = refl
left_skip (row ∷ rows) walks zero (suc h) le off =
    let out : row.awaits_batch ≡ false = off zero (omega arith) (omega arith) in
    ap (λ (b : Bool). walks_behind b walks) (sym out) ∙ left_skip rows (walks_behind row.awaits_batch walks) zero h (omega arith) (λ i l b. off (suc i) (omega arith) (omega (arith, b)))
left_skip (row ∷ rows) walks (suc from) zero le off = absurd (omega (arith, le))
left_skip (row ∷ rows) walks (suc from) (suc h) le off =
    left_skip rows (walks_behind row.awaits_batch walks) from h (omega (arith, le)) (λ i l b. off (suc i) (omega (arith, l)) (omega (arith, b)))

-- and one that waits takes the next walk
opened_changed : (rows : List HostOf) (walks rest : List PlayWalkOf) (walk : PlayWalkOf) (h : ℕ) → is_member (map is_waiting rows) h ≡ true → walks_left h walks rows ≡ walk ∷ rest
    → change (opened h walks rows) h (with_walk (Some walk)) ≡ opened (suc h) walks rows
opened_changed [] walks rest walk zero e l = cc
opened_changed [] walks rest walk (suc h) e l = cc
opened_changed (row ∷ rows) walks rest walk zero e l =
    ap (λ (ws : List PlayWalkOf). with_walk (taken true ws) row ∷ opened zero (walks_behind true ws) rows) (sym l)
    ∙ ap (λ (b : Bool). with_walk (taken b walks) row ∷ opened zero (walks_behind b walks) rows) (sym e)
opened_changed (row ∷ rows) walks rest walk (suc h) e l =
    change_on (with_walk (taken row.awaits_batch walks) row) (opened h (walks_behind row.awaits_batch walks) rows) h (with_walk (Some walk))
    ∙ ap (λ (all : List HostOf). with_walk (taken row.awaits_batch walks) row ∷ all) (opened_changed rows (walks_behind row.awaits_batch walks) rest walk h e l)

left_changed : (rows : List HostOf) (walks rest : List PlayWalkOf) (walk : PlayWalkOf) (h : ℕ) → is_member (map is_waiting rows) h ≡ true → walks_left h walks rows ≡ walk ∷ rest → rest ≡ walks_left (suc h) walks rows
left_changed [] walks rest walk zero e l = cc
left_changed [] walks rest walk (suc h) e l = cc
left_changed (row ∷ rows) walks rest walk zero e l = ap (λ (ws : List PlayWalkOf). walks_behind true ws) (sym l) ∙ ap (λ (b : Bool). walks_behind b walks) (sym e)
left_changed (row ∷ rows) walks rest walk (suc h) e l = left_changed rows (walks_behind row.awaits_batch walks) rest walk h e l

pub opened_step : (rows old new : List HostOf) (walks all rest : List PlayWalkOf) (walk : PlayWalkOf) (set : List Bool) (from h behind : ℕ) → set ≡ map is_waiting rows → IsNextFrom set from h → behind ≡ h + 1 → old ≡ opened from walks rows → all ≡ walks_left from walks rows
    → all ≡ walk ∷ rest → new ≡ change old h (with_walk (Some walk)) → (new ≡ opened behind walks rows) × (rest ≡ walks_left behind walks rows)
opened_step rows old new walks all rest walk set from h behind e next b o a w n =
    let on = subst (λ (s : List Bool). IsNextFrom s from h) e next in
    let past : suc h ≡ behind = omega (arith, b) in
    let here : walks_left h walks rows ≡ walk ∷ rest = sym (left_skip rows walks from h on.0 on.2) ∙ sym a ∙ w in (
      n ∙ ap (λ (all_rows : List HostOf). change all_rows h (with_walk (Some walk))) (o ∙ opened_skip rows walks from h on.0 on.2)
          ∙ opened_changed rows walks rest walk h on.1 here
          ∙ ap (λ (k : ℕ). opened k walks rows) past,
      left_changed rows walks rest walk h on.1 here ∙ ap (λ (k : ℕ). walks_left k walks rows) past,
    )

-- no host joins where no walk is left
taken_none : (b : Bool) → taken b [] ≡ None
taken_none true = refl
taken_none false = refl

behind_none : (b : Bool) → walks_behind b [] ≡ []
behind_none true = refl
behind_none false = refl

nobody_joins : (rows : List HostOf) → map (with_walk None) rows ≡ joined_by [] rows
nobody_joins [] = refl
nobody_joins (row ∷ rows) =
    ap (λ (rest : List HostOf). with_walk None row ∷ rest) (nobody_joins rows)
    ∙ ap (λ (ws : List PlayWalkOf). with_walk None row ∷ joined_by ws rows) (sym (behind_none row.awaits_batch))
    ∙ ap (λ (walk : Option PlayWalkOf). with_walk walk row ∷ joined_by (walks_behind row.awaits_batch []) rows) (sym (taken_none row.awaits_batch))

opened_all : (rows : List HostOf) (walks : List PlayWalkOf) (from : ℕ) → walks_left from walks rows ≡ [] → opened from walks rows ≡ joined_by walks rows
opened_all [] walks from e = opened_none from walks
opened_all (row ∷ rows) walks zero e = nobody_joins (row ∷ rows) ∙ ap (λ (ws : List PlayWalkOf). joined_by ws (row ∷ rows)) (sym e)
opened_all (row ∷ rows) walks (suc from) e = ap (λ (rest : List HostOf). with_walk (taken row.awaits_batch walks) row ∷ rest) (opened_all rows (walks_behind row.awaits_batch walks) from e)

pub opened_end : (rows old : List HostOf) (walks all : List PlayWalkOf) (from : ℕ) → old ≡ opened from walks rows → all ≡ walks_left from walks rows → all ≡ [] → old ≡ joined_by walks rows
opened_end rows old walks all from o a none = o ∙ opened_all rows walks from (sym a ∙ none)

-- a host waits as long as a walk is left, where there are no more walks than hosts that wait
none_count : (set : List Bool) → ((i : ℕ) → is_member set i ≡ false) → count_by (λ (b : Bool). b) set ≡ 0
none_count [] off = refl
none_count (b ∷ set) off =
    let here : ◌≡◌ {A = ℕ} (cond b 1 0) 0 = ap (λ (x : Bool). cond x 1 0) (off zero) in
    let on = sum_by-cons (λ (x : Bool). cond x 1 0) b set in
    let rest = none_count set (λ i. off (suc i)) in
    omega (arith, here, on, rest)

few_behind : (b : Bool) (walks : List PlayWalkOf) (n : ℕ) → length walks ≤ cond b 1 0 + n → length (walks_behind b walks) ≤ n
few_behind true [] n few = omega arith
few_behind true (walk ∷ walks) n few = omega (arith, few)
few_behind false walks n few = omega (arith, few)

all_taken : (rows : List HostOf) (walks : List PlayWalkOf) (from : ℕ) → length walks ≤ count_by (λ (b : Bool). b) (map is_waiting rows) → ((i : ℕ) → from ≤ i → is_member (map is_waiting rows) i ≡ false) → walks_left from walks rows ≡ []
all_taken [] walks from few off = left_none from walks ∙ nil_from_length walks (omega (arith, few))
all_taken (row ∷ rows) walks zero few off =
    let none = none_count (map is_waiting (row ∷ rows)) (λ i. off i (omega arith)) in
    nil_from_length walks (omega (arith, few, none))
all_taken (row ∷ rows) walks (suc from) few off =
    let on = sum_by-cons (λ (b : Bool). cond b 1 0) row.awaits_batch (map is_waiting rows) in
    let fits : length walks ≤ cond row.awaits_batch 1 0 + count_by (λ (b : Bool). b) (map is_waiting rows) = omega (arith, few, on) in
    all_taken rows (walks_behind row.awaits_batch walks) from (few_behind row.awaits_batch walks (count_by (λ (b : Bool). b) (map is_waiting rows)) fits) (λ i l. off (suc i) (omega (arith, l)))

pub some_joins : (rows : List HostOf) (walks all rest : List PlayWalkOf) (walk : PlayWalkOf) (set : List Bool) (from : ℕ) → set ≡ map is_waiting rows → length walks ≤ count_by (λ (b : Bool). b) set → all ≡ walks_left from walks rows → all ≡ walk ∷ rest
    → HasNoneFrom set from → ⊥
some_joins rows walks all rest walk set from e few a w none =
    let gone = all_taken rows walks from (subst (λ (s : List Bool). length walks ≤ count_by (λ (b : Bool). b) s) e few) (subst (λ (s : List Bool). HasNoneFrom s from) e none) in
    let both : ◌≡◌ {A = List PlayWalkOf} [] (walk ∷ rest) = sym gone ∙ sym a ∙ w in
    cc

-- the set of the hosts that are in the batch
set_inside : (rows : List HostOf) (walk : PlayWalkOf) (h : ℕ) → slice_set (map is_inside rows) h true ≡ map is_inside (change rows h (with_walk (Some walk)))
set_inside [] walk h = refl
set_inside (row ∷ rows) walk zero = refl
set_inside (row ∷ rows) walk (suc h) =
    ap (λ (rest : List Bool). row.in_batch ∷ rest) (set_inside rows walk h) ∙ sym (ap (map is_inside) (change_on row rows h (with_walk (Some walk))))

pub inside_step : (old new : List HostOf) (batch column : List Bool) (walk : PlayWalkOf) (h : ℕ) → batch ≡ map is_inside old → new ≡ change old h (with_walk (Some walk)) → column ≡ slice_set batch h true → column ≡ map is_inside new
inside_step old new batch column walk h e n t = t ∙ ap (λ (set : List Bool). slice_set set h true) e ∙ set_inside old walk h ∙ sym (ap (map is_inside) n)

-- ---- after everyone has stepped out
pub out_twice : (rows new : List HostOf) → new ≡ map (with_walk None) rows → new ≡ map (with_walk None) new
out_twice rows new e = e ∙ sym (same rows) ∙ ap (map (with_walk None)) (sym e)
  where
    same : (all : List HostOf) → map (with_walk None) (map (with_walk None) all) ≡ map (with_walk None) all
    same [] = refl
    same (row ∷ all) = ap (λ (rest : List HostOf). with_walk None row ∷ rest) (same all)

pub out_waits : (rows new : List HostOf) (awaits_batch : List Bool) → awaits_batch ≡ map is_waiting rows → new ≡ map (with_walk None) rows → awaits_batch ≡ map is_waiting new
out_waits rows new awaits_batch e n = e ∙ sym (same rows) ∙ ap (map is_waiting) (sym n)
  where
    same : (all : List HostOf) → map is_waiting (map (with_walk None) all) ≡ map is_waiting all
    same [] = refl
    same (row ∷ all) = ap (λ (rest : List Bool). row.awaits_batch ∷ rest) (same all)

joined_out : (walks : List PlayWalkOf) (rows : List HostOf) → joined_by walks (map (with_walk None) rows) ≡ joined_by walks rows
joined_out walks [] = refl
joined_out walks (row ∷ rows) = ap (λ (rest : List HostOf). with_walk (taken row.awaits_batch walks) row ∷ rest) (joined_out (walks_behind row.awaits_batch walks) rows)

pub joined_then : (walks : List PlayWalkOf) (rows out new : List HostOf) → out ≡ map (with_walk None) rows → new ≡ joined_by walks out → new ≡ joined_by walks rows
joined_then walks rows out new o n = n ∙ ap (joined_by walks) o ∙ joined_out walks rows

-- ---- what the rows are then
pub length-joined_by : (walks : List PlayWalkOf) (rows : List HostOf) → length (joined_by walks rows) ≡ length rows
length-joined_by walks [] = refl
length-joined_by walks (row ∷ rows) = ap suc (length-joined_by (walks_behind row.awaits_batch walks) rows)

-- nobody has a job to send
pub joined_quiet : (walks : List PlayWalkOf) (rows : List HostOf) → map has_send (joined_by walks rows) ≡ replicate (length rows) false
joined_quiet walks [] = refl
joined_quiet walks (row ∷ rows) = ap (λ (rest : List Bool). false ∷ rest) (joined_quiet (walks_behind row.awaits_batch walks) rows)

-- and those wait that waited
waits_joined : (walks : List PlayWalkOf) (rows : List HostOf) → map is_waiting (joined_by walks rows) ≡ map is_waiting rows
waits_joined walks [] = refl
waits_joined walks (row ∷ rows) = ap (λ (rest : List Bool). row.awaits_batch ∷ rest) (waits_joined (walks_behind row.awaits_batch walks) rows)

pub joined_waits : (walks : List PlayWalkOf) (rows new : List HostOf) (awaits_batch : List Bool) → awaits_batch ≡ map is_waiting rows → new ≡ joined_by walks rows → awaits_batch ≡ map is_waiting new
joined_waits walks rows new awaits_batch e n = e ∙ sym (waits_joined walks rows) ∙ ap (map is_waiting) (sym n)

-- ---- as many walks as hosts join
pub few_walks : (tree : TreeOf) (size : ℕ) (awaits_batch : List Bool) (walks : List PlayWalkOf) → walks ≡ first_walks tree size awaits_batch → length walks ≤ count_by (λ (b : Bool). b) awaits_batch
few_walks tree size awaits_batch walks w =
    let many = length-replicate (min size (count_by (λ (b : Bool). b) awaits_batch)) (walk_from tree) in
    let same : length walks ≡ min size (count_by (λ (b : Bool). b) awaits_batch) = ap length w ∙ many in
    omega (arith, same)

-- a batch with room for as many as there are walks
walks_join : (tree : TreeOf) (room : ℕ) (rows : List HostOf) → joined_by (replicate room (walk_from tree)) rows ≡ joined_first tree room rows
walks_join tree room [] = refl
walks_join tree room (row ∷ rows) = by_waits row.awaits_batch room (λ n. walks_join tree n rows)
  where
    by_waits : (b : Bool) (n : ℕ) → ((k : ℕ) → joined_by (replicate k (walk_from tree)) rows ≡ joined_first tree k rows)
        → with_walk (taken b (replicate n (walk_from tree))) row ∷ joined_by (walks_behind b (replicate n (walk_from tree))) rows ≡ joined tree (joins n b) row ∷ joined_first tree (room_behind n b) rows
    by_waits false n on = ap (λ (rest : List HostOf). with_walk None row ∷ rest) (on n)
    by_waits true zero on = ap (λ (rest : List HostOf). with_walk None row ∷ rest) (on zero)
    by_waits true (suc n) on =
        let some : nat_lt 0 (suc n) ≡ true = lt-ltb 0 (suc n) (omega arith) in
        let less : suc n - 1 ≡ n = omega arith in
        ap (λ (rest : List HostOf). joined tree true row ∷ rest) (on n)
        ∙ ap (λ (k : ℕ). joined tree true row ∷ joined_first tree k rows) (sym less)
        ∙ ap (λ (b : Bool). joined tree b row ∷ joined_first tree (if b then suc n - 1 else suc n) rows) (sym some)

-- with room for more than wait, no more join
enough_room : (tree : TreeOf) (few size : ℕ) (rows : List HostOf) → few ≤ size → (few < size → count_by (λ (b : Bool). b) (map is_waiting rows) ≤ few) → joined_first tree few rows ≡ joined_first tree size rows
enough_room tree few size [] le all = refl
enough_room tree few size (row ∷ rows) le all =
    by_waits row.awaits_batch few size (count_by (λ (b : Bool). b) (map is_waiting rows)) (λ f s l w. enough_room tree f s rows l w) le
    (λ less. let w = all less in let on = sum_by-cons (λ (b : Bool). cond b 1 0) row.awaits_batch (map is_waiting rows) in omega (arith, w, on))
  where
    by_waits : (b : Bool) (f s n : ℕ) → ((k m : ℕ) → k ≤ m → (k < m → n ≤ k) → joined_first tree k rows ≡ joined_first tree m rows) → f ≤ s → (f < s → cond b 1 0 + n ≤ f)
        → joined tree (joins f b) row ∷ joined_first tree (room_behind f b) rows ≡ joined tree (joins s b) row ∷ joined_first tree (room_behind s b) rows
    by_waits false f s n on l w = ap (λ (rest : List HostOf). joined tree false row ∷ rest) (on f s l (λ less. let some = w less in omega (arith, some)))
    by_waits true zero zero n on l w = refl
    by_waits true zero (suc s) n on l w = let some = w (omega arith) in absurd (omega (arith, some))
    by_waits true (suc f) zero n on l w = absurd (omega (arith, l))
    by_waits true (suc f) (suc s) n on l w =
        let some_few : nat_lt 0 (suc f) ≡ true = lt-ltb 0 (suc f) (omega arith) in
        let some_more : nat_lt 0 (suc s) ≡ true = lt-ltb 0 (suc s) (omega arith) in
        ap (λ (b : Bool). joined tree b row ∷ joined_first tree (if b then suc f - 1 else suc f) rows) some_few
        ∙ ap (λ (rest : List HostOf). joined tree true row ∷ rest)
        (on (suc f - 1) (suc s - 1) (omega (arith, l)) (λ less. let some = w (omega (arith, less)) in omega (arith, some)))
        ∙ ap (λ (b : Bool). joined tree b row ∷ joined_first tree (if b then suc s - 1 else suc s) rows) (sym some_more)

pub joined_as : (tree : TreeOf) (size : ℕ) (rows new : List HostOf) (awaits_batch : List Bool) (walks : List PlayWalkOf) → awaits_batch ≡ map is_waiting rows → walks ≡ first_walks tree size awaits_batch → new ≡ joined_by walks rows → new ≡ joined_first tree size rows
joined_as tree size rows new awaits_batch walks e w n =
    n
    ∙ ap (λ (ws : List PlayWalkOf). joined_by ws rows) (w ∙ ap (first_walks tree size) e)
    ∙ walks_join tree (min size (count_by (λ (b : Bool). b) (map is_waiting rows))) rows
    ∙ enough_room tree (min size (count_by (λ (b : Bool). b) (map is_waiting rows))) size rows (omega arith) (λ less. omega (arith, less))
