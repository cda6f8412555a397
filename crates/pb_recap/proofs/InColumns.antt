-- Seven columns, and the list of each host's counts that they are.
use Rattle.std.proofs.Common.{◌≡◌, ℕ, zero, suc, ◌+◌, ◌<◌, ◌≤◌, nat_lt, not, List, [], ◌∷◌, ◌++◌, length, map, replicate, take, slice_index, slice_set, refl, sym, ap, ◌∙◌, arith}
use Rattle.std.specs.Prelude.{Some, None, slice_get, sum_by}
use Rattle.std.specs.List.{list_any, sum}
use Rattle.std.proofs.Math.Dec.{eqb-suc-zero}
use Rattle.std.proofs.lemmas.Bool.{lt-ltb}
use Rattle.std.proofs.lemmas.List.{length-set, length-map, length-replicate, get_or-set_same, get_or-set_other, get_or-map, ext_get_or, take_all, take_more, take_more_set}
use Rattle.std.proofs.lemmas.List.Sums.{sum-map}
use Rattle.std.proofs.lemmas.Option.{same_Some, slice_get_within, slice_get_past, get_or_from_slice_get}
use Rattle.pb_lanes.specs.declared.kind.CountKind.{CountKind}
use Rattle.pb_lanes.specs.declared.kind.CountKind.TheVariants.{Okay, Changed, Unreachable, Failed, Skipped, Rescued, Ignored}
use Rattle.pb_lanes.specs.ColumnsOf.{ColumnsOf, AreOfHosts, hosts_in, column, no_counts, is_some_count, has_some}
use Rattle.pb_host.specs.declared.host.Counts.{Counts}
use Rattle.pb_host.specs.Host.{none_counted}
use Rattle.pb_recap.specs.InColumns.{counts_of, rows_from, rows_of, HasHost, with_counts}
use Rattle.pb_recap.specs.Kinds.{count_of, has}

-- one host of the list
length_from : (c : ColumnsOf) (h n : ℕ) → length (rows_from c h n) ≡ n
length_from c h zero = refl
length_from c h (suc n) = ap suc (length_from c (h + 1) n)

pub length_rows : (c : ColumnsOf) → length (rows_of c) ≡ hosts_in c
length_rows c = length_from c 0 (hosts_in c)

get_from : (c : ColumnsOf) (h n k : ℕ) → k < n → slice_get (rows_from c h n) k ≡ Some (counts_of c (h + k))
get_from c h zero k lt = absurd (omega (arith, lt))
get_from c h (suc n) zero lt = ap (λ i. Some (counts_of c i)) (let at : h ≡ h + 0 = omega arith in at)
get_from c h (suc n) (suc k) lt = get_from c (h + 1) n k (omega (arith, lt)) ∙ ap (λ i. Some (counts_of c i)) (let at : (h + 1) + k ≡ h + suc k = omega arith in at)

pub row_at : (c : ColumnsOf) (h : ℕ) → h < hosts_in c → slice_get (rows_of c) h ≡ Some (counts_of c h)
row_at c h lt = get_from c 0 (hosts_in c) h lt ∙ ap (λ i. Some (counts_of c i)) (let at : 0 + h ≡ h = omega arith in at)

pub no_row : (c : ColumnsOf) (h : ℕ) → hosts_in c ≤ h → slice_get (rows_of c) h ≡ None
no_row c h past = let long = length_rows c in slice_get_past (rows_of c) h (omega (arith, long, past))

pub row_is : (c : ColumnsOf) (h : ℕ) (counts : Counts) → slice_get (rows_of c) h ≡ Some counts → counts ≡ counts_of c h
row_is c h counts e =
    let long = length_rows c in
    let inside = slice_get_within (rows_of c) h counts e in
    same_Some counts (counts_of c h) (sym e ∙ row_at c h (omega (arith, long, inside)))

pub has_all : (c : ColumnsOf) (h : ℕ) → AreOfHosts c → h < hosts_in c → HasHost c h
has_all c h wide inside kind = let same = wide.each kind in omega (arith, same, inside)

-- one column of the list
pub count_is : (kind : CountKind) (c : ColumnsOf) (h : ℕ) → count_of kind (counts_of c h) ≡ slice_index (column kind c) h
count_is Okay c h = refl
count_is Changed c h = refl
count_is Unreachable c h = refl
count_is Failed c h = refl
count_is Skipped c h = refl
count_is Rescued c h = refl
count_is Ignored c h = refl

column_is : (kind : CountKind) (c : ColumnsOf) → length (column kind c) ≡ hosts_in c → map (count_of kind) (rows_of c) ≡ column kind c
column_is kind c wide =
    let long = length-map (rows_of c) (count_of kind) ∙ length_rows c in
    ext_get_or 0 (map (count_of kind) (rows_of c)) (column kind c) (long ∙ sym wide)
    (λ h lt.
    let there = row_at c h (omega (arith, lt, long)) in
    get_or-map (count_of kind) (rows_of c) h none_counted 0 (slice_get_within (rows_of c) h (counts_of c h) there)
    ∙ ap (count_of kind) (get_or_from_slice_get (rows_of c) h (counts_of c h) none_counted there) ∙ count_is kind c h)

pub total_is : (kind : CountKind) (c : ColumnsOf) → AreOfHosts c → sum (column kind c) ≡ sum_by (count_of kind) (rows_of c)
total_is kind c wide = ap sum (sym (column_is kind c (wide.each kind))) ∙ sum-map (count_of kind) (rows_of c)

above_none : (n : ℕ) → is_some_count n ≡ nat_lt 0 n
above_none zero = refl
above_none (suc n) = ap not (eqb-suc-zero n) ∙ sym (lt-ltb 0 (suc n) (let above : 0 < suc n = omega arith in above))

any_counts : (kind : CountKind) (all : List Counts) → list_any is_some_count (map (count_of kind) all) ≡ list_any (has kind) all
any_counts kind [] = refl
any_counts kind (counts ∷ all) = rw (any_counts kind all, above_none (count_of kind counts)) refl

pub some_is : (kind : CountKind) (c : ColumnsOf) → AreOfHosts c → has_some (column kind c) ≡ list_any (has kind) (rows_of c)
some_is kind c wide = ap has_some (sym (column_is kind c (wide.each kind))) ∙ any_counts kind (rows_of c)

-- no host has a count yet
zero_at : (n k : ℕ) → slice_index (replicate n 0) k ≡ 0
zero_at zero k = refl
zero_at (suc n) zero = refl
zero_at (suc n) (suc k) = zero_at n k

none_at : (n h : ℕ) → counts_of (no_counts n) h ≡ none_counted
none_at n h = rw (zero_at n h) refl

none_from : (n h m : ℕ) → rows_from (no_counts n) h m ≡ replicate m none_counted
none_from n h zero = refl
none_from n h (suc m) = rw (none_at n h, none_from n (h + 1) m) refl

pub none_yet : (n : ℕ) → rows_of (no_counts n) ≡ replicate n none_counted
none_yet n = ap (rows_from (no_counts n) 0) (length-replicate n 0) ∙ none_from n 0 n

-- the counts of one host put down
own_put : (c : ColumnsOf) (h : ℕ) (counts : Counts) → HasHost c h → counts_of (with_counts h counts c) h ≡ counts
own_put c h counts there =
    rw (
      get_or-set_same c.ok h counts.ok 0 (there Okay),
      get_or-set_same c.changed h counts.changed 0 (there Changed),
      get_or-set_same c.unreachable h counts.unreachable 0 (there Unreachable),
      get_or-set_same c.failed h counts.failed 0 (there Failed),
      get_or-set_same c.skipped h counts.skipped 0 (there Skipped),
      get_or-set_same c.rescued h counts.rescued 0 (there Rescued),
      get_or-set_same c.ignored h counts.ignored 0 (there Ignored),
    )
    refl

other_put : (c : ColumnsOf) (h : ℕ) (counts : Counts) (k : ℕ) → (k ≡ h → ⊥) → counts_of (with_counts h counts c) k ≡ counts_of c k
other_put c h counts k other =
    rw (
      get_or-set_other c.ok h k counts.ok 0 other,
      get_or-set_other c.changed h k counts.changed 0 other,
      get_or-set_other c.unreachable h k counts.unreachable 0 other,
      get_or-set_other c.failed h k counts.failed 0 other,
      get_or-set_other c.skipped h k counts.skipped 0 other,
      get_or-set_other c.rescued h k counts.rescued 0 other,
      get_or-set_other c.ignored h k counts.ignored 0 other,
    )
    refl

behind : (c d : ColumnsOf) (h : ℕ) → ((k : ℕ) → (k ≡ h → ⊥) → counts_of d k ≡ counts_of c k) → (first n : ℕ) → h < first → rows_from d first n ≡ rows_from c first n
behind c d h others first zero lt = refl
behind c d h others first (suc n) lt = rw (others first (λ e. omega (arith, e, lt)), behind c d h others (first + 1) n (omega (arith, lt))) refl

put_from : (c d : ColumnsOf) (h : ℕ) (counts : Counts) → counts_of d h ≡ counts → ((k : ℕ) → (k ≡ h → ⊥) → counts_of d k ≡ counts_of c k) → (first n i : ℕ) → h ≡ first + i
    → rows_from d first n ≡ slice_set (rows_from c first n) i counts
put_from c d h counts own others first zero i at = refl
put_from c d h counts own others first (suc n) zero at =
    let here : first ≡ h = omega (arith, at) in
    rw (behind c d h others (first + 1) n (omega (arith, here))) (ap (λ (x : Counts). x ∷ rows_from c (first + 1) n) (ap (counts_of d) here ∙ own))
put_from c d h counts own others first (suc n) (suc i) at =
    let next : h ≡ (first + 1) + i = omega (arith, at) in
    rw (others first (λ e. omega (arith, e, at)), put_from c d h counts own others (first + 1) n i next) refl

pub rows_put : (c : ColumnsOf) (h : ℕ) (counts : Counts) → HasHost c h → rows_of (with_counts h counts c) ≡ slice_set (rows_of c) h counts
rows_put c h counts there =
    ap (rows_from (with_counts h counts c) 0) (length-set c.ok h counts.ok)
    ∙ put_from c (with_counts h counts c) h counts (own_put c h counts there) (other_put c h counts) 0 (hosts_in c) h (let at : h ≡ 0 + h = omega arith in at)

-- the columns stay as long
wide_put : (h : ℕ) (counts : Counts) (c : ColumnsOf) (kind : CountKind) → length (column kind (with_counts h counts c)) ≡ length (column kind c)
wide_put h counts c Okay = length-set c.ok h counts.ok
wide_put h counts c Changed = length-set c.changed h counts.changed
wide_put h counts c Unreachable = length-set c.unreachable h counts.unreachable
wide_put h counts c Failed = length-set c.failed h counts.failed
wide_put h counts c Skipped = length-set c.skipped h counts.skipped
wide_put h counts c Rescued = length-set c.rescued h counts.rescued
wide_put h counts c Ignored = length-set c.ignored h counts.ignored

wide_none : (n : ℕ) (kind : CountKind) → length (column kind (no_counts n)) ≡ n
wide_none n Okay = length-replicate n 0
wide_none n Changed = length-replicate n 0
wide_none n Unreachable = length-replicate n 0
wide_none n Failed = length-replicate n 0
wide_none n Skipped = length-replicate n 0
wide_none n Rescued = length-replicate n 0
wide_none n Ignored = length-replicate n 0

-- the counts of the first n hosts have been put down, of as many hosts as the list has
abbrev pub IsCopied : ColumnsOf → List Counts → ℕ → Type 0
IsCopied c all n = ((kind : CountKind) → length (column kind c) ≡ length all) × (take n (rows_of c) ≡ take n all)

pub none_copied : (c : ColumnsOf) (all : List Counts) (n : ℕ) → n ≡ length all → c ≡ no_counts n → IsCopied c all 0
none_copied c all n long is = (λ kind. ap (λ d. length (column kind d)) is ∙ wide_none n kind ∙ long, refl)

pub one_copied : (c : ColumnsOf) (all : List Counts) (h : ℕ) (counts : Counts) → h < length all → slice_get all h ≡ Some counts → IsCopied c all h → IsCopied (with_counts h counts c) all (h + 1)
one_copied c all h counts inside here before =
    let there : HasHost c h = λ kind. let wide = before.0 kind in omega (arith, wide, inside) in
    let long : length (rows_of c) ≡ length all = length_rows c ∙ before.0 Okay in
    let more : take (h + 1) (slice_set (rows_of c) h counts) ≡ take h (rows_of c) ++ counts ∷ [] = take_more_set (rows_of c) h counts (omega (arith, long, inside)) in
    let own : take h all ++ counts ∷ [] ≡ take (h + 1) all =
    ap (λ (x : Counts). take h all ++ x ∷ []) (sym (get_or_from_slice_get all h counts counts here)) ∙ sym (take_more all h counts inside) in (
      λ kind. wide_put h counts c kind ∙ before.0 kind,
      ap (take (h + 1)) (rows_put c h counts there) ∙ more ∙ ap (λ (xs : List Counts). xs ++ counts ∷ []) before.1 ∙ own,
    )

pub all_copied : (c : ColumnsOf) (all : List Counts) (n : ℕ) → n ≡ length all → IsCopied c all n → rows_of c ≡ all
all_copied c all n whole copied =
    let long : length (rows_of c) ≡ length all = length_rows c ∙ copied.0 Okay in
    sym (take_all n (rows_of c) (omega (arith, whole, long))) ∙ copied.1 ∙ take_all n all (omega (arith, whole))
