-- The numbers below a limit, one after another.
use Rattle.std.proofs.Common.{◌≡◌, ◌+◌, ◌-◌, ◌<◌, ◌≤◌, ℕ, zero, suc, Bool, true, false, cond, map, length, take, List, [], ◌∷◌, ◌++◌, arith, refl, ap, sym, ◌∙◌}
use Rattle.std.specs.Prelude.{filter, not, ◌==◌, slice_index_or}
use Rattle.pb_inventory.specs.Graph.{is_unmarked, missing}
use Rattle.std.proofs.lemmas.List.{append-nil, take_all, map-append}
use Rattle.std.specs.List.{range_with_len, list_any}
use Rattle.std.proofs.lemmas.List.Elements.{filter-append}

range_more : (a n k : ℕ) → k ≡ a + n → range_with_len a (suc n) ≡ range_with_len a n ++ k ∷ []
range_more a zero k is = ap (λ t. t ∷ []) (omega (arith, is))
range_more a (suc n) k is = ap (λ t. a ∷ t) (range_more (a + 1) n k (omega (arith, is)))

pub range_next : (n m : ℕ) → m ≡ n + 1 → range_with_len 0 m ≡ range_with_len 0 n ++ n ∷ []
range_next n m is = let e : m ≡ suc n = omega (arith, is) in ap (range_with_len 0) e ∙ range_more 0 n n (omega arith)

pub filter_next : (p : ℕ → Bool) (n m : ℕ) → m ≡ n + 1 → filter p (range_with_len 0 m) ≡ filter p (range_with_len 0 n) ++ cond (p n) (n ∷ []) []
filter_next p n m is = ap (filter p) (range_next n m is) ∙ filter-append p (range_with_len 0 n) (n ∷ [])

pub filter_same : (p q : ℕ → Bool) (a n : ℕ) → ((k : ℕ) → a ≤ k → k < a + n → p k ≡ q k) → filter p (range_with_len a n) ≡ filter q (range_with_len a n)
filter_same p q a zero same = refl
filter_same p q a (suc n) same =
    rw (same a (omega arith) (omega arith), filter_same p q (a + 1) n (λ k low high. same k (omega (arith, low)) (omega (arith, high)))) refl

pub missing_is : (numbers : List ℕ) (limit i : ℕ) (marks : List Bool) → length numbers ≤ i → length marks ≡ limit
    → ((k : ℕ) → k < limit → slice_index_or marks k false ≡ list_any (λ m. m == k) (take i numbers))
    → filter (is_unmarked marks) (range_with_len 0 (length marks)) ≡ missing numbers limit
missing_is numbers limit i marks all size marked =
    ap (λ n. filter (is_unmarked marks) (range_with_len 0 n)) size
    ∙ filter_same (is_unmarked marks) _ 0 limit (λ k low high. ap not (marked k (omega (arith, high)) ∙ ap (list_any (λ m. m == k)) (take_all i numbers all)))

map_one : {X : Type 0} (f : ℕ → X) (n : ℕ) (b : Bool) → map f (cond b (n ∷ []) []) ≡ cond b (f n ∷ []) []
map_one f n true = refl
map_one f n false = refl

-- a filter of these numbers, and what stands for each
pub map_next : {X : Type 0} (f : ℕ → X) (p : ℕ → Bool) (n m : ℕ) → m ≡ n + 1 → map f (filter p (range_with_len 0 m)) ≡ map f (filter p (range_with_len 0 n)) ++ cond (p n) (f n ∷ []) []
map_next f p n m is = ap (map f) (filter_next p n m is) ∙ map-append f (filter p (range_with_len 0 n)) (cond (p n) (n ∷ []) []) ∙ ap (λ t. map f (filter p (range_with_len 0 n)) ++ t) (map_one f n (p n))

-- what none of the numbers between passes adds nothing
skipped : (p : ℕ → Bool) (from n : ℕ) → ((i : ℕ) → from ≤ i → i < from + n → p i ≡ false) → filter p (range_with_len 0 (from + n)) ≡ filter p (range_with_len 0 from)
skipped p from zero none = ap (λ k. filter p (range_with_len 0 k)) (omega arith)
skipped p from (suc n) none =
    filter_next p (from + n) (from + suc n) (omega arith) ∙ rw (none (from + n) (omega arith) (omega arith), skipped p from n (λ i low high. none i low (omega (arith, high)))) (append-nil (filter p (range_with_len 0 from)))

pub filter_skips : (p : ℕ → Bool) (from to : ℕ) → from ≤ to → ((i : ℕ) → from ≤ i → i < to → p i ≡ false) → filter p (range_with_len 0 to) ≡ filter p (range_with_len 0 from)
filter_skips p from to less none =
    let is : from + (to - from) ≡ to = omega (arith, less) in
    ap (λ k. filter p (range_with_len 0 k)) (sym is) ∙ skipped p from (to - from) (λ i low high. none i low (omega (arith, high, less)))

-- the next number that passes goes to the end, with what stands for it
pub next_joins : {X : Type 0} (f : ℕ → X) (p : ℕ → Bool) (from at behind : ℕ) → from ≤ at → p at ≡ true → ((i : ℕ) → from ≤ i → i < at → p i ≡ false) → behind ≡ at + 1
    → map f (filter p (range_with_len 0 behind)) ≡ map f (filter p (range_with_len 0 from)) ++ f at ∷ []
next_joins f p from at behind less is none next = map_next f p at behind next ∙ rw (is, filter_skips p from at less none) refl
