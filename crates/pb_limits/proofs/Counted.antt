-- The counts of a list go with it as one host starts or finishes.
use Rattle.std.proofs.Common.{◌≡◌, ◌≢◌, ◌<◌, ◌+◌, ◌-◌, ◌^◌, ◌∙◌, ℕ, zero, suc, Bool, false, cond, List, Option, Some, None, min, map, length, count_by, is_some, replicate, slice_get, slice_set, slice_index_or, nat_eq, arith, refl, ap, sym, inl, inr, eq-eqb}
use Rattle.std.specs.List.{range_with_len}
use Rattle.std.proofs.lemmas.Bool.{cases_eq, ne_eqb}
use Rattle.std.proofs.lemmas.Option.{slice_get_cases, get_or_from_slice_get}
use Rattle.std.proofs.lemmas.List.{length-set, get_or-set_same, get_or-set_other, get_or-replicate, length-replicate}
use Rattle.std.proofs.lemmas.List.Sums.{sum_by-set, sum_by-cons, count_by-le-length}
use Rattle.std.proofs.lemmas.List.FromFn.{fill_by_all, length-map-range_with_len, get_or-map-range_with_len}
use Rattle.pb_limits.specs.Counts.{runs_at, running, running_at, limits_of, LimitsOf}

inside : (runs : List (Option ℕ)) (host : ℕ) (v : Option ℕ) → slice_get runs host ≡ Some v → host < length runs
inside runs host v e =
    elim (slice_get_cases runs host).1 [
      | inl (x, lt, is, at) ↦ lt
      | inr (le, none) ↦ cc
    ]

count_set : (p : Option ℕ → Bool) (runs : List (Option ℕ)) (host : ℕ) (was is : Option ℕ) → slice_get runs host ≡ Some was →
    count_by p (slice_set runs host is) + cond (p was) 1 0 ≡ count_by p runs + cond (p is) 1 0
count_set p runs host was is e =
    let f : Option ℕ → ℕ = λ x. cond (p x) 1 0 in
    let there = get_or_from_slice_get runs host was None e in
    let set = sum_by-set f runs host is None (inside runs host was e) in
    rw there at set

same_limits : (m n : ℕ) (xs ys : List ℕ) → m ≡ n → xs ≡ ys →
    let left : LimitsOf = record { running = m; at = xs } in let right : LimitsOf = record { running = n; at = ys } in left ≡ right
same_limits m n xs ys a b = rw (a, b) refl

-- a list of counts in which the one at a place is written anew
counts_set : (places place v : ℕ) (f g : ℕ → ℕ) → (place < places → v ≡ g place) → ((k : ℕ) → k ≢ place → f k ≡ g k) →
    slice_set (map f (range_with_len 0 places)) place v ≡ map g (range_with_len 0 places)
counts_set places place v f g here others = fill_by_all g (slice_set xs place v) places 0 (length-set xs place v ∙ size) each
  where
    xs : List ℕ
    xs = map f (range_with_len 0 places)

    size : length (map f (range_with_len 0 places)) ≡ places
    size = length-map-range_with_len f 0 places

    each : (k : ℕ) → k < places → slice_index_or (slice_set (map f (range_with_len 0 places)) place v) k 0 ≡ g k
    each k lt =
        elim (cases_eq k place) [
          | inl e ↦
              let below : place < places = omega arith in
              let same = get_or-set_same (map f (range_with_len 0 places)) place v 0 (omega (arith, size, below)) in
              rw e (same ∙ here below)
          | inr ne ↦
              let other = get_or-set_other (map f (range_with_len 0 places)) place k v 0 ne in
              let was = get_or-map-range_with_len f 0 places k k 0 lt (omega arith) in
              other ∙ was ∙ others k ne
        ]

at_other : (runs : List (Option ℕ)) (host place k : ℕ) (was is : Option ℕ) → slice_get runs host ≡ Some was → runs_at k was ≡ false → runs_at k is ≡ false →
    running_at runs k ≡ running_at (slice_set runs host is) k
at_other runs host place k was is e a b =
    let set = count_set (runs_at k) runs host was is e in
    let plain : count_by (runs_at k) (slice_set runs host is) + 0 ≡ count_by (runs_at k) runs + 0 = rw (a, b) at set in
    omega arith

pub started : (places place host n : ℕ) (runs : List (Option ℕ)) (at : List ℕ) → length runs < 2 ^ 32 → slice_get runs host ≡ Some None →
    (let it : LimitsOf = record { running = n; at = at } in it ≡ limits_of places runs) →
    (let it : LimitsOf = record { running = min (n + 1) (2 ^ 32 - 1); at = slice_set at place (min (2 ^ 32 - 1) (slice_index_or at place 0 + 1)) } in
    it ≡ limits_of places (slice_set runs host (Some place)))
started places place host n runs at few e counts = same_limits _ _ _ _ all (rw at-is each)
  where
    n-is : n ≡ running runs
    n-is = ap (λ (l : LimitsOf). l.running) counts

    at-is : at ≡ map (running_at runs) (range_with_len 0 places)
    at-is = ap (λ (l : LimitsOf). l.at) counts

    long : length (slice_set runs host (Some place)) ≡ length runs
    long = length-set runs host (Some place)

    all : min (n + 1) (2 ^ 32 - 1) ≡ running (slice_set runs host (Some place))
    all =
        let set : running (slice_set runs host (Some place)) + 0 ≡ running runs + 1 = count_set is_some runs host None (Some place) e in
        let bound = count_by-le-length is_some (slice_set runs host (Some place)) in
        omega (arith, n-is, long, few)

    here : place < places → min (2 ^ 32 - 1) (slice_index_or (map (running_at runs) (range_with_len 0 places)) place 0 + 1) ≡ running_at (slice_set runs host (Some place)) place
    here lt =
        let was = get_or-map-range_with_len (running_at runs) 0 places place place 0 lt (omega arith) in
        let set : running_at (slice_set runs host (Some place)) place + 0 ≡ running_at runs place + cond (nat_eq place place) 1 0 = count_set (runs_at place) runs host None (Some place) e in
        let more : running_at (slice_set runs host (Some place)) place + 0 ≡ running_at runs place + 1 = rw (eq-eqb place place refl) at set in
        let bound = count_by-le-length (runs_at place) (slice_set runs host (Some place)) in
        rw was (omega (arith, more, bound, long, few))

    each : slice_set (map (running_at runs) (range_with_len 0 places)) place (min (2 ^ 32 - 1) (slice_index_or (map (running_at runs) (range_with_len 0 places)) place 0 + 1))
        ≡ map (running_at (slice_set runs host (Some place))) (range_with_len 0 places)
    each =
        counts_set places place (min (2 ^ 32 - 1) (slice_index_or (map (running_at runs) (range_with_len 0 places)) place 0 + 1)) (running_at runs) (running_at (slice_set runs host (Some place))) here
        (λ k ne. at_other runs host place k None (Some place) e refl (ne_eqb k place ne))

pub finished : (places place host n : ℕ) (runs : List (Option ℕ)) (at : List ℕ) → slice_get runs host ≡ Some (Some place) →
    (let it : LimitsOf = record { running = n; at = at } in it ≡ limits_of places runs) →
    (let it : LimitsOf = record { running = n - 1; at = slice_set at place (slice_index_or at place 0 - 1) } in
    it ≡ limits_of places (slice_set runs host None))
finished places place host n runs at e counts = same_limits _ _ _ _ all (rw at-is each)
  where
    n-is : n ≡ running runs
    n-is = ap (λ (l : LimitsOf). l.running) counts

    at-is : at ≡ map (running_at runs) (range_with_len 0 places)
    at-is = ap (λ (l : LimitsOf). l.at) counts

    all : n - 1 ≡ running (slice_set runs host None)
    all =
        let set : running (slice_set runs host None) + 1 ≡ running runs + 0 = count_set is_some runs host (Some place) None e in
        omega (arith, n-is, set)

    here : place < places → slice_index_or (map (running_at runs) (range_with_len 0 places)) place 0 - 1 ≡ running_at (slice_set runs host None) place
    here lt =
        let was = get_or-map-range_with_len (running_at runs) 0 places place place 0 lt (omega arith) in
        let set : running_at (slice_set runs host None) place + cond (nat_eq place place) 1 0 ≡ running_at runs place + 0 = count_set (runs_at place) runs host (Some place) None e in
        let less : running_at (slice_set runs host None) place + 1 ≡ running_at runs place + 0 = rw (eq-eqb place place refl) at set in
        rw was (omega (arith, less))

    each : slice_set (map (running_at runs) (range_with_len 0 places)) place (slice_index_or (map (running_at runs) (range_with_len 0 places)) place 0 - 1)
        ≡ map (running_at (slice_set runs host None)) (range_with_len 0 places)
    each =
        counts_set places place (slice_index_or (map (running_at runs) (range_with_len 0 places)) place 0 - 1) (running_at runs) (running_at (slice_set runs host None)) here
        (λ k ne. at_other runs host place k (Some place) None e (ne_eqb k place ne) refl)

none_run : (p : Option ℕ → Bool) (hosts : ℕ) → p None ≡ false → count_by p (replicate hosts None) ≡ 0
none_run p zero e = refl
none_run p (suc hosts) e =
    let f : Option ℕ → ℕ = λ x. cond (p x) 1 0 in
    let cons : count_by p (replicate (suc hosts) None) ≡ f None + count_by p (replicate hosts None) = sum_by-cons f None (replicate hosts None) in
    cons ∙ rw (e, none_run p hosts e) refl

pub none_counted : (places hosts : ℕ) (at : List ℕ) → at ≡ replicate places 0 →
    (let it : LimitsOf = record { running = 0; at = at } in it ≡ limits_of places (replicate hosts None))
none_counted places hosts at e = same_limits _ _ _ _ (sym (none_run is_some hosts refl)) (fill_by_all (running_at (replicate hosts None)) at places 0 long each)
  where
    long : length at ≡ places
    long = rw e (length-replicate places 0)

    each : (k : ℕ) → k < places → slice_index_or at k 0 ≡ running_at (replicate hosts None) k
    each k lt = rw e (get_or-replicate places k 0 0 lt ∙ sym (none_run (runs_at k) hosts refl))
