-- Who is at a place is known by the bits of its number.
use Rattle.std.proofs.Common.{◌≡◌, ◌≢◌, ◌<◌, ◌≤◌, ◌+◌, ◌/◌, ◌%◌, ◌++◌, ◌∙◌, ℕ, zero, suc, Bool, true, false, ◌&&◌, List, [], ◌∷◌, Option, Some, None, map, length, nat_eq, is_some, slice_set, slice_index_or, get_or, arith, refl, ap, sym, subst, inl, inr}
use Rattle.std.specs.Prelude.{◌==◌, replicate}
use Rattle.std.specs.Option.{option_map_or}
use Rattle.std.specs.Simd.Lanes.{zip2}
use Rattle.std.proofs.lemmas.Bool.{cases_eq, cases_lt, eq-eqb, ne_eqb}
use Rattle.std.proofs.lemmas.List.{get_or_past, get_or-set_other, get_or-set_same, length-map, length-set, map-set}
use Rattle.std.proofs.lemmas.Simd.{length-zip2, zip2-map}
use Rattle.pb_strategies.specs.declared.standings.Standing.{Standing}
use Rattle.pb_strategies.specs.Hosts.{nowhere, is_next_at, is_unended, same_place}
use Rattle.pb_strategies.specs.Numbers.{AreBits, AreNumbered, HaveNoMore, HaveRoom, agrees, behind_bits, has_bit, number_of, numbered, same_bits}

pub none_left : (k : ℕ) → behind_bits k 0 ≡ 0
none_left zero = refl
none_left (suc k) = ap (λ (n : ℕ). n / 2) (none_left k)

no_bit : (k : ℕ) → has_bit k 0 ≡ false
no_bit k = ap (λ (n : ℕ). n % 2 == 1) (none_left k)

and_first : (a b : Bool) → (a && b) ≡ true → a ≡ true
and_first true b e = refl
and_first false b e = cc

and_second : (a b : Bool) → (a && b) ≡ true → b ≡ true
and_second true b e = e
and_second false b e = cc

and_more : (a b c : Bool) → ((a && b) && c) ≡ (a && (b && c))
and_more true b c = refl
and_more false b c = refl

and_yes : (a : Bool) → a ≡ (a && true)
and_yes true = refl
and_yes false = refl

agree : (a b : Bool) → agrees a b ≡ true → a ≡ b
agree true b e = sym e
agree false true e = cc
agree false false e = refl

agrees_itself : (a : Bool) → agrees a a ≡ true
agrees_itself true = refl
agrees_itself false = refl

-- two numbers below 2
one_bit : (x y : ℕ) → x < 2 → y < 2 → (x == 1) ≡ (y == 1) → x ≡ y
one_bit zero zero lx ly e = refl
one_bit zero (suc zero) lx ly e = cc
one_bit (suc zero) zero lx ly e = cc
one_bit (suc zero) (suc zero) lx ly e = refl
one_bit (suc (suc x)) y lx ly e = absurd (omega (arith, lx))
one_bit x (suc (suc y)) lx ly e = absurd (omega (arith, ly))

halves : (a b : ℕ) → a / 2 ≡ b / 2 → (b % 2 == 1) ≡ (a % 2 == 1) → a ≡ b
halves a b half bit = let last : b % 2 ≡ a % 2 = one_bit (b % 2) (a % 2) (omega arith) (omega arith) bit in omega (arith, half, last)

-- numbers with the same bits are the same
same_number : (k m n : ℕ) → same_bits k m n ≡ true → behind_bits k m ≡ behind_bits k n → m ≡ n
same_number zero m n e same = same
same_number (suc k) m n e same =
    same_number k m n (and_first (same_bits k m n) (agrees (has_bit k n) (has_bit k m)) e)
    (halves (behind_bits k m) (behind_bits k n) same (agree (has_bit k n) (has_bit k m) (and_second (same_bits k m n) (agrees (has_bit k n) (has_bit k m)) e)))

itself : (k n : ℕ) → same_bits k n n ≡ true
itself zero n = refl
itself (suc k) n = ap (λ b. b && agrees (has_bit k n) (has_bit k n)) (itself k n) ∙ agrees_itself (has_bit k n)

are_same : (k m n : ℕ) → behind_bits k m ≡ 0 → behind_bits k n ≡ 0 → same_bits k m n ≡ nat_eq m n
are_same k m n em en =
    elim (cases_eq m n) [
      | inl is ↦ ap (λ (x : ℕ). same_bits k x n) is ∙ itself k n ∙ sym (eq-eqb m n is)
      | inr other ↦ by_bits (same_bits k m n) refl other
    ]
  where
    by_bits : (b : Bool) → same_bits k m n ≡ b → m ≢ n → b ≡ nat_eq m n
    by_bits true e other = absurd (other (same_number k m n e (em ∙ sym en)))
    by_bits false e other = sym (ne_eqb m n other)

-- of one host
at_place : (k place : ℕ) (next : Option ℕ) → behind_bits k (option_map_or (λ (p : ℕ). p) next 0) ≡ 0 → behind_bits k place ≡ 0
    → (is_some next && same_bits k (option_map_or (λ (p : ℕ). p) next 0) place) ≡ same_place next (Some place)
at_place k place None no_more fits = refl
at_place k place (Some p) no_more fits = are_same k p place no_more fits

pub at_by_bits : (k place : ℕ) (hosts : List Standing) → HaveNoMore k hosts → behind_bits k place ≡ 0
    → map (λ (host : Standing). is_unended host && same_bits k (number_of host) place) hosts ≡ map (is_next_at (Some place)) hosts
at_by_bits k place [] no_more fits = refl
at_by_bits k place (host ∷ hosts) no_more fits =
    ap (λ b. b ∷ map (λ (one : Standing). is_unended one && same_bits k (number_of one) place) hosts) (at_place k place host.next (no_more 0) fits)
    ∙ ap (λ rest. is_next_at (Some place) host ∷ rest) (at_by_bits k place hosts (λ h. no_more (suc h)) fits)

-- the hosts that have one bit more
each_alike : (f g : Standing → Bool) → ((host : Standing) → f host ≡ g host) → (hosts : List Standing) → map f hosts ≡ map g hosts
each_alike f g e [] = refl
each_alike f g e (host ∷ hosts) = ap (λ b. b ∷ map f hosts) (e host) ∙ ap (λ rest. g host ∷ rest) (each_alike f g e hosts)

pub none_asked : (test : Standing → Bool) (number : ℕ) (hosts : List Standing) (set : List Bool) → set ≡ map test hosts → set ≡ map (λ (host : Standing). test host && same_bits 0 (number_of host) number) hosts
none_asked test number hosts set e = e ∙ each_alike test (λ (host : Standing). test host && true) (λ (host : Standing). and_yes (test host)) hosts

pub one_bit_more : (test : Standing → Bool) (k number : ℕ) (is_set : Bool) (hosts : List Standing) (set bit new : List Bool) → is_set ≡ has_bit k number → bit ≡ map (numbered k) hosts
    → set ≡ map (λ (host : Standing). test host && same_bits k (number_of host) number) hosts → new ≡ zip2 (λ (a b : Bool). a && agrees is_set b) set bit
    → new ≡ map (λ (host : Standing). test host && same_bits (suc k) (number_of host) number) hosts
one_bit_more test k number is_set hosts set bit new e b s n =
    let pair : Bool → Bool → Bool = λ (x y : Bool). x && agrees (has_bit k number) y in
    let kept : Standing → Bool = λ (host : Standing). test host && same_bits k (number_of host) number in
    n ∙ ap (λ wanted. zip2 (λ (x y : Bool). x && agrees wanted y) set bit) e ∙ ap (λ xs. zip2 pair xs bit) s ∙ ap (λ ys. zip2 pair (map kept hosts) ys) b
    ∙ zip2-map pair kept (numbered k) hosts
    ∙ each_alike (λ (host : Standing). kept host && agrees (has_bit k number) (numbered k host)) (λ (host : Standing). test host && same_bits (suc k) (number_of host) number)
    (λ (host : Standing). and_more (test host) (same_bits k (number_of host) number) (agrees (has_bit k number) (numbered k host))) hosts

-- no host has a next place
all_nowhere : {Y : Type 0} (f : Standing → Y) (n : ℕ) → replicate n (f nowhere) ≡ map f (replicate n nowhere)
all_nowhere f zero = refl
all_nowhere f (suc n) = ap (λ rest. f nowhere ∷ rest) (all_nowhere f n)

nowhere_at : (n h : ℕ) → slice_index_or (replicate n nowhere) h nowhere ≡ nowhere
nowhere_at zero h = refl
nowhere_at (suc n) zero = refl
nowhere_at (suc n) (suc h) = nowhere_at n h

pub first_numbered : (n : ℕ) (hosts : List Standing) (bits : List (List Bool)) (fits : Bool) → hosts ≡ replicate n nowhere
    → ((k : ℕ) → k < length bits → slice_index_or bits k [] ≡ replicate n false) → AreNumbered hosts bits fits
first_numbered n hosts bits fits e none = record {
  are_bits = λ k lt. none k lt ∙ ap (replicate n) (sym (no_bit k)) ∙ all_nowhere (numbered k) n ∙ ap (map (numbered k)) (sym e);
  no_more =
      λ is h.
      ap (λ (all : List Standing). behind_bits (length bits) (number_of (slice_index_or all h nowhere))) e
      ∙ ap (λ (host : Standing). behind_bits (length bits) (number_of host)) (nowhere_at n h) ∙ none_left (length bits);
}

-- a host goes on
pub moved_on : (hosts : List Standing) (h : ℕ) (new : Standing) (bits more : List (List Bool)) (fits : Bool) → length more ≡ length bits
    → ((k : ℕ) → k < length bits → slice_index_or more k [] ≡ slice_set (slice_index_or bits k []) h (has_bit k (number_of new))) → AreNumbered hosts bits fits → AreBits (slice_set hosts h new) more
moved_on hosts h new bits more fits long each are k lt =
    let below : k < length bits = omega (arith, lt, long) in
    each k below ∙ ap (λ set. slice_set set h (has_bit k (number_of new))) (are.are_bits k below) ∙ sym (map-set (numbered k) hosts h new)

no_more_after : (hosts : List Standing) (h : ℕ) (new : Standing) (k : ℕ) → behind_bits k (number_of new) ≡ 0 → HaveNoMore k hosts → HaveNoMore k (slice_set hosts h new)
no_more_after hosts h new k left none i =
    elim (cases_eq i h) [
      | inl is ↦ ap (λ (at : ℕ). shown at) is ∙ here
      | inr other ↦ ap (λ (host : Standing). behind_bits k (number_of host)) (get_or-set_other hosts h i new nowhere other) ∙ none i
    ]
  where
    shown : ℕ → ℕ
    shown at = behind_bits k (number_of (slice_index_or (slice_set hosts h new) at nowhere))

    here : shown h ≡ 0
    here =
        elim (cases_lt h (length hosts)) [
          | inl lt ↦ ap (λ (host : Standing). behind_bits k (number_of host)) (get_or-set_same hosts h new nowhere lt) ∙ left
          | inr le ↦
              let long = length-set hosts h new in
              ap (λ (host : Standing). behind_bits k (number_of host)) (get_or_past (slice_set hosts h new) h nowhere (omega (arith, le, long))) ∙ none_left k
        ]

put_numbered : (hosts : List Standing) (h : ℕ) (new : Standing) (bits more : List (List Bool)) (fits still : Bool) → length more ≡ length bits
    → ((k : ℕ) → k < length bits → slice_index_or more k [] ≡ slice_set (slice_index_or bits k []) h (has_bit k (number_of new)))
    → (still ≡ true → (fits ≡ true) × (behind_bits (length bits) (number_of new) ≡ 0)) → AreNumbered hosts bits fits → AreNumbered (slice_set hosts h new) more still
put_numbered hosts h new bits more fits still long each when are = record {
  are_bits = moved_on hosts h new bits more fits long each are;
  no_more =
      λ is.
      subst (λ (k : ℕ). HaveNoMore k (slice_set hosts h new)) (sym long) (no_more_after hosts h new (length bits) (when is).1 (are.no_more (when is).0));
}

-- the same by the number of the next place; what is left of it behind the bits tells whether it fits
pub put_by_number : (hosts : List Standing) (h : ℕ) (new : Standing) (next : Option ℕ) (number left : ℕ) (bits more : List (List Bool)) (fits still : Bool) → new.next ≡ next
    → number ≡ option_map_or (λ (p : ℕ). p) next 0 → length more ≡ length bits
    → ((k : ℕ) → k < length bits → slice_index_or more k [] ≡ slice_set (slice_index_or bits k []) h (has_bit k number))
    → left ≡ behind_bits (length bits) number → (still ≡ true → (fits ≡ true) × (left ≡ 0)) → AreNumbered hosts bits fits → AreNumbered (slice_set hosts h new) more still
put_by_number hosts h new next number left bits more fits still e n long each behind when are =
    put_numbered hosts h new bits more fits still long (subst (λ (m : ℕ). (k : ℕ) → k < length bits → slice_index_or more k [] ≡ slice_set (slice_index_or bits k []) h (has_bit k m)) same each)
    (λ is. ((when is).0, ap (behind_bits (length bits)) (sym same) ∙ sym behind ∙ (when is).1)) are
  where
    same : number ≡ number_of new
    same = n ∙ ap (λ (o : Option ℕ). option_map_or (λ (p : ℕ). p) o 0) (sym e)

-- the set of each bit has room for each host
pub have_room : (hosts : List Standing) (h : ℕ) (bits : List (List Bool)) (fits : Bool) → h < length hosts → AreNumbered hosts bits fits → HaveRoom h bits
have_room hosts h bits fits lt are k below = let long = ap length (are.are_bits k below) ∙ length-map hosts (numbered k) in omega (arith, lt, long)

pub as_wide : (hosts : List Standing) (set : List Bool) (bits : List (List Bool)) (fits : Bool) → set ≡ map is_unended hosts → AreNumbered hosts bits fits → (k : ℕ) → k < length bits → length set ≡ length (slice_index_or bits k [])
as_wide hosts set bits fits e are k below = ap length e ∙ length-map hosts is_unended ∙ sym (ap length (are.are_bits k below) ∙ length-map hosts (numbered k))

-- ---- bit by bit
behind_next : (k next n left new : ℕ) → next ≡ k + 1 → left ≡ behind_bits k n → new ≡ left / 2 → new ≡ behind_bits next n
behind_next k next n left new e is half =
    let more : next ≡ suc k = omega (arith, e) in half ∙ ap (λ (m : ℕ). m / 2) is ∙ sym (ap (λ (m : ℕ). behind_bits m n) more)

-- a host is put into the sets of the first so many bits
pub record IsPutTo (old now : List (List Bool)) (host number at left : ℕ) : Type 0 where
  pub long : length now ≡ length old
  pub behind : left ≡ behind_bits at number
  pub done : (k : ℕ) → k < at → slice_index_or now k [] ≡ slice_set (slice_index_or old k []) host (has_bit k number)
  pub rest : (k : ℕ) → at ≤ k → slice_index_or now k [] ≡ slice_index_or old k []

pub none_put : (bits : List (List Bool)) (host number : ℕ) → IsPutTo bits bits host number 0 number
none_put bits host number = record { long = refl; behind = refl; done = λ k lt. absurd (omega (arith, lt)); rest = λ k le. refl }

pub one_put : (old now new : List (List Bool)) (set : List Bool) (host number at next left less : ℕ) → IsPutTo old now host number at left → at < length old → set ≡ slice_set (slice_index_or now at []) host (left % 2 == 1)
    → new ≡ slice_set now at set → less ≡ left / 2 → next ≡ at + 1 → IsPutTo old new host number next less
one_put old now new set host number at next left less so_far lt s n half e =
    let long = so_far.long in
    record {
      long = ap length n ∙ length-set now at set ∙ long;
      behind = behind_next at next number left less e so_far.behind half;
      done = done;
      rest = λ k le. let other : k ≢ at = λ same. omega (arith, le, e, same) in ap (λ xs. slice_index_or xs k []) n ∙ get_or-set_other now at k set [] other ∙ so_far.rest k (omega (arith, le, e));
    }
  where
    here : slice_index_or new at [] ≡ slice_set (slice_index_or old at []) host (has_bit at number)
    here =
        let long = so_far.long in
        ap (λ xs. slice_index_or xs at []) n ∙ get_or-set_same now at set [] (omega (arith, lt, long)) ∙ s
        ∙ ap (λ xs. slice_set xs host (left % 2 == 1)) (so_far.rest at (omega arith))
        ∙ ap (λ (m : ℕ). slice_set (slice_index_or old at []) host (m % 2 == 1)) so_far.behind

    done : (k : ℕ) → k < next → slice_index_or new k [] ≡ slice_set (slice_index_or old k []) host (has_bit k number)
    done k less =
        elim (cases_eq k at) [
          | inl is ↦ subst (λ (m : ℕ). slice_index_or new m [] ≡ slice_set (slice_index_or old m []) host (has_bit m number)) (sym is) here
          | inr other ↦ ap (λ xs. slice_index_or xs k []) n ∙ get_or-set_other now at k set [] other ∙ so_far.done k (omega (arith, less, e, other))
        ]

-- of a set those hosts are kept whose next places have the first so many bits
pub record IsKeptTo (set now : List Bool) (bits : List (List Bool)) (number at left : ℕ) : Type 0 where
  pub width : length now ≡ length set
  pub behind : left ≡ behind_bits at number
  pub kept : (hosts : List Standing) (test : Standing → Bool) → AreBits hosts bits → set ≡ map test hosts → now ≡ map (λ (host : Standing). test host && same_bits at (number_of host) number) hosts

pub none_kept : (set : List Bool) (bits : List (List Bool)) (number : ℕ) → IsKeptTo set set bits number 0 number
none_kept set bits number = record { width = refl; behind = refl; kept = λ hosts test are is. none_asked test number hosts set is }

same_default : (xs : List (List Bool)) (i : ℕ) (d e : List Bool) → i < length xs → get_or xs i d ≡ get_or xs i e
same_default [] i d e lt = absurd (omega (arith, lt))
same_default (x ∷ xs) zero d e lt = refl
same_default (x ∷ xs) (suc i) d e lt = same_default xs i d e (omega (arith, lt))

pub bit_there : (bits : List (List Bool)) (at : ℕ) (bit : List Bool) → at < length bits → bit ≡ get_or bits at bit → bit ≡ slice_index_or bits at []
bit_there bits at bit lt e = e ∙ same_default bits at bit [] lt

pub one_kept : (set now new bit : List Bool) (bits : List (List Bool)) (number at next left less : ℕ) → IsKeptTo set now bits number at left → at < length bits → bit ≡ slice_index_or bits at [] → length now ≡ length bit
    → new ≡ zip2 (λ (a b : Bool). a && agrees (left % 2 == 1) b) now bit → less ≡ left / 2 → next ≡ at + 1 → IsKeptTo set new bits number next less
one_kept set now new bit bits number at next left less so_far lt there wide n half e = record {
  width = ap length n ∙ length-zip2 (λ (a b : Bool). a && agrees (left % 2 == 1) b) now bit wide ∙ so_far.width;
  behind = behind_next at next number left less e so_far.behind half;
  kept =
      λ hosts test are is.
      let more : suc at ≡ next = omega (arith, e) in
      subst (λ (k : ℕ). new ≡ map (λ (host : Standing). test host && same_bits k (number_of host) number) hosts) more
      (one_bit_more test at number (left % 2 == 1) hosts now bit new (ap (λ (m : ℕ). m % 2 == 1) so_far.behind) (there ∙ are at lt) (so_far.kept hosts test are is) n);
}

-- one more set without hosts
pub more_empty : (bits new : List (List Bool)) (set : List Bool) (n : ℕ) → new ≡ bits ++ set ∷ [] → set ≡ replicate n false → ((k : ℕ) → k < length bits → slice_index_or bits k [] ≡ replicate n false)
    → (k : ℕ) → k < length new → slice_index_or new k [] ≡ replicate n false
more_empty bits new set n e s none k lt = ap (λ xs. slice_index_or xs k []) e ∙ each bits none k (subst (λ xs. k < length xs) e lt)
  where
    each : (xs : List (List Bool)) → ((i : ℕ) → i < length xs → slice_index_or xs i [] ≡ replicate n false) → (i : ℕ) → i < length (xs ++ set ∷ []) → slice_index_or (xs ++ set ∷ []) i [] ≡ replicate n false
    each [] all zero below = s
    each [] all (suc i) below = absurd (omega (arith, below))
    each (x ∷ xs) all zero below = all 0 (omega arith)
    each (x ∷ xs) all (suc i) below = each xs (λ j lt. all (suc j) (omega (arith, lt))) i (omega (arith, below))

-- who is at a place
pub there_by_bits : (hosts : List Standing) (unended set : List Bool) (bits : List (List Bool)) (fits : Bool) (place left : ℕ) → fits ≡ true
    → ((all : List Standing) (test : Standing → Bool) → AreBits all bits → unended ≡ map test all → set ≡ map (λ (host : Standing). test host && same_bits (length bits) (number_of host) place) all)
    → left ≡ behind_bits (length bits) place → left ≡ 0 → unended ≡ map is_unended hosts → AreNumbered hosts bits fits → set ≡ map (is_next_at (Some place)) hosts
there_by_bits hosts unended set bits fits place left fit kept behind none u are =
    kept hosts is_unended are.are_bits u ∙ at_by_bits (length bits) place hosts (are.no_more fit) (sym behind ∙ none)
