-- What stands under a name where the names are kept for many, and what it becomes when a value is put there or taken out.
use Rattle.std.proofs.Common.{◌≡◌, ℕ, zero, suc, ◌+◌, ◌*◌, ◌/◌, ◌%◌, ◌^◌, ◌<◌, ◌≤◌, ◌==◌, Bool, true, false, cond, List, [], ◌∷◌, ◌++◌, length, String, Global, Ordering, Less, Equal, Greater, Result, Ok, Err, Option, Some, None, string_bytes, string_cmp, nat_cmp, get_or, take, refl, sym, ap, subst, ◌∙◌, arith}
use Rattle.std.specs.Prelude.{slice_get, slice_set, option_map, IfOk, IsSome, zip, ◌≢◌}
use Rattle.std.proofs.Math.Nat.{pow-succ'}
use Rattle.std.proofs.lemmas.List.{length-set}
use Rattle.std.proofs.lemmas.Bool.Decides.{nat_tests}
use Rattle.std.specs.Cmp.Lexicographic.{slice_cmp}
use Rattle.std.specs.List.{AllByRecursion, remove}
use Rattle.std.specs.List.Sorted.{IsStrictlySortedBy}
use Rattle.std.specs.Map.{keys_of, values_of, lookup, remove_entry}
use Rattle.std.specs.Ordering.{match_ordering}
use Rattle.std.specs.BTreeMap.{insert_entry, is_at}
use Rattle.std.proofs.lemmas.Cmp.{nat_list_cmp_total}
use Rattle.pb_value.specs.Datum.{named, value_at}
use Rattle.pb_value.specs.Names.{paired, spelled, with_first, kept, spot, at_spot}
use Rattle.pb_value.specs.Place.{place_of, one_further}
use Rattle.pb_value.proofs.Named.{lookup-named}
use Rattle.pb_value.proofs.Placed.{within_ok, at_place}

abbrev pub Names : Type 0
Names = List (String Global)

-- ---- names as entries
pub length-paired : (ns : Names) → length (paired ns) ≡ length ns
length-paired [] = refl
length-paired (n ∷ ns) = ap suc (length-paired ns)

pub keys_of-paired : (ns : Names) → keys_of (paired ns) ≡ ns
keys_of-paired [] = refl
keys_of-paired (n ∷ ns) = ap (λ (ms : Names). n ∷ ms) (keys_of-paired ns)

pub at_name : (ns : Names) (at : ℕ) (n : String Global) → at < length ns → n ≡ get_or ns at n → slice_get (paired ns) at ≡ Some (n, 0)
at_name [] at n lt e = absurd (omega (arith, lt))
at_name (m ∷ ns) zero n lt e = ap (λ (k : String Global). Some (k, 0)) (sym e)
at_name (m ∷ ns) (suc at) n lt e = at_name ns at n (omega (arith, lt)) e

pub past_names : (ns : Names) (e : String Global × ℕ) → slice_get (paired ns) (length ns) ≡ Some e → ⊥
past_names [] e is = cc
past_names (n ∷ ns) e is = past_names ns e is

-- ---- the order of the names
keeps_bit : {X : Type 0} (P : String Global → Type 0) (b : Bool) (n : String Global) (more : List X → List (String Global × X)) (vs : List X) → P n → ((ws : List X) → AllByRecursion P (keys_of (more ws)))
    → AllByRecursion P (keys_of (cond b (more vs) (with_first n vs more)))
keeps_bit P true n more vs p h = h vs
keeps_bit P false n more [] p h = tt
keeps_bit P false n more (v ∷ vs) p h = (p, h vs)

keeps : {X : Type 0} (P : String Global → Type 0) (gone : ℕ) (ns : Names) (vs : List X) → AllByRecursion P ns → AllByRecursion P (keys_of (kept gone ns vs))
keeps P gone [] vs h = tt
keeps {X} P gone (n ∷ ns) vs h = keeps_bit P (gone % 2 == 1) n (λ (rest : List X). kept (gone / 2) ns rest) vs h.0 (λ ws. keeps P (gone / 2) ns ws h.1)

ordered_bit : {X : Type 0} (b : Bool) (n : String Global) (more : List X → List (String Global × X)) (vs : List X) → ((ws : List X) → AllByRecursion (λ y. string_cmp n y ≡ Less) (keys_of (more ws)))
    → ((ws : List X) → IsStrictlySortedBy string_cmp (keys_of (more ws))) → IsStrictlySortedBy string_cmp (keys_of (cond b (more vs) (with_first n vs more)))
unfolding IsStrictlySortedBy
ordered_bit true n more vs below h = h vs
ordered_bit false n more [] below h = tt
ordered_bit false n more (v ∷ vs) below h = (below vs, h vs)

pub kept_ordered : {X : Type 0} (gone : ℕ) (ns : Names) (vs : List X) → IsStrictlySortedBy string_cmp ns → IsStrictlySortedBy string_cmp (keys_of (kept gone ns vs))
unfolding IsStrictlySortedBy
kept_ordered gone [] vs h = tt
kept_ordered {X} gone (n ∷ ns) vs h =
    ordered_bit (gone % 2 == 1) n (λ (rest : List X). kept (gone / 2) ns rest) vs (λ ws. keeps (λ y. string_cmp n y ≡ Less) (gone / 2) ns ws h.0) (λ ws. kept_ordered (gone / 2) ns ws h.1)

-- ---- how many have a value
length_bit : {X : Type 0} (b : Bool) (n : String Global) (more : List X → List (String Global × X)) (vs ws : List X) → length vs ≡ length ws → ((us ts : List X) → length us ≡ length ts → length (more us) ≡ length (more ts))
    → length (cond b (more vs) (with_first n vs more)) ≡ length (cond b (more ws) (with_first n ws more))
length_bit true n more vs ws e h = h vs ws e
length_bit false n more [] [] e h = refl
length_bit false n more [] (w ∷ ws) e h = absurd (omega (arith, e))
length_bit false n more (v ∷ vs) [] e h = absurd (omega (arith, e))
length_bit false n more (v ∷ vs) (w ∷ ws) e h = ap suc (h vs ws (omega (arith, e)))

pub length_kept : {X : Type 0} (gone : ℕ) (ns : Names) (vs ws : List X) → length vs ≡ length ws → length (kept gone ns vs) ≡ length (kept gone ns ws)
length_kept gone [] vs ws e = refl
length_kept {X} gone (n ∷ ns) vs ws e = length_bit (gone % 2 == 1) n (λ (rest : List X). kept (gone / 2) ns rest) vs ws e (λ us ts. length_kept (gone / 2) ns us ts)

pub length_set_kept : {X : Type 0} (gone : ℕ) (ns : Names) (vs : List X) (i : ℕ) (v : X) → length (kept gone ns (slice_set vs i v)) ≡ length (kept gone ns vs)
length_set_kept gone ns vs i v = length_kept gone ns (slice_set vs i v) vs (length-set vs i v)

-- ---- what stands under a name
none_bit : {X : Type 0} (name : List ℕ) (b : Bool) (n : String Global) (more : List X → List (String Global × X)) (vs : List X) → slice_cmp nat_cmp name (string_bytes n) ≡ Less
    → ((ws : List X) → value_at name (named (more ws)) ≡ None) → value_at name (named (cond b (more vs) (with_first n vs more))) ≡ None
none_bit name true n more vs o h = h vs
none_bit name false n more [] o h = refl
none_bit name false n more (v ∷ vs) o h = rw o (h vs)

none_kept : {X : Type 0} (name : List ℕ) (gone : ℕ) (ns : Names) (vs : List X) → AllByRecursion (λ k. slice_cmp nat_cmp name (string_bytes k) ≡ Less) ns → value_at name (named (kept gone ns vs)) ≡ None
none_kept name gone [] vs h = refl
none_kept {X} name gone (n ∷ ns) vs h = none_bit name (gone % 2 == 1) n (λ (rest : List X). kept (gone / 2) ns rest) vs h.0 (λ ws. none_kept name (gone / 2) ns ws h.1)

at_none : {X : Type 0} (o : Option ℕ) → None ≡ at_spot o (let none : List X = [] in none)
at_none None = refl
at_none (Some i) = refl

at_further : {X : Type 0} (o : Option ℕ) (v : X) (vs : List X) → at_spot o vs ≡ at_spot (option_map (λ i. suc i) o) (v ∷ vs)
at_further None v vs = refl
at_further (Some i) v vs = refl

below_all : (name : List ℕ) (n : String Global) (ns : Names) → slice_cmp nat_cmp name (string_bytes n) ≡ Less → AllByRecursion (λ y. string_cmp n y ≡ Less) ns → AllByRecursion (λ k. slice_cmp nat_cmp name (string_bytes k) ≡ Less) ns
below_all name n [] o h = tt
below_all name n (m ∷ ns) o h = (nat_list_cmp_total.trans name (string_bytes n) (string_bytes m) o h.0, below_all name n ns o h.1)

below_equal : (name : List ℕ) (n : String Global) (ns : Names) → slice_cmp nat_cmp name (string_bytes n) ≡ Equal → AllByRecursion (λ y. string_cmp n y ≡ Less) ns → AllByRecursion (λ k. slice_cmp nat_cmp name (string_bytes k) ≡ Less) ns
below_equal name n [] o h = tt
below_equal name n (m ∷ ns) o h = (nat_list_cmp_total.congr name (string_bytes n) (string_bytes m) o ∙ h.0, below_equal name n ns o h.1)

-- what is found, by the answer of a search among the names
abbrev IsAt : {X : Type 0} → Option X → (ℕ → Option ℕ) → List X → Result ℕ ℕ → Type 0
IsAt found spots vs (Ok at) = found ≡ at_spot (spots at) vs
IsAt found spots vs (Err at) = found ≡ None

equal_bit : {X : Type 0} (name : List ℕ) (b : Bool) (n : String Global) (more : List X → List (String Global × X)) (vs : List X) → slice_cmp nat_cmp name (string_bytes n) ≡ Equal
    → ((ws : List X) → value_at name (named (more ws)) ≡ None) → value_at name (named (cond b (more vs) (with_first n vs more))) ≡ at_spot (cond b None (Some 0)) vs
equal_bit name true n more vs o h = h vs
equal_bit name false n more [] o h = refl
equal_bit name false n more (v ∷ vs) o h = rw o refl

greater_bit : {X : Type 0} (name : List ℕ) (b : Bool) (n : String Global) (more : List X → List (String Global × X)) (spots : Option ℕ) (vs : List X) → slice_cmp nat_cmp name (string_bytes n) ≡ Greater
    → ((ws : List X) → value_at name (named (more ws)) ≡ at_spot spots ws)
    → value_at name (named (cond b (more vs) (with_first n vs more))) ≡ at_spot (cond b spots (option_map (λ i. suc i) spots)) vs
greater_bit name true n more spots vs o h = h vs
greater_bit name false n more spots [] o h = at_none (option_map (λ i. suc i) spots)
greater_bit name false n more spots (v ∷ vs) o h = rw o (h vs ∙ at_further spots v vs)

absent_bit : {X : Type 0} (name : List ℕ) (b : Bool) (n : String Global) (more : List X → List (String Global × X)) (vs : List X) → slice_cmp nat_cmp name (string_bytes n) ≡ Greater
    → ((ws : List X) → value_at name (named (more ws)) ≡ None) → value_at name (named (cond b (more vs) (with_first n vs more))) ≡ None
absent_bit name true n more vs o h = h vs
absent_bit name false n more [] o h = refl
absent_bit name false n more (v ∷ vs) o h = rw o (h vs)

at_greater : {X : Type 0} (name : List ℕ) (gone : ℕ) (n : String Global) (ns : Names) (vs : List X) (r : Result ℕ ℕ) → slice_cmp nat_cmp name (string_bytes n) ≡ Greater
    → ((ws : List X) → IsAt (value_at name (named (kept (gone / 2) ns ws))) (λ at. spot (gone / 2) at) ws r)
    → IsAt (value_at name (named (kept gone (n ∷ ns) vs))) (λ at. spot gone at) vs (one_further r)
at_greater {X} name gone n ns vs (Ok at) o h = greater_bit name (gone % 2 == 1) n (λ (rest : List X). kept (gone / 2) ns rest) (spot (gone / 2) at) vs o h
at_greater {X} name gone n ns vs (Err at) o h = absent_bit name (gone % 2 == 1) n (λ (rest : List X). kept (gone / 2) ns rest) vs o h

at_order : {X : Type 0} (name : List ℕ) (gone : ℕ) (n : String Global) (ns : Names) (vs : List X) (o : Ordering) → slice_cmp nat_cmp name (string_bytes n) ≡ o → AllByRecursion (λ y. string_cmp n y ≡ Less) ns
    → ((ws : List X) → IsAt (value_at name (named (kept (gone / 2) ns ws))) (λ at. spot (gone / 2) at) ws (place_of name (named (paired ns))))
    → IsAt (value_at name (named (kept gone (n ∷ ns) vs))) (λ at. spot gone at) vs (match_ordering o (Err 0) (Ok 0) (one_further (place_of name (named (paired ns)))))
at_order {X} name gone n ns vs Less o below h = none_kept name gone (n ∷ ns) vs (o, below_all name n ns o below)
at_order {X} name gone n ns vs Equal o below h =
    equal_bit name (gone % 2 == 1) n (λ (rest : List X). kept (gone / 2) ns rest) vs o (λ ws. none_kept name (gone / 2) ns ws (below_equal name n ns o below))
at_order {X} name gone n ns vs Greater o below h = at_greater name gone n ns vs (place_of name (named (paired ns))) o h

pub kept_at : {X : Type 0} (name : List ℕ) (gone : ℕ) (ns : Names) (vs : List X) → IsStrictlySortedBy string_cmp ns → IsAt (value_at name (named (kept gone ns vs))) (λ at. spot gone at) vs (place_of name (named (paired ns)))
unfolding IsStrictlySortedBy
kept_at name gone [] vs h = refl
kept_at name gone (n ∷ ns) vs h = at_order name gone n ns vs (slice_cmp nat_cmp name (string_bytes n)) refl h.0 (λ ws. kept_at name (gone / 2) ns ws h.1)

-- ---- a value is put in place of one
further_spot : (o : Option ℕ) (i : ℕ) → option_map (λ j. suc j) o ≡ Some i → (j : ℕ) × ((o ≡ Some j) × (i ≡ suc j))
further_spot None i e = absurd (cc)
further_spot (Some j) i e = (j, (refl, cc))

abbrev IsPutAt : {X : Type 0} → ℕ → Names → List X → String Global → X → Result ℕ ℕ → Type 0
IsPutAt gone ns vs k v (Ok at) = (i : ℕ) → spot gone at ≡ Some i → i < length vs → insert_entry string_cmp (kept gone ns vs) k v ≡ kept gone ns (slice_set vs i v)
IsPutAt gone ns vs k v (Err at) = Unit {0}

put_equal : {X : Type 0} (b : Bool) (n : String Global) (more : List X → List (String Global × X)) (vs : List X) (k : String Global) (v : X) (i : ℕ) → string_cmp k n ≡ Equal → cond b None (Some 0) ≡ Some i → i < length vs
    → insert_entry string_cmp (cond b (more vs) (with_first n vs more)) k v ≡ cond b (more (slice_set vs i v)) (with_first n (slice_set vs i v) more)
put_equal true n more vs k v i o is lt = absurd (let wrong : None ≡ Some i = is in cc)
put_equal false n more [] k v i o is lt = absurd (omega (arith, lt))
put_equal {X} false n more (w ∷ ws) k v zero o is lt = rw o refl
put_equal {X} false n more (w ∷ ws) k v (suc i) o is lt = absurd (let wrong : 0 ≡ suc i = (let same : Some 0 ≡ Some (suc i) = is in cc) in omega (arith, wrong))

put_greater : {X : Type 0} (b : Bool) (n : String Global) (more : List X → List (String Global × X)) (spots : Option ℕ) (vs : List X) (k : String Global) (v : X) (i : ℕ) → string_cmp k n ≡ Greater
    → cond b spots (option_map (λ j. suc j) spots) ≡ Some i → i < length vs → ((ws : List X) (j : ℕ) → spots ≡ Some j → j < length ws → insert_entry string_cmp (more ws) k v ≡ more (slice_set ws j v))
    → insert_entry string_cmp (cond b (more vs) (with_first n vs more)) k v ≡ cond b (more (slice_set vs i v)) (with_first n (slice_set vs i v) more)
put_greater true n more spots vs k v i o is lt h = h vs i is lt
put_greater false n more spots [] k v i o is lt h = absurd (omega (arith, lt))
put_greater {X} false n more spots (w ∷ ws) k v i o is lt h =
    let further = further_spot spots i is in
    let j : ℕ = further.0 in
    let within : j < length ws = omega (arith, lt, further.1.1) in
    rw (o, further.1.1) (ap (λ (es : List (String Global × X)). (n, w) ∷ es) (h ws j further.1.0 within))

put_further : {X : Type 0} (gone : ℕ) (n : String Global) (ns : Names) (vs : List X) (k : String Global) (v : X) (r : Result ℕ ℕ) → string_cmp k n ≡ Greater → ((ws : List X) → IsPutAt (gone / 2) ns ws k v r)
    → IsPutAt gone (n ∷ ns) vs k v (one_further r)
put_further {X} gone n ns vs k v (Ok at) o h = λ i is lt. put_greater (gone % 2 == 1) n (λ (rest : List X). kept (gone / 2) ns rest) (spot (gone / 2) at) vs k v i o is lt (λ ws j. h ws j)
put_further gone n ns vs k v (Err at) o h = tt

put_order : {X : Type 0} (gone : ℕ) (n : String Global) (ns : Names) (vs : List X) (k : String Global) (v : X) (o : Ordering) → string_cmp k n ≡ o → ((ws : List X) → IsPutAt (gone / 2) ns ws k v (place_of (string_bytes k) (named (paired ns))))
    → IsPutAt gone (n ∷ ns) vs k v (match_ordering o (Err 0) (Ok 0) (one_further (place_of (string_bytes k) (named (paired ns)))))
put_order gone n ns vs k v Less o h = tt
put_order {X} gone n ns vs k v Equal o h = λ i is lt. put_equal (gone % 2 == 1) n (λ (rest : List X). kept (gone / 2) ns rest) vs k v i o is lt
put_order gone n ns vs k v Greater o h = put_further gone n ns vs k v (place_of (string_bytes k) (named (paired ns))) o h

pub put_kept_at : {X : Type 0} (gone : ℕ) (ns : Names) (vs : List X) (k : String Global) (v : X) → IsPutAt gone ns vs k v (place_of (string_bytes k) (named (paired ns)))
put_kept_at gone [] vs k v = tt
put_kept_at gone (n ∷ ns) vs k v = put_order gone n ns vs k v (string_cmp k n) refl (λ ws. put_kept_at (gone / 2) ns ws k v)

-- ---- a name is taken out
abbrev test_of : List ℕ → String Global → Bool
test_of name = is_at (λ k. slice_cmp nat_cmp name (string_bytes k))

bit_set : (gone : ℕ) → (gone % 2 == 1) ≡ false → ((gone + 1) % 2 == 1) ≡ true
bit_set gone h = grind (arith, nat_tests)

bit_same : (gone p : ℕ) → ((gone + 2 * p) % 2 == 1) ≡ (gone % 2 == 1)
bit_same gone p = let same : (gone + 2 * p) % 2 ≡ gone % 2 = omega arith in ap (λ (r : ℕ). r == 1) same

half_set : (gone : ℕ) → (gone % 2 == 1) ≡ false → (gone + 1) / 2 ≡ gone / 2
half_set gone h = grind (arith, nat_tests)

half_same : (gone p : ℕ) → (gone + 2 * p) / 2 ≡ gone / 2 + p
half_same gone p = omega arith

power_suc : (at : ℕ) → 2 ^ suc at ≡ 2 * 2 ^ at
power_suc at = pow-succ' 2 at

abbrev IsCutAt : {X : Type 0} → List ℕ → ℕ → Names → List X → Result ℕ ℕ → Type 0
IsCutAt name gone ns vs (Ok at) = (i : ℕ) → spot gone at ≡ Some i → i < length vs → kept (gone + 2 ^ at) ns (remove vs i) ≡ remove_entry (test_of name) (kept gone ns vs)
IsCutAt name gone ns vs (Err at) = Unit {0}

cut_equal : {X : Type 0} (name : List ℕ) (b : Bool) (n : String Global) (more : List X → List (String Global × X)) (vs : List X) (i : ℕ) → slice_cmp nat_cmp name (string_bytes n) ≡ Equal
    → cond b None (Some 0) ≡ Some i → i < length vs → more (remove vs i) ≡ remove_entry (test_of name) (cond b (more vs) (with_first n vs more))
cut_equal name true n more vs i o is lt = absurd (let wrong : None ≡ Some i = is in cc)
cut_equal name false n more [] i o is lt = absurd (omega (arith, lt))
cut_equal {X} name false n more (w ∷ ws) zero o is lt = rw o refl
cut_equal {X} name false n more (w ∷ ws) (suc i) o is lt = absurd (let wrong : 0 ≡ suc i = (let same : Some 0 ≡ Some (suc i) = is in cc) in omega (arith, wrong))

cut_greater : {X : Type 0} (name : List ℕ) (b : Bool) (n : String Global) (more less : List X → List (String Global × X)) (spots : Option ℕ) (vs : List X) (i : ℕ) → slice_cmp nat_cmp name (string_bytes n) ≡ Greater
    → cond b spots (option_map (λ j. suc j) spots) ≡ Some i → i < length vs → ((ws : List X) (j : ℕ) → spots ≡ Some j → j < length ws → less (remove ws j) ≡ remove_entry (test_of name) (more ws))
    → cond b (less (remove vs i)) (with_first n (remove vs i) less) ≡ remove_entry (test_of name) (cond b (more vs) (with_first n vs more))
cut_greater name true n more less spots vs i o is lt h = h vs i is lt
cut_greater name false n more less spots [] i o is lt h = absurd (omega (arith, lt))
cut_greater {X} name false n more less spots (w ∷ ws) i o is lt h =
    let further = further_spot spots i is in
    let j : ℕ = further.0 in
    let within : j < length ws = omega (arith, lt, further.1.1) in
    rw (o, further.1.1) (ap (λ (es : List (String Global × X)). (n, w) ∷ es) (h ws j further.1.0 within))

-- the bits once one is set
kept_by : {X : Type 0} (n : String Global) (ns : Names) (vs : List X) (gone half : ℕ) (b : Bool) → (gone % 2 == 1) ≡ b → gone / 2 ≡ half
    → kept gone (n ∷ ns) vs ≡ cond b (kept half ns vs) (with_first n vs (λ rest. kept half ns rest))
kept_by n ns vs gone half b is h = rw (is, h)

cut_first : {X : Type 0} (name : List ℕ) (gone : ℕ) (n : String Global) (ns : Names) (vs : List X) (i : ℕ) (b : Bool) → (gone % 2 == 1) ≡ b → slice_cmp nat_cmp name (string_bytes n) ≡ Equal → cond b None (Some 0) ≡ Some i → i < length vs
    → kept (gone + 1) (n ∷ ns) (remove vs i) ≡ remove_entry (test_of name) (cond b (kept (gone / 2) ns vs) (with_first n vs (λ (rest : List X). kept (gone / 2) ns rest)))
cut_first name gone n ns vs i true is o at lt = absurd (let wrong : None ≡ Some i = at in cc)
cut_first {X} name gone n ns vs i false is o at lt =
    kept_by n ns (remove vs i) (gone + 1) (gone / 2) true (bit_set gone is) (half_set gone is) ∙ cut_equal name false n (λ (rest : List X). kept (gone / 2) ns rest) vs i o at lt

cut_further : {X : Type 0} (name : List ℕ) (gone : ℕ) (n : String Global) (ns : Names) (vs : List X) (r : Result ℕ ℕ) → slice_cmp nat_cmp name (string_bytes n) ≡ Greater → ((ws : List X) → IsCutAt name (gone / 2) ns ws r)
    → IsCutAt name gone (n ∷ ns) vs (one_further r)
cut_further {X} name gone n ns vs (Ok at) o h = λ i is lt.
    let p : ℕ = 2 ^ at in
    let sum : gone + 2 ^ suc at ≡ gone + 2 * p = ap (λ m. gone + m) (power_suc at) in
    ap (λ m. kept m (n ∷ ns) (remove vs i)) sum ∙ kept_by n ns (remove vs i) (gone + 2 * p) (gone / 2 + p) (gone % 2 == 1) (bit_same gone p) (half_same gone p)
    ∙ cut_greater name (gone % 2 == 1) n (λ (rest : List X). kept (gone / 2) ns rest) (λ (rest : List X). kept (gone / 2 + p) ns rest) (spot (gone / 2) at) vs i o is lt (λ ws j. h ws j)
cut_further name gone n ns vs (Err at) o h = tt

cut_order : {X : Type 0} (name : List ℕ) (gone : ℕ) (n : String Global) (ns : Names) (vs : List X) (o : Ordering) → slice_cmp nat_cmp name (string_bytes n) ≡ o
    → ((ws : List X) → IsCutAt name (gone / 2) ns ws (place_of name (named (paired ns)))) → IsCutAt name gone (n ∷ ns) vs (match_ordering o (Err 0) (Ok 0) (one_further (place_of name (named (paired ns)))))
cut_order name gone n ns vs Less o h = tt
cut_order {X} name gone n ns vs Equal o h = λ i is lt. cut_first name gone n ns vs i (gone % 2 == 1) refl o is lt
cut_order name gone n ns vs Greater o h = cut_further name gone n ns vs (place_of name (named (paired ns))) o h

pub cut_kept_at : {X : Type 0} (name : List ℕ) (gone : ℕ) (ns : Names) (vs : List X) → IsCutAt name gone ns vs (place_of name (named (paired ns)))
cut_kept_at name gone [] vs = tt
cut_kept_at name gone (n ∷ ns) vs = cut_order name gone n ns vs (slice_cmp nat_cmp name (string_bytes n)) refl (λ ws. cut_kept_at name (gone / 2) ns ws)

-- a name that isn't there takes nothing with it
absent_test : {X : Type 0} (b : Bool) (e : String Global × X) (es rest : List (String Global × X)) (found : Option X) → cond b (Some e.1) found ≡ None → (found ≡ None → rest ≡ es) → cond b es (e ∷ rest) ≡ e ∷ es
absent_test true e es rest found l h = absurd (let wrong : Some e.1 ≡ None = l in cc)
absent_test {X} false e es rest found l h = ap (λ (t : List (String Global × X)). e ∷ t) (h l)

pub absent_stays : {X : Type 0} (test : String Global → Bool) (es : List (String Global × X)) → lookup test es ≡ None → remove_entry test es ≡ es
absent_stays test [] h = refl
absent_stays test (e ∷ es) h = absent_test (test e.0) e es (remove_entry test es) (lookup test es) h (absent_stays test es)

-- ---- a further bit fits
even_fits : (gone p : ℕ) → (gone % 2 == 1) ≡ false → gone < 2 * p → gone + 1 < 2 * p
even_fits gone p e h = grind (arith, nat_tests)

half_fits : (gone p q : ℕ) → gone / 2 + q < p → gone + 2 * q < 2 * p
half_fits gone p q h = omega (arith, h)

half_less : (gone p : ℕ) → gone < 2 * p → gone / 2 < p
half_less gone p h = omega (arith, h)

is_even : (b : Bool) (i : ℕ) → cond b None (Some 0) ≡ Some i → b ≡ false
is_even true i e = absurd (cc)
is_even false i e = refl

half_spot : (b : Bool) (o : Option ℕ) (i : ℕ) → cond b o (option_map (λ j. suc j) o) ≡ Some i → (j : ℕ) × (o ≡ Some j)
half_spot true o i e = (i, e)
half_spot false o i e = let further = further_spot o i e in (further.0, further.1.0)

bit_fits_in : (at w gone i : ℕ) → spot gone at ≡ Some i → gone < 2 ^ w → at < w → gone + 2 ^ at < 2 ^ w
bit_fits_in at zero gone i is h lt = absurd (omega (arith, lt))
bit_fits_in zero (suc w) gone i is h lt =
    let p : ℕ = 2 ^ w in
    let less : gone < 2 * p = subst (λ (m : ℕ). gone < m) (power_suc w) h in
    subst (λ (m : ℕ). gone + 1 < m) (sym (power_suc w)) (even_fits gone p (is_even (gone % 2 == 1) i is) less)
bit_fits_in (suc at) (suc w) gone i is h lt =
    let p : ℕ = 2 ^ w in
    let q : ℕ = 2 ^ at in
    let less : gone < 2 * p = subst (λ (m : ℕ). gone < m) (power_suc w) h in
    let half = half_spot (gone % 2 == 1) (spot (gone / 2) at) i is in
    let fits : gone / 2 + q < p = bit_fits_in at w (gone / 2) half.0 half.1 (half_less gone p less) (omega (arith, lt)) in
    let whole : gone + 2 * q < 2 * p = half_fits gone p q fits in
    subst (λ (m : ℕ). gone + 2 ^ suc at < m) (sym (power_suc w)) (subst (λ (m : ℕ). gone + m < 2 * p) (sym (power_suc at)) whole)

bit_fits_by : (at gone : ℕ) (o : Option ℕ) → spot gone at ≡ o → IsSome o → gone < 2 ^ 64 → at < 64 → gone + 2 ^ at < 2 ^ 64
bit_fits_by at gone (Some i) is some h lt = bit_fits_in at 64 gone i is h lt
bit_fits_by at gone None is some h lt = absurd (let wrong : false ≡ true = some in cc)

pub bit_fits : (at gone : ℕ) → IsSome (spot gone at) → gone < 2 ^ 64 → at < 64 → gone + 2 ^ at < 2 ^ 64
bit_fits at gone some h lt = bit_fits_by at gone (spot gone at) refl some h lt

-- ---- where nothing was taken out
pub spot_all : (at : ℕ) → Some at ≡ spot 0 at
spot_all zero = refl
spot_all (suc at) = ap (option_map (λ i. suc i)) (spot_all at)

-- ---- the same, by the answer of a search
pub few_places : (name : List ℕ) (ns : Names) (r : Result ℕ ℕ) → r ≡ place_of name (named (paired ns)) → length ns ≤ 64 → IfOk r (λ at. at < 64)
few_places name ns (Ok at) is few = omega (arith, within_ok name (paired ns) at is, length-paired ns, few)
few_places name ns (Err at) is few = tt

get_past : {X : Type 0} (vs : List X) (i : ℕ) → length vs ≤ i → slice_get vs i ≡ None
get_past [] i le = refl
get_past (v ∷ vs) zero le = absurd (omega (arith, le))
get_past (v ∷ vs) (suc i) le = get_past vs i (omega (arith, le))

some_in : {X : Type 0} (vs : List X) (i : ℕ) → i < length vs → (x : X) × (slice_get vs i ≡ Some x)
some_in [] i lt = absurd (omega (arith, lt))
some_in (v ∷ vs) zero lt = (v, refl)
some_in (v ∷ vs) (suc i) lt = some_in vs i (omega (arith, lt))

less_one : {X : Type 0} (vs : List X) (i : ℕ) → i < length vs → suc (length (remove vs i)) ≡ length vs
less_one [] i lt = absurd (omega (arith, lt))
less_one (v ∷ vs) zero lt = refl
less_one (v ∷ vs) (suc i) lt = ap suc (less_one vs i (omega (arith, lt)))

less_test : {X : Type 0} (b : Bool) (e : String Global × X) (es rest : List (String Global × X)) (found : Option X) (x : X) → cond b (Some e.1) found ≡ Some x → (found ≡ Some x → suc (length rest) ≡ length es)
    → suc (length (cond b es (e ∷ rest))) ≡ suc (length es)
less_test true e es rest found x l h = refl
less_test false e es rest found x l h = ap suc (h l)

less_entry : {X : Type 0} (test : String Global → Bool) (es : List (String Global × X)) (x : X) → lookup test es ≡ Some x → suc (length (remove_entry test es)) ≡ length es
less_entry test [] x l = absurd (cc)
less_entry test (e ∷ es) x l = less_test (test e.0) e es (remove_entry test es) (lookup test es) x l (less_entry test es x)

module _ {X : Type 0} (name : List ℕ) (gone : ℕ) (ns : Names) (vs : List X) (at : ℕ) where
  seen_ok : IsStrictlySortedBy string_cmp ns → Ok at ≡ place_of name (named (paired ns)) → value_at name (named (kept gone ns vs)) ≡ at_spot (spot gone at) vs
  seen_ok h is = subst (λ (r : Result ℕ ℕ). IsAt (value_at name (named (kept gone ns vs))) (λ at. spot gone at) vs r) (sym is) (kept_at name gone ns vs h)

  pub seen_err : IsStrictlySortedBy string_cmp ns → Err at ≡ place_of name (named (paired ns)) → value_at name (named (kept gone ns vs)) ≡ None
  seen_err h is = subst (λ (r : Result ℕ ℕ). IsAt (value_at name (named (kept gone ns vs))) (λ at. spot gone at) vs r) (sym is) (kept_at name gone ns vs h)

  pub seen_gone : IsStrictlySortedBy string_cmp ns → Ok at ≡ place_of name (named (paired ns)) → None ≡ spot gone at → value_at name (named (kept gone ns vs)) ≡ None
  seen_gone h is s = seen_ok h is ∙ ap (λ (o : Option ℕ). at_spot o vs) (sym s)

  pub seen_some : IsStrictlySortedBy string_cmp ns → Ok at ≡ place_of name (named (paired ns)) → (i : ℕ) → Some i ≡ spot gone at → slice_get vs i ≡ value_at name (named (kept gone ns vs))
  seen_some h is i s = ap (λ (o : Option ℕ). at_spot o vs) s ∙ sym (seen_ok h is)

  pub seen_past : IsStrictlySortedBy string_cmp ns → Ok at ≡ place_of name (named (paired ns)) → (i : ℕ) → Some i ≡ spot gone at → length vs ≤ i → value_at name (named (kept gone ns vs)) ≡ None
  seen_past h is i s le = sym (seen_some h is i s) ∙ get_past vs i le

  pub seen_here : IsStrictlySortedBy string_cmp ns → Ok at ≡ place_of name (named (paired ns)) → (i : ℕ) → Some i ≡ spot gone at → i < length vs → (v : X) → v ≡ get_or vs i v → Some v ≡ value_at name (named (kept gone ns vs))
  seen_here h is i s lt v e = sym (at_place vs i v lt e) ∙ seen_some h is i s

  stays_none : value_at name (named (kept gone ns vs)) ≡ None → kept gone ns vs ≡ remove_entry (is_at (λ k. slice_cmp nat_cmp name (string_bytes k))) (kept gone ns vs)
  stays_none n = sym (absent_stays (test_of name) (kept gone ns vs) (lookup-named name (kept gone ns vs) ∙ n))

  pub stays_err : IsStrictlySortedBy string_cmp ns → Err at ≡ place_of name (named (paired ns)) → kept gone ns vs ≡ remove_entry (is_at (λ k. slice_cmp nat_cmp name (string_bytes k))) (kept gone ns vs)
  stays_err h is = stays_none (seen_err h is)

  pub stays_gone : IsStrictlySortedBy string_cmp ns → Ok at ≡ place_of name (named (paired ns)) → None ≡ spot gone at → kept gone ns vs ≡ remove_entry (is_at (λ k. slice_cmp nat_cmp name (string_bytes k))) (kept gone ns vs)
  stays_gone h is s = stays_none (seen_gone h is s)

  pub stays_past : IsStrictlySortedBy string_cmp ns → Ok at ≡ place_of name (named (paired ns)) → (i : ℕ) → Some i ≡ spot gone at → length vs ≤ i
      → kept gone ns vs ≡ remove_entry (is_at (λ k. slice_cmp nat_cmp name (string_bytes k))) (kept gone ns vs)
  stays_past h is i s le = stays_none (seen_past h is i s le)

  pub cut_ok : Ok at ≡ place_of name (named (paired ns)) → (i : ℕ) → Some i ≡ spot gone at → i < length vs
      → kept (gone + 2 ^ at) ns (remove vs i) ≡ remove_entry (is_at (λ k. slice_cmp nat_cmp name (string_bytes k))) (kept gone ns vs)
  cut_ok is i s lt = subst (λ (r : Result ℕ ℕ). IsCutAt name gone ns vs r) (sym is) (cut_kept_at name gone ns vs) i (sym s) lt

  pub cut_all : IsStrictlySortedBy string_cmp ns → Ok at ≡ place_of name (named (paired ns)) → (i : ℕ) → Some i ≡ spot gone at → i < length vs → length vs ≡ length (kept gone ns vs)
      → length (remove vs i) ≡ length (kept (gone + 2 ^ at) ns (remove vs i))
  cut_all h is i s lt all =
      let x = some_in vs i lt in
      let there : lookup (test_of name) (kept gone ns vs) ≡ Some x.0 = lookup-named name (kept gone ns vs) ∙ (sym (seen_some h is i s) ∙ x.1) in
      let less : suc (length (remove_entry (test_of name) (kept gone ns vs))) ≡ length (kept gone ns vs) = less_entry (test_of name) (kept gone ns vs) x.0 there in
      let cut : length (kept (gone + 2 ^ at) ns (remove vs i)) ≡ length (remove_entry (test_of name) (kept gone ns vs)) = ap length (cut_ok is i s lt) in
      omega (arith, less, cut, all, less_one vs i lt)

pub put_ok : {X : Type 0} (gone : ℕ) (ns : Names) (vs : List X) (k : String Global) (v : X) (at : ℕ) → Ok at ≡ place_of (string_bytes k) (named (paired ns)) → (i : ℕ) → Some i ≡ spot gone at → i < length vs
    → kept gone ns (slice_set vs i v) ≡ insert_entry string_cmp (kept gone ns vs) k v
put_ok {X} gone ns vs k v at is i s lt = sym (subst (λ (r : Result ℕ ℕ). IsPutAt gone ns vs k v r) (sym is) (put_kept_at gone ns vs k v) i (sym s) lt)

below_as : {X : Type 0} (n m : String Global) (ns : Names) (es : List (String Global × X)) → string_bytes n ≡ string_bytes m → spelled ns ≡ keys_of (named es) → AllByRecursion (λ y. string_cmp m y ≡ Less) (keys_of es)
    → AllByRecursion (λ y. string_cmp n y ≡ Less) ns
below_as n m [] es f e h = tt
below_as n m (k ∷ ns) [] f e h = absurd (let j : List ℕ = string_bytes k in cc)
below_as n m (k ∷ ns) (x ∷ es) f e h =
    let first : string_bytes k ≡ string_bytes x.0 = cc in
    let rest : spelled ns ≡ keys_of (named es) = cc in
    (rw (f, first) h.0, below_as n m ns es f rest h.1)

-- ---- names of their own and names that are kept
pub ordered_as : {X : Type 0} (ns : Names) (es : List (String Global × X)) → spelled ns ≡ keys_of (named es) → IsStrictlySortedBy string_cmp (keys_of es) → IsStrictlySortedBy string_cmp ns
unfolding IsStrictlySortedBy
ordered_as [] es e h = tt
ordered_as (n ∷ ns) [] e h = absurd (let k : List ℕ = string_bytes n in cc)
ordered_as (n ∷ ns) (m ∷ es) e h =
    let first : string_bytes n ≡ string_bytes m.0 = cc in
    let rest : spelled ns ≡ keys_of (named es) = cc in
    (below_as n m.0 ns es first rest h.0, ordered_as ns es rest h.1)

pub length-spelled : (ns : Names) → length (spelled ns) ≡ length ns
length-spelled [] = refl
length-spelled (n ∷ ns) = ap suc (length-spelled ns)

pub length-keys : {K X : Type 0} (es : List (K × X)) → length (keys_of es) ≡ length es
length-keys [] = refl
length-keys (e ∷ es) = ap suc (length-keys es)

pub spelled-named : {X : Type 0} (es : List (String Global × X)) → spelled (keys_of es) ≡ keys_of (named es)
spelled-named [] = refl
spelled-named (e ∷ es) = ap (λ (ks : List (List ℕ)). string_bytes e.0 ∷ ks) (spelled-named es)

-- the values of entries, under names that are spelled as theirs
pub named_kept : {X : Type 0} (ns : Names) (es : List (String Global × X)) → spelled (keys_of es) ≡ spelled ns → named (kept 0 ns (values_of es)) ≡ named es
named_kept [] [] e = refl
named_kept [] (m ∷ es) e = absurd (let k : List ℕ = string_bytes m.0 in cc)
named_kept (n ∷ ns) [] e = absurd (let k : List ℕ = string_bytes n in cc)
named_kept {X} (n ∷ ns) (m ∷ es) e =
    let first : string_bytes m.0 ≡ string_bytes n = cc in
    let rest : spelled (keys_of es) ≡ spelled ns = cc in
    λ i. (sym first i, m.1) ∷ named_kept ns es rest i

pub length_taken : {X : Type 0} (ns : Names) (vs : List X) → length (take (length ns) vs) ≡ length (kept 0 ns (take (length ns) vs))
length_taken [] vs = refl
length_taken (n ∷ ns) [] = refl
length_taken (n ∷ ns) (v ∷ vs) = ap suc (length_taken ns vs)

pub length_named_kept : {X : Type 0} (ns : Names) (es : List (String Global × X)) → spelled (keys_of es) ≡ spelled ns → length (values_of es) ≡ length (kept 0 ns (values_of es))
length_named_kept [] [] e = refl
length_named_kept [] (m ∷ es) e = absurd (let k : List ℕ = string_bytes m.0 in cc)
length_named_kept (n ∷ ns) [] e = absurd (let k : List ℕ = string_bytes n in cc)
length_named_kept (n ∷ ns) (m ∷ es) e = let rest : spelled (keys_of es) ≡ spelled ns = cc in ap suc (length_named_kept ns es rest)

pub zip_kept : {X : Type 0} (ns : Names) (vs : List X) → named (kept 0 ns (take (length ns) vs)) ≡ zip (spelled ns) vs
zip_kept [] vs = refl
zip_kept (n ∷ ns) [] = refl
zip_kept {X} (n ∷ ns) (v ∷ vs) = ap (λ (ms : List (List ℕ × X)). (string_bytes n, v) ∷ ms) (zip_kept ns vs)

spelled-append : (ns ms : Names) → spelled (ns ++ ms) ≡ spelled ns ++ spelled ms
spelled-append [] ms = refl
spelled-append (n ∷ ns) ms = ap (λ (ks : List (List ℕ)). string_bytes n ∷ ks) (spelled-append ns ms)

keys-append : {X : Type 0} (es fs : List (String Global × X)) → keys_of (named (es ++ fs)) ≡ keys_of (named es) ++ keys_of (named fs)
keys-append [] fs = refl
keys-append (e ∷ es) fs = ap (λ (ks : List (List ℕ)). string_bytes e.0 ∷ ks) (keys-append es fs)

-- a copy of the next name
pub spelled_next : {X : Type 0} (ns : Names) (n : String Global) (es : List (String Global × X)) (e : String Global × X) → spelled ns ≡ keys_of (named es) → string_bytes n ≡ string_bytes e.0
    → spelled (ns ++ n ∷ []) ≡ keys_of (named (es ++ e ∷ []))
spelled_next ns n es e h f = spelled-append ns (n ∷ []) ∙ (λ i. h i ++ f i ∷ []) ∙ sym (keys-append es (e ∷ []))

pub nothing_left : {A : Type 0} (done left : List A) → left ≡ [] → done ++ left ≡ done
nothing_left [] left e = e
nothing_left {A} (x ∷ done) left e = ap (λ (xs : List A). x ∷ xs) (nothing_left done left e)

-- ---- the next that has a value
none_bit_left : {K X : Type 0} (b : Bool) (es : List (K × X)) → es ≡ [] → cond b es [] ≡ []
none_bit_left true es e = e
none_bit_left false es e = refl

pub none_kept_left : {K X : Type 0} (gone : ℕ) (ns : List K) (vs : List X) → vs ≡ [] → kept gone ns vs ≡ []
none_kept_left gone [] vs e = refl
none_kept_left gone (n ∷ ns) [] e = none_bit_left (gone % 2 == 1) (kept (gone / 2) ns []) (none_kept_left (gone / 2) ns [] e)
none_kept_left gone (n ∷ ns) (v ∷ vs) e = absurd (cc)

pub skip_gone : {K X : Type 0} (gone : ℕ) (n : K) (ns : List K) (vs : List X) → gone % 2 ≡ 1 → kept gone (n ∷ ns) vs ≡ kept (gone / 2) ns vs
skip_gone gone n ns vs h = let odd : (gone % 2 == 1) ≡ true = rw h refl in rw odd refl

pub next_here : {K X : Type 0} (gone : ℕ) (n : K) (ns : List K) (v : X) (vs : List X) → gone % 2 ≢ 1 → kept gone (n ∷ ns) (v ∷ vs) ≡ (n, v) ∷ kept (gone / 2) ns vs
next_here gone n ns v vs h = let even : (gone % 2 == 1) ≡ false = grind (arith, nat_tests) in rw even refl
