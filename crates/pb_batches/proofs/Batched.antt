-- Laws of the sizes of batches: each takes a host at least, so that there are never more batches than hosts.
use Rattle.std.proofs.Common.{◌≡◌, ◌≤◌, ◌+◌, ◌-◌, ℕ, zero, suc, pos, negsuc, List, [], ◌∷◌, arith, ◌++◌, ◌<◌, ◌∙◌, append_assoc, append-nil, refl, ap, sym, subst}
use Rattle.std.specs.List.{All, sum}
use Rattle.std.proofs.lemmas.List.Elements.{All-nil, All-cons}
use Rattle.std.proofs.lemmas.List.Sums.{sum_by-cons}
use Rattle.pb_batches.specs.declared.serial.Entry.{Entry}
use Rattle.pb_batches.specs.declared.serial.Entry.TheVariants.{Number, Percent}
use Rattle.pb_batches.specs.Sizes.{asked, first_size, entries_behind, sizes_from}

asked_some : (n left : ℕ) (entry : Entry) → 1 ≤ left → 1 ≤ asked n left entry
asked_some n left (Number (pos zero)) h = h
asked_some n left (Number (pos (suc k))) h = omega arith
asked_some n left (Number (negsuc k)) h = h
asked_some n left (Percent q) h = omega arith

pub first_some : (n left : ℕ) (entries : List Entry) → 1 ≤ left → 1 ≤ first_size n left entries
first_some n left [] h = h
first_some n left (entry ∷ entries) h = let a = asked_some n left entry h in omega arith

pub first_within : (n left : ℕ) (entries : List Entry) → first_size n left entries ≤ left
first_within n left [] = omega arith
first_within n left (entry ∷ entries) = omega arith

-- how many batches there may be at most changes nothing, as long as it is no less than the hosts that are left
pub most_enough : (a b n left : ℕ) (entries : List Entry) → left ≤ a → left ≤ b → sizes_from a n left entries ≡ sizes_from b n left entries
most_enough zero zero n left entries la lb = refl
most_enough zero (suc b) n zero entries la lb = refl
most_enough zero (suc b) n (suc left) entries la lb = absurd (omega arith)
most_enough (suc a) zero n zero entries la lb = refl
most_enough (suc a) zero n (suc left) entries la lb = absurd (omega arith)
most_enough (suc a) (suc b) n zero entries la lb = refl
most_enough (suc a) (suc b) n (suc left) entries la lb =
    let some = first_some n (suc left) entries (omega arith) in
    ap (λ sizes. first_size n (suc left) entries ∷ sizes)
    (most_enough a b n (suc left - first_size n (suc left) entries) (entries_behind entries) (omega arith) (omega arith))

-- the sizes from here on are the next one and those behind it
pub next_size : (n left : ℕ) (entries : List Entry) → 1 ≤ left →
    sizes_from left n left entries ≡ first_size n left entries ∷ sizes_from (left - first_size n left entries) n (left - first_size n left entries) (entries_behind entries)
next_size n zero entries h = absurd (omega arith)
next_size n (suc left) entries h =
    let some = first_some n (suc left) entries h in
    let rest = suc left - first_size n (suc left) entries in
    ap (λ sizes. first_size n (suc left) entries ∷ sizes) (most_enough left rest n rest (entries_behind entries) (omega arith) (omega arith))

pub add_up : (most n left : ℕ) (entries : List Entry) → left ≤ most → sum (sizes_from most n left entries) ≡ left
add_up zero n left entries h = omega arith
add_up (suc most) n zero entries h = refl
add_up (suc most) n (suc left) entries h =
    let some = first_some n (suc left) entries (omega arith) in
    let within = first_within n (suc left) entries in
    let next = first_size n (suc left) entries in
    let behind = sizes_from most n (suc left - next) (entries_behind entries) in
    let rest : sum behind ≡ suc left - next = add_up most n (suc left - next) (entries_behind entries) (omega arith) in
    let parts : sum (next ∷ behind) ≡ next + sum behind = sum_by-cons (λ x. x) next behind in
    let whole : next + sum behind ≡ suc left = omega (arith, rest, within) in
    parts ∙ whole

pub all_filled : (most n left : ℕ) (entries : List Entry) → All (λ size. 1 ≤ size) (sizes_from most n left entries)
all_filled zero n left entries = All-nil (λ size. 1 ≤ size)
all_filled (suc most) n zero entries = All-nil (λ size. 1 ≤ size)
all_filled (suc most) n (suc left) entries =
    let next = first_size n (suc left) entries in
    let rest = sizes_from most n (suc left - next) (entries_behind entries) in
    let some = first_some n (suc left) entries (omega arith) in
    All-cons (λ size. 1 ≤ size) next rest some (all_filled most n (suc left - next) (entries_behind entries))

-- what the law says of the sizes of all batches
pub all_add_up : (n : ℕ) (entries : List Entry) (sizes : List ℕ) → sizes ≡ sizes_from n n n entries → sum sizes ≡ n
all_add_up n entries sizes e = rw e (add_up n n n entries (omega arith))

pub none_empty : (n : ℕ) (entries : List Entry) (sizes : List ℕ) → sizes ≡ sizes_from n n n entries → All (λ size. 1 ≤ size) sizes
none_empty n entries sizes e = let P : List ℕ → Type 0 = λ xs. All (λ size. 1 ≤ size) xs in subst P (sym e) (all_filled n n n entries)

-- the sizes so far and those to come are all of them, with one batch more
pub one_more : (n left size : ℕ) (whole sizes more : List ℕ) (entries behind : List Entry) → 0 < left →
    whole ≡ sizes ++ sizes_from left n left entries → size ≡ first_size n left entries → more ≡ sizes ++ size ∷ [] → behind ≡ entries_behind entries →
    whole ≡ more ++ sizes_from (left - size) n (left - size) behind
one_more n left size whole sizes more entries behind h w s m b =
    let next = first_size n left entries in
    let rest = sizes_from (left - next) n (left - next) (entries_behind entries) in
    let split : whole ≡ sizes ++ (next ∷ rest) = w ∙ ap (λ xs. sizes ++ xs) (next_size n left entries (omega arith)) in
    rw (m, s, b) (split ∙ sym (append_assoc sizes (next ∷ []) rest))

pub none_left : (n left : ℕ) (whole sizes : List ℕ) (entries : List Entry) → left ≤ 0 → whole ≡ sizes ++ sizes_from left n left entries → sizes ≡ whole
none_left n zero whole sizes entries h e = sym (e ∙ append-nil sizes)
none_left n (suc left) whole sizes entries h e = absurd (omega arith)
