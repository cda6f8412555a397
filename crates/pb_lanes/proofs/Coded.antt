-- Statuses and their bytes.
use Rattle.std.proofs.Common.{◌≡◌, ◌<◌, ◌∙◌, ℕ, zero, suc, List, [], ◌∷◌, cond, map, count_by, replicate, slice_set, arith, refl, sym}
use Rattle.std.specs.List.{All}
use Rattle.std.proofs.lemmas.List.{map-set}
use Rattle.std.proofs.lemmas.List.Sums.{sum_by-cons}
use Rattle.pb_tree.specs.declared.tree.Status.{Status}
use Rattle.pb_tree.specs.declared.tree.Status.TheVariants as stays
use Rattle.pb_lanes.specs.Bytes.{is_byte}
use Rattle.pb_lanes.specs.Codes.{code_of, status_of, is_status}

-- the byte of a status is read as that status
pub back : (status : Status) → status_of (code_of status) ≡ status
back stays.Active = refl
back stays.Failed = refl
back stays.Halted = refl
back stays.Gone = refl

-- comparing bytes is comparing statuses
pub same : (status : Status) (code : ℕ) → code < 4 → is_byte (code_of status) code ≡ is_status status (status_of code)
same stays.Active zero lt = refl
same stays.Active (suc zero) lt = refl
same stays.Active (suc (suc zero)) lt = refl
same stays.Active (suc (suc (suc zero))) lt = refl
same stays.Failed zero lt = refl
same stays.Failed (suc zero) lt = refl
same stays.Failed (suc (suc zero)) lt = refl
same stays.Failed (suc (suc (suc zero))) lt = refl
same stays.Halted zero lt = refl
same stays.Halted (suc zero) lt = refl
same stays.Halted (suc (suc zero)) lt = refl
same stays.Halted (suc (suc (suc zero))) lt = refl
same stays.Gone zero lt = refl
same stays.Gone (suc zero) lt = refl
same stays.Gone (suc (suc zero)) lt = refl
same stays.Gone (suc (suc (suc zero))) lt = refl
same status (suc (suc (suc (suc code)))) lt = absurd (omega arith)

pub all_same : (status : Status) (codes : List ℕ) → All (λ code. code < 4) codes → map (is_byte (code_of status)) codes ≡ map (is_status status) (map status_of codes)
all_same status [] each = refl
all_same status (code ∷ codes) each = rw (same status code (each zero 0 (omega arith)), all_same status codes (λ k d lt. each (suc k) d (omega (arith, lt)))) refl

pub count_same : (status : Status) (codes : List ℕ) → All (λ code. code < 4) codes → count_by (is_byte (code_of status)) codes ≡ count_by (is_status status) (map status_of codes)
count_same status [] each = refl
count_same status (code ∷ codes) each =
    let first = sum_by-cons (λ b. cond (is_byte (code_of status) b) 1 0) code codes in
    let last = sum_by-cons (λ s. cond (is_status status s) 1 0) (status_of code) (map status_of codes) in
    let here = same status code (each zero 0 (omega arith)) in
    let rest = count_same status codes (λ k d lt. each (suc k) d (omega (arith, lt))) in
    first ∙ rw (here, rest) (sym last)

pub all_of : (hosts : ℕ) (status : Status) → map status_of (replicate hosts (code_of status)) ≡ replicate hosts status
all_of zero status = refl
all_of (suc hosts) status = rw (back status, all_of hosts status) refl

pub put_is : (codes : List ℕ) (host : ℕ) (status : Status) → map status_of (slice_set codes host (code_of status)) ≡ slice_set (map status_of codes) host status
put_is codes host status = map-set status_of codes host (code_of status) ∙ rw (back status) refl
