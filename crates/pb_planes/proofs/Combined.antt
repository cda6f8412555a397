-- Eight words combined by lanes, and a list that is combined up to a place.
use Rattle.std.proofs.Common.{◌≡◌, ◌<◌, ◌≤◌, ◌+◌, ◌-◌, ℕ, List, [], ◌∷◌, length, slice_index, slice_index_or, slice_set, bit_and, bit_xor, arith, rules, refl, inl, inr}
use Rattle.std.specs.Simd.Lanes.{zip2, chunk, put_chunk}
use Rattle.std.proofs.lemmas.Simd.{get_or-put_chunk_at, get_or-zip2, get_or-chunk, length-zip2, length-chunk}
use Rattle.pb_planes.specs.declared.words.Combine.{Combine}
use Rattle.pb_planes.specs.declared.words.Combine.TheVariants.{Without}
use Rattle.pb_planes.specs.Words.{combined}

-- below the place each word is the combined one, and from it on the old one
abbrev pub IsCombinedTo : Combine → List ℕ → List ℕ → List ℕ → ℕ → Type 0
IsCombinedTo how to old from at =
    (length to ≡ length old)
    × ((k : ℕ) → k < at → slice_index to k ≡ combined how (slice_index old k) (slice_index from k))
    × ((k : ℕ) → at ≤ k → slice_index to k ≡ slice_index old k)

-- the eight words from at on, as the lanes of two loads
abbrev pub lanes : Combine → List ℕ → List ℕ → ℕ → List ℕ
lanes how to from at = zip2 (combined how) (chunk at 8 to) (chunk at 8 from)

pub length-lanes : (how : Combine) (to from : List ℕ) (at : ℕ) → length to ≡ length from → at + 8 ≤ length to → length (lanes how to from at) ≡ 8
length-lanes how to from at same room =
    let a = length-chunk at 8 to room in
    let b = length-chunk at 8 from (omega arith) in
    let z = length-zip2 (combined how) (chunk at 8 to) (chunk at 8 from) (omega arith) in
    omega arith

pub inside : (how : Combine) (to from : List ℕ) (at k : ℕ) → length to ≡ length from → at + 8 ≤ length to → at ≤ k → k < at + 8 → slice_index (put_chunk at to (lanes how to from at)) k ≡ combined how (slice_index to k) (slice_index from k)
inside how to from at k same room low high =
    let a = length-chunk at 8 to room in
    let b = length-chunk at 8 from (omega arith) in
    let n = length-lanes how to from at same room in
    let j = k - at in
    let back : at + j ≡ k = omega arith in
    let here = get_or-put_chunk_at at to (lanes how to from at) j 0 (omega arith) (omega arith) in
    let both = get_or-zip2 (combined how) (chunk at 8 to) (chunk at 8 from) j 0 0 0 (omega arith) (omega arith) in
    let left = get_or-chunk at 8 to j 0 (omega arith) in
    let right = get_or-chunk at 8 from j 0 (omega arith) in
    rw (← back, here, both, left, right) refl

-- what is in both is taken out of the first
pub without : (mine its : List ℕ) → zip2 bit_xor mine (zip2 bit_and mine its) ≡ zip2 (combined Without) mine its
without [] its = refl
without (x ∷ xs) [] = refl
without (x ∷ xs) (y ∷ ys) = rw (without xs ys) refl
