-- What a writer took, and how often it failed.
use Rattle.std.specs.Prelude.{ℕ, ◌+◌, ◌%◌, ◌^◌, Bool, true, ◌&&◌, not, List, ◌++◌, nat_eq, length, Option, Some, None, Result, Ok, Err, if◌then◌else◌}

-- behind the bytes that were taken, where they are known
abbrev pub with_more : Option (List ℕ) → List ℕ → Option (List ℕ)
with_more None bytes = None
with_more (Some taken) bytes = Some (taken ++ bytes)

-- a call fails where it answers an error, or takes nothing of some bytes
abbrev pub is_failed : {F : Type 0} → List ℕ → Result ℕ F → Bool
is_failed bytes (Err e) = true
is_failed bytes (Ok n) = nat_eq n 0 && not (nat_eq (length bytes) 0)

-- failed calls are counted modulo 2 ^ 64
abbrev pub one_more : ℕ → ℕ
one_more failures = (failures + 1) % 2 ^ 64

-- how often calls failed, with one call more that failed or not
abbrev pub counted : Bool → ℕ → ℕ
counted failed failures = if failed then one_more failures else failures
