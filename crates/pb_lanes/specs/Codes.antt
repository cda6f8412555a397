-- The statuses of hosts as bytes.
use Rattle.std.specs.Prelude.{ℕ, zero, suc, ◌<◌, ◌^◌, Bool, true, false, List, length}
use Rattle.std.specs.List.{All}
use Rattle.pb_tree.specs.declared.tree.Status.{Status}
use Rattle.pb_tree.specs.declared.tree.Status.TheVariants as stays

-- the byte of a status
abbrev pub code_of : Status → ℕ
code_of stays.Active = 0
code_of stays.Failed = 1
code_of stays.Halted = 2
code_of stays.Gone = 3

-- the status of a byte; each above 2 is read as gone, though only 3 is ever written
abbrev pub status_of : ℕ → Status
status_of zero = stays.Active
status_of (suc zero) = stays.Failed
status_of (suc (suc zero)) = stays.Halted
status_of (suc (suc (suc code))) = stays.Gone

-- whether a status is this one
abbrev pub is_status : Status → Status → Bool
is_status stays.Active stays.Active = true
is_status stays.Failed stays.Failed = true
is_status stays.Halted stays.Halted = true
is_status stays.Gone stays.Gone = true
is_status status other = false

-- bytes that are codes, one for each host of fewer than 2^32
abbrev pub AreCodes : List ℕ → Type 0
AreCodes codes = (length codes < 2 ^ 32) × All (λ code. code < 4) codes
