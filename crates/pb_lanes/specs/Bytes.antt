-- Lists of bytes.
use Rattle.std.specs.Prelude.{ℕ, nat_eq, Bool}

-- whether a byte is this one
abbrev pub is_byte : ℕ → ℕ → Bool
is_byte byte other = nat_eq other byte
