-- The numbers of the places that are hosts' next ones, bit by bit.
use Rattle.std.specs.Prelude.{◌≡◌, ◌<◌, ◌/◌, ◌%◌, ◌==◌, ◌&&◌, ℕ, zero, suc, Bool, true, false, not, List, [], map, length, slice_index_or}
use Rattle.std.specs.Option.{option_map_or}
use Rattle.pb_strategies.specs.declared.standings.Standing.{Standing}
use Rattle.pb_strategies.specs.Hosts.{nowhere}

-- what is left of a number behind its lowest bits
abbrev pub behind_bits : ℕ → ℕ → ℕ
behind_bits zero n = n
behind_bits (suc k) n = behind_bits k n / 2

-- whether a bit of a number is set, counted from the lowest
abbrev pub has_bit : ℕ → ℕ → Bool
has_bit k n = behind_bits k n % 2 == 1

-- whether a bit is as it is asked for
abbrev pub agrees : Bool → Bool → Bool
agrees true bit = bit
agrees false bit = not bit

-- whether so many bits of two numbers are the same
abbrev pub same_bits : ℕ → ℕ → ℕ → Bool
same_bits zero m n = true
same_bits (suc k) m n = same_bits k m n && agrees (has_bit k n) (has_bit k m)

-- the number of a host's next place
abbrev pub number_of : Standing → ℕ
number_of host = option_map_or (λ (p : ℕ). p) host.next 0

-- whether bit k is set in the number of a host's next place; a host without one counts as at place 0
abbrev pub numbered : ℕ → Standing → Bool
numbered k host = has_bit k (number_of host)

-- of each bit the hosts whose next place has it
abbrev pub AreBits : List Standing → List (List Bool) → Type 0
AreBits hosts bits = (k : ℕ) → k < length bits → slice_index_or bits k [] ≡ map (numbered k) hosts

-- no host's next place has a further bit
abbrev pub HaveNoMore : ℕ → List Standing → Type 0
HaveNoMore k hosts = (h : ℕ) → behind_bits k (number_of (slice_index_or hosts h nowhere)) ≡ 0

-- the sets are those of the bits; where these are said to fit, no next place has a further one
pub record AreNumbered (hosts : List Standing) (bits : List (List Bool)) (fits : Bool) : Type 0 where
  pub are_bits : AreBits hosts bits
  pub no_more : fits ≡ true → HaveNoMore (length bits) hosts

-- a host that the set of each bit has room for
abbrev pub HaveRoom : ℕ → List (List Bool) → Type 0
HaveRoom host bits = (k : ℕ) → k < length bits → host < length (slice_index_or bits k [])
