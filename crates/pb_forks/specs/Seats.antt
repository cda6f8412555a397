-- What clauses say of a pool and of its seats.
use Rattle.std.specs.Prelude.{◌≡◌, ℕ, List, [], ◌∷◌, map, slice_index, IsPermutation}
use Rattle.pb_forks.specs.declared.views.MainView.{MainView}
use Rattle.pb_forks.specs.declared.views.ForkView.{ForkView}
use Rattle.pb_forks.specs.declared.seats.Pool.{Pool}
use Rattle.pb_forks.specs.declared.seats.MainSeat.{MainSeat}
use Rattle.pb_forks.specs.declared.seats.ForkSeat.{ForkSeat}
use Rattle.pb_forks.specs.Views.{main_of, fork_of, main_joined, fresh, upto}

-- what the seats know
abbrev pub main_view : MainSeat → MainView
main_view s = main_of s.seat.me.0

abbrev pub fork_view : ForkSeat → ForkView
fork_view s = fork_of s.seat.me.0

-- the number of the seat's fork
abbrev pub number : ForkSeat → ℕ
number s = s.fork

-- the last word that the seat saw of fork j
abbrev pub last_seen : MainView → ℕ → ℕ
last_seen m j = slice_index m.seen j

module _ {A : Type 0} where
  -- how many forks the pool has
  abbrev pub forks_of : Pool A → ℕ
  forks_of pool = pool.forks

  -- the seat is one of this pool
  abbrev pub IsMainOf : Pool A → MainSeat → Type 0
  IsMainOf pool s = s.seat.table_id ≡ pool.table.shared.table_id

  abbrev pub IsForkOf : Pool A → ForkSeat → Type 0
  IsForkOf pool s = s.seat.table_id ≡ pool.table.shared.table_id

  -- it is one of this pool, and has done nothing
  abbrev pub IsFreshOf : Pool A → ForkSeat → Type 0
  IsFreshOf pool s = IsForkOf pool s × (fork_view s ≡ fresh)

-- seats of k forks: each fork's once, in any order
abbrev pub IsEachOnce : ℕ → List ForkSeat → Type 0
IsEachOnce k seats = IsPermutation (upto k) (map number seats)

-- it is a seat of the same pool
abbrev pub IsSameMain : MainSeat → MainSeat → Type 0
IsSameMain old new = new.seat.table_id ≡ old.seat.table_id

-- the same, and it is of the same fork
abbrev pub IsSameFork : ForkSeat → ForkSeat → Type 0
IsSameFork old new = (new.seat.table_id ≡ old.seat.table_id) × (new.fork ≡ old.fork)

-- the main view once these seats are joined
abbrev pub rejoin : List ForkSeat → MainView → MainView
rejoin [] m = m
rejoin (s ∷ ss) m = rejoin ss (main_joined s.fork (fork_of s.seat.me.0) m)
