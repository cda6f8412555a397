-- A host that has a next place is in the batch.
use Rattle.std.proofs.Common.{◌≡◌, ℕ, Bool, true, false, ◌&&◌, not, refl}
use Rattle.std.specs.Prelude.{◌==◌, Option, None, is_some, if◌then◌else◌}
use Rattle.std.specs.Option.{option_map_or}
use Rattle.pb_tree.specs.Walk.{reach}
use Rattle.pb_host.specs.Host.{HostOf, is_active, is_at, place_of}
use Rattle.pb_host.specs.Turned.{may_be_halted}

at_if : (b : Bool) (next : Option ℕ) (p : ℕ) → option_map_or (λ q. q == p) (if b then next else None) false ≡ true → b ≡ true
at_if true next p e = refl
at_if false next p e = cc

pub at_inside : (p : ℕ) (row : HostOf) → is_at p row ≡ true → row.in_batch ≡ true
at_inside p row e = at_if row.in_batch (place_of (reach row.tree row.answers)) p e

some_if : (may b : Bool) (next : Option ℕ) → (may && is_some (if b then next else None)) ≡ true → b ≡ true
some_if may true next e = refl
some_if true false next e = cc
some_if false false next e = cc

pub halted_inside : (row : HostOf) → may_be_halted row ≡ true → row.in_batch ≡ true
halted_inside row e = some_if (is_active row.status && not row.is_broken) row.in_batch (place_of (reach row.tree row.answers)) e
