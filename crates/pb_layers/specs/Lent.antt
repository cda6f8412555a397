-- What lent values stand for.
use Rattle.std.specs.Prelude.{ℕ, List, map}
use Rattle.std.specs.Borrow.{Bor}
use Rattle.pb_value.specs.Datum.{Datum}
use Rattle.pb_layers.specs.Scope.{Map}

-- what stands behind references, under its names
abbrev pub lent_map : List (Bor (List ℕ) × Bor Datum) → Map
lent_map = map (λ e. (e.0.now, e.1.now))
