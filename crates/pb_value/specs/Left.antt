-- The entries that are left to go over, of a row, of a tree or of values whose names are kept for many.
use Rattle.std.specs.Prelude.{List}
use Rattle.std.specs.Slice.Iter.{iter_rest}
use Rattle.pb_value.specs.Names.{kept}
use Rattle.pb_value.specs.declared.entries.Left.{Left}
use Rattle.pb_value.specs.declared.entries.Left.TheVariants.{Few, Many, Named}
use Rattle.pb_value.specs.declared.entries.Shared.{Shared}

-- of names that are kept for many, those that are left and have a value, with it
abbrev pub shared_left : {K X : Type 0} → Shared K X → List (K × X)
shared_left s = kept s.gone (iter_rest s.names) (iter_rest s.values)

abbrev pub entries_left : {K X : Type 0} → Left K X → List (K × X)
entries_left (Few row) = iter_rest row
entries_left (Many tree) = tree
entries_left (Named s) = shared_left s
