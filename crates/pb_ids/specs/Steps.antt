-- The steps of a place, in whichever way they stand.
use Rattle.std.specs.Prelude.{ℕ, List}
use Rattle.pb_ids.specs.declared.steps.Steps.{Steps}
use Rattle.pb_ids.specs.declared.steps.Steps.TheVariants.{Short, Long}

abbrev pub steps_of : Steps → List ℕ
steps_of (Short few) = few
steps_of (Long many) = many.items
