-- The variables of a host's groups, whether they are kept or lent.
use Rattle.pb_layers.specs.Scope.{Map}
use Rattle.pb_layers.specs.declared.lent.Merged.{Merged}
use Rattle.pb_layers.specs.declared.lent.Merged.TheVariants.{Kept, Lent}

abbrev pub merged : Merged → Map
merged (Kept variables) = variables.now
merged (Lent variables) = variables.now
