-- What a host has from its groups, whether hosts share it or it is lent.
use Rattle.pb_variables.specs.declared.host_groups.Held.{Held}
use Rattle.pb_variables.specs.declared.host_groups.Held.TheVariants.{Shared, Lent}
use Rattle.pb_variables.specs.declared.shared.OfGroups.{OfGroups}

abbrev pub of_held : Held → OfGroups
of_held (Shared of) = of
of_held (Lent variables names) = record { variables = variables; names = names }
