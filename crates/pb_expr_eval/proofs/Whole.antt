-- What a value gives that is a text with these parts.
use Rattle.std.proofs.Common.{◌≡◌, List, Some, None, ap}
use Rattle.pb_value.specs.Datum.{Datum, null, boolean, int, text, list, dict}
use Rattle.pb_value.specs.Reading.{and_then}
use Rattle.pb_layers.specs.Scope.{Map}
use Rattle.pb_operators.specs.Values.{finished}
use Rattle.pb_template.specs.declared.template.Part.{Part}
use Rattle.pb_prepared.specs.Parts.{parts_of}
use Rattle.pb_expr_eval.specs.Rendering.{templated}
use Rattle.pb_expr_eval.specs.Scoped.{names_in, max_look_ups, render_of, rendered_of}

pub of_parts : (scope : List Map) (d : Datum) (parts : List Part) → parts_of d ≡ Some parts → rendered_of scope d ≡ and_then (render_of scope parts) finished
unfolding render_of rendered_of
of_parts scope null parts e = cc
of_parts scope (boolean b) parts e = cc
of_parts scope (int z) parts e = cc
of_parts scope (text s) parts e = ap (λ o. and_then (templated (names_in scope max_look_ups) o) finished) e
of_parts scope (list ds) parts e = cc
of_parts scope (dict ms) parts e = cc
