-- Conditions: when a list of them holds (Ansible's documentation, "Conditionals").
use Rattle.std.specs.Prelude.{Bool, true, false, List, [], ◌∷◌, Result, Ok, if◌then◌else◌}
use Rattle.pb_value.specs.Reading.{and_then, map_ok}
use Rattle.pb_value.specs.Truth.{truthy}
use Rattle.pb_layers.specs.Scope.{Map}
use Rattle.pb_expr_syntax.specs.Tree.{Tree}
use Rattle.pb_expr_eval.specs.Scoped.{eval_of}
use Rattle.pb_operators.specs.declared.fault.EvalFault.{EvalFault}

-- whether the value of an expression counts as true
abbrev pub is_true : List Map → Tree → Result Bool EvalFault
is_true scope condition = map_ok truthy (eval_of scope condition)

-- each holds: they are read in order, up to the first that doesn't
abbrev pub holds : List Map → List Tree → Result Bool EvalFault
holds scope [] = Ok true
holds scope (c ∷ cs) = and_then (is_true scope c) (λ b. if b then holds scope cs else Ok false)
