-- Conditions: what has to hold, for a task to run, to have changed something or to have failed.
-- See Ansible's documentation, "Conditionals".
use Rattle.std.specs.Prelude.{ℕ, List, [], ◌∷◌, Ok, Option, Some, None}
use Rattle.serde_json.specs.Data as json
use Rattle.pb_value.specs.Reading.{map_ok}
use Rattle.pb_expr_syntax.specs.Computed.{tree_of}
use Rattle.pb_expr_syntax.specs.Tree.{Tree, Truth}
use Rattle.pb_reading.specs.Reading.{Reading, wrong, each}
use Rattle.pb_written.specs.Faults.{no_expression}
use Rattle.pb_written.specs.declared.fault.LoadFault.{LoadFault}

-- the tree that a text spells, if it spells one
abbrev pub spelt : List ℕ → Option Tree → Reading Tree LoadFault
spelt path (Some t) = Ok t
spelt path None = no_expression path

-- a text that is an expression, as a whole and without braces
abbrev pub expression_in : List ℕ → List ℕ → Reading Tree LoadFault
expression_in path s = spelt path (tree_of s)

-- one condition: an expression, or what is true or false as it stands, which is the expression `true` or `false`
abbrev pub condition : List ℕ → json.Data → Reading Tree LoadFault
condition path (json.boolean b) = Ok (Truth b)
condition path (json.string s) = expression_in path s
condition path d = wrong path

-- one condition, or a list of them
unfoldable pub conditions : List ℕ → json.Data → Reading (List Tree) LoadFault
conditions path (json.array ds) = each condition path 0 ds
conditions path d = map_ok (λ t. t ∷ []) (condition path d)
