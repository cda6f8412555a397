-- The facts that an item of `set_fact` sets, in the scope that its host has when the task starts.
-- See Ansible's documentation of `ansible.builtin.set_fact`.
use Rattle.std.specs.Prelude.{ℕ, List, [], ◌∷◌, Result, Ok, zip}
use Rattle.pb_value.specs.Datum.{Datum}
use Rattle.pb_value.specs.Reading.{and_then, map_ok}
use Rattle.pb_layers.specs.Scope.{Map}
use Rattle.pb_expr_eval.specs.Scoped.{rendered_of}
use Rattle.pb_items.specs.declared.fault.ItemFault.{ItemFault}
use Rattle.pb_items.specs.Faults.{evaluated}

-- each is rendered, and read whole before the next in the order of names
abbrev pub facts_of : List Map → Map → Result Map ItemFault
facts_of scope [] = Ok []
facts_of scope (m ∷ ms) = and_then (evaluated (rendered_of scope m.1)) (λ v. map_ok (λ rest. (m.0, v) ∷ rest) (facts_of scope ms))

-- values alone, so read
abbrev pub each_given : List Map → List Datum → Result (List Datum) ItemFault
each_given scope [] = Ok []
each_given scope (v ∷ vs) = and_then (evaluated (rendered_of scope v)) (λ d. and_then (each_given scope vs) (λ ds. Ok (d ∷ ds)))

-- what values give under their names
abbrev pub facts_in_row : List Map → (names : List (List ℕ)) → List Datum → Result Map ItemFault
facts_in_row scope names values = map_ok (λ vs. zip names vs) (each_given scope values)
