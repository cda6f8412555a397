-- Variables: maps over one another, of which the highest that has a name gives its value whole ("Variable precedence" of
-- Ansible's documentation).
use Rattle.std.specs.Prelude.{ℕ, ◌+◌, Bool, ◌==◌, ◌&&◌, not, nat_le, List, [], ◌∷◌, Option, Some, None, length}
use Rattle.std.specs.Option.{option_map}
use Rattle.pb_value.specs.Datum.{Datum, value_at, put}

-- values under their names
abbrev pub Map : Type 0
Map = List (List ℕ × Datum)

-- The eleven layers of variables that a task sees on a host, the highest first.
abbrev pub layers : (role_defaults group_variables host_variables host_facts play_variables role_variables block_variables task_variables set_facts role_parameters extra_variables : Map) → List Map
layers role_defaults group_variables host_variables host_facts play_variables role_variables block_variables task_variables set_facts role_parameters extra_variables =
    extra_variables ∷ role_parameters ∷ set_facts ∷ task_variables ∷ block_variables ∷ role_variables ∷ play_variables ∷ host_facts ∷ host_variables ∷ group_variables ∷ role_defaults ∷ []

-- Above them stand the magic variables and, highest, the loop variable.
abbrev pub scope : List Map → Map → Map → List Map
scope below magic loop_variable = loop_variable ∷ magic ∷ below

-- a map with a value put under its name, if there is one
abbrev pub with_put : Option (List ℕ × Datum) → Map → Map
with_put None m = m
with_put (Some seen) m = put seen.0 seen.1 m

-- The layers of a task that sees a value beside what was set or registered (layer 9), as it sees its own result under the name that this is registered under.
abbrev pub with_seen : Option (List ℕ × Datum) → List Map → List Map
with_seen seen (extra_variables ∷ role_parameters ∷ set_facts ∷ below) = extra_variables ∷ role_parameters ∷ with_put seen set_facts ∷ below
with_seen seen maps = maps

-- the first of two, if it is there
abbrev pub or_else : {A : Type 0} → Option A → Option A → Option A
or_else (Some x) other = Some x
or_else None other = other

-- A stored value with the number of its layer. The lowest map has the number 1.
abbrev pub found : List ℕ → List Map → Option (ℕ × Datum)
found name [] = None
found name (m ∷ below) = or_else (option_map (λ v. (length below + 1, v)) (value_at name m)) (found name below)

-- the stored value of a name, and the number of the layer that gives it
abbrev pub value_of : List ℕ → List Map → Option Datum
value_of name maps = option_map (λ f. f.1) (found name maps)

abbrev pub layer_of : List ℕ → List Map → Option ℕ
layer_of name maps = option_map (λ f. f.0) (found name maps)

-- Texts in the layers are templates, but for the facts of a host (4) and what was set or registered (9), which are values
-- already, as the magic variables (12) and the loop variable (13) are.
abbrev pub has_templates : ℕ → Bool
has_templates layer = nat_le layer 11 && not (layer == 4) && not (layer == 9)
