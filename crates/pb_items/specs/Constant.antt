-- Tasks that look nothing up as they start: their items are the same whatever variables they see. The test may say of such a task that it isn't one.
use Rattle.std.specs.Prelude.{◌≡◌, ℕ, Bool, true, false, ◌==◌, ◌&&◌, List, length, Option, is_none}
use Rattle.pb_value.specs.Datum.{members_of}
use Rattle.pb_expr_syntax.specs.Tree.{Tree}
use Rattle.pb_layers.specs.Scope.{Map}
use Rattle.pb_play.specs.declared.modules.Module.{Module}
use Rattle.pb_play.specs.declared.modules.Module.TheVariants.{Debug, Fail, Meta, SetFact, Setup}
use Rattle.pb_play.specs.declared.task.Task.{Task}
use Rattle.pb_template.specs.Plain.{is_plain, members_plain}
use Rattle.pb_items.specs.Items.{StartOf, items_of}

-- A module is given texts without expressions. Those that start programs aren't asked: a program takes far longer than what its task sees.
abbrev pub is_constant_module : Module → Bool
is_constant_module (Debug msg) = is_plain msg
is_constant_module (Fail msg) = is_plain msg
is_constant_module (Meta meta) = true
is_constant_module (SetFact facts) = members_plain (members_of facts)
is_constant_module Setup = true
is_constant_module other = false

-- it has no conditions, and says nothing of what is decided at once
abbrev pub has_no_conditions : Task → List Tree → Bool
has_no_conditions task conditions = (length conditions == 0) && (is_none task.changed_when && is_none task.failed_when)

-- nor has it a loop or a delegate
abbrev pub is_constant : Task → List Tree → (delegate_to : Option (List ℕ)) → Bool
is_constant task conditions delegate_to =
    (is_none task.looped && is_none delegate_to) && (has_no_conditions task conditions && is_constant_module task.module)

-- the same start where the task sees these variables
abbrev pub seeing : StartOf → List Map → Map → StartOf
seeing start layers magic = record start { layers = layers; magic = magic }

-- wherever the task starts, its items are those that it has with any other variables
abbrev pub HasOneStart : Task → List Tree → Option (List ℕ) → Type 0
HasOneStart task conditions delegate_to =
    (start : StartOf) (layers : List Map) (magic : Map) → start.task ≡ task → start.conditions ≡ conditions → start.delegate_to ≡ delegate_to →
    items_of start ≡ items_of (seeing start layers magic)
