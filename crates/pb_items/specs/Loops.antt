-- What a loop goes over: the values of a list, or of a text that gives one, in the scope that the host has when the task starts.
-- See Ansible's documentation, "Loops".
use Rattle.std.specs.Prelude.{ℕ, nat_lt, List, [], ◌∷◌, length, Option, Some, None, Result, Ok, Err, if◌then◌else◌}
use Rattle.pb_value.specs.Datum.{Datum, text, list, list_of}
use Rattle.pb_value.specs.Reading.{and_then}
use Rattle.pb_layers.specs.Scope.{Map}
use Rattle.pb_expr_syntax.specs.Tree.{Tree, Name, Member, Index, Apply}
use Rattle.pb_expr_eval.specs.Scoped.{rendered_of}
use Rattle.pb_play.specs.declared.loops.Loop.{Loop}
use Rattle.pb_template.specs.Computed.{template_of}
use Rattle.pb_template.specs.Parts.{single_of}
use Rattle.pb_template.specs.declared.template.Part.{Part}
use Rattle.pb_items.specs.declared.fault.ItemFault.{ItemFault}
use Rattle.pb_items.specs.declared.fault.ItemFault.TheVariants.{LoopNotList, TooManyItems}
use Rattle.pb_items.specs.Faults.{evaluated}

-- how many items a loop may have
abbrev pub max_items : ℕ
max_items = 10000

-- these values, unless they are too many
abbrev pub within_items : List Datum → Result (List Datum) ItemFault
within_items values = if nat_lt max_items (length values) then Err TooManyItems else Ok values

-- the values that a loop goes over: those of a list, and no others
abbrev pub values_in : Datum → Result (List Datum) ItemFault
values_in (list ds) = within_items (list_of ds)
values_in other = Err LoopNotList

unfoldable pub values_of : List Map → Datum → Result (List Datum) ItemFault
values_of scope over = and_then (evaluated (rendered_of scope over)) values_in

-- The name among the variables that an expression's value is found under: it is the value of that name, a part of it, or what filters make of one.
abbrev pub root_of : Tree → Option (List ℕ)
root_of (Name s) = Some s
root_of (Member x s) = root_of x
root_of (Index x y) = root_of x
root_of (Apply f x ts) = root_of x
root_of t = None

abbrev pub name_by : Option Tree → Option (List ℕ)
name_by None = None
name_by (Some t) = root_of t

-- none where the text is no template, or isn't one expression alone
abbrev pub name_in : Option (List Part) → Option (List ℕ)
name_in None = None
name_in (Some parts) = name_by (single_of parts)

-- so the name that a loop's list is found under, if the loop is over a text of one expression
abbrev pub name_over : Datum → Option (List ℕ)
name_over (text s) = name_in (template_of s)
name_over other = None

-- the loop variable of an item, where its task has a loop
abbrev pub loop_variable : Option Loop → Option Datum → Map
loop_variable None value = []
loop_variable (Some looped) None = []
loop_variable (Some looped) (Some value) = (looped.variable, value) ∷ []
