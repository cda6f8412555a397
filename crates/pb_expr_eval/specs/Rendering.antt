-- What templates give, where it is known what names stand for.
use Rattle.std.specs.Prelude.{ℕ, List, [], ◌∷◌, ◌++◌, Option, Some, None, Result, Ok, Err}
use Rattle.pb_value.specs.Datum.{Datum, text, list, dict, items_of, members_of, Items, no_items, item, Members, no_members, member}
use Rattle.pb_value.specs.Reading.{and_then, map_ok}
use Rattle.pb_value.specs.ToJson.{text_of}
use Rattle.pb_expr_syntax.specs.Tree.{Tree}
use Rattle.pb_template.specs.Computed.{template_of}
use Rattle.pb_template.specs.declared.template.Part.{Part}
use Rattle.pb_template.specs.declared.template.Part.TheVariants.{Plain, Code}
use Rattle.pb_operators.specs.declared.fault.EvalFault.{EvalFault}
use Rattle.pb_operators.specs.declared.fault.EvalFault.TheVariants.{BadTemplate}
use Rattle.pb_operators.specs.Values.{Value, text_within, finished}
use Rattle.pb_expr_eval.specs.Value.{Names, value}

-- the value of an expression, measured at its end wherever the expression stands: it nests at most 64 levels, and a text has at most 1 MiB
unfoldable pub measured : Names → Tree → Value
measured names t = and_then (value names t) finished

-- the text of a part
abbrev pub text_in : Names → Part → Result (List ℕ) EvalFault
text_in names (Plain s) = Ok s
text_in names (Code t) = map_ok text_of (measured names t)

-- the texts of parts in one: all parts are read, from the first on
abbrev pub shown : Names → List Part → Result (List ℕ) EvalFault
shown names [] = Ok []
shown names (p ∷ ps) = and_then (text_in names p) (λ s. map_ok (λ t. s ++ t) (shown names ps))

-- What a template gives: the value itself of a single expression, else the texts of its parts in one, which is measured when all are read.
abbrev pub render : Names → List Part → Value
render names [] = Ok (text [])
render names (Code t ∷ []) = measured names t
render names (p ∷ ps) = and_then (shown names (p ∷ ps)) text_within

-- what a text gives, if it is a template
abbrev pub templated : Names → Option (List Part) → Value
templated names (Some parts) = render names parts
templated names None = Err BadTemplate

-- a value with its texts rendered, in lists and dicts too
abbrev mutual
  pub rendered : Names → Datum → Value
  rendered names (text s) = templated names (template_of s)
  rendered names (list ds) = map_ok (λ es. list (items_of es)) (rendered_items names ds)
  rendered names (dict ms) = map_ok (λ es. dict (members_of es)) (rendered_members names ms)
  rendered names d = Ok d

  pub rendered_items : Names → Items → Result (List Datum) EvalFault
  rendered_items names no_items = Ok []
  rendered_items names (item d ds) = and_then (rendered names d) (λ e. map_ok (λ es. e ∷ es) (rendered_items names ds))

  pub rendered_members : Names → Members → Result (List (List ℕ × Datum)) EvalFault
  rendered_members names no_members = Ok []
  rendered_members names (member k d ms) = and_then (rendered names d) (λ e. map_ok (λ es. (k, e) ∷ es) (rendered_members names ms))
