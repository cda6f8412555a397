-- One step of reading.
use Rattle.std.proofs.Common.{◌≡◌, ℕ, zero, suc, ◌-◌, ◌<◌, ◌≤◌, true, false, List, [], ◌∷◌, Some, Ok, Err, length, refl, ap, ◌∙◌, arith}
use Rattle.std.specs.Prelude.{ℤ}
use Rattle.std.specs.Fmt.{signed_decimal}
use Rattle.pb_value.specs.Datum.{Datum, int, text, list, dict, items_of, members_of, value_at}
use Rattle.pb_value.proofs.Lists.{list_of-items_of, entries_of-members_of}
use Rattle.pb_expr_syntax.specs.Tree.{Tree, trees_of}
use Rattle.pb_layers.specs.Scope.{Map, found, has_templates}
use Rattle.pb_operators.specs.declared.fault.EvalFault.TheVariants.{WrongKind}
use Rattle.pb_operators.specs.Operators.{at_number, index_of, member_of, part_under}
use Rattle.pb_operators.specs.Values.{Value}
use Rattle.pb_expr_eval.specs.Value.{Names, each, defaulted}
use Rattle.pb_expr_eval.specs.Rendering.{rendered}
use Rattle.pb_expr_eval.specs.Scoped.{names_in}

-- `default` has no more than two arguments
pub defaulted_many : (names : Names) (r : Value) (args : List Tree) → 3 ≤ length args → defaulted r (each names (trees_of args)) ≡ Err WrongKind
defaulted_many names r [] le = absurd (omega arith)
defaulted_many names r (a ∷ []) le = absurd (omega arith)
defaulted_many names r (a ∷ b ∷ []) le = absurd (omega arith)
defaulted_many names r (a ∷ b ∷ c ∷ ds) le = refl

-- a name whose layer has templates is rendered, with a look-up less
pub rendered_name : (scope : List Map) (levels : ℕ) (name : List ℕ) (f : ℕ × Datum) → 0 < levels → found name scope ≡ Some f → has_templates f.0 ≡ true
    → names_in scope levels name ≡ rendered (names_in scope (levels - 1)) f.1
rendered_name scope zero name f lt e t = absurd (omega arith)
rendered_name scope (suc n) name f lt e t = let same : suc n - 1 ≡ n = omega arith in rw (e, t, same)

-- and one whose layer has none is read as it is stored
pub stored_name : (scope : List Map) (levels : ℕ) (name : List ℕ) (f : ℕ × Datum) → 0 < levels → found name scope ≡ Some f → has_templates f.0 ≡ false
    → names_in scope levels name ≡ Ok f.1
stored_name scope zero name f lt e t = absurd (omega arith)
stored_name scope (suc n) name f lt e t = rw (e, t)

-- a member that is there
pub member_there : (ms : Map) (s : List ℕ) (v : Datum) → value_at s ms ≡ Some v → member_of (dict (members_of ms)) s ≡ Ok v
member_there ms s v e = ap (λ es. part_under s (value_at s es)) (entries_of-members_of ms) ∙ ap (part_under s) e

-- what stands under a key that is there
pub text_there : (ms : Map) (s : List ℕ) (v : Datum) → value_at s ms ≡ Some v → index_of (dict (members_of ms)) (text s) ≡ Ok v
text_there ms s v e = ap (λ es. part_under s (value_at s es)) (entries_of-members_of ms) ∙ ap (part_under s) e

pub number_there : (ds : List Datum) (z : ℤ) (v : Datum) → at_number ds z ≡ Some v → index_of (list (items_of ds)) (int z) ≡ Ok v
number_there ds z v e = ap (λ xs. part_under (signed_decimal z) (at_number xs z)) (list_of-items_of ds) ∙ ap (part_under (signed_decimal z)) e
