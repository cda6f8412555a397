-- What was read.
use Rattle.std.proofs.Common.{◌≡◌, ◌≢◌, ◌++◌, ◌∙◌, ℕ, List, Result, Ok, Err, IfOk, IfErr, refl, ap, sym, subst}
use Rattle.pb_value.specs.Reading.{and_then, map_ok}
use Rattle.pb_value.specs.ToJson.{text_of}
use Rattle.pb_expr_syntax.specs.Tree.{Tree}
use Rattle.pb_template.specs.declared.template.Part.TheVariants.{Code}
use Rattle.pb_operators.specs.declared.fault.EvalFault.{EvalFault}
use Rattle.pb_operators.specs.declared.fault.EvalFault.TheVariants.{Memory}
use Rattle.pb_operators.specs.Values.{Value, finished}
use Rattle.pb_expr_eval.specs.Operand.{held}
use Rattle.pb_expr_eval.specs.Rendering.{measured, text_in}
use Rattle.pb_expr_eval.specs.Value.{Names, value}
use Rattle.pb_expr_eval.specs.declared.operand.Operand.{Operand}

-- what was taken in was read
pub taken : {A B : Type 0} (f : A → B) (r : Result A EvalFault) (new : B) → map_ok f r ≡ Ok new → (x : A) × (r ≡ Ok x) × (f x ≡ new)
taken f (Ok x) new e = (x, refl, cc)
taken f (Err x) new e = absurd (cc)

-- what was made of what was read is worth what that is
pub made_value : (out : Result Operand EvalFault) (r v : Value) → map_ok held out ≡ r → IfOk r (λ d. v ≡ Ok d) → IfOk out (λ x. v ≡ Ok (held x))
made_value (Ok x) r v e h = subst (λ q. IfOk q (λ d. v ≡ Ok d)) (sym e) h
made_value (Err fault) r v e h = tt

pub made_fault : (out : Result Operand EvalFault) (r v : Value) → map_ok held out ≡ r → IfErr r (λ e. e ≢ Memory → v ≡ Err e) → IfErr out (λ e. e ≢ Memory → v ≡ Err e)
made_fault (Ok x) r v e h = tt
made_fault (Err fault) r v e h = subst (λ q. IfErr q (λ e. e ≢ Memory → v ≡ Err e)) (sym e) h

-- the text of an expression goes behind another where that of what was read does
pub shown_value : (names : Names) (t : Tree) (out : Result Operand EvalFault) (front new : List ℕ) → IfOk out (λ x. value names t ≡ Ok (held x))
    → map_ok (λ s. front ++ s) (map_ok text_of (and_then (map_ok held out) finished)) ≡ Ok new → map_ok (λ s. front ++ s) (text_in names (Code t)) ≡ Ok new
unfolding measured
shown_value names t (Ok x) front new read e = ap (λ v. map_ok (λ s. front ++ s) (map_ok text_of (and_then v finished))) read ∙ e
shown_value names t (Err fault) front new read e = absurd (cc)

pub shown_fault : (names : Names) (t : Tree) (out : Result Operand EvalFault) (fault : EvalFault) → IfOk out (λ x. value names t ≡ Ok (held x)) → IfErr out (λ e. e ≢ Memory → value names t ≡ Err e)
    → fault ≢ Memory → map_ok text_of (and_then (map_ok held out) finished) ≡ Err fault → text_in names (Code t) ≡ Err fault
unfolding measured
shown_fault names t (Ok x) fault read failed other h = ap (λ v. map_ok text_of (and_then v finished)) read ∙ h
shown_fault names t (Err first) fault read failed other h =
    let same : first ≡ fault = cc in
    ap (λ v. map_ok text_of (and_then v finished)) (failed (λ m. other (sym same ∙ m))) ∙ h
