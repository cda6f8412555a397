-- A name among entries: it has the value of the first that is its own.
use Rattle.std.proofs.Common.{◌≡◌, ℕ, Bool, true, false, cond, List, [], ◌∷◌, Some, None, ap, sym, ◌∙◌}
use Rattle.std.specs.Str.{bytes_eq}
use Rattle.std.proofs.lemmas.Map.Text.{is_eq-slice_cmp}
use Rattle.pb_value.specs.Datum.{Datum, value_at}
use Rattle.pb_layers.specs.Scope.{Map}

pub here : (name key : List ℕ) (v : Datum) (rest : Map) → bytes_eq name key ≡ true → Some v ≡ value_at name ((key, v) ∷ rest)
here name key v rest e = sym (ap (λ (b : Bool). cond b (Some v) (value_at name rest)) (is_eq-slice_cmp name key ∙ e))

pub further : (name key : List ℕ) (v : Datum) (rest : Map) → bytes_eq name key ≡ false → value_at name rest ≡ value_at name ((key, v) ∷ rest)
further name key v rest e = sym (ap (λ (b : Bool). cond b (Some v) (value_at name rest)) (is_eq-slice_cmp name key ∙ e))

-- and where it is neither of two names, it has none
pub neither : (name first second : List ℕ) (v w : Datum) → bytes_eq name first ≡ false → bytes_eq name second ≡ false → None ≡ value_at name ((first, v) ∷ (second, w) ∷ [])
neither name first second v w e f = further name second w [] f ∙ further name first v ((second, w) ∷ []) e
