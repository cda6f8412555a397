-- Maps with a value that is seen in one of them.
use Rattle.std.proofs.Common.{◌≡◌, ℕ, true, false, List, [], ◌∷◌, Some, None, refl, ap, sym, ◌∙◌}
use Rattle.std.specs.Str.{bytes_eq}
use Rattle.std.proofs.lemmas.Map.Text.{is_eq-slice_cmp}
use Rattle.std.proofs.lemmas.Slice.Eq.{bytes_eq-Decides}
use Rattle.pb_value.specs.Datum.{Datum, value_at, put}
use Rattle.pb_value.proofs.Puts.{value_at-put, value_at-put_other}
use Rattle.pb_layers.specs.Scope.{Map, with_seen}

-- the name has the value that was put under it
pub put_same : (name key : List ℕ) (v : Datum) (m : Map) → bytes_eq name key ≡ true → Some v ≡ value_at name (put key v m)
put_same name key v m e = sym (ap (λ k. value_at k (put key v m)) ((bytes_eq-Decides name key).0 e) ∙ value_at-put key v m)

-- and another name what it had
pub put_other : (name key : List ℕ) (v : Datum) (m : Map) → bytes_eq name key ≡ false → value_at name m ≡ value_at name (put key v m)
put_other name key v m e = sym (value_at-put_other name key v m (is_eq-slice_cmp name key ∙ e))

pub with_none_seen : (maps : List Map) → with_seen None maps ≡ maps
with_none_seen [] = refl
with_none_seen (a ∷ []) = refl
with_none_seen (a ∷ b ∷ []) = refl
with_none_seen (a ∷ b ∷ c ∷ below) = refl
