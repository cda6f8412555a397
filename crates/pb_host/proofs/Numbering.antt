-- The results of a loop's items, made one after another.
use Rattle.std.proofs.Common.{◌≡◌, ℕ, ◌+◌, ◌<◌, List, [], ◌∷◌, ◌++◌, length, drop, get_or, refl, sym, ◌∙◌, ap, append_assoc}
use Rattle.std.specs.Prelude.{Option, Some, None}
use Rattle.std.proofs.lemmas.List.{drop_more}
use Rattle.pb_value.specs.Datum.{Datum}
use Rattle.pb_outcome.specs.declared.gather.ItemResult.{ItemResult}
use Rattle.pb_outcome.specs.declared.item.Item.{Item}
use Rattle.pb_outcome.specs.declared.item.Planned.{Planned}
use Rattle.pb_outcome.specs.declared.item.Planned.TheVariants.{Decided, Sends}
use Rattle.pb_outcome.specs.Items.{numbered, numbered_then}

then_rest : (n : ℕ) (value : Option Datum) (step : Planned) (rest : List (ℕ × ItemResult)) → numbered_then n value step rest ≡ numbered_then n value step [] ++ rest
then_rest n None step rest = refl
then_rest n (Some value) (Decided result) rest = refl
then_rest n (Some value) (Sends call) rest = refl

-- one item more
pub numbered_more : (items : List Item) (results new : List (ℕ × ItemResult)) (n : ℕ) (item : Item) → n < length items → item ≡ get_or items n item → numbered 0 items ≡ results ++ numbered n (drop n items)
    → new ≡ results ++ numbered_then n item.value item.step [] → numbered 0 items ≡ new ++ numbered (n + 1) (drop (n + 1) items)
numbered_more items results new n item inside at so_far now =
    so_far
    ∙ ap (λ (rest : List Item). results ++ numbered n rest) (drop_more items n item inside ∙ ap (λ (x : Item). x ∷ drop (n + 1) items) (sym at))
    ∙ ap (λ (rest : List (ℕ × ItemResult)). results ++ rest) (then_rest n item.value item.step (numbered (n + 1) (drop (n + 1) items)))
    ∙ sym (append_assoc results (numbered_then n item.value item.step []) (numbered (n + 1) (drop (n + 1) items)))
    ∙ ap (λ (t : List (ℕ × ItemResult)). t ++ numbered (n + 1) (drop (n + 1) items)) (sym now)
