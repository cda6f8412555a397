-- The front of a trail, and one event more.
use Rattle.std.proofs.Common.{◌≡◌, ◌∙◌, ◌+◌, ◌<◌, ℕ, List, [], ◌∷◌, ◌++◌, length, take, get_or, sym, ap}
use Rattle.std.proofs.lemmas.List.{take_more}
use Rattle.pb_state.specs.declared.event.Event.{Event}

pub with_next : (trail : List Event) (i : ℕ) (e : Event) → i < length trail → e ≡ get_or trail i e → take (i + 1) trail ≡ take i trail ++ e ∷ []
with_next trail i e h is = take_more trail i e h ∙ ap (λ x. take i trail ++ x ∷ []) (sym is)
