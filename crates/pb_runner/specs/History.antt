-- A history: what happened so far, in order, unless that isn't known.
use Rattle.std.specs.Prelude.{◌≡◌, List, [], ◌++◌, Option, Some, None, refl}
use Rattle.std.proofs.Common.{ap, sym, append_assoc}
use Rattle.std.proofs.lemmas.List.{append-nil}

-- more behind what is known
abbrev pub with_more : {A : Type 0} → Option (List A) → List A → Option (List A)
with_more None more = None
with_more (Some known) more = Some (known ++ more)

-- nothing more leaves what is known as it is
pub none_more : {A : Type 0} (known : Option (List A)) → known ≡ with_more known []
none_more None = refl
none_more (Some known) = ap Some (sym (append-nil known))

-- more, and then more behind it, is both at once
pub more_more : {A : Type 0} (known : Option (List A)) (first more : List A) → with_more (with_more known first) more ≡ with_more known (first ++ more)
more_more None first more = refl
more_more (Some known) first more = ap Some (append_assoc known first more)
