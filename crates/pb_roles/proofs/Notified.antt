-- Where nothing is notified.
use Rattle.std.proofs.Common.{◌≡◌, ℕ, ◌+◌, List, [], ◌∷◌, refl}
use Rattle.pb_handlers.specs.Naming.{notified_from}
use Rattle.pb_handlers.specs.declared.naming.HandlerNames.{HandlerNames}

none_from : (n : ℕ) (names : List HandlerNames) → notified_from [] n names ≡ []
none_from n [] = refl
none_from n (name ∷ names) = none_from (n + 1) names

pub none_notified : (words : List (List ℕ)) (names : List HandlerNames) → words ≡ [] → notified_from words 0 names ≡ []
none_notified words names none = rw none (none_from 0 names)
