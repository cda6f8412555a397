-- A dict of few names is the row of these and its values.
use Rattle.std.proofs.Common.{◌≡◌, ℕ, suc, Bool, true, false, List, [], ◌∷◌, length, Some, None, refl, sym, ap, subst, if◌then◌else◌}
use Rattle.std.specs.Prelude.{nat_le}
use Rattle.std.specs.Map.{keys_of, values_of}
use Rattle.pb_value.specs.Datum.{Datum}
use Rattle.pb_value.specs.Names.{names_of}
use Rattle.pb_prepared.specs.Row.{IsRow}

abbrev Entries : Type 0
Entries = List (List ℕ × Datum)

are_row : (ms : Entries) → IsRow (keys_of ms) (values_of ms) ms
are_row [] = (refl, refl)
are_row (m ∷ ms) = (ap (λ (rest : Entries). m ∷ rest) (are_row ms).0, ap suc (are_row ms).1)

if_few : (few : Bool) (ms : Entries) (names : List (List ℕ)) → (if few then Some (keys_of ms) else None) ≡ Some names → keys_of ms ≡ names
if_few true ms names e = cc
if_few false ms names e = cc

pub few_are_row : (ms : Entries) (names : List (List ℕ)) (values : List Datum) → names_of ms ≡ Some names → values ≡ values_of ms → IsRow names values ms
few_are_row ms names values few e =
    let same : keys_of ms ≡ names = if_few (nat_le (length ms) 64) ms names few in
    subst (λ (ns : List (List ℕ)). IsRow ns values ms) same (subst (λ (vs : List Datum). IsRow (keys_of ms) vs ms) (sym e) (are_row ms))
