-- Worked texts of hosts that didn't get through.
use Rattle.std.specs.Prelude.{◌≡◌, ℕ, ◌==◌, nat_lt, true, false, List, [], ◌∷◌, codes, refl}
use Rattle.pb_cli.specs.Failed.{left_from, joined}

abbrev three : List (List ℕ)
three = codes "a" ∷ codes "b" ∷ codes "c" ∷ []

-- the second got through
first_and_last : joined false (left_from (λ host. host == 1) 0 three) ≡ codes "a,c\n"
first_and_last = refl

-- none did
none_through : joined false (left_from (λ host. false) 0 three) ≡ codes "a,b,c\n"
none_through = refl

-- all but the last did
last : joined false (left_from (λ host. nat_lt host 2) 0 three) ≡ codes "c\n"
last = refl

-- all did
all_through : joined false (left_from (λ host. true) 0 three) ≡ []
all_through = refl
