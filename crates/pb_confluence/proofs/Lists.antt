-- The rows of all hosts: what holds of each, and one of them that changes.
use Rattle.std.proofs.Common.{◌≡◌, ℕ, zero, suc, ◌+◌, Bool, true, false, ◌||◌, List, [], ◌∷◌, map, refl, sym, ◌∙◌, ap, subst, arith}
use Rattle.std.specs.Prelude.{Option, Some, None, slice_get}
use Rattle.std.specs.Option.{option_map_or}
use Rattle.pb_host.specs.Host.{HostOf}
use Rattle.pb_hosts.specs.Hosts.{change}
use Rattle.pb_hosts.proofs.Giving.{change_on}
use Rattle.pb_state.specs.Walks.{AreNumbered}

pub or_right_true : (a b : Bool) → b ≡ true → (a || b) ≡ true
or_right_true true b e = refl
or_right_true false b e = e

pub both_ways : (b : Bool) → b ≡ true → b ≡ false → ⊥
both_ways true e f = cc
both_ways false e f = cc

-- ---- of every row
abbrev pub Every : (HostOf → Type 0) → List HostOf → Type 0
Every P [] = Unit {0}
Every P (row ∷ rows) = P row × Every P rows

pub every_at : (P : HostOf → Type 0) (rows : List HostOf) (h : ℕ) (row : HostOf) → Every P rows → slice_get rows h ≡ Some row → P row
every_at P [] h row all e = cc
every_at P (first ∷ rows) zero row all e = subst P (let same : first ≡ row = cc in same) all.0
every_at P (first ∷ rows) (suc h) row all e = every_at P rows h row all.1 e

pub every_map : (P Q : HostOf → Type 0) (f : HostOf → HostOf) → ((row : HostOf) → P row → Q (f row)) → (rows : List HostOf) → Every P rows → Every Q (map f rows)
every_map P Q f on [] all = tt
every_map P Q f on (row ∷ rows) all = (on row all.0, every_map P Q f on rows all.1)

pub every_other : (P Q : HostOf → Type 0) → ((row : HostOf) → P row → Q row) → (rows : List HostOf) → Every P rows → Every Q rows
every_other P Q on [] all = tt
every_other P Q on (row ∷ rows) all = (on row all.0, every_other P Q on rows all.1)

pub every_both : (P Q : HostOf → Type 0) (rows : List HostOf) → Every P rows → Every Q rows → Every (λ row. P row × Q row) rows
every_both P Q [] all also = tt
every_both P Q (row ∷ rows) all also = ((all.0, also.0), every_both P Q rows all.1 also.1)

-- a test of one row
pub found_in : (test : HostOf → Bool) (found : Option HostOf) → option_map_or test found false ≡ true → (row : HostOf) × (found ≡ Some row) × (test row ≡ true)
found_in test None e = cc
found_in test (Some row) e = (row, refl, e)

-- the number of a host
pub number_at : (n : ℕ) (rows : List HostOf) (h : ℕ) (row : HostOf) → AreNumbered n rows → slice_get rows h ≡ Some row → row.host ≡ n + h
number_at n [] h row all e = cc
number_at n (first ∷ rows) zero row all e = let same : first ≡ row = cc in let zeroth : n ≡ n + 0 = omega arith in ap (λ (r : HostOf). r.host) (sym same) ∙ all.0 ∙ zeroth
number_at n (first ∷ rows) (suc h) row all e = let next : (n + 1) + h ≡ n + suc h = omega arith in number_at (n + 1) rows h row all.1 e ∙ next

-- ---- one row changed
pub every_changed : (P : HostOf → Type 0) (f : HostOf → HostOf) (rows : List HostOf) (h : ℕ) → ((row : HostOf) → slice_get rows h ≡ Some row → P (f row)) → Every P rows → Every P (change rows h f)
every_changed P f [] h on all = tt
every_changed P f (first ∷ rows) zero on all = (on first refl, all.1)
every_changed P f (first ∷ rows) (suc h) on all = subst (Every P) (sym (change_on first rows h f)) (all.0, every_changed P f rows h on all.1)

-- a change of one row that F doesn't see
pub map_changed : (F : HostOf → HostOf) (f : HostOf → HostOf) (rows : List HostOf) (h : ℕ) → ((row : HostOf) → slice_get rows h ≡ Some row → F (f row) ≡ F row) → map F (change rows h f) ≡ map F rows
map_changed F f [] h on = refl
map_changed F f (first ∷ rows) zero on = ap (λ (r : HostOf). r ∷ map F rows) (on first refl)
map_changed F f (first ∷ rows) (suc h) on = ap (map F) (change_on first rows h f) ∙ ap (λ (rest : List HostOf). F first ∷ rest) (map_changed F f rows h on)

-- rows that F leaves
pub map_left : (F : HostOf → HostOf) (P : HostOf → Type 0) → ((row : HostOf) → P row → F row ≡ row) → (rows : List HostOf) → Every P rows → map F rows ≡ rows
map_left F P on [] all = refl
map_left F P on (row ∷ rows) all = ap (λ (r : HostOf). r ∷ map F rows) (on row all.0) ∙ ap (λ (rest : List HostOf). row ∷ rest) (map_left F P on rows all.1)
