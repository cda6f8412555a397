-- The names of the hosts in a batch, from one host on.
use Rattle.std.proofs.Common.{◌≡◌, ◌<◌, ◌≤◌, ℕ, zero, suc, ◌+◌, Bool, true, false, List, [], ◌∷◌, ◌++◌, length, drop, map, refl, sym, ap, ◌∙◌, append_assoc, arith, inl, inr, subst}
use Rattle.std.specs.Prelude.{slice_get}
use Rattle.std.specs.Option.{option_map_or}
use Rattle.std.proofs.lemmas.Bool.{cases_lt}
use Rattle.std.proofs.lemmas.List.{append-nil, get_or_past}
use Rattle.pb_planes.specs.Set.{is_in, IsNextFrom, HasNoneFrom}
use Rattle.pb_value.specs.Datum.{Datum, text}
use Rattle.pb_host.specs.Host.{HostOf}
use Rattle.pb_events.specs.Batch.{batch_names}

pub member_below : (set : List Bool) (h : ℕ) → is_in set h ≡ true → h < length set
member_below set h i = elim (cases_lt h (length set)) [
  | inl w ↦ w
  | inr w ↦ let past : true ≡ false = sym i ∙ get_or_past set h false w in cc
]

abbrev pub inside : HostOf → Bool
inside row = row.in_batch

names_none : (names : List (List ℕ)) → batch_names names [] ≡ []
names_none [] = refl
names_none (name ∷ names) = refl

-- hosts that aren't in the batch have no name in the list
names_skip : (names : List (List ℕ)) (rows : List HostOf) (from h : ℕ) → from ≤ h → ((i : ℕ) → from ≤ i → i < h → is_in (map inside rows) i ≡ false) → batch_names (drop from names) (drop from rows) ≡ batch_names (drop h names) (drop h rows)
names_skip [] rows zero zero le off = refl
names_skip [] rows zero (suc h) le off = refl
names_skip [] rows (suc from) zero le off = absurd (omega (arith, le))
names_skip [] rows (suc from) (suc h) le off = refl
names_skip (name ∷ names) [] zero zero le off = refl
names_skip (name ∷ names) [] zero (suc h) le off = sym (names_none (drop h names))
names_skip (name ∷ names) [] (suc from) zero le off = absurd (omega (arith, le))
names_skip (name ∷ names) [] (suc from) (suc h) le off = names_none (drop from names) ∙ sym (names_none (drop h names))
names_skip (name ∷ names) (row ∷ rows) zero zero le off = refl
names_skip (name ∷ names) (row ∷ rows) zero (suc h) le off =
    let out = off zero (omega arith) (omega arith) in
    rw out (names_skip names rows zero h (omega arith) (λ i l u. off (suc i) (omega arith) (omega (arith, u))))
names_skip (name ∷ names) (row ∷ rows) (suc from) zero le off = absurd (omega (arith, le))
names_skip (name ∷ names) (row ∷ rows) (suc from) (suc h) le off = names_skip names rows from h (omega (arith, le)) (λ i l u. off (suc i) (omega (arith, l)) (omega (arith, u)))

names_end : (names : List (List ℕ)) (rows : List HostOf) (from : ℕ) → ((i : ℕ) → from ≤ i → is_in (map inside rows) i ≡ false) → batch_names (drop from names) (drop from rows) ≡ []
names_end [] rows zero off = refl
names_end [] rows (suc from) off = refl
names_end (name ∷ names) [] zero off = refl
names_end (name ∷ names) [] (suc from) off = names_none (drop from names)
names_end (name ∷ names) (row ∷ rows) zero off =
    let out = off zero (omega arith) in
    rw out (names_end names rows zero (λ i l. off (suc i) (omega arith)))
names_end (name ∷ names) (row ∷ rows) (suc from) off = names_end names rows from (λ i l. off (suc i) (omega (arith, l)))

-- one that is in it has its own
names_at : (names : List (List ℕ)) (rows : List HostOf) (h : ℕ) → is_in (map inside rows) h ≡ true
    → batch_names (drop h names) (drop h rows) ≡ option_map_or (λ (name : List ℕ). name ∷ []) (slice_get names h) [] ++ batch_names (drop (suc h) names) (drop (suc h) rows)
names_at [] rows zero e = refl
names_at [] rows (suc h) e = refl
names_at (name ∷ names) [] zero e = cc
names_at (name ∷ names) [] (suc h) e = cc
names_at (name ∷ names) (row ∷ rows) zero e = rw e refl
names_at (name ∷ names) (row ∷ rows) (suc h) e = names_at names rows h e

map_append : (names more : List (List ℕ)) → map text (names ++ more) ≡ map text names ++ map text more
map_append [] more = refl
map_append (name ∷ names) more = ap (λ rest. text name ∷ rest) (map_append names more)

pub names_step : (names : List (List ℕ)) (rows : List HostOf) (set : List Bool) (from h : ℕ) (before new whole : List Datum) → set ≡ map inside rows → IsNextFrom set from h
    → new ≡ before ++ map text (option_map_or (λ (name : List ℕ). name ∷ []) (slice_get names h) []) → before ++ map text (batch_names (drop from names) (drop from rows)) ≡ whole
    → new ++ map text (batch_names (drop (h + 1) names) (drop (h + 1) rows)) ≡ whole
names_step names rows set from h before new whole e next n w =
    let on = subst (λ (s : List Bool). IsNextFrom s from h) e next in
    let here : List (List ℕ) = option_map_or (λ (name : List ℕ). name ∷ []) (slice_get names h) [] in
    let rest : List (List ℕ) = batch_names (drop (suc h) names) (drop (suc h) rows) in
    let behind : suc h ≡ h + 1 = omega arith in
    let found : batch_names (drop from names) (drop from rows) ≡ here ++ rest = names_skip names rows from h on.0 on.2 ∙ names_at names rows h on.1 in
    let one : map text (batch_names (drop from names) (drop from rows)) ≡ map text here ++ map text rest = ap (map text) found ∙ map_append here rest in
    ap (λ (k : ℕ). new ++ map text (batch_names (drop k names) (drop k rows))) (sym behind)
    ∙ ap (λ (all : List Datum). all ++ map text rest) n
    ∙ append_assoc before (map text here) (map text rest)
    ∙ ap (λ (all : List Datum). before ++ all) (sym one)
    ∙ w

pub names_over : (names : List (List ℕ)) (rows : List HostOf) (set : List Bool) (from : ℕ) (before whole : List Datum) → set ≡ map inside rows → HasNoneFrom set from → before ++ map text (batch_names (drop from names) (drop from rows)) ≡ whole
    → before ≡ whole
names_over names rows set from before whole e none w =
    let off = subst (λ (s : List Bool). HasNoneFrom s from) e none in
    sym (append-nil before) ∙ ap (λ (rest : List (List ℕ)). before ++ map text rest) (sym (names_end names rows from off)) ∙ w
