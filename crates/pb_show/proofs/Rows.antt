-- Lists and members of JSON as rows of the program's values.
use Rattle.std.proofs.Common.{◌≡◌, ℕ, suc, ◌+◌, ◌-◌, ◌≤◌, Bool, true, false, List, [], ◌∷◌, map, drop, length, Option, Some, None, String, Global, refl, ap, sym, ◌∙◌, arith}
use Rattle.std.proofs.lemmas.List.{drop-map, length-map}
use Rattle.std.specs.Prelude.{nat_lt, cond}
use Rattle.serde_json.specs.Data.{Data}
use Rattle.serde_json.specs.View.{view, items_of, items_view, members_view}
use Rattle.serde_json.specs.declared.value.Value.{Value}
use Rattle.pb_show.specs.Reading.{list_of, texts_of, last_texts, values_of, whole_at, one_if_some, one_if, count_in}

pub list-of-items : (ds : List Data) → list_of (items_of ds) ≡ ds
list-of-items [] = refl
list-of-items (d ∷ ds) = ap (λ xs. d ∷ xs) (list-of-items ds)

pub last-of-views : (vs : List Value) → texts_of (map view (drop (length vs - 10) vs)) ≡ last_texts (list_of (items_view vs))
last-of-views vs =
    sym
    (ap last_texts (list-of-items (map view vs)) ∙ ap (λ n. texts_of (drop (n - 10) (map view vs))) (length-map vs view) ∙ ap texts_of (drop-map view (length vs - 10) vs))

pub values-length : (ms : List (String Global × Value)) → length (values_of (members_view ms)) ≡ length ms
values-length [] = refl
values-length (m ∷ ms) = ap (λ n. suc n) (values-length ms)

one-or-none : (b : Bool) → cond b 1 0 ≤ 1
one-or-none true = omega arith
one-or-none false = omega arith

one-at-most : (n : Option ℕ) → one_if_some n ≤ 1
one-at-most None = omega arith
one-at-most (Some n) = one-or-none (nat_lt 0 n)

pub count-within : (k : List ℕ) (ds : List Data) → count_in k ds ≤ length ds
count-within k [] = omega arith
count-within k (d ∷ ds) =
    let one : one_if k d ≤ 1 = one-at-most (whole_at k d) in
    let rest : count_in k ds ≤ length ds = count-within k ds in
    omega arith

-- one host more was counted
pub count-step : (k : List ℕ) (e : String Global × Value) (it left : List (String Global × Value)) (count one total : ℕ) → it ≡ e ∷ left → one ≡ one_if k (view e.1) → count + count_in k (values_of (members_view it)) ≡ total
    → (count + one) + count_in k (values_of (members_view left)) ≡ total
count-step k e it left count one total i o t =
    let f : count + count_in k (values_of (members_view (e ∷ left))) ≡ total = ap (λ es. count + count_in k (values_of (members_view es))) (sym i) ∙ t in
    omega arith

pub views-length : (vs : List Value) → length vs ≡ length (list_of (items_view vs))
views-length vs = sym (ap length (list-of-items (map view vs)) ∙ length-map vs view)
