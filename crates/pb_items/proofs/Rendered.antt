-- Facts in the order of their names.
use Rattle.std.proofs.Common.{◌≡◌, ℕ, List, [], ◌∷◌, ◌++◌, Ok, Err, Result, length, string_bytes, refl, ap, sym, ◌∙◌, append_assoc, arith}
use Rattle.std.specs.Prelude.{zip}
use Rattle.pb_value.specs.Datum.{Datum, named}
use Rattle.pb_value.specs.Reading.{and_then, map_ok}
use Rattle.pb_layers.specs.Scope.{Map}
use Rattle.pb_expr_eval.specs.Scoped.{rendered_of}
use Rattle.pb_expr_eval.proofs.Members.{Entry}
use Rattle.pb_items.specs.Facts.{facts_of, each_given, facts_in_row}
use Rattle.pb_items.specs.Faults.{evaluated}
use Rattle.pb_items.specs.declared.fault.ItemFault.{ItemFault}

pub map_ok-none : (r : Result Map ItemFault) → map_ok (λ xs. [] ++ xs) r ≡ r
map_ok-none (Ok xs) = refl
map_ok-none (Err e) = refl

map_ok-append : (out : Map) (x : List ℕ × Datum) (r : Result Map ItemFault) → map_ok (λ xs. out ++ xs) (map_ok (λ xs. x ∷ xs) r) ≡ map_ok (λ xs. (out ++ x ∷ []) ++ xs) r
map_ok-append out x (Ok xs) = ap Ok (sym (append_assoc out (x ∷ []) xs))
map_ok-append out x (Err e) = refl

-- the first of some facts goes behind those that were read
pub facts_of-step : (scope : List Map) (m : Entry) (ms : List Entry) (out : Map) (x : Datum) → rendered_of scope m.1 ≡ Ok x
    → map_ok (λ xs. out ++ xs) (facts_of scope (named (m ∷ ms))) ≡ map_ok (λ xs. (out ++ (string_bytes m.0, x) ∷ []) ++ xs) (facts_of scope (named ms))
facts_of-step scope m ms out x ok = rw ok (map_ok-append out (string_bytes m.0, x) (facts_of scope (named ms)))

-- ---- facts whose values stand in a row
abbrev fact_first : List ℕ → Result Map ItemFault → Datum → Result Map ItemFault
fact_first n facts d = map_ok (λ rest. (n, d) ∷ rest) facts

abbrev value_first : Result (List Datum) ItemFault → Datum → Result (List Datum) ItemFault
value_first values d = and_then values (λ ds. Ok (d ∷ ds))

abbrev under : List (List ℕ) → List Datum → Map
under names values = zip names values

first_given : (n : List ℕ) (names : List (List ℕ)) (x : Result Datum ItemFault) (facts : Result Map ItemFault) (values : Result (List Datum) ItemFault) → facts ≡ map_ok (under names) values
    → and_then x (fact_first n facts) ≡ map_ok (under (n ∷ names)) (and_then x (value_first values))
first_given n names (Err e) facts values same = refl
first_given n names (Ok d) facts (Ok ds) same = ap (λ fs. fact_first n fs d) same
first_given n names (Ok d) facts (Err e) same = ap (λ fs. fact_first n fs d) same

zipped : (scope : List Map) (names : List (List ℕ)) (values : List Datum) → length names ≡ length values → facts_of scope (zip names values) ≡ facts_in_row scope names values
zipped scope [] [] even = refl
zipped scope [] (v ∷ vs) even = absurd (omega (arith, even))
zipped scope (n ∷ ns) [] even = absurd (omega (arith, even))
zipped scope (n ∷ ns) (v ∷ vs) even =
    first_given n ns (evaluated (rendered_of scope v)) (facts_of scope (zip ns vs)) (each_given scope vs) (zipped scope ns vs (omega (arith, even)))

pub facts_by_row : (scope : List Map) (facts : Map) (names : List (List ℕ)) (values : List Datum) → facts ≡ zip names values → length names ≡ length values → facts_of scope facts ≡ facts_in_row scope names values
facts_by_row scope facts names values row even = ap (facts_of scope) row ∙ zipped scope names values even
