use Rattle.std.proofs.Common.{◌≡◌, ℕ, List, ◌++◌, map, string_bytes, string_cmp}
use Rattle.std.specs.List.Sorted.{IsStrictlySortedBy}
use Rattle.std.specs.Map.{keys_of}
use Rattle.pb_value.specs.Datum.{Datum, named}
use Rattle.pb_value.specs.Reading.{map_ok}
use Rattle.pb_expr_eval.proofs.Members.{Entry}
use Rattle.pb_items.specs.Facts.{facts_of}
use Rattle.pb_items.proofs.facts.facts_in.Given as goal

abbrev pub invariant-loop-name : goal.invariant-loop-name
invariant-loop-name l =
    (done : List Entry) × (l.facts ≡ named (done ++ l.name-iterator)) × IsStrictlySortedBy string_cmp (keys_of (done ++ l.name-iterator))
    × (map (λ (m : List ℕ × Datum). m.0) l.rendered ≡ map (λ (m : Entry). string_bytes m.0) done)
    × (facts_of l.scope l.facts ≡ map_ok (λ xs. l.rendered ++ xs) (facts_of l.scope (named l.name-iterator)))
