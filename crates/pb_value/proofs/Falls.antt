-- Each entry that is left of a dict holds a value that is smaller than the dict.
use Rattle.std.proofs.Common.{◌≡◌, ℕ, zero, suc, ◌+◌, ◌<◌, ◌≤◌, List, [], ◌∷◌, ◌++◌, length, map, Some, String, Global, string_bytes, sym, ap, subst, ◌∙◌, arith}
use Rattle.pb_value.specs.Datum.{Datum, nodes, members_nodes, members_of, named}
use Rattle.std.specs.Prelude.{slice_get}
use Rattle.pb_value.proofs.Named.{named-append}
use Rattle.pb_value.specs.KeptSize.{kept_all}
use Rattle.pb_value.specs.Names.{kept}

pub entry_falls : (all : List (List ℕ × Datum)) (left rest : List (String Global × Datum)) (e : String Global × Datum) → members_nodes (members_of (named left)) ≤ members_nodes (members_of all) → left ≡ e ∷ rest
    → nodes e.1 < members_nodes (members_of all) + 1
entry_falls all left rest e h s =
    let here : members_nodes (members_of (named left)) ≡ nodes e.1 + members_nodes (members_of (named rest)) = ap (λ (es : List (String Global × Datum)). members_nodes (members_of (named es))) s in
    omega (arith, h, here)

-- and so do those behind it
pub rest_falls : (all : List (List ℕ × Datum)) (left rest : List (String Global × Datum)) (e : String Global × Datum) → members_nodes (members_of (named left)) ≤ members_nodes (members_of all) → left ≡ e ∷ rest
    → members_nodes (members_of (named rest)) ≤ members_nodes (members_of all)
rest_falls all left rest e h s =
    let here : members_nodes (members_of (named left)) ≡ nodes e.1 + members_nodes (members_of (named rest)) = ap (λ (es : List (String Global × Datum)). members_nodes (members_of (named es))) s in
    omega (arith, h, here)

-- ---- where it is known which entries stand before those that are left
nodes_in : (done more : List (List ℕ × Datum)) (m : List ℕ × Datum) → nodes m.1 ≤ members_nodes (members_of (done ++ m ∷ more))
nodes_in [] more m = omega arith
nodes_in (d ∷ done) more m = omega (arith, nodes_in done more m)

pub left_falls : (all done : List (List ℕ × Datum)) (left rest : List (String Global × Datum)) (e : String Global × Datum) → all ≡ done ++ named left → left ≡ e ∷ rest → nodes e.1 < members_nodes (members_of all) + 1
left_falls all done left rest e a s =
    let whole : all ≡ done ++ named (e ∷ rest) = a ∙ ap (λ (es : List (String Global × Datum)). done ++ named es) s in
    let within : nodes e.1 ≤ members_nodes (members_of all) = subst (λ (ms : List (List ℕ × Datum)). nodes e.1 ≤ members_nodes (members_of ms)) (sym whole) (nodes_in done (named rest) (string_bytes e.0, e.1)) in
    omega (arith, within)

pub named_falls : (all : List (List ℕ × Datum)) (done left rest : List (String Global × Datum)) (e : String Global × Datum) → all ≡ named (done ++ left) → left ≡ e ∷ rest → nodes e.1 < members_nodes (members_of all) + 1
named_falls all done left rest e a s = left_falls all (named done) left rest e (a ∙ named-append done left) s

-- ---- where the names are kept for many
value_in : (es : List (String Global × Datum)) (at : ℕ) (d : Datum) → slice_get (map (λ (e : String Global × Datum). e.1) es) at ≡ Some d → nodes d ≤ members_nodes (members_of (named es))
value_in [] at d is = absurd (cc)
value_in (e ∷ es) zero d is = let same : nodes e.1 ≡ nodes d = (let first : e.1 ≡ d = cc in ap nodes first) in omega (arith, same)
value_in (e ∷ es) (suc at) d is = omega (arith, value_in es at d is)

pub kept_falls : (gone : ℕ) (ns : List (String Global)) (ds : List Datum) (at : ℕ) (d : Datum) → length ds ≡ length (kept gone ns ds) → slice_get ds at ≡ Some d → nodes d < members_nodes (members_of (named (kept gone ns ds))) + 1
kept_falls gone ns ds at d whole is =
    let found = subst (λ (xs : List Datum). slice_get xs at ≡ Some d) (sym (kept_all gone ns ds whole)) is in
    omega (arith, value_in (kept gone ns ds) at d found)
