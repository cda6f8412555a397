-- A dict is larger than each value within it.
use Rattle.std.specs.Prelude.{◌≡◌, ◌+◌, ◌≤◌, List, length, map, String}
use Rattle.std.specs.declared.alloc.Global.{Global}
use Rattle.std.proofs.Common.{subst, arith}
use denote.Param.Weighed.{most}
use Rattle.pb_value.specs.Datum.{Datum, nodes, members_nodes, members_of, named}
use Rattle.pb_value.specs.Held.{held, values_in}
use Rattle.pb_value.specs.KeptSize.{kept_all}
use Rattle.pb_value.specs.Names.{kept}
use Rattle.pb_value.specs.Size.{most-members, most-pairs}
use Rattle.pb_value.specs.declared.val.Dict.TheDeep.{deep-Store}
use Rattle.pb_value.specs.declared.val.Dict.TheShapes.{weighed-Store-Few-0}
use Rattle.pb_value.specs.declared.val.Store.{Store}
use Rattle.pb_value.specs.declared.val.Store.TheVariants.{Few, Many, Named}

-- no value in a store is larger than the entries together, where each value that it has stands among these
pub store_falls : (s : Store) → values_in s ≡ length (held s) → deep-Store s ≤ members_nodes (members_of (named (held s))) + 1
store_falls (Few row) e =
    let row_falls : weighed-Store-Few-0.weight Datum (λ d. nodes d + 1) row ≤ members_nodes (members_of (named row.items)) + 1 = most-pairs row.items in
    omega (arith, row_falls)
store_falls (Many map) e = omega (arith, most-members map.entries)
store_falls (Named names values gone) e =
    let es : List (String Global × Datum) = kept gone names values.value.items in
    let kept_fall : most (λ d. nodes d + 1) values.value.items ≤ members_nodes (members_of (named es)) + 1 =
    subst (λ (ds : List Datum). most (λ d. nodes d + 1) ds ≤ members_nodes (members_of (named es)) + 1) (kept_all gone names values.value.items e) (most-members es) in
    omega (arith, kept_fall)
