-- How large the store of a dict is at most.
use Rattle.std.specs.Prelude.{◌≡◌, ◌+◌, ◌*◌, ◌≤◌, List, length, String}
use Rattle.std.specs.declared.alloc.Global.{Global}
use Rattle.std.proofs.Common.{subst, arith}
use denote.Param.Weighed.{most}
use Rattle.pb_value.specs.Datum.{Datum, nodes, members_nodes, members_of, named}
use Rattle.pb_value.specs.Held.{held, values_in}
use Rattle.pb_value.specs.KeptSize.{kept_all}
use Rattle.pb_value.specs.Names.{kept}
use Rattle.pb_value.specs.Size.{most-members, most-pairs}
use Rattle.pb_value.specs.declared.val.Dict.TheDeep.{size-Store}
use Rattle.pb_value.specs.declared.val.Dict.TheShapes.{weighed-Store-Few-0}
use Rattle.pb_value.specs.declared.val.Store.{Store}
use Rattle.pb_value.specs.declared.val.Store.TheVariants.{Few, Many, Named}

-- a store is at most 3 larger than twice its entries together, where each value that it has stands among these
pub store_size : (s : Store) → values_in s ≡ length (held s) → size-Store s ≤ 2 * members_nodes (members_of (named (held s))) + 3
store_size (Few row) e =
    let row_falls : weighed-Store-Few-0.weight Datum (λ d. nodes d + 1) row ≤ members_nodes (members_of (named row.items)) + 1 = most-pairs row.items in
    omega (arith, row_falls)
store_size (Many tree) e = omega (arith, most-members tree.entries)
store_size (Named names values gone) e =
    let es : List (String Global × Datum) = kept gone names values.value.items in
    let kept_fall : most (λ d. nodes d + 1) values.value.items ≤ members_nodes (members_of (named es)) + 1 =
    subst (λ (ds : List Datum). most (λ d. nodes d + 1) ds ≤ members_nodes (members_of (named es)) + 1) (kept_all gone names values.value.items e) (most-members es) in
    omega (arith, kept_fall)
