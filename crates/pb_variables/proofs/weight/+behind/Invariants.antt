use Rattle.std.proofs.Common.{◌≡◌, ◌≤◌, ◌+◌, drop}
use Rattle.pb_value.specs.Datum.{items_of, members_of, members_nodes, named}
use Rattle.pb_variables.specs.Weight.{items_weight, members_weight}
use Rattle.pb_variables.proofs.weight.+behind.Given as goal

abbrev pub invariant-behind_list-loop-value : goal.invariant-behind_list-loop-value
invariant-behind_list-loop-value l = l.left + items_weight (items_of l.list) ≡ l.fn.room + items_weight (items_of (drop l.value-index l.value-items))

abbrev pub invariant-behind_dict-loop-name : goal.invariant-behind_dict-loop-name
invariant-behind_dict-loop-name l =
    (l.left + members_weight (members_of l.dict) ≡ l.fn.room + members_weight (members_of (named l.name-iterator))) × (members_nodes (members_of (named l.name-iterator)) ≤ members_nodes (members_of l.dict))
