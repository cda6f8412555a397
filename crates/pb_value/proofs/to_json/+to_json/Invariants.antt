use Rattle.std.proofs.Common.{◌≡◌, List, ◌++◌, take, map, string_cmp}
use Rattle.std.specs.List.Sorted.{IsStrictlySortedBy}
use Rattle.std.specs.Map.{keys_of}
use Rattle.serde_json.specs.View.{view, members_view}
use Rattle.pb_value.specs.Datum.{named, members_of}
use Rattle.pb_value.specs.ToJson.{json_of, members_json}
use Rattle.pb_value.proofs.Same.{Entry}
use Rattle.pb_value.proofs.to_json.+to_json.Given as goal

abbrev pub invariant-dict_json-loop-key : goal.invariant-dict_json-loop-key
invariant-dict_json-loop-key l =
    (done : List Entry) × (l.dict ≡ named (done ++ l.key-iterator)) × IsStrictlySortedBy string_cmp (keys_of (done ++ l.key-iterator))
    × (members_view l.members.entries ≡ members_json (members_of (named done)))

abbrev pub invariant-list_json-loop-item : goal.invariant-list_json-loop-item
invariant-list_json-loop-item l = map view l.values.items ≡ map json_of (take l.item-index l.item-items)
