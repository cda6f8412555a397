-- The values of a list, and the name that a loop's list is found under, by the parts of its text.
use Rattle.std.proofs.Common.{◌≡◌, List, Some, ap}
use Rattle.pb_value.specs.Datum.{Datum, null, boolean, int, text, list, dict, items_of}
use Rattle.pb_value.proofs.Lists.{list_of-items_of}
use Rattle.pb_template.specs.Parts.{single_of}
use Rattle.pb_template.specs.declared.template.Part.{Part}
use Rattle.pb_prepared.specs.Parts.{parts_of}
use Rattle.pb_items.specs.Loops.{within_items, values_in, name_by, name_in, name_over}

pub of_list : (values : List Datum) → values_in (list (items_of values)) ≡ within_items values
of_list values = ap within_items (list_of-items_of values)

pub name_by_parts : (over : Datum) (parts : List Part) → parts_of over ≡ Some parts → name_over over ≡ name_by (single_of parts)
name_by_parts null parts e = cc
name_by_parts (boolean b) parts e = cc
name_by_parts (int z) parts e = cc
name_by_parts (text s) parts e = ap name_in e
name_by_parts (list ds) parts e = cc
name_by_parts (dict ms) parts e = cc
