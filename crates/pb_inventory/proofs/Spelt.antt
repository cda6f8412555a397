-- What bytes spell that are JSON.
use Rattle.std.proofs.Common.{◌≡◌, ℕ, List, Some, ap}
use Rattle.serde_json.specs.Data as json
use Rattle.pb_value.specs.Bytes.{json_in}
use Rattle.pb_value.specs.Reading.{and_then}
use Rattle.pb_inventory.specs.Reading.{inventory_of, of_json, file_in, limited}

pub spelt_is : (bytes : List ℕ) (d : json.Data) → json_in bytes ≡ Some d → inventory_of bytes ≡ and_then (file_in d) limited
unfolding inventory_of
spelt_is bytes d is = ap of_json is
