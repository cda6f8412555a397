-- The groups that an inventory's file mentions.
use Rattle.std.specs.Prelude.{◌≡◌, ◌↔◌, ℕ, List, ◌∷◌, Result, Ok, Err, Option, Some, None}
use Rattle.std.specs.Cmp.Lexicographic.{slice_cmp}
use Rattle.std.specs.List.{Contains}
use Rattle.std.specs.List.Sorted.{IsStrictlySortedBy}
use Rattle.std.specs.Ordering.{nat_cmp}
use Rattle.serde_json.specs.Data as json
use Rattle.pb_value.specs.Bytes.{json_in}
use Rattle.pb_inventory.specs.Graph.{all, ungrouped, mentioned_groups}
use Rattle.pb_inventory.specs.Reading.{file_in}
use Rattle.pb_inventory.specs.declared.listed.FileEntries.{FileEntries}
use Rattle.pb_inventory.specs.declared.fault.InvFault.{InvFault}
use Rattle.pb_inventory.specs.declared.fault.InvFault.TheVariants.{NotJson}

-- what the file says, or the first fault in it
abbrev pub said : Option json.Data → Result FileEntries InvFault
said None = Err NotJson
said (Some d) = file_in d

-- a group that the file mentions: each that is listed, and each child of one; `all` and `ungrouped` always are
abbrev pub IsMentioned : List ℕ → List ℕ → Type 0
IsMentioned bytes name = (file : FileEntries) × (said (json_in bytes) ≡ Ok file) × Contains (all ∷ ungrouped ∷ mentioned_groups file.groups) name

-- the names are those of exactly the groups that the file mentions, in byte order, each once
abbrev pub AreGroupsIn : List ℕ → List (List ℕ) → Type 0
AreGroupsIn bytes names = IsStrictlySortedBy (slice_cmp nat_cmp) names × ((name : List ℕ) → Contains names name ↔ IsMentioned bytes name)
