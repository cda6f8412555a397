-- What the program writes to standard error.
use Rattle.std.specs.Prelude.{◌≡◌, ◌⊎◌, ℕ, Bool, List, [], ◌∷◌, ◌++◌, Option, Some, None, codes}
use Rattle.pb_planning.specs.declared.bundle.BundleFault.{BundleFault}
use Rattle.pb_planning.specs.declared.bundle.BundleFault.TheVariants as bundle
use Rattle.pb_cli.specs.Places.{place_if}
use Rattle.pb_cli.specs.World.{Stream, IsPut}
use Rattle.pb_cli.specs.declared.messages.Part.{Part}
use Rattle.pb_cli.specs.declared.messages.Part.TheVariants.{Words, File, Bundle, Inventory, Extra, Playbook, Limit, Roles, Outcomes, Trail, Run}

-- the part of the program's work that a fault belongs to
abbrev pub part_name : Part → List ℕ
part_name Words = codes "words"
part_name File = codes "file"
part_name Bundle = codes "bundle"
part_name Inventory = codes "inventory"
part_name Extra = codes "extra"
part_name Playbook = codes "playbook"
part_name Limit = codes "limit"
part_name Roles = codes "roles"
part_name Outcomes = codes "outcomes"
part_name Trail = codes "trail"
part_name Run = codes "run"

-- a fault of a part, with a line end
abbrev pub message : Part → List ℕ → List ℕ
message part fault = codes "pb-play: " ++ part_name part ++ codes ": " ++ fault ++ 10 ∷ []

-- the fault of the file at this path, with what the system says of it
abbrev pub file_message : (path said : List ℕ) → List ℕ
file_message path said = message File (path ++ codes ": " ++ said)

-- a place, on a line of its own
abbrev pub place_line : Option (List ℕ) → List ℕ
place_line None = []
place_line (Some place) = codes "at " ++ place ++ 10 ∷ []

-- a fault of a part, and behind it its place, if that is said
abbrev pub placed_message : Part → (said : List ℕ) → (place : Option (List ℕ)) → List ℕ
placed_message part said place = message part said ++ place_line place

-- the part that a bundle's fault belongs to
abbrev pub part_of : BundleFault → Part
part_of (bundle.Inventory fault) = Inventory
part_of (bundle.Playbook fault) = Playbook
part_of (bundle.Roles fault) = Roles
part_of (bundle.Limit fault) = Limit
part_of (bundle.Extra fault) = Extra
part_of bundle.BadForks = Bundle
part_of bundle.TooLarge = Bundle
part_of bundle.Memory = Bundle

-- how a fault of a bundle is reported: what is said of it, and then its place, where that is asked for and there is one
abbrev pub IsBundleMessage : (places : Bool) → BundleFault → List ℕ → Type 0
IsBundleMessage places fault text = (said : List ℕ) × (text ≡ placed_message (part_of fault) said (place_if places fault))

-- it was written whole, or a part of it, behind which the writer failed; or nothing was written, where memory was refused
abbrev pub IsBundleReported : (places : Bool) → BundleFault → (before after : Stream) → Type 0
IsBundleReported places fault before after = ((text : List ℕ) × IsBundleMessage places fault text × IsPut text before after) ⊎ (after.taken ≡ before.taken)
