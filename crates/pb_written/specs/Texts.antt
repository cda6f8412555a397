-- Texts in a row, of which one may stand alone.
use Rattle.std.specs.Prelude.{ℕ, List, [], ◌∷◌, Ok}
use Rattle.serde_json.specs.Data as json
use Rattle.pb_reading.specs.Reading.{Reading, wrong, each}
use Rattle.pb_reading.specs.Simple.{text}
use Rattle.pb_written.specs.declared.fault.LoadFault.{LoadFault}

-- a text, or a list of texts
abbrev pub texts : List ℕ → json.Data → Reading (List (List ℕ)) LoadFault
texts path (json.string s) = Ok (s ∷ [])
texts path (json.array ds) = each text path 0 ds
texts path d = wrong path
