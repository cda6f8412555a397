-- The sizes of a play's batches. See Ansible's documentation, "Controlling playbook execution: strategies and more", "Setting the batch size with serial".
use Rattle.std.specs.Prelude.{ℕ, List, [], ◌∷◌, Ok, Err, Option, Some, None, option_map, pos}
use Rattle.serde_json.specs.Data as json
use Rattle.serde_json.specs.Find.{as_i64}
use Rattle.pb_value.specs.Reading.{map_ok}
use Rattle.pb_batches.specs.declared.serial.Entry.{Entry}
use Rattle.pb_batches.specs.declared.serial.Entry.TheVariants.{Number, Percent}
use Rattle.pb_batches.specs.declared.serial.Serial.{Serial}
use Rattle.pb_patterns.specs.Subscripts.{before, behind, number}
use Rattle.pb_reading.specs.Reading.{Reading, Own, each}
use Rattle.pb_written.specs.declared.fault.LoadFault.{LoadFault}
use Rattle.pb_written.specs.declared.fault.LoadFault.TheVariants.{BadSerial}

-- so many hosts, or so many hundredths of them, by one to nine digits
abbrev pub hosts_of : List ℕ → Option Entry
hosts_of digits = option_map (λ hosts. Number (pos hosts)) (number digits)

abbrev pub part_of : List ℕ → Option Entry
part_of digits = option_map Percent (number digits)

-- what stands in front of the first `%` of a text, and behind it, where there is one: that has to be its end
abbrev pub sized : List ℕ → Option (List ℕ) → Option Entry
sized front None = hosts_of front
sized front (Some []) = part_of front
sized front (Some (b ∷ bs)) = None

-- a text spells the size of a batch by digits, perhaps with `%` behind them
abbrev pub entry_of : List ℕ → Option Entry
entry_of bs = sized (before 37 bs) (behind 37 bs)

-- a whole number, which may be 0 or less, or what a text spells; all else is no size
abbrev pub entry_in : json.Data → Option Entry
entry_in json.null = None
entry_in (json.boolean b) = None
entry_in (json.number n) = option_map Number (as_i64 n)
entry_in (json.string s) = entry_of s
entry_in (json.array ds) = None
entry_in (json.object ms) = None

-- whatever is no size, of whatever kind it is
abbrev pub sure : List ℕ → Option Entry → Reading Entry LoadFault
sure path (Some e) = Ok e
sure path None = Err (Own (BadSerial path))

-- the size that stands at a path
abbrev pub entry : List ℕ → json.Data → Reading Entry LoadFault
entry path d = sure path (entry_in d)

-- the sizes in their order
abbrev pub sizes : List Entry → Serial
sizes entries = record { entries = entries }

-- a size alone holds for all batches
abbrev pub serial : List ℕ → json.Data → Reading Serial LoadFault
serial path (json.array ds) = map_ok sizes (each entry path 0 ds)
serial path d = map_ok (λ e. sizes (e ∷ [])) (entry path d)
