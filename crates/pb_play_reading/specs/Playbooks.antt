-- The playbook that bytes spell, or the first fault in them.
-- See Ansible's documentation, "Ansible playbooks"; the file is JSON (RFC 8259) in place of YAML.
use Rattle.std.specs.Prelude.{ℕ, ◌+◌, List, [], ◌++◌, Result, Ok, Err, Option, Some, None, nat_lt, decimal, if◌then◌else◌}
use Rattle.serde_json.specs.Data as json
use Rattle.pb_value.specs.Bytes.{json_in}
use Rattle.pb_value.specs.Reading.{below}
use Rattle.pb_reading.specs.Reading.{Reading, Own, wrong, each}
use Rattle.pb_written.specs.Faults.{as_load_fault}
use Rattle.pb_play_reading.specs.Plays.{play, expressions_of_play}
use Rattle.pb_play_reading.specs.Refusals.{Placed, met_behind}
use Rattle.pb_written.specs.declared.fault.LoadFault.{LoadFault}
use Rattle.pb_written.specs.declared.fault.LoadFault.TheVariants as load
use Rattle.pb_written.specs.declared.fault.LoadFault.TheVariants.{TooLarge}
use Rattle.pb_written.specs.declared.fault.Limit.TheVariants.{Plays}
use Rattle.pb_play_reading.specs.declared.play.Play.{Play}
use Rattle.pb_play_reading.specs.declared.playbook.Playbook.{Playbook}

-- how many members a list has
abbrev pub count : json.Items → ℕ
count json.no_items = 0
count (json.item d ds) = count ds + 1

-- a playbook is a list of at most 256 plays
abbrev pub max_plays : ℕ
max_plays = 256

-- the plays of a playbook, or the first fault: where they are too many, none is looked at
abbrev pub plays : json.Data → Reading (List Play) LoadFault
plays (json.array ds) = if nat_lt max_plays (count ds) then Err (Own (TooLarge Plays [])) else each play [] 0 ds
plays d = wrong []

-- what was read as a playbook, or the fault as one of its file
abbrev pub as_playbook : Reading (List Play) LoadFault → Result Playbook LoadFault
as_playbook (Ok ps) = Ok (record { plays = ps })
as_playbook (Err e) = Err (as_load_fault e)

-- the playbook of this JSON, or its first fault; bytes that spell no JSON are a fault
abbrev pub of_json : Option json.Data → Result Playbook LoadFault
of_json None = Err load.NotJson
of_json (Some d) = as_playbook (plays d)

-- the playbook that the bytes spell, or the first fault in them, where every regular expression is taken
unfoldable pub playbook_of : List ℕ → Result Playbook LoadFault
playbook_of bytes = of_json (json_in bytes)

-- the regular expressions that are met in the plays of a list, from the one numbered i on: in their order, up to the first fault
abbrev pub each_expression : List ℕ → ℕ → json.Items → List Placed
each_expression path i json.no_items = []
each_expression path i (json.item d ds) = expressions_of_play (below path (decimal i)) d ++ met_behind (play (below path (decimal i)) d) (λ _. each_expression path (i + 1) ds)

-- those of all plays, up to the first fault; none are met in what is no list, or has too many plays
abbrev pub expressions_of_plays : json.Data → List Placed
expressions_of_plays (json.array ds) = if nat_lt max_plays (count ds) then [] else each_expression [] 0 ds
expressions_of_plays d = []

-- none are met in bytes that spell no JSON
abbrev pub expressions_in : Option json.Data → List Placed
expressions_in None = []
expressions_in (Some d) = expressions_of_plays d

-- those that are met in a playbook
unfoldable pub expressions_of_book : List ℕ → List Placed
expressions_of_book bytes = expressions_in (json_in bytes)
