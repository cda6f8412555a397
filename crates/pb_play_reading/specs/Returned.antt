-- What a reader of a node returned.
use Rattle.std.specs.Prelude.{◌≡◌, Result, Ok, Err}
use Rattle.pb_reading.specs.Reading.{Reading, Stops}
use Rattle.pb_reading.specs.declared.stop.Stop.{Stop}
use Rattle.pb_written.specs.declared.fault.LoadFault.{LoadFault}
use Rattle.pb_play.specs.Nodes.{Written, Nothing}
use Rattle.pb_play.specs.View.{node_of}
use Rattle.pb_play.specs.declared.node.Node.{Node}

-- what a reader of one node returned is what its definition gives, unless memory ran out
abbrev pub IsRead : Result Node (Stop LoadFault) → Reading Written LoadFault → Type 0
IsRead (Ok n) r = r ≡ Ok (node_of n Nothing)
IsRead (Err e) r = Stops e r
