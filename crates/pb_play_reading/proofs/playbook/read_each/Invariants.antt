use Rattle.std.proofs.Common.{drop}
use Rattle.serde_json.specs.View.{items_view}
use Rattle.pb_reading.specs.Reading.{each}
use Rattle.pb_play_reading.specs.Plays.{play}
use Rattle.pb_play_reading.specs.Playbooks.{each_expression}
use Rattle.pb_play_reading.proofs.Refusals.{IsRest}
use Rattle.pb_play_reading.proofs.Refusable.{rest_of}
use Rattle.pb_play_reading.proofs.playbook.read_each.Given as goal

abbrev pub invariant-loop-i : goal.invariant-loop-i
invariant-loop-i l =
    IsRest (each_expression l.fn.path 0 (items_view l.items)) (each play l.fn.path 0 (items_view l.items)) (each_expression l.fn.path l.i (items_view (drop l.i l.items)))
    (rest_of l.fn.path l.i (items_view (drop l.i l.items)) l.read.items)
