use Rattle.std.proofs.Common.{◌≡◌, drop}
use Rattle.std.specs.List.{list_any}
use Rattle.pb_play_reading.specs.Hosts.{has_braces}
use Rattle.pb_play_reading.proofs.hosts.some_has_braces.Given as goal

abbrev pub invariant-loop-text : goal.invariant-loop-text
invariant-loop-text l = list_any has_braces l.texts ≡ list_any has_braces (drop l.text-index l.texts)
