use Rattle.std.proofs.Common.{◌≡◌, ◌++◌, drop, string_bytes}
use Rattle.pb_play_reading.specs.Hosts.{behind_commas}
use Rattle.pb_play_reading.proofs.hosts.with_others.Given as goal

abbrev pub invariant-loop-other : goal.invariant-loop-other
invariant-loop-other l = l.fn.first ++ behind_commas l.others ≡ string_bytes l.text ++ behind_commas (drop l.other-index l.others)
