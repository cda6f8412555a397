use Rattle.std.proofs.Common.{◌≡◌, drop, map, string_bytes}
use Rattle.pb_show.specs.Words.{asked}
use Rattle.pb_show.proofs.words.read_words.Given as goal

abbrev pub invariant-loop-i : goal.invariant-loop-i
invariant-loop-i l = asked l.wanted l.i (map string_bytes (drop l.i l.words)) ≡ asked l.fn.look 0 (map string_bytes l.words)
