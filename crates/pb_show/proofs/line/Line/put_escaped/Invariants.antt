use Rattle.std.proofs.Common.{◌≡◌, ◌++◌, length, drop}
use Rattle.std.specs.Str.{chars}
use Rattle.pb_show.specs.Escaped.{shown_chars}
use Rattle.pb_show.proofs.line.Line.put_escaped.Given as goal

abbrev pub invariant-loop-c : goal.invariant-loop-c
invariant-loop-c l = l.self ++ shown_chars (drop (length l.yielded) (chars l.text)) ≡ l.fn.self ++ shown_chars (chars l.text)
