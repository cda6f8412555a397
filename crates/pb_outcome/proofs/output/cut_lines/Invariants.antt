use Rattle.std.proofs.Common.{◌≡◌, ◌++◌, length, map}
use Rattle.std.specs.List.{slice_split}
use Rattle.std.specs.Str.{IsUtf8}
use Rattle.pb_value.specs.Datum.{text}
use Rattle.pb_outcome.specs.Output.{is_newline}
use Rattle.pb_outcome.proofs.output.cut_lines.Given as goal

abbrev pub invariant-loop-line : goal.invariant-loop-line
invariant-loop-line l =
    (map text (slice_split is_newline l.text) ≡ l.lines.items ++ map text (slice_split is_newline l.rest)) × IsUtf8 l.rest

abbrev pub decreases-loop-line : goal.decreases-loop-line
decreases-loop-line l = length l.rest
