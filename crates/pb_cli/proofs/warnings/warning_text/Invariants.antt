use Rattle.std.proofs.Common.{◌≡◌, take, string_bytes}
use Rattle.pb_cli.specs.Warned.{warning_text}
use Rattle.pb_cli.proofs.warnings.warning_text.Given as goal

abbrev pub invariant-loop-line : goal.invariant-loop-line
invariant-loop-line l = string_bytes l.text ≡ warning_text (take l.line-index l.lines)
