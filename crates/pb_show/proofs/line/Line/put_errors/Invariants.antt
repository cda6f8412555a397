use Rattle.std.proofs.Common.{◌≡◌, ◌++◌, drop}
use Rattle.pb_show.specs.Results.{error_lines}
use Rattle.pb_show.proofs.line.Line.put_errors.Given as goal

abbrev pub invariant-loop-error : goal.invariant-loop-error
invariant-loop-error l = l.self ++ error_lines (drop l.error-index l.errors) ≡ l.fn.self ++ error_lines l.errors
