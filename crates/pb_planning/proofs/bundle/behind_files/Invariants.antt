use Rattle.std.proofs.Common.{◌≡◌, ◌+◌, drop}
use Rattle.pb_planning.specs.Bundle.{role_bytes}
use Rattle.pb_planning.proofs.bundle.behind_files.Given as goal

abbrev pub invariant-loop-file : goal.invariant-loop-file
invariant-loop-file l = l.left + role_bytes l.files ≡ l.fn.bytes + role_bytes (drop l.file-index l.files)
