use Rattle.std.proofs.Common.{◌≡◌, drop}
use Rattle.pb_roles.specs.Files.{file_at}
use Rattle.pb_roles.proofs.files.file_at.Given as goal

abbrev pub invariant-loop-file : goal.invariant-loop-file
invariant-loop-file l = file_at l.path l.files ≡ file_at l.path (drop l.file-index l.files)
