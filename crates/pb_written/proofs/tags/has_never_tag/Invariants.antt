use Rattle.std.proofs.Common.{◌≡◌, true, length}
use Rattle.pb_written.specs.Tags.{never_from}
use Rattle.pb_written.proofs.tags.has_never_tag.Given as goal

abbrev pub invariant-loop-rest : goal.invariant-loop-rest
invariant-loop-rest l = never_from true l.text ≡ never_from l.begins l.rest

abbrev pub decreases-loop-rest : goal.decreases-loop-rest
decreases-loop-rest l = length l.rest
