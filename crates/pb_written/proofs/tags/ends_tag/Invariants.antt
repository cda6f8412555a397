use Rattle.std.proofs.Common.{◌≡◌, length}
use Rattle.pb_written.specs.Tags.{ends_tag}
use Rattle.pb_written.proofs.tags.ends_tag.Given as goal

abbrev pub invariant-loop-rest : goal.invariant-loop-rest
invariant-loop-rest l = ends_tag l.bytes ≡ ends_tag l.rest

abbrev pub decreases-loop-rest : goal.decreases-loop-rest
decreases-loop-rest l = length l.rest
