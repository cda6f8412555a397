use Rattle.std.proofs.Common.{sym, ◌∙◌}
use Rattle.pb_patterns.proofs.Trimming.{front_cut}
use Rattle.pb_patterns.proofs.spelling.front_trimmed.Goals as goal

pub range_from-rest-requires : goal.range_from-rest-requires
range_from-rest-requires c =
    λ some. front_cut c.loop-rest.rest.now c.as_bytes.result.now c.as_bytes.ensures.value c.as_bytes.ensures.utf8 (sym c.begins_with_space.ensures ∙ c.loop-rest-test.true)
