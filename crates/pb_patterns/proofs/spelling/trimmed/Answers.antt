use Rattle.std.proofs.Common.{ap, sym, ◌∙◌, subst}
use Rattle.std.specs.Str.{IsCharBoundary}
use Rattle.pb_patterns.specs.Spelling.{end_size}
use Rattle.pb_patterns.proofs.Trimming.{end_cut}
use Rattle.pb_patterns.proofs.spelling.trimmed.Goals as goal

pub range-requires-clause-end_boundary : goal.range-requires-clause-end_boundary
range-requires-clause-end_boundary c =
    subst (IsCharBoundary c.front_trimmed-rest.result.now) (sym (c.end_size-size.ensures ∙ ap end_size c.as_bytes.ensures.value)) (end_cut c.front_trimmed-rest.result.now)
