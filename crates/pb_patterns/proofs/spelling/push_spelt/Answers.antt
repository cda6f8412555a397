use Rattle.std.proofs.Common.{ap, ◌∙◌}
use Rattle.pb_patterns.specs.Cutting.{piece_size}
use Rattle.pb_patterns.proofs.Trimming.{piece_cut, behind_cut, ends_whole, goes_on, not_whole}
use Rattle.pb_patterns.proofs.spelling.push_spelt.Goals as goal

pub range-requires-clause-end_boundary : goal.range-requires-clause-end_boundary
range-requires-clause-end_boundary c = piece_cut c.loop-rest.rest.now c.piece_size-size.result (c.piece_size-size.ensures ∙ ap (piece_size 0) c.as_bytes.ensures.value)

pub range_from-rest-requires : goal.range_from-rest-requires
range_from-rest-requires c =
    let is = c.piece_size-size.ensures ∙ ap (piece_size 0) c.as_bytes.ensures.value in
    λ some. behind_cut c.loop-rest.rest.now c.as_bytes.result.now c.piece_size-size.result c.as_bytes.ensures.value c.as_bytes.ensures.utf8 is (not_whole c.loop-rest.rest.now _ is c.if-size-rest.false)

pub returns-then-size-rest : goal.returns-then-size-rest
returns-then-size-rest c =
    ends_whole c.args.to.now.items c.loop-rest.to.items c.push_text.new.to.items c.args.pattern.now c.loop-rest.rest.now c.range.result.now c.piece_size-size.result
    (c.piece_size-size.ensures ∙ ap (piece_size 0) c.as_bytes.ensures.value) c.if-size-rest.true c.range.ensures.value c.in_ok-push_text.ensures c.loop-rest.invariant.0

pub loop-rest-preserved : goal.loop-rest-preserved
loop-rest-preserved c =
    let is = c.piece_size-size.ensures ∙ ap (piece_size 0) c.as_bytes.ensures.value in (
      goes_on c.args.to.now.items c.loop-rest.to.items c.push_text.new.to.items c.args.pattern.now c.loop-rest.rest.now c.range.result.now c.range_from-rest.result.now c.piece_size-size.result
          is (not_whole c.loop-rest.rest.now _ is c.if-size-rest.false) c.range.ensures.value c.range_from-rest.ensures.value c.in_ok-push_text.ensures c.loop-rest.invariant.0,
      c.range_from-rest.utf8,
    )
