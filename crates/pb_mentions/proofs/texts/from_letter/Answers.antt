use Rattle.std.proofs.Common.{ap, sym, ◌∙◌}
use Rattle.pb_mentions.specs.Mentions.{has_inside}
use Rattle.pb_mentions.proofs.Inside.{inside_at, inside_none}
use Rattle.pb_mentions.proofs.texts.from_letter.Goals as goal

pub returns-in-Some-clause-same : goal.returns-in-Some-clause-same
returns-in-Some-clause-same c =
    inside_at c.args.word.now c.args.bytes.now c.in-Some.at c.in-len1-up.len_at_least c.in-Some.ensures ∙ ap (has_inside c.args.word.now) (sym c.rest_from.ensures)

pub returns-in-None-clause-same : goal.returns-in-None-clause-same
returns-in-None-clause-same c = inside_none c.args.word.now c.args.bytes.now c.in-len1-up.len_at_least c.in-None.ensures
