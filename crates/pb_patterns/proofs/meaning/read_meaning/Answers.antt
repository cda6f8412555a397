use Rattle.std.proofs.Common.{sym, ◌∙◌}
use Rattle.pb_patterns.proofs.Faults.{regex_cut}
use Rattle.pb_patterns.proofs.Firsts.{regex_taken, regex_met}
use Rattle.pb_patterns.proofs.meaning.read_meaning.Goals as goal

pub range_from-requires : goal.range_from-requires
range_from-requires c = λ some. regex_cut c.args.text.now c.as_bytes.result.now c.as_bytes.ensures.value c.as_bytes.ensures.utf8 (sym c.is_regex.ensures ∙ c.if-is_regex.true)

pub returns-then-is_regex-clause-taken : goal.returns-then-is_regex-clause-taken
returns-then-is_regex-clause-taken c =
    regex_taken c.args.text.now c.as_bytes.result.now c.range_from.result.now c.regex_meaning.result c.as_bytes.ensures.value (sym c.is_regex.ensures ∙ c.if-is_regex.true)
    c.range_from.ensures.value c.regex_meaning.ensures.taken

pub returns-then-is_regex-clause-fault : goal.returns-then-is_regex-clause-fault
returns-then-is_regex-clause-fault c =
    regex_met c.args.text.now c.as_bytes.result.now c.range_from.result.now c.regex_meaning.result c.as_bytes.ensures.value (sym c.is_regex.ensures ∙ c.if-is_regex.true)
    c.range_from.ensures.value c.regex_meaning.ensures.fault
