use Rattle.std.proofs.Common.{sym}
use Rattle.clap.specs.Words.{found_of, first_value}
use Rattle.pb_command_line.proofs.Parsed.{asked_for}
use Rattle.pb_command_line.proofs.words.request_in.Goals as goal

pub returns-clause-value : goal.returns-clause-value
returns-clause-value c =
    asked_for (first_value (found_of c.args.matches.now)) c.in-Some.inventory.now c.in-Some-get_str.playbook.now c.in_ok-texts.texts c.in_ok-numbers.numbers c.flags_in.result c.asked.result
    (sym c.in-Some.ensures) (sym c.in-Some-get_str.ensures) c.in_ok-numbers.ensures.value c.in_ok-texts.ensures c.flags_in.ensures c.asked.ensures
