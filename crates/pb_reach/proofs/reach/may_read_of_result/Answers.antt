use Rattle.std.proofs.Common.{sym, ◌∙◌}
use Rattle.pb_items.specs.Loops.{loop_variable}
use Rattle.pb_reach.proofs.SameAttempts.{attempts_same}
use Rattle.pb_reach.proofs.reach.may_read_of_result.Goals as goal

pub returns-clause-results : goal.returns-clause-results
returns-clause-results c = λ unread start other value attempt item t l same.
    attempts_same c.args.word.now c.requires start (rw (t, l) (sym c.reads_of_result.ensures ∙ unread)) other (loop_variable start.task.looped value) attempt item same
