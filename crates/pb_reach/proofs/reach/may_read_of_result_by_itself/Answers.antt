use Rattle.std.proofs.Common.{sym, ◌∙◌}
use Rattle.pb_items.specs.Loops.{loop_variable}
use Rattle.pb_reach.proofs.Alone.{results_alone}
use Rattle.pb_reach.proofs.reach.may_read_of_result_by_itself.Goals as goal

pub returns-clause-results : goal.returns-clause-results
returns-clause-results c = λ unread start other value attempt item t none same.
    results_alone c.args.word.now c.requires start (rw t (sym c.result_names.ensures ∙ unread)) none other (loop_variable start.task.looped value) attempt item same
