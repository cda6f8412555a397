use Rattle.std.proofs.Common.{◌≡◌, [], Ok, subst, sym}
use Rattle.std.specs.Prelude.{codes}
use Rattle.pb_reading.specs.Ahead.{ahead}
use Rattle.pb_reading.specs.Fields.{field_or}
use Rattle.pb_reading.specs.Reading.{Gives}
use Rattle.pb_written.specs.Conditions.{conditions}
use Rattle.pb_play_reading.specs.Tasks.{tells_of_task}
use Rattle.pb_play_reading.specs.Variables.{variables}
use Rattle.pb_play_reading.proofs.Steps.{stopped, module_stops, task_is}
use Rattle.pb_play_reading.proofs.task.read_last.Goals as goal

pub returns-in_err-module : goal.returns-in_err-module
returns-in_err-module c =
    let vars : field_or tells_of_task (codes "vars") variables [] (ahead c.args.keys) ≡ Ok (record { value = c.in_ok-vars.vars; ahead = ahead c.field_or.new.self }) =
    subst (λ none. field_or tells_of_task (codes "vars") variables none (ahead c.args.keys) ≡ Ok (record { value = c.in_ok-vars.vars; ahead = ahead c.field_or.new.self })) c.new.ensures c.in_ok-vars.ensures.value in
    let asked : field_or tells_of_task (codes "when") conditions [] (ahead c.field_or.new.self) ≡ Ok (record { value = c.in_ok-conditions.conditions; ahead = ahead c.field_or-2.new.self }) =
    subst (λ none. field_or tells_of_task (codes "when") conditions none (ahead c.field_or.new.self) ≡ Ok (record { value = c.in_ok-conditions.conditions; ahead = ahead c.field_or-2.new.self })) c.new-2.ensures c.in_ok-conditions.ensures.value in
    stopped _ c.in_err-module.field-0.0 _ c.from_residual-in_err-module.ensures.1
    (module_stops c.args.path.now c.args.begun (ahead c.args.keys) (ahead c.field_or.new.self) (ahead c.field_or-2.new.self) c.in_ok-vars.vars c.in_ok-conditions.conditions c.in_err-module.field-0.0 vars asked c.in_err-module.ensures)

pub returns : goal.returns
returns c =
    let vars : field_or tells_of_task (codes "vars") variables [] (ahead c.args.keys) ≡ Ok (record { value = c.in_ok-vars.vars; ahead = ahead c.field_or.new.self }) =
    subst (λ none. field_or tells_of_task (codes "vars") variables none (ahead c.args.keys) ≡ Ok (record { value = c.in_ok-vars.vars; ahead = ahead c.field_or.new.self })) c.new.ensures c.in_ok-vars.ensures.value in
    let asked : field_or tells_of_task (codes "when") conditions [] (ahead c.field_or.new.self) ≡ Ok (record { value = c.in_ok-conditions.conditions; ahead = ahead c.field_or-2.new.self }) =
    subst (λ none. field_or tells_of_task (codes "when") conditions none (ahead c.field_or.new.self) ≡ Ok (record { value = c.in_ok-conditions.conditions; ahead = ahead c.field_or-2.new.self })) c.new-2.ensures c.in_ok-conditions.ensures.value in
    subst (Gives c.of.result)
    (sym (task_is c.args.path.now c.args.begun (ahead c.args.keys) (ahead c.field_or.new.self) (ahead c.field_or-2.new.self) c.in_ok-vars.vars c.in_ok-conditions.conditions c.in_ok-module.module vars asked c.in_ok-module.ensures))
    c.of.ensures
