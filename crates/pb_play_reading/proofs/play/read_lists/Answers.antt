use Rattle.std.proofs.Common.{◌≡◌, [], Ok, subst}
use Rattle.std.specs.Prelude.{codes}
use Rattle.pb_reading.specs.Ahead.{ahead}
use Rattle.pb_reading.specs.Reading.{Stops, each_of}
use Rattle.pb_role_entries.specs.RoleEntries.{role_entry}
use Rattle.pb_play_reading.specs.NoEffect.{key_or}
use Rattle.pb_play_reading.proofs.Steps.{part_stopped, pre_tasks_stop, roles_stop, manner_stops, tasks_stop, lists_are}
use Rattle.pb_play_reading.proofs.play.read_lists.Goals as goal

pub returns-in_err-pre_tasks-clause-value : goal.returns-in_err-pre_tasks-clause-value
returns-in_err-pre_tasks-clause-value c =
    part_stopped _ c.in_err-pre_tasks.field-0.0 _ _ c.from_residual-in_err-pre_tasks.ensures.1
    (pre_tasks_stop (ahead c.args.keys.now) (ahead c.read_tasks.new.keys) c.in_ok-post_tasks.post_tasks c.in_err-pre_tasks.field-0.0 c.in_ok-post_tasks.ensures.value c.in_err-pre_tasks.ensures.value)

pub returns-in_err-roles-clause-value : goal.returns-in_err-roles-clause-value
returns-in_err-roles-clause-value c =
    part_stopped _ c.in_err-roles.field-0.0 _ _ c.from_residual-in_err-roles.ensures.1
    (
    roles_stop (ahead c.args.keys.now) (ahead c.read_tasks.new.keys) (ahead c.read_tasks-2.new.keys) c.in_ok-post_tasks.post_tasks c.in_ok-pre_tasks.pre_tasks c.in_err-roles.field-0.0
    c.in_ok-post_tasks.ensures.value c.in_ok-pre_tasks.ensures.value
    (subst (λ none. Stops c.in_err-roles.field-0.0 (key_or (codes "roles") (each_of role_entry) none (ahead c.read_tasks-2.new.keys))) c.new.ensures c.in_err-roles.ensures.value)
    )

pub returns-in_err-manner-clause-value : goal.returns-in_err-manner-clause-value
returns-in_err-manner-clause-value c =
    let roles : key_or (codes "roles") (each_of role_entry) [] (ahead c.read_tasks-2.new.keys) ≡ Ok (record { value = c.in_ok-roles.roles; ahead = ahead c.field_or.new.self }) =
    subst (λ none. key_or (codes "roles") (each_of role_entry) none (ahead c.read_tasks-2.new.keys) ≡ Ok (record { value = c.in_ok-roles.roles; ahead = ahead c.field_or.new.self })) c.new.ensures c.in_ok-roles.ensures.value in
    part_stopped _ c.in_err-manner.field-0.0 _ _ c.from_residual-in_err-manner.ensures.1
    (
    manner_stops (ahead c.args.keys.now) (ahead c.read_tasks.new.keys) (ahead c.read_tasks-2.new.keys) (ahead c.field_or.new.self) c.in_ok-post_tasks.post_tasks c.in_ok-pre_tasks.pre_tasks c.in_ok-roles.roles c.in_err-manner.field-0.0
    c.in_ok-post_tasks.ensures.value c.in_ok-pre_tasks.ensures.value roles c.in_err-manner.ensures.value
    )

pub returns-in_err-tasks-clause-value : goal.returns-in_err-tasks-clause-value
returns-in_err-tasks-clause-value c =
    let roles : key_or (codes "roles") (each_of role_entry) [] (ahead c.read_tasks-2.new.keys) ≡ Ok (record { value = c.in_ok-roles.roles; ahead = ahead c.field_or.new.self }) =
    subst (λ none. key_or (codes "roles") (each_of role_entry) none (ahead c.read_tasks-2.new.keys) ≡ Ok (record { value = c.in_ok-roles.roles; ahead = ahead c.field_or.new.self })) c.new.ensures c.in_ok-roles.ensures.value in
    part_stopped _ c.in_err-tasks.field-0.0 _ _ c.from_residual-in_err-tasks.ensures.1
    (
    tasks_stop (ahead c.args.keys.now) (ahead c.read_tasks.new.keys) (ahead c.read_tasks-2.new.keys) (ahead c.field_or.new.self) (ahead c.read_manner.new.keys)
    c.in_ok-post_tasks.post_tasks c.in_ok-pre_tasks.pre_tasks c.in_ok-roles.roles c.in_ok-manner.manner c.in_err-tasks.field-0.0
    c.in_ok-post_tasks.ensures.value c.in_ok-pre_tasks.ensures.value roles c.in_ok-manner.ensures.value c.in_err-tasks.ensures.value
    )

pub returns-clause-value : goal.returns-clause-value
returns-clause-value c =
    let roles : key_or (codes "roles") (each_of role_entry) [] (ahead c.read_tasks-2.new.keys) ≡ Ok (record { value = c.in_ok-roles.roles; ahead = ahead c.field_or.new.self }) =
    subst (λ none. key_or (codes "roles") (each_of role_entry) none (ahead c.read_tasks-2.new.keys) ≡ Ok (record { value = c.in_ok-roles.roles; ahead = ahead c.field_or.new.self })) c.new.ensures c.in_ok-roles.ensures.value in
    lists_are (ahead c.args.keys.now) (ahead c.read_tasks.new.keys) (ahead c.read_tasks-2.new.keys) (ahead c.field_or.new.self) (ahead c.read_manner.new.keys) (ahead c.read_tasks-3.new.keys)
    c.in_ok-post_tasks.post_tasks c.in_ok-pre_tasks.pre_tasks c.in_ok-tasks.tasks c.in_ok-roles.roles c.in_ok-manner.manner
    c.in_ok-post_tasks.ensures.value c.in_ok-pre_tasks.ensures.value roles c.in_ok-manner.ensures.value c.in_ok-tasks.ensures.value
