use Rattle.std.proofs.Common.{◌≡◌, [], Ok, subst, sym}
use Rattle.std.specs.Prelude.{codes}
use Rattle.pb_reading.specs.Ahead.{ahead}
use Rattle.pb_reading.specs.Reading.{Gives, Stops}
use Rattle.pb_play_reading.specs.NoEffect.{key_or}
use Rattle.pb_play_reading.specs.Variables.{variables}
use Rattle.pb_play_reading.proofs.Steps.{stopped, after_stops, variables_stop, others_stop, play_is}
use Rattle.pb_play_reading.proofs.play.read_rest.Goals as goal

pub returns-in_err-after : goal.returns-in_err-after
returns-in_err-after c =
    stopped _ c.in_err-after.field-0.0 _ c.from_residual.ensures.1
    (after_stops c.args.path.now c.args.up_to_hosts.before c.args.up_to_hosts.hosts (ahead c.args.keys) c.in_err-after.field-0.0 c.in_err-after.ensures.value)

pub returns-in_err-vars : goal.returns-in_err-vars
returns-in_err-vars c =
    stopped _ c.in_err-vars.field-0.0 _ c.from_residual-in_err-vars.ensures.1
    (
    variables_stop c.args.path.now c.args.up_to_hosts.before c.args.up_to_hosts.hosts (ahead c.args.keys) (ahead c.read_after_hosts.new.keys) c.in_ok-after.after c.in_err-vars.field-0.0 c.in_ok-after.ensures.value
    (subst (λ none. Stops c.in_err-vars.field-0.0 (key_or (codes "vars") variables none (ahead c.read_after_hosts.new.keys))) c.new.ensures c.in_err-vars.ensures.value)
    )

pub returns-in_err-others : goal.returns-in_err-others
returns-in_err-others c =
    let vars : key_or (codes "vars") variables [] (ahead c.read_after_hosts.new.keys) ≡ Ok (record { value = c.in_ok-vars.vars; ahead = ahead c.field_or.new.self }) =
    subst (λ none. key_or (codes "vars") variables none (ahead c.read_after_hosts.new.keys) ≡ Ok (record { value = c.in_ok-vars.vars; ahead = ahead c.field_or.new.self })) c.new.ensures c.in_ok-vars.ensures.value in
    stopped _ c.in_err-others.field-0.0 _ c.from_residual-in_err-others.ensures.1
    (others_stop c.args.path.now c.args.up_to_hosts.before c.args.up_to_hosts.hosts (ahead c.args.keys) (ahead c.read_after_hosts.new.keys) (ahead c.field_or.new.self) c.in_ok-after.after _ c.in_err-others.field-0.0 c.in_ok-after.ensures.value vars c.in_err-others.ensures)

pub returns : goal.returns
returns c =
    let vars : key_or (codes "vars") variables [] (ahead c.read_after_hosts.new.keys) ≡ Ok (record { value = c.in_ok-vars.vars; ahead = ahead c.field_or.new.self }) =
    subst (λ none. key_or (codes "vars") variables none (ahead c.read_after_hosts.new.keys) ≡ Ok (record { value = c.in_ok-vars.vars; ahead = ahead c.field_or.new.self })) c.new.ensures c.in_ok-vars.ensures.value in
    subst (Gives c.finish.result)
    (sym (play_is c.args.path.now c.args.up_to_hosts.before c.args.up_to_hosts.hosts (ahead c.args.keys) (ahead c.read_after_hosts.new.keys) (ahead c.field_or.new.self) _ c.in_ok-after.after _ _ c.in_ok-after.ensures.value vars c.in_ok-others.ensures))
    c.finish.ensures
