-- Two keys, one behind the other.
use Rattle.std.proofs.Common.{◌≡◌, [], Ok, subst}
use Rattle.std.specs.Prelude.{codes}
use Rattle.pb_reading.specs.Ahead.{ahead}
use Rattle.pb_play_reading.specs.Batches.{serial, sizes}
use Rattle.pb_play_reading.specs.NoEffect.{key_or}
use Rattle.pb_play_reading.specs.Strategies.{strategy}
use Rattle.pb_play_reading.specs.declared.play.Manner.{Manner}
use Rattle.pb_play_reading.proofs.Steps.{part_stopped, second_stops, both_are}
use Rattle.pb_strategies.specs.declared.strategy.Strategy.TheVariants.{Linear}
use Rattle.pb_play_reading.proofs.play.read_manner.Goals as goal

pub returns-in_err-strategy-clause-value : goal.returns-in_err-strategy-clause-value
returns-in_err-strategy-clause-value c =
    part_stopped _ c.in_err-strategy.field-0.0 _ _ c.from_residual-in_err-strategy.ensures.1
    (
    second_stops {C = Manner} (λ batches by. record { serial = batches; strategy = by }) (key_or (codes "serial") serial (sizes [])) (key_or (codes "strategy") strategy Linear)
    (ahead c.args.keys.now) (ahead c.field_or.new.self) c.in_ok-serial.serial c.in_err-strategy.field-0.0
    (subst (λ none. key_or (codes "serial") serial (sizes none) (ahead c.args.keys.now) ≡ Ok (record { value = c.in_ok-serial.serial; ahead = ahead c.field_or.new.self })) c.whole.ensures c.in_ok-serial.ensures.value)
    c.in_err-strategy.ensures.value
    )

pub returns-clause-value : goal.returns-clause-value
returns-clause-value c =
    both_are {C = Manner} (λ batches by. record { serial = batches; strategy = by }) (key_or (codes "serial") serial (sizes [])) (key_or (codes "strategy") strategy Linear)
    (ahead c.args.keys.now) (ahead c.field_or.new.self) (ahead c.field_or-2.new.self) c.in_ok-serial.serial c.in_ok-strategy.strategy
    (subst (λ none. key_or (codes "serial") serial (sizes none) (ahead c.args.keys.now) ≡ Ok (record { value = c.in_ok-serial.serial; ahead = ahead c.field_or.new.self })) c.whole.ensures c.in_ok-serial.ensures.value)
    c.in_ok-strategy.ensures.value
