-- Two keys, one behind the other.
use Rattle.std.specs.Prelude.{codes}
use Rattle.pb_reading.specs.Ahead.{ahead}
use Rattle.pb_reading.specs.Fields.{field}
use Rattle.pb_written.specs.Simple.{switched}
use Rattle.pb_play_reading.specs.declared.couplings.Delegation.{Delegation}
use Rattle.pb_play_reading.proofs.Steps.{part_stopped, second_stops, both_are}
use Rattle.pb_written.specs.Values.{template_text}
use Rattle.pb_play_reading.proofs.couplings.read_delegation.Goals as goal

pub returns-in_err-delegate_to-clause-value : goal.returns-in_err-delegate_to-clause-value
returns-in_err-delegate_to-clause-value g c =
    part_stopped _ c.in_err-delegate_to.field-0.0 _ _ c.from_residual-in_err-delegate_to.ensures.1
    (second_stops {C = Delegation} (λ facts to. record { delegate_facts = facts; delegate_to = to }) (field g.O.Others.tells (codes "delegate_facts") switched) (field g.O.Others.tells (codes "delegate_to") template_text)
    (ahead c.args.keys.now) (ahead c.field.new.self) c.in_ok-delegate_facts.delegate_facts c.in_err-delegate_to.field-0.0 c.in_ok-delegate_facts.ensures.value c.in_err-delegate_to.ensures.value)

pub returns-clause-value : goal.returns-clause-value
returns-clause-value g c =
    both_are {C = Delegation} (λ facts to. record { delegate_facts = facts; delegate_to = to }) (field g.O.Others.tells (codes "delegate_facts") switched) (field g.O.Others.tells (codes "delegate_to") template_text)
    (ahead c.args.keys.now) (ahead c.field.new.self) (ahead c.field-2.new.self) c.in_ok-delegate_facts.delegate_facts c.in_ok-delegate_to.delegate_to c.in_ok-delegate_facts.ensures.value c.in_ok-delegate_to.ensures.value
