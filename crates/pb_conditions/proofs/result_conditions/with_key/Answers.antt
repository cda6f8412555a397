use Rattle.std.proofs.Common.{ap, sym, ◌∙◌}
use Rattle.pb_value.specs.Datum.{Datum, boolean, dict, members_of, put}
use Rattle.pb_value.proofs.Lists.{entries_of-members_of}
use Rattle.pb_layers.specs.Scope.{Map}
use Rattle.pb_conditions.proofs.result_conditions.with_key.Goals as goal

pub returns-in_ok-put-in-Dict : goal.returns-in_ok-put-in-Dict
returns-in_ok-put-in-Dict c =
    rw (← c.in-Dict.ensures)
    (c.dict.ensures
    ∙ ap (λ (ms : Map). dict (members_of ms))
    (c.in_ok-put-in-Dict.ensures.ok
    ∙ ap (λ (b : Datum). put c.args.key.now b c.in-Dict.members) c.boolean.ensures
    ∙ ap (put c.args.key.now (boolean c.args.truth)) (sym (entries_of-members_of c.in-Dict.members))))
