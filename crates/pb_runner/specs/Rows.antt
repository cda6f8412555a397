-- Worked examples: each is proved by computing both sides.
use Rattle.std.specs.Prelude.{◌≡◌, [], ◌∷◌, Ok, Err, Some, None, codes, refl}
use Rattle.serde_json.specs.Data as json
use Rattle.pb_outcome.specs.Reading as outcomes
use Rattle.pb_outcome.specs.declared.cause.Cause.TheVariants.{TooLarge}
use Rattle.pb_outcome.specs.declared.outcome.Form.TheVariants.{NotStarted, Unreachable}
use Rattle.pb_reading.specs.Fields.{field, others}
use Rattle.pb_reading.specs.Reading.{WrongShape}
use Rattle.pb_runner.specs.Reading.{row, table}

abbrev fourth_cause : json.Data
fourth_cause = json.object (json.member (codes "not_started") (json.number (json.unsigned 4)) json.no_members)

-- the keys of a row in their order
abbrev six_keys : json.Members → json.Members
six_keys ms =
    json.member (codes "attempt") (json.number (json.unsigned 3))
    (json.member (codes "host") (json.string (codes "h"))
    (json.member (codes "item") (json.number (json.unsigned 1))
    (json.member (codes "outcome") fourth_cause
    (json.member (codes "place") (json.string (codes "0.1"))
    (json.member (codes "play") (json.number (json.unsigned 2)) ms)))))

row_of_all_keys : row (codes "r") (json.object (six_keys json.no_members))
    ≡ Ok (record { attempt = Some 3; host = Some (codes "h"); item = Some 1; outcome = NotStarted TooLarge; place = Some (codes "0.1"); play = Some 2 })
unfolding row field others outcomes.outcome_of outcomes.outcome outcomes.rest_of_outcome outcomes.whole outcomes.text outcomes.status outcomes.told_by_unknown outcomes.not_started
row_of_all_keys = refl

-- an unknown key behind all of them
row_of_one_more : row (codes "r") (json.object (six_keys (json.member (codes "z") json.null json.no_members))) ≡ Err (WrongShape (codes "r/z"))
unfolding row field others outcomes.outcome_of outcomes.outcome outcomes.rest_of_outcome outcomes.whole outcomes.text outcomes.status outcomes.told_by_unknown outcomes.not_started
row_of_one_more = refl

-- a number outside 32 bits counts no attempt, nor does a text
no_attempt : row (codes "r") (json.object (json.member (codes "attempt") (json.number (json.unsigned 4294967296)) json.no_members)) ≡ Err (WrongShape (codes "r/attempt"))
unfolding row field others outcomes.outcome_of outcomes.outcome outcomes.rest_of_outcome outcomes.whole outcomes.text outcomes.status outcomes.told_by_unknown outcomes.not_started
no_attempt = refl

attempt_as_text : row (codes "r") (json.object (json.member (codes "attempt") (json.string (codes "1")) json.no_members)) ≡ Err (WrongShape (codes "r/attempt"))
unfolding row field others outcomes.outcome_of outcomes.outcome outcomes.rest_of_outcome outcomes.whole outcomes.text outcomes.status outcomes.told_by_unknown outcomes.not_started
attempt_as_text = refl

-- both keys of the file
table_of_both_keys : table [] (json.object
    (json.member (codes "default") (json.object (json.member (codes "unreachable") (json.string (codes "u")) json.no_members))
    (json.member (codes "rows") (json.array (json.item (json.object (json.member (codes "outcome") fourth_cause json.no_members)) json.no_items)) json.no_members)))
    ≡ Ok (record { default = Unreachable (codes "u"); rows = record { attempt = None; host = None; item = None; outcome = NotStarted TooLarge; place = None; play = None } ∷ [] })
unfolding table row field others outcomes.outcome_of outcomes.outcome outcomes.rest_of_outcome outcomes.whole outcomes.text outcomes.status outcomes.told_by_unknown outcomes.not_started outcomes.unreachable
table_of_both_keys = refl
