-- Worked examples: each is proved by computing both sides.
use Rattle.std.specs.Prelude.{◌≡◌, pos, true, false, [], ◌∷◌, Ok, Err, codes, refl}
use Rattle.serde_json.specs.Data as json
use Rattle.pb_value.specs.Datum.{null, boolean, int, dict, members_of}
use Rattle.pb_outcome.specs.Decided.{shown_result}
use Rattle.pb_outcome.specs.Gathered.{gathered}
use Rattle.pb_outcome.specs.Output.{stripped, lines_of}
use Rattle.pb_reading.specs.Fields.{field, others}
use Rattle.pb_value.specs.FromJson.{value_of}
use Rattle.pb_outcome.specs.Reading.{text, status, told_by_unknown, facts, not_started, unreachable, whole, rest_of_outcome, outcome, outcome_of}
use Rattle.pb_outcome.specs.declared.fault.OutcomeFault.TheVariants.{WrongShape}
use Rattle.pb_outcome.specs.declared.cause.Cause.TheVariants.{TooLarge}
use Rattle.pb_outcome.specs.declared.gather.Ending.TheVariants as ending
use Rattle.pb_outcome.specs.declared.outcome.Form.TheVariants.{NotStarted, Ran}

-- the keys in their order
abbrev six_keys : json.Members → json.Members
six_keys ms =
    json.member (codes "err") (json.string (codes "e"))
    (json.member (codes "facts") json.null
    (json.member (codes "not_started") (json.number (json.unsigned 1))
    (json.member (codes "out") (json.string (codes "o"))
    (json.member (codes "rc") (json.number (json.unsigned 2))
    (json.member (codes "unreachable") (json.string (codes "u")) ms)))))

-- all keys at once are known, and no form has them
all_keys : outcome_of (codes "o") (json.object (six_keys json.no_members)) ≡ Err (WrongShape (codes "o"))
unfolding outcome_of rest_of_outcome outcome whole told_by_unknown text status facts not_started unreachable value_of field others
all_keys = refl

-- an unknown key behind all of them
all_keys_and_one : outcome_of (codes "o") (json.object (six_keys (json.member (codes "z") json.null json.no_members))) ≡ Err (WrongShape (codes "o/z"))
unfolding outcome_of rest_of_outcome outcome whole told_by_unknown text status facts not_started unreachable value_of field others
all_keys_and_one = refl

end_of_a_program :
    outcome_of [] (json.object (json.member (codes "err") (json.string (codes "e")) (json.member (codes "out") (json.string (codes "o")) (json.member (codes "rc") (json.number (json.unsigned 2)) json.no_members))))
    ≡ Ok (Ran (pos 2) (codes "o") (codes "e"))
unfolding outcome_of rest_of_outcome outcome whole told_by_unknown text status facts not_started unreachable value_of field others
end_of_a_program = refl

-- the status alone is no program's end
rc_alone : outcome_of (codes "rows/0/outcome") (json.object (json.member (codes "rc") (json.number (json.unsigned 1)) json.no_members)) ≡ Err (WrongShape (codes "rows/0/outcome"))
unfolding outcome_of rest_of_outcome outcome whole told_by_unknown text status facts not_started unreachable value_of field others
rc_alone = refl

-- the faults of known keys come before an unknown key
known_first :
    outcome_of [] (json.object (json.member (codes "a") json.null (json.member (codes "rc") json.null json.no_members))) ≡ Err (WrongShape (codes "rc"))
unfolding outcome_of rest_of_outcome outcome whole told_by_unknown text status facts not_started unreachable value_of field others
known_first = refl

unknown_key :
    outcome_of [] (json.object (json.member (codes "a") json.null (json.member (codes "rc") (json.number (json.unsigned 0)) json.no_members))) ≡ Err (WrongShape (codes "a"))
unfolding outcome_of rest_of_outcome outcome whole told_by_unknown text status facts not_started unreachable value_of field others
unknown_key = refl

fourth_cause : outcome_of [] (json.object (json.member (codes "not_started") (json.number (json.unsigned 4)) json.no_members)) ≡ Ok (NotStarted TooLarge)
unfolding outcome_of rest_of_outcome outcome whole told_by_unknown text status facts not_started unreachable value_of field others
fourth_cause = refl

no_seventh_cause : outcome_of [] (json.object (json.member (codes "not_started") (json.number (json.unsigned 7)) json.no_members)) ≡ Err (WrongShape (codes "not_started"))
unfolding outcome_of rest_of_outcome outcome whole told_by_unknown text status facts not_started unreachable value_of field others
no_seventh_cause = refl

no_cr_at_the_end : stripped (codes "a\nb\r\n") ≡ codes "a\nb"
no_cr_at_the_end = refl

two_lines : lines_of (codes "a\nb") ≡ codes "a" ∷ codes "b" ∷ []
two_lines = refl

no_lines : lines_of [] ≡ []
no_lines = refl

-- an answer that doesn't come is a failure, and one that may be ignored
not_started_ignored : gathered true (record { ending = ending.NotStarted; result = null } ∷ []) ≡ record { unreachable = false; failed = true; skipped = false; changed = false; ignored = true }
not_started_ignored = refl

-- a faulty item is not ignored
faulty_not_ignored : gathered true (record { ending = ending.Faulty; result = null } ∷ []) ≡ record { unreachable = false; failed = true; skipped = false; changed = false; ignored = false }
faulty_not_ignored = refl

-- a loop over an empty list is skipped
no_items_skipped : gathered false [] ≡ record { unreachable = false; failed = false; skipped = true; changed = false; ignored = false }
no_items_skipped = refl

-- a value that is shown stands in the order of names, and doesn't hide that nothing changed
shown_first : (shown_result (codes "a") (int (pos 1))).result ≡ dict (members_of ((codes "a", int (pos 1)) ∷ (codes "changed", boolean false) ∷ (codes "failed", boolean false) ∷ []))
shown_first = refl

shown_last : (shown_result (codes "x") (int (pos 1))).result ≡ dict (members_of ((codes "changed", boolean false) ∷ (codes "failed", boolean false) ∷ (codes "x", int (pos 1)) ∷ []))
shown_last = refl

own_changed_wins : shown_result (codes "changed") (boolean true) ≡ record { ending = ending.Ran false false; result = dict (members_of ((codes "changed", boolean false) ∷ (codes "failed", boolean false) ∷ [])) }
own_changed_wins = refl
