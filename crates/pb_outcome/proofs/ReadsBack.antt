-- An outcome's JSON is read as that outcome again.
use Rattle.std.proofs.Common.{◌≡◌, ℕ, zero, suc, ◌≤◌, ℤ, pos, negsuc, Bool, true, false, ◌&&◌, List, length, Ok, Some, refl, ap, arith}
use Rattle.std.specs.Prelude.{nat_lt}
use Rattle.std.proofs.lemmas.Bool.Decides.{nat_tests}
use Rattle.serde_json.specs.Find.{of_integer, as_i64}
use Rattle.pb_value.specs.Datum.{Datum, null, boolean, int, text, list, dict, Items, no_items, item, Members, no_members, member, items_of, members_of, list_of, entries_of}
use Rattle.pb_value.specs.Depth.{depth, items_depth, members_depth}
use Rattle.pb_value.specs.FromJson.{value_of, int_of, read, read_items, read_members}
use Rattle.pb_value.specs.ToJson.{json_of, items_json, members_json}
use Rattle.pb_value.specs.Limits.{max_text, max_depth}
use Rattle.pb_outcome.specs.Limits.{IsWithin}
use Rattle.pb_reading.specs.Fields.{field, others}
use Rattle.pb_outcome.specs.Reading.{text as limited_text, status, facts, not_started, unreachable, whole, rest_of_outcome, outcome, of_reading, outcome_of}
use Rattle.pb_value.specs.Numbers.{fits_word, are_words, items_are_words, members_are_words}
use Rattle.pb_outcome.specs.Whole.{is_whole}
use Rattle.pb_outcome.specs.Writing.{outcome_json}
use Rattle.pb_outcome.specs.declared.cause.Cause.{Cause}
use Rattle.pb_outcome.specs.declared.cause.Cause.TheVariants.{CannotStart, KilledBySignal, NotUtf8, TooLarge, FactsNotObject, OutOfMemory}
use Rattle.pb_outcome.specs.declared.outcome.Form.{Form}
use Rattle.pb_outcome.specs.declared.outcome.Form.TheVariants.{Ran, Module, Unreachable, NotStarted}

and_left : (a b : Bool) → (a && b) ≡ true → a ≡ true
and_left true b e = refl
and_left false b e = cc

and_right : (a b : Bool) → (a && b) ≡ true → b ≡ true
and_right true b e = e
and_right false b e = cc

items_back : (ds : Items) → items_of (list_of ds) ≡ ds
items_back no_items = refl
items_back (item d ds) = ap (λ t. item d t) (items_back ds)

members_back : (ms : Members) → members_of (entries_of ms) ≡ ms
members_back no_members = refl
members_back (member k d ms) = ap (λ t. member k d t) (members_back ms)

word_back : (z : ℤ) → fits_word z ≡ true → int_of (of_integer z) ≡ Ok (int z)
word_back (pos n) w = rw w refl
word_back (negsuc n) w = refl

mutual
  read-json_of : (room : ℕ) (d : Datum) → depth d ≤ room → are_words d ≡ true → read room (json_of d) ≡ Ok d
  read-json_of room null h w = refl
  read-json_of room (boolean b) h w = refl
  read-json_of room (int z) h w = word_back z w
  read-json_of room (text s) h w = refl
  read-json_of zero (list ds) h w = absurd (omega arith)
  read-json_of (suc room) (list ds) h w = rw (read-items_json room ds (omega arith) w) (ap (λ t. Ok (list t)) (items_back ds))
  read-json_of zero (dict ms) h w = absurd (omega arith)
  read-json_of (suc room) (dict ms) h w = rw (read-members_json room ms (omega arith) w) (ap (λ t. Ok (dict t)) (members_back ms))

  read-items_json : (room : ℕ) (ds : Items) → items_depth ds ≤ room → items_are_words ds ≡ true → read_items room (items_json ds) ≡ Ok (list_of ds)
  read-items_json room no_items h w = refl
  read-items_json room (item d ds) h w =
      rw (read-json_of room d (omega arith) (and_left (are_words d) (items_are_words ds) w), read-items_json room ds (omega arith) (and_right (are_words d) (items_are_words ds) w)) refl

  read-members_json : (room : ℕ) (ms : Members) → members_depth ms ≤ room → members_are_words ms ≡ true → read_members room (members_json ms) ≡ Ok (entries_of ms)
  read-members_json room no_members h w = refl
  read-members_json room (member k d ms) h w =
      rw (read-json_of room d (omega arith) (and_left (are_words d) (members_are_words ms) w), read-members_json room ms (omega arith) (and_right (are_words d) (members_are_words ms) w)) refl

value_back : (v : Datum) → depth v ≤ max_depth → are_words v ≡ true → value_of (json_of v) ≡ Ok v
unfolding value_of
value_back v h w = read-json_of max_depth v h w

not_large : (s : List ℕ) → length s ≤ max_text → nat_lt max_text (length s) ≡ false
not_large s h = grind (arith, nat_tests)

status_back : (rc : ℤ) → fits_word rc ≡ true → as_i64 (of_integer rc) ≡ Some rc
status_back (pos n) w = rw w refl
status_back (negsuc n) w = refl

cause_back : (path : List ℕ) (cause : Cause) → outcome path (outcome_json (NotStarted cause)) ≡ Ok (NotStarted cause)
unfolding limited_text status facts not_started unreachable whole rest_of_outcome outcome field others
cause_back path CannotStart = refl
cause_back path KilledBySignal = refl
cause_back path NotUtf8 = refl
cause_back path TooLarge = refl
cause_back path FactsNotObject = refl
cause_back path OutOfMemory = refl

outcome_back : (path : List ℕ) (form : Form) → IsWithin form → is_whole form ≡ true → outcome path (outcome_json form) ≡ Ok form
unfolding limited_text status facts not_started unreachable whole rest_of_outcome outcome field others
outcome_back path (Ran rc out err) h w = rw (not_large err h.1, not_large out h.0, status_back rc w) refl
outcome_back path (Module v) h w = rw (value_back v h w) refl
outcome_back path (Unreachable msg) h w = rw (not_large msg h) refl
outcome_back path (NotStarted cause) h w = cause_back path cause

pub reads_back : (path : List ℕ) (form : Form) → IsWithin form → is_whole form ≡ true → outcome_of path (outcome_json form) ≡ Ok form
unfolding outcome_of
reads_back path form h w = ap of_reading (outcome_back path form h w)
