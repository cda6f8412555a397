-- What an event tells, as its object has it.
use Rattle.std.specs.Prelude.{ℕ, ℤ, ◌+◌, ◌-◌, ◌^◌, nat_lt, Bool, true, false, List, [], ◌∷◌, length, drop, Option, Some, None, option_map, option_and_then, Result, Ok, Err, codes, if◌then◌else◌}
use Rattle.std.specs.Option.{option_map_or}
use Rattle.serde_json.specs.Data as json
use Rattle.serde_json.specs.Find.{get, as_number, as_u64, as_i64, as_str, as_bool, as_array, as_object}
use Rattle.pb_value.specs.Datum.{Datum}
use Rattle.pb_value.specs.FromJson.{value_of}
use Rattle.pb_value.specs.ToJson.{text_of}
use Rattle.pb_value.specs.declared.fault.ValFault.{ValFault}
use Rattle.pb_show.specs.Kinds.{kind_named}
use Rattle.pb_show.specs.declared.ended.Ended.{Ended}
use Rattle.pb_show.specs.declared.ended.Ending.{Ending}
use Rattle.pb_show.specs.declared.ended.Ending.TheVariants.{Well, Changed, Skipped, Failed, Ignored, Lost, Retried}
use Rattle.pb_show.specs.declared.kind.How.{How}
use Rattle.pb_show.specs.declared.kind.How.TheVariants as how
use Rattle.pb_show.specs.declared.kind.Kind.{Kind}
use Rattle.pb_show.specs.declared.reading.Where.{Where}
use Rattle.pb_show.specs.declared.notices.Notice.{Notice}
use Rattle.pb_show.specs.declared.notices.Play.{Play}
use Rattle.pb_show.specs.declared.notices.Task.{Task}
use Rattle.pb_show.specs.declared.notices.Totals.{Totals}

-- the text at a key; the whole number that isn't below 0; the same below 2 ^ 32; whether it is true
abbrev pub text_at : List ℕ → json.Data → Option (List ℕ)
text_at k d = option_and_then as_str (get k d)

abbrev pub whole : json.Data → Option ℕ
whole d = option_and_then as_u64 (as_number d)

abbrev pub whole_at : List ℕ → json.Data → Option ℕ
whole_at k d = option_and_then whole (get k d)

abbrev pub small : ℕ → Option ℕ
small n = if nat_lt n (2 ^ 32) then Some n else None

abbrev pub small_at : List ℕ → json.Data → Option ℕ
small_at k d = option_and_then small (whole_at k d)

-- whether true stands at a key; where nothing or anything else stands there it does not
abbrev pub is_true_at : List ℕ → json.Data → Bool
is_true_at k d = option_map_or (λ b. b) (option_and_then as_bool (get k d)) false

-- what the event tells, if the object is one
abbrev pub kind_in : json.Data → Option Kind
kind_in d = option_and_then kind_named (text_at (codes "event") d)

-- ---- results
-- a text as it is, a number in decimal, a list or a dict as JSON; nothing of what is no value of a playbook
abbrev pub sound_text : Result Datum ValFault → List ℕ
sound_text (Ok v) = text_of v
sound_text (Err e) = []

-- a value as a message: nothing where it is no value of a playbook
abbrev pub message_of : json.Data → List ℕ
message_of d = sound_text (value_of d)

-- what a result says: what stands at its `msg`; nothing where it has none
abbrev pub message_in : json.Data → List ℕ
message_in d = option_map_or message_of (get (codes "msg") d) []

-- the whole number that a value is, from -2 ^ 63 to 2 ^ 63 - 1; none for any other value
abbrev pub integer : json.Data → Option ℤ
integer d = option_and_then as_i64 (as_number d)

-- the status of the program, of a failure and of an attempt behind which another one comes
abbrev pub code_in : How → json.Data → Option ℤ
code_in how.Ok d = None
code_in how.Failed d = option_and_then integer (get (codes "rc") d)
code_in how.Skipped d = None
code_in how.Unreachable d = None
code_in how.Again d = option_and_then integer (get (codes "rc") d)

-- the values of a list, in order
abbrev pub list_of : json.Items → List json.Data
list_of json.no_items = []
list_of (json.item d ds) = d ∷ list_of ds

-- texts with one more in front, if there is one
abbrev pub with_text : Option (List ℕ) → List (List ℕ) → List (List ℕ)
with_text None texts = texts
with_text (Some text) texts = text ∷ texts

-- the texts among values
abbrev pub texts_of : List json.Data → List (List ℕ)
texts_of [] = []
texts_of (d ∷ ds) = with_text (as_str d) (texts_of ds)

-- of the last 10
abbrev pub last_texts : List json.Data → List (List ℕ)
last_texts ds = texts_of (drop (length ds - 10) ds)

-- of the list at a key the texts among its last 10 values; none where no list stands there
abbrev pub lines_at : List ℕ → json.Data → List (List ℕ)
lines_at k d = option_map_or (λ ds. last_texts (list_of ds)) (option_and_then as_array (get k d)) []

-- the last lines of the program's errors, of a failure: at most 10
abbrev pub errors_in : How → json.Data → List (List ℕ)
errors_in how.Ok d = []
errors_in how.Failed d = lines_at (codes "stderr_lines") d
errors_in how.Skipped d = []
errors_in how.Unreachable d = []
errors_in how.Again d = []

-- how it ended, by the word of the event, by whether something was changed, and by whether a failure is ignored
abbrev pub ending_of : How → Bool → Bool → Ending
ending_of how.Ok is_changed is_ignored = if is_changed then Changed else Well
ending_of how.Failed is_changed is_ignored = if is_ignored then Ignored else Failed
ending_of how.Skipped is_changed is_ignored = Skipped
ending_of how.Unreachable is_changed is_ignored = Lost
ending_of how.Again is_changed is_ignored = Retried

-- the number of the item, which the event of an item has, or of the attempt that another one follows
abbrev pub counted_at : How → List ℕ
counted_at how.Ok = codes "item"
counted_at how.Failed = codes "item"
counted_at how.Skipped = codes "item"
counted_at how.Unreachable = codes "item"
counted_at how.Again = codes "attempt"

-- the number of an item or attempt, if its event has one at this key; the event of a whole task needs none, and has no number
abbrev pub item_in : Bool → List ℕ → json.Data → Option (Option ℕ)
item_in false k d = Some None
item_in true k d = option_map Some (whole_at k d)

abbrev pub where_of : Option (List ℕ) → Option (List ℕ) → Option (Option ℕ) → Option Where
where_of (Some host) (Some place) (Some item) = Some (record { host = host; place = place; item = item })
where_of host place item = None

-- the host and the place of an event, and where the flag is set the number at the key; none where the event lacks one of those
abbrev pub where_in : Bool → List ℕ → json.Data → Option Where
where_in is_item k d = where_of (text_at (codes "host") d) (text_at (codes "place") d) (item_in is_item k d)

-- how a task, or an item of it, ended at this spot, by its result
abbrev pub ended_with : How → Where → Bool → json.Data → Ended
ended_with how spot is_ignored d = record {
  ending = ending_of how (is_true_at (codes "changed") d) is_ignored;
  host = spot.host;
  place = spot.place;
  item = spot.item;
  message = message_in d;
  code = code_in how d;
  errors = errors_in how d;
}

-- the same, if the event says where, and has a result
abbrev pub ended_of : How → Bool → Option Where → Option json.Data → Option Ended
ended_of how is_ignored (Some spot) (Some d) = Some (ended_with how spot is_ignored d)
ended_of how is_ignored spot d = None

-- how a task, or an item of it, ended
abbrev pub ended_in : How → Bool → json.Data → Option Ended
ended_in how is_item d = ended_of how (is_true_at (codes "ignored") d) (where_in is_item (counted_at how) d) (get (codes "result") d)

-- ---- starts
-- how many values stand in the list at a key
abbrev pub len_at : List ℕ → json.Data → ℕ
len_at k d = option_map_or (λ ds. length (list_of ds)) (option_and_then as_array (get k d)) 0

abbrev pub play_of : Option (List ℕ) → Option ℕ → ℕ → Option Play
play_of (Some name) (Some batch) hosts = Some (record { name = name; batch = batch; hosts = hosts })
play_of name batch hosts = None

-- the batch of a play that starts; none where the event lacks the name, or a number of the batch below 2 ^ 32
abbrev pub play_in : json.Data → Option Play
play_in d = play_of (text_at (codes "name") d) (small_at (codes "batch") d) (len_at (codes "hosts") d)

abbrev pub task_of : Bool → Option (List ℕ) → Option (List ℕ) → Option Task
task_of is_handler (Some place) (Some name) = Some (record { place = place; name = name; is_handler = is_handler })
task_of is_handler place name = None

-- the task that starts, or the handler where the flag is set; none where the event lacks its place or its name
abbrev pub task_in : Bool → json.Data → Option Task
task_in is_handler d = task_of is_handler (text_at (codes "place") d) (text_at (codes "name") d)

abbrev pub notice_of : Option (List ℕ) → Option (List ℕ) → Option Notice
notice_of (Some handler) (Some host) = Some (record { handler = handler; host = host })
notice_of handler host = None

-- the notice of a handler on a host; none where the event lacks one of the two
abbrev pub notice_in : json.Data → Option Notice
notice_in d = notice_of (text_at (codes "handler") d) (text_at (codes "host") d)

-- ---- statistics
abbrev pub one_if_some : Option ℕ → ℕ
one_if_some None = 0
one_if_some (Some n) = if nat_lt 0 n then 1 else 0

-- 1 where more than 0 stands at a key
abbrev pub one_if : List ℕ → json.Data → ℕ
one_if k d = one_if_some (whole_at k d)

-- the values of an object, without its keys
abbrev pub values_of : json.Members → List json.Data
values_of json.no_members = []
values_of (json.member k d ms) = d ∷ values_of ms

-- how many of these values, each the counts of a host, have more than 0 at the key
abbrev pub count_in : List ℕ → List json.Data → ℕ
count_in k [] = 0
count_in k (d ∷ ds) = one_if k d + count_in k ds

-- the hosts, and how many of them failed or were out of reach
abbrev pub totals_of : json.Members → Totals
totals_of ms = record { hosts = length (values_of ms); failed = count_in (codes "failed") (values_of ms); unreachable = count_in (codes "unreachable") (values_of ms) }

-- the statistics of an event; none where no object stands at its `stats`
abbrev pub totals_in : json.Data → Option Totals
totals_in d = option_map totals_of (option_and_then as_object (get (codes "stats") d))
