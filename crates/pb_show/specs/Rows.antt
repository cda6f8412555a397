-- Worked examples: each is proved by computing both sides.
use Rattle.std.specs.Prelude.{◌≡◌, ⊤, ℕ, pos, List, [], ◌∷◌, ◌++◌, Option, Some, None, true, false, codes, refl}
use Rattle.std.specs.Char.{encode_utf8}
use Rattle.std.specs.Fmt.{digits}
use Rattle.std.specs.Str.{chars, is_utf8}
use Rattle.std.specs.Str.Lossy.{utf8_valid_len}
use Rattle.serde_json.proofs.OnLiterals.{serde_json_on_literals}
use Rattle.pb_value.specs.Bytes.{json_in}
use Rattle.pb_value.specs.FromJson.{value_of}
use Rattle.pb_show.specs.Banners.{play_text, task_text, notice_text}
use Rattle.pb_show.specs.Closing.{stopped_text, outcome_line}
use Rattle.pb_show.specs.Escaped.{escaped}
use Rattle.pb_show.specs.Results.{error_line, who_of, head_of, ended_text}
use Rattle.pb_show.specs.Showing.{start, event_at, text_of}
use Rattle.pb_show.specs.Whole.{lines_in, all_shown}
use Rattle.pb_show.specs.declared.ended.Ending.TheVariants.{Changed, Failed, Ignored, Lost, Retried}
use Rattle.pb_show.specs.declared.look.Look.{Look}

-- what computes the texts
unfoldable on_texts : ⊤
unfolding chars is_utf8 utf8_valid_len encode_utf8 digits serde_json_on_literals json_in value_of play_text task_text notice_text stopped_text outcome_line error_line who_of head_of ended_text
on_texts = tt

abbrev plain : Look
plain = record { color = false; starts = false; progress = false }

abbrev colored : Look
colored = record { color = true; starts = false; progress = false }

-- what a line becomes that is an event, behind no other line
abbrev alone : Look → List ℕ → Option (List ℕ)
alone look line = text_of (event_at look start line)

-- an escape sequence, a line end and an e with an acute accent
escapes : escaped (27 ∷ codes "[2J\n" ++ 195 ∷ 169 ∷ []) ≡ codes "\\u001b[2J\\n" ++ 195 ∷ 169 ∷ []
unfolding on_texts
escapes = refl

-- U+061C, U+200F, U+202E, U+2029 and U+009B, and then U+061B, which does none of it
marks : escaped (216 ∷ 156 ∷ 226 ∷ 128 ∷ 143 ∷ 226 ∷ 128 ∷ 174 ∷ 226 ∷ 128 ∷ 169 ∷ 194 ∷ 155 ∷ 216 ∷ 155 ∷ []) ≡ codes "\\u061c\\u200f\\u202e\\u2029\\u009b" ++ 216 ∷ 155 ∷ []
unfolding on_texts
marks = refl

-- the second batch of a play
banner : play_text (record { name = codes "web"; batch = 1; hosts = 3 }) ≡ codes "\nPLAY [web] (batch 2) **********************************************************\n"
unfolding on_texts
banner = refl

handler : task_text (record { place = codes "3"; name = codes "restart"; is_handler = true }) ≡ codes "\nRUNNING HANDLER [restart] *****************************************************\n"
unfolding on_texts
handler = refl

failure : ended_text plain (record { ending = Failed; host = codes "a"; place = codes "1"; item = None; message = codes "no\nway"; code = Some (pos 3); errors = codes "x" ∷ codes "y" ∷ [] })
    ≡ codes "fatal: [a]: FAILED! no\\nway (rc=3)\n    stderr: x\n    stderr: y\n"
unfolding on_texts
failure = refl

ignored : ended_text plain (record { ending = Ignored; host = codes "a"; place = codes "1"; item = None; message = []; code = None; errors = [] }) ≡ codes "fatal: [a]: FAILED!\n...ignoring\n"
unfolding on_texts
ignored = refl

of_item : ended_text plain (record { ending = Changed; host = codes "a"; place = codes "1"; item = Some 2; message = codes "m"; code = None; errors = [] }) ≡ codes "changed: [a] => (item=2) => m\n"
unfolding on_texts
of_item = refl

lost : ended_text colored (record { ending = Lost; host = codes "a"; place = codes "1"; item = None; message = codes "gone"; code = None; errors = [] })
    ≡ 27 ∷ codes "[91mfatal: [a]: UNREACHABLE! gone" ++ 27 ∷ codes "[0m\n"
unfolding on_texts
lost = refl

-- an attempt that another one follows
tried_again : ended_text plain (record { ending = Retried; host = codes "a"; place = codes "1"; item = Some 2; message = codes "non-zero return code"; code = Some (pos 1); errors = [] })
    ≡ codes "retrying: [a] => (attempt=2) => non-zero return code (rc=1)\n"
unfolding on_texts
tried_again = refl

-- a line of the program
start_of_task : alone plain (codes "{\"event\":\"playbook_on_task_start\",\"name\":\"hi\",\"place\":\"1\",\"play\":0}\n")
    ≡ Some (codes "\nTASK [hi] *********************************************************************\n")
unfolding on_texts
start_of_task = refl

-- a start of a host is passed over
start_of_host : alone plain (codes "{\"event\":\"runner_on_start\",\"host\":\"a\",\"place\":\"1\",\"play\":0}\n") ≡ Some []
unfolding on_texts
start_of_host = refl

-- an object that isn't one of the program's events, and a line that is no JSON
another_object : alone plain (codes "{\"event\":\"v2_runner\"}\n") ≡ None
unfolding on_texts
another_object = refl

no_object : alone plain (codes "PLAY RECAP\n") ≡ None
unfolding on_texts
no_object = refl

-- an event that lacks a key
lacks_a_key : alone plain (codes "{\"event\":\"playbook_on_task_start\",\"name\":\"hi\"}\n") ≡ None
unfolding on_texts
lacks_a_key = refl

lines : lines_in (codes "a\n\nb") ≡ codes "a\n" ∷ codes "\n" ∷ codes "b" ∷ []
lines = refl

-- a last line without its end, and no event
passed_on : all_shown plain (codes "ok\nx") ≡ codes "ok\nx\n"
unfolding on_texts
passed_on = refl

-- statistics, a line of the recap, and the line at the end
whole : all_shown plain (codes "{\"event\":\"playbook_on_stats\",\"stats\":{\"a\":{\"failed\":1,\"unreachable\":0},\"b\":{\"failed\":0,\"unreachable\":1}}}\nPLAY RECAP\n")
    ≡ codes "\nPLAY RECAP\n\n1 host failed; 1 host out of reach\n"
unfolding on_texts
whole = refl
