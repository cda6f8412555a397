-- The text of how a task, or an item of it, ended on a host.
use Rattle.std.specs.Prelude.{ℕ, ℤ, Bool, true, false, List, [], ◌∷◌, ◌++◌, Option, Some, None, is_some, codes, decimal, if◌then◌else◌}
use Rattle.std.specs.Fmt.{signed_decimal}
use Rattle.pb_show.specs.Escaped.{escaped}
use Rattle.pb_show.specs.declared.ended.Ended.{Ended}
use Rattle.pb_show.specs.declared.ended.Ending.{Ending}
use Rattle.pb_show.specs.declared.ended.Ending.TheVariants.{Well, Changed, Skipped, Failed, Ignored, Lost, Retried}
use Rattle.pb_show.specs.declared.look.Look.{Look}

-- a failure that isn't ignored
abbrev pub is_failure : Ending → Bool
is_failure Well = false
is_failure Changed = false
is_failure Skipped = false
is_failure Failed = true
is_failure Ignored = false
is_failure Lost = false
is_failure Retried = false

-- the word of a failure of an item, and of a host
abbrev pub failed_word : Bool → List ℕ
failed_word is_item = if is_item then codes "failed" else codes "fatal"

-- the word that a line begins with, of an item or of a host's whole task
abbrev pub word_of : Bool → Ending → List ℕ
word_of is_item Well = codes "ok"
word_of is_item Changed = codes "changed"
word_of is_item Skipped = codes "skipping"
word_of is_item Failed = failed_word is_item
word_of is_item Ignored = failed_word is_item
word_of is_item Lost = failed_word is_item
word_of is_item Retried = codes "retrying"

-- behind the host's name, where its task didn't go well
abbrev pub verdict_of : Bool → Ending → List ℕ
verdict_of true ending = []
verdict_of false Well = []
verdict_of false Changed = []
verdict_of false Skipped = []
verdict_of false Failed = codes ": FAILED!"
verdict_of false Ignored = codes ": FAILED!"
verdict_of false Lost = codes ": UNREACHABLE!"
verdict_of false Retried = []

-- in front of a message
abbrev pub lead_of : Bool → Ending → List ℕ
lead_of true ending = codes " => "
lead_of false Well = codes " => "
lead_of false Changed = codes " => "
lead_of false Skipped = codes " => "
lead_of false Failed = codes " "
lead_of false Ignored = codes " "
lead_of false Lost = codes " "
lead_of false Retried = codes " => "

-- what turns a terminal to a colour: green, yellow, cyan, red, bright red, magenta
abbrev pub color_of : Ending → List ℕ
color_of Well = 27 ∷ codes "[32m"
color_of Changed = 27 ∷ codes "[33m"
color_of Skipped = 27 ∷ codes "[36m"
color_of Failed = 27 ∷ codes "[31m"
color_of Ignored = 27 ∷ codes "[31m"
color_of Lost = 27 ∷ codes "[91m"
color_of Retried = 27 ∷ codes "[35m"

-- what turns a terminal to the colour of an ending; nothing where there are no colours
abbrev pub paint : Look → Ending → List ℕ
paint look ending = if look.color then color_of ending else []

-- and back
abbrev pub unpaint : Look → List ℕ
unpaint look = if look.color then 27 ∷ codes "[0m" else []

-- what a number counts
abbrev pub counted_by : Ending → List ℕ
counted_by Well = codes "item"
counted_by Changed = codes "item"
counted_by Skipped = codes "item"
counted_by Failed = codes "item"
counted_by Ignored = codes "item"
counted_by Lost = codes "item"
counted_by Retried = codes "attempt"

-- which item or attempt it was, behind the word for what is counted; nothing where it was none
abbrev pub item_text : List ℕ → Option ℕ → List ℕ
item_text counted None = []
item_text counted (Some n) = codes " => (" ++ counted ++ codes "=" ++ decimal n ++ codes ")"

-- a message, behind what leads to it; nothing where the message is empty
abbrev pub message_text : List ℕ → List ℕ → List ℕ
message_text lead [] = []
message_text lead (b ∷ bs) = lead ++ escaped (b ∷ bs)

-- the status of the program; nothing where none is told
abbrev pub code_text : Option ℤ → List ℕ
code_text None = []
code_text (Some z) = codes " (rc=" ++ signed_decimal z ++ codes ")"

unfoldable pub error_line : List ℕ → List ℕ
error_line error = codes "    stderr: " ++ escaped error ++ 10 ∷ []

abbrev pub error_lines : List (List ℕ) → List ℕ
error_lines [] = []
error_lines (error ∷ errors) = error_line error ++ error_lines errors

-- the line which says that a failure is ignored; nothing for any other ending
abbrev pub ignoring : Ending → List ℕ
ignoring Well = []
ignoring Changed = []
ignoring Skipped = []
ignoring Failed = []
ignoring Ignored = codes "...ignoring\n"
ignoring Lost = []
ignoring Retried = []

-- what happened to whom
unfoldable pub who_of : Ended → List ℕ
who_of e =
    word_of (is_some e.item) e.ending ++ codes ": [" ++ escaped e.host ++ codes "]" ++ item_text (counted_by e.ending) e.item ++ verdict_of (is_some e.item) e.ending

-- what it says
abbrev pub said_of : Ended → List ℕ
said_of e = message_text (lead_of (is_some e.item) e.ending) e.message

-- the first line
unfoldable pub head_of : Look → Ended → List ℕ
head_of look e =
    paint look e.ending ++ who_of e ++ said_of e ++ code_text e.code ++ unpaint look ++ 10 ∷ []

-- and the lines behind it
unfoldable pub ended_text : Look → Ended → List ℕ
ended_text look e = head_of look e ++ error_lines e.errors ++ ignoring e.ending
