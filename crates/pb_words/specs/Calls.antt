-- What a task of `command` or `shell` runs, or why it can't be read.
-- See Ansible's documentation of `ansible.builtin.command` and `ansible.builtin.shell`.
use Rattle.std.specs.Prelude.{ℕ, List, [], ◌∷◌, Result, Ok, Err, codes, length, nat_lt, if◌then◌else◌}
use Rattle.pb_value.specs.Datum.{Datum}
use Rattle.pb_value.specs.Reading.{and_then, map_ok}
use Rattle.pb_value.specs.ToJson.{text_of}
use Rattle.pb_value.specs.Limits.{max_text}
use Rattle.pb_words.specs.Words.{some_word, words_of}
use Rattle.pb_words.specs.declared.fault.CallFault.{CallFault}
use Rattle.pb_words.specs.declared.fault.CallFault.TheVariants.{UnclosedQuote, NoCommand, TooLarge, Memory}
use Rattle.pb_outcome.specs.declared.job.Call.{Call}
use Rattle.pb_outcome.specs.declared.job.Call.TheVariants.{Command, Shell}

-- what is said in an item's result of such a fault
abbrev pub fault_message : CallFault → List ℕ
fault_message UnclosedQuote = codes "unclosed quote"
fault_message NoCommand = codes "no command given"
fault_message TooLarge = codes "value too large"
fault_message Memory = codes "out of memory"

-- a text of at most 1 MiB
abbrev pub within_limit : List ℕ → Result (List ℕ) CallFault
within_limit text = if nat_lt max_text (length text) then Err TooLarge else Ok text

-- the text of a value
abbrev pub word_of : Datum → Result (List ℕ) CallFault
word_of v = within_limit (text_of v)

-- the texts of these values, in their order, or the first fault
abbrev pub each_word : List Datum → Result (List (List ℕ)) CallFault
each_word [] = Ok []
each_word (v ∷ vs) = and_then (word_of v) (λ w. and_then (each_word vs) (λ ws. Ok (w ∷ ws)))

-- a command by its text, which is cut into words
abbrev pub line_call : List ℕ → Result Call CallFault
line_call line = and_then (within_limit line) (λ s. map_ok Command (words_of s))

-- a command by its words, whose texts are taken one by one
abbrev pub argv_call : List Datum → Result Call CallFault
argv_call argv = map_ok Command (and_then (each_word argv) some_word)

-- a text for the shell
abbrev pub shell_call : List ℕ → Result Call CallFault
shell_call cmd = map_ok Shell (within_limit cmd)
