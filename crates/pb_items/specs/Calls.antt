-- What a task of `command` or `shell` runs, in the scope that its host has when the task starts: templates are rendered first, and
-- what they give is cut or taken. See Ansible's documentation of `ansible.builtin.command` and `ansible.builtin.shell`.
use Rattle.std.specs.Prelude.{ℕ, List, [], ◌∷◌, Result, Ok}
use Rattle.pb_value.specs.Datum.{Datum, text}
use Rattle.pb_value.specs.Reading.{and_then, map_ok}
use Rattle.pb_layers.specs.Scope.{Map}
use Rattle.pb_expr_eval.specs.Scoped.{rendered_of}
use Rattle.pb_words.specs.Calls.{word_of, line_call}
use Rattle.pb_words.specs.Words.{some_word}
use Rattle.pb_outcome.specs.declared.job.Call.{Call}
use Rattle.pb_outcome.specs.declared.job.Call.TheVariants.{Command, Shell}
use Rattle.pb_play.specs.declared.commands.CommandWords.{CommandWords}
use Rattle.pb_play.specs.declared.commands.CommandWords.TheVariants.{Line, Argv}
use Rattle.pb_items.specs.declared.fault.ItemFault.{ItemFault}
use Rattle.pb_items.specs.Faults.{evaluated, called}

-- the text of what a value gives: at most 1 MiB
abbrev pub word_in : List Map → Datum → Result (List ℕ) ItemFault
word_in scope v = and_then (evaluated (rendered_of scope v)) (λ d. called (word_of d))

-- each is read whole before the next
abbrev pub words_in : List Map → List Datum → Result (List (List ℕ)) ItemFault
words_in scope [] = Ok []
words_in scope (v ∷ vs) = and_then (word_in scope v) (λ w. and_then (words_in scope vs) (λ ws. Ok (w ∷ ws)))

-- a command by its text, which is cut into words when it is rendered, or by its words
abbrev pub command_in : List Map → CommandWords → Result Call ItemFault
command_in scope (Line line) = and_then (word_in scope (text line)) (λ s. called (line_call s))
command_in scope (Argv argv) = and_then (words_in scope argv) (λ ws. called (map_ok Command (some_word ws)))

-- a text for the shell
abbrev pub shell_in : List Map → List ℕ → Result Call ItemFault
shell_in scope cmd = map_ok Shell (word_in scope (text cmd))
