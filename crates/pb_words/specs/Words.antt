-- The words of a command's text, character by character. Words are cut at spaces, tabs and line ends. `'..'` and `".."` keep what stands
-- between them, without escapes, and join with what stands beside them in the word, so that `''` alone is an empty word.
-- See Ansible's documentation of `ansible.builtin.command`.
use Rattle.std.specs.Prelude.{ℕ, Bool, ◌==◌, ◌||◌, List, [], ◌∷◌, ◌++◌, Result, Ok, Err, if◌then◌else◌}
use Rattle.std.specs.Char.{encode_utf8}
use Rattle.std.specs.Str.{chars}
use Rattle.pb_value.specs.Reading.{and_then, map_ok}
use Rattle.pb_words.specs.declared.fault.CallFault.{CallFault}
use Rattle.pb_words.specs.declared.fault.CallFault.TheVariants.{UnclosedQuote, NoCommand}

-- space, tab, LF and CR
abbrev pub is_space : ℕ → Bool
is_space c = c == 32 || c == 9 || c == 10 || c == 13

-- `'` and `"`
abbrev pub is_quote : ℕ → Bool
is_quote c = c == 39 || c == 34

-- the rest of a word that has begun, and the words behind it
abbrev pub Begun : Type 0
Begun = List ℕ × List (List ℕ)

-- a word that has begun, with one character more at its front
abbrev pub longer : ℕ → Begun → Begun
longer c w = (encode_utf8 c ++ w.0, w.1)

-- the word ends here, and these words stand behind it
abbrev pub ended : List (List ℕ) → Begun
ended ws = ([], ws)

-- the word that has begun, and then those behind it
abbrev pub all_words : Begun → List (List ℕ)
all_words w = w.0 ∷ w.1

abbrev mutual
  -- the words of a text that begins between two words
  pub between : List ℕ → Result (List (List ℕ)) CallFault
  between [] = Ok []
  between (c ∷ cs) = if is_space c then between cs else map_ok all_words (if is_quote c then quoted c cs else map_ok (longer c) (within cs))

  -- the same of one that begins in a word
  pub within : List ℕ → Result Begun CallFault
  within [] = Ok (ended [])
  within (c ∷ cs) = if is_space c then map_ok ended (between cs) else (if is_quote c then quoted c cs else map_ok (longer c) (within cs))

  -- the same of one that begins between quotes
  pub quoted : ℕ → List ℕ → Result Begun CallFault
  quoted q [] = Err UnclosedQuote
  quoted q (c ∷ cs) = if c == q then within cs else map_ok (longer c) (quoted q cs)

-- a command has a word
abbrev pub some_word : List (List ℕ) → Result (List (List ℕ)) CallFault
some_word [] = Err NoCommand
some_word (w ∷ ws) = Ok (w ∷ ws)

-- the words of a command's text
abbrev pub words_of : List ℕ → Result (List (List ℕ)) CallFault
words_of text = and_then (between (chars text)) some_word
