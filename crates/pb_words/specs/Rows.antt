-- Worked examples: each is proved by computing both sides.
use Rattle.std.specs.Prelude.{◌≡◌, ⊤, pos, [], ◌∷◌, Ok, Err, codes, refl}
use Rattle.std.specs.Char.{encode_utf8}
use Rattle.std.specs.Fmt.{digits}
use Rattle.std.specs.Str.{chars, is_utf8}
use Rattle.std.specs.Str.Lossy.{utf8_valid_len}
use Rattle.serde_json.proofs.OnLiterals.{serde_json_on_literals}
use Rattle.pb_value.specs.Datum.{null, int, text, list, item, no_items}
use Rattle.pb_outcome.specs.declared.job.Call.TheVariants.{Command}
use Rattle.pb_words.specs.Calls.{argv_call}
use Rattle.pb_words.specs.Words.{words_of}
use Rattle.pb_words.specs.declared.fault.CallFault.TheVariants.{UnclosedQuote, NoCommand}

-- what computes the words of a text
unfoldable on_texts : ⊤
unfolding chars is_utf8 utf8_valid_len encode_utf8 digits serde_json_on_literals
on_texts = tt

three_words : words_of (codes " ls -l\t'my files'\r\n") ≡ Ok (codes "ls" ∷ codes "-l" ∷ codes "my files" ∷ [])
unfolding on_texts
three_words = refl

-- quotes join with what stands beside them, and have no escapes
joined_quotes : words_of (codes "a'b c'\"'\"d '\\'") ≡ Ok (codes "ab c'd" ∷ codes "\\" ∷ [])
unfolding on_texts
joined_quotes = refl

empty_word : words_of (codes "''") ≡ Ok ([] ∷ [])
unfolding on_texts
empty_word = refl

no_word : words_of (codes " \n") ≡ Err NoCommand
unfolding on_texts
no_word = refl

unclosed : words_of (codes "a 'b") ≡ Err UnclosedQuote
unfolding on_texts
unclosed = refl

-- an e with an acute accent, and a u with a diaeresis in quotes
not_ascii : words_of (195 ∷ 169 ∷ 32 ∷ 39 ∷ 195 ∷ 188 ∷ 39 ∷ []) ≡ Ok ((195 ∷ 169 ∷ []) ∷ (195 ∷ 188 ∷ []) ∷ [])
unfolding on_texts
not_ascii = refl

values_as_words : argv_call (text (codes "a b") ∷ int (pos 7) ∷ null ∷ list (item (text (codes "x")) no_items) ∷ []) ≡ Ok (Command (codes "a b" ∷ codes "7" ∷ [] ∷ codes "[\"x\"]" ∷ []))
unfolding on_texts
values_as_words = refl

no_values : argv_call [] ≡ Err NoCommand
no_values = refl

one_empty_word : argv_call (text [] ∷ []) ≡ Ok (Command ([] ∷ []))
one_empty_word = refl
