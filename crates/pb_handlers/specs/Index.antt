-- An index of words, as the code keeps it.
use Rattle.std.specs.Prelude.{◌≡◌, ℕ, ◌+◌, Bool, false, List, [], ◌∷◌, ◌++◌, slice_get, if◌then◌else◌}
use Rattle.std.specs.List.{list_any}
use Rattle.std.specs.Option.{option_map_or}
use Rattle.std.specs.Str.{bytes_eq}
use Rattle.pb_handlers.specs.declared.naming.HandlerNames.{HandlerNames}
use Rattle.pb_handlers.specs.Naming.{answers_to}
use Rattle.pb_handlers.specs.Pending.{is_among}

-- a word that is there keeps its place, and a new one goes last
abbrev pub with_word : List ℕ → List (List ℕ) → List (List ℕ)
with_word word words = if list_any (bytes_eq word) words then words else words ++ word ∷ []

-- words, each once, and beside each the numbers of the handlers that answer to it
pub record WordsOf : Type 0 where
  pub words : List (List ℕ)
  pub numbers : List (List ℕ)

-- the numbers beside a word
abbrev pub under : List ℕ → List (List ℕ) → List (List ℕ) → List ℕ
under word [] numbers = []
under word (known ∷ words) [] = []
under word (known ∷ words) (mine ∷ numbers) = if bytes_eq word known then mine else under word words numbers

-- the numbers beside a word of an index; none where the word isn't in it
abbrev pub numbers_under : List ℕ → WordsOf → List ℕ
numbers_under word index = under word index.words index.numbers

-- whether the handler at a position answers to a word
abbrev pub answers_at : List ℕ → List HandlerNames → ℕ → Bool
answers_at word handlers k = option_map_or (answers_to word) (slice_get handlers k) false

-- beside each word stand the handlers that answer to it
abbrev pub IsIndex : List HandlerNames → WordsOf → Type 0
IsIndex handlers index = (word : List ℕ) (k : ℕ) → is_among k (numbers_under word index) ≡ answers_at word handlers k

-- the numbers at which there is a mark; the first one is n
abbrev pub marked_from : ℕ → List Bool → List ℕ
marked_from n [] = []
marked_from n (is_marked ∷ marks) = if is_marked then n ∷ marked_from (n + 1) marks else marked_from (n + 1) marks
