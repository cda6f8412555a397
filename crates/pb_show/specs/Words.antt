-- The words of the program, what they ask for, and what it does then.
use Rattle.std.specs.Prelude.{◌≡◌, ℕ, ◌+◌, true, false, List, [], ◌∷◌, Option, IfSome, codes, if◌then◌else◌}
use Rattle.std.specs.Io.KnownBytes.{Appends}
use Rattle.std.specs.Str.{bytes_eq}
use Rattle.pb_show.specs.Whole.{all_shown, AppendsFront}
use Rattle.pb_show.specs.declared.look.Look.{Look}
use Rattle.pb_show.specs.declared.words.Word.{Word}
use Rattle.pb_show.specs.declared.words.Word.TheVariants.{Color, Plain, Starts, Other}
use Rattle.pb_show.specs.declared.words.Word.TheVariants as word
use Rattle.pb_show.specs.declared.words.Asked.{Asked}
use Rattle.pb_show.specs.declared.words.Asked.TheVariants.{Help, Show, Unknown}

-- which of the program's words a text is, or that it is none of them
abbrev pub word_named : List ℕ → Word
word_named text =
    if bytes_eq text (codes "--color") then Color
    else if bytes_eq text (codes "--plain") then Plain
    else if bytes_eq text (codes "--starts") then Starts
    else if bytes_eq text (codes "--help") then word.Help
    else if bytes_eq text (codes "-h") then word.Help
    else Other

-- what a word says, which has the number i, and then those behind it
abbrev pub asked_by : Word → Look → ℕ → (Look → Asked) → Asked
asked_by Color look i behind = behind (record look { color = true })
asked_by Plain look i behind = behind (record look { color = false; progress = false })
asked_by Starts look i behind = behind (record look { starts = true })
asked_by word.Help look i behind = Help
asked_by Other look i behind = Unknown i

-- the first of these words has the number i; what they say last counts
abbrev pub asked : Look → ℕ → List (List ℕ) → Asked
asked look i [] = Show look
asked look i (word ∷ words) = asked_by (word_named word) look i (λ (l : Look). asked l (i + 1) words)

-- where it ends well: the help, or all that is shown of the reader's bytes, where these are known
abbrev pub IsDone : List ℕ → Asked → Option (List ℕ) → Option (List ℕ) → Option (List ℕ) → Type 0
IsDone help Help bytes old new = Appends old new help
IsDone help (Show look) bytes old new = IfSome bytes (λ bs. Appends old new (all_shown look bs))
IsDone help (Unknown i) bytes old new = ⊥

-- however it ends: a front of that
abbrev pub IsBegun : List ℕ → Asked → Option (List ℕ) → Option (List ℕ) → Option (List ℕ) → Type 0
IsBegun help Help bytes old new = AppendsFront old new help
IsBegun help (Show look) bytes old new = IfSome bytes (λ bs. AppendsFront old new (all_shown look bs))
IsBegun help (Unknown i) bytes old new = new ≡ old
