-- All that is shown of some bytes: what each of their lines becomes, in order, and how the run went.
use Rattle.std.specs.Prelude.{ℕ, ◌==◌, List, [], ◌∷◌, ◌++◌, take, Option, if◌then◌else◌}
use Rattle.std.specs.Io.KnownBytes.{Appends}
use Rattle.pb_show.specs.Closing.{closing}
use Rattle.pb_show.specs.Showing.{start, shown}
use Rattle.pb_show.specs.declared.look.Look.{Look}
use Rattle.pb_show.specs.declared.showing.Showing.{Showing}

-- a byte in front of the first line
abbrev pub with_byte : ℕ → List (List ℕ) → List (List ℕ)
with_byte byte [] = (byte ∷ []) ∷ []
with_byte byte (first ∷ lines) = (byte ∷ first) ∷ lines

-- the bytes, cut behind each line feed; what stands behind the last one is a line too
abbrev pub lines_in : List ℕ → List (List ℕ)
lines_in [] = []
lines_in (byte ∷ bytes) = if byte == 10 then (byte ∷ []) ∷ lines_in bytes else with_byte byte (lines_in bytes)

-- all that these lines become, and how the run went behind them, where this was kept of the lines before
abbrev pub shown_from : Look → Showing → List (List ℕ) → List ℕ
shown_from look s [] = closing look s
shown_from look s (line ∷ lines) = (shown look s line).text ++ shown_from look (shown look s line).state lines

-- all that is shown of some bytes, where no line stands before them
abbrev pub all_shown : Look → List ℕ → List ℕ
all_shown look bytes = shown_from look start (lines_in bytes)

-- known bytes grow by a front of these
abbrev pub AppendsFront : Option (List ℕ) → Option (List ℕ) → List ℕ → Type 0
AppendsFront old new bytes = (n : ℕ) × Appends old new (take n bytes)
