-- What is kept of a program's streams.
use Rattle.std.specs.Prelude.{◌≡◌, ◌⊎◌, ℕ, ◌+◌, ◌<◌, ◌++◌, Bool, true, false, List, length}
use Rattle.std.specs.Str.{IsUtf8}

-- what is kept of one stream: its bytes, or that they were too many, or that memory was wanting
pub record Kept : Type 0 where
  pub bytes : List ℕ
  pub room : ℕ
  pub over : Bool
  pub lost : Bool

-- the bytes are kept behind those kept before, or memory was wanting, now or before
abbrev pub KeepsBehind : Kept → List ℕ → Kept → Type 0
KeepsBehind old more new = (new.lost ≡ true) ⊎ ((new.lost ≡ false) × (old.lost ≡ false) × (new.bytes ≡ old.bytes ++ more))

-- more bytes came: too many for the room that is left, or they take some of it and are kept behind the others, where no memory was wanting
abbrev pub Adds : Kept → List ℕ → Kept → Type 0
Adds old more new =
    ((new.over ≡ true) × ((old.over ≡ true) ⊎ (old.room < length more)))
    ⊎ ((new.over ≡ false) × (old.over ≡ false) × (old.room ≡ new.room + length more) × KeepsBehind old more new)

-- all of the stream is there
abbrev pub IsWhole : Kept → Type 0
IsWhole kept = (kept.over ≡ false) × (kept.lost ≡ false)

-- one of the two streams isn't text
abbrev pub IsNoText : Kept → Kept → Type 0
IsNoText out err = (¬ (IsUtf8 out.bytes)) ⊎ (¬ (IsUtf8 err.bytes))
