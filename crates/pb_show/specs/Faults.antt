-- Why lines aren't shown to their end, by the failed calls of the streams.
use Rattle.std.specs.Prelude.{◌≡◌, ◌≤◌, ℕ, ◌+◌, ◌-◌, ◌%◌, ◌^◌, List, Option, IfSome, length}
use Rattle.pb_show.specs.Whole.{lines_in}
use Rattle.pb_show.specs.declared.output.ShowFault.{ShowFault}
use Rattle.pb_show.specs.declared.output.ShowFault.TheVariants.{Read, TooLong, Write, Memory, Word}
use Rattle.pb_show.specs.declared.streams.Counted.{Counted}
use Rattle.pb_show.specs.declared.words.Asked.{Asked}
use Rattle.pb_show.specs.declared.words.Asked.TheVariants.{Help, Show, Unknown}

-- ---- streams
abbrev pub stream_of : {S : Type 0} → Counted S → S
stream_of c = c.stream

-- how many calls of a stream have failed, as they are counted
abbrev pub failures_of : {S : Type 0} → Counted S → ℕ
failures_of c = c.failures

-- failed calls are counted modulo 2 ^ 64
abbrev pub one_more : ℕ → ℕ
one_more failures = (failures + 1) % 2 ^ 64

-- as many lines as are shown, or more
abbrev pub IsEndless : Option (List ℕ) → Type 0
IsEndless bytes = IfSome bytes (λ bs. 2 ^ 64 - 1 ≤ length (lines_in bs))

-- ---- faults
-- of a fault behind a line that was read: one call of the writer failed, or memory was refused; its counts before and after
abbrev pub IsCut : ShowFault → ℕ → ℕ → Type 0
IsCut Read old new = ⊥
IsCut TooLong old new = ⊥
IsCut Write old new = new ≡ one_more old
IsCut Memory old new = new ≡ old
IsCut Word old new = ⊥

-- of any fault: one call of the reader failed, or it has too many lines, or it is one of those; the reader's counts, and the writer's
abbrev pub IsWhy : ShowFault → Option (List ℕ) → ℕ → ℕ → ℕ → ℕ → Type 0
IsWhy Read bytes old new out_old out_new = (new ≡ one_more old) × (out_new ≡ out_old)
IsWhy TooLong bytes old new out_old out_new = (new ≡ old) × (out_new ≡ out_old) × IsEndless bytes
IsWhy Write bytes old new out_old out_new = (new ≡ old) × IsCut Write out_old out_new
IsWhy Memory bytes old new out_old out_new = (new ≡ old) × IsCut Memory out_old out_new
IsWhy Word bytes old new out_old out_new = ⊥

-- of the program's fault, by what its words ask for: the help takes no memory, and a word that isn't one of the program's is told before anything is read
abbrev pub IsWhyAsked : Asked → ShowFault → Option (List ℕ) → ℕ → ℕ → ℕ → ℕ → Type 0
IsWhyAsked Help fault bytes old new out_old out_new = (fault ≡ Write) × (new ≡ old) × (out_new ≡ one_more out_old)
IsWhyAsked (Show look) fault bytes old new out_old out_new = IsWhy fault bytes old new out_old out_new
IsWhyAsked (Unknown i) fault bytes old new out_old out_new = (fault ≡ Word) × (new ≡ old) × (out_new ≡ out_old)
