-- What is read of a file.
use Rattle.std.specs.Prelude.{ℕ, ◌+◌, List, take}

-- a reader's bytes up to its end, or to one byte over the limit
abbrev pub up_to : ℕ → List ℕ → List ℕ
up_to limit bytes = take (limit + 1) bytes
