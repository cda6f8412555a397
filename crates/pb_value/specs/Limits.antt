-- The limits of values, one for all crates.
use Rattle.std.specs.Prelude.{ℕ}

-- how many bytes a text may have that is made, kept or run: 1 MiB
abbrev pub max_text : ℕ
max_text = 1048576

-- how many levels of lists and dicts a value may have
abbrev pub max_depth : ℕ
max_depth = 64

-- how many bytes may be read at once: 64 MiB
abbrev pub max_bytes : ℕ
max_bytes = 67108864
