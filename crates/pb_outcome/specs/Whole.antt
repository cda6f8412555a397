-- Whether each whole number in an outcome fits 64 bits with a sign, as every number that a program holds does.
use Rattle.std.specs.Prelude.{Bool, true}
use Rattle.pb_value.specs.Numbers.{fits_word, are_words}
use Rattle.pb_outcome.specs.declared.outcome.Form.{Form}
use Rattle.pb_outcome.specs.declared.outcome.Form.TheVariants.{Ran, Module, Unreachable, NotStarted}

abbrev pub is_whole : Form → Bool
is_whole (Ran rc out err) = fits_word rc
is_whole (Module v) = are_words v
is_whole (Unreachable msg) = true
is_whole (NotStarted cause) = true
