-- What was started, and what came of it.
use Rattle.std.specs.Prelude.{ℕ, List}
use Rattle.pb_runner.specs.declared.launcher.Ending.{Ending}

-- the words of a program that was to be started, and what came of it
pub record Launch : Type 0 where
  pub words : List (List ℕ)
  pub ending : Ending

abbrev pub launch_of : List (List ℕ) → Ending → Launch
launch_of words ending = record { words = words; ending = ending }
