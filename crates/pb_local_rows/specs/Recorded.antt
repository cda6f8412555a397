-- What a launcher tells that starts nothing.
use Rattle.std.specs.Prelude.{◌≡◌, ℕ, pos, false, List, [], ◌∷◌, ◌++◌, Some, refl}
use Rattle.std.proofs.Common.{ap}
use Rattle.pb_value.specs.Limits.{max_text}
use Rattle.pb_runner.specs.declared.launcher.Ending.{Ending}
use Rattle.pb_runner.specs.declared.launcher.Ending.TheVariants.{Ended}
use Rattle.pb_runner.specs.Kept.{Kept}
use Rattle.pb_runner.specs.Launch.{Launch, launch_of}

-- a stream on which nothing was written
abbrev pub nothing : Kept
nothing = record { bytes = []; room = max_text; over = false; lost = false }

-- the end of a program with status 0 that wrote nothing
abbrev pub ended_well : Ending
ended_well = Ended (Some (pos 0)) nothing nothing

-- programs with these words were to be started, one after another, and each ended well
abbrev pub recorded : List (List (List ℕ)) → List Launch
recorded [] = []
recorded (words ∷ past) = launch_of words ended_well ∷ recorded past

-- one more program stands behind the others
pub one_more : (past : List (List (List ℕ))) (words : List (List ℕ)) → recorded (past ++ words ∷ []) ≡ recorded past ++ launch_of words ended_well ∷ []
one_more [] words = refl
one_more (w ∷ past) words = ap (λ l. launch_of w ended_well ∷ l) (one_more past words)
