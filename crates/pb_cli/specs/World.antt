-- What the program may change: the programs that it starts, and what stands on its streams.
use Rattle.std.specs.Prelude.{◌≡◌, ◌⊎◌, ℕ, List, Option, map}
use Rattle.pb_runner.specs.Launch.{Launch}
use Rattle.pb_runner.specs.declared.launcher.Launcher as Launcher
use Rattle.pb_driver.specs.declared.line_out.LineOut as LineOut
use Rattle.pb_driver.specs.Cut.{IsPart}
use Rattle.pb_driver.specs.Taken.{with_more, one_more}

-- what each launcher was to start so far, with what came of it, where it tells
abbrev pub Starts : Type 0
Starts = List (Option (List Launch))

-- what a stream took, where it tells, and how often it failed
pub record Stream : Type 0 where
  pub taken : Option (List ℕ)
  pub failures : ℕ

-- what a run may change: the launchers' starts, and standard output
pub record Stage : Type 0 where
  pub started : Starts
  pub out : Stream

-- what the program may change: this, and standard error
pub record World : Type 0 where
  pub stage : Stage
  pub err : Stream

-- as launchers and writers tell it
abbrev pub stream_of : {O : Type 0} → LineOut.Ghosts O → O → Stream
stream_of writes writer = record { taken = writes.taken writer; failures = writes.failures writer }

abbrev pub stage_of : {L O : Type 0} → Launcher.Ghosts L → LineOut.Ghosts O → List L → O → Stage
stage_of launches writes launchers out = record { started = map launches.launched launchers; out = stream_of writes out }

abbrev pub world_of : {L O E : Type 0} → Launcher.Ghosts L → LineOut.Ghosts O → LineOut.Ghosts E → List L → O → E → World
world_of launches writes tells launchers out err = record { stage = stage_of launches writes launchers out; err = stream_of tells err }

-- a stream took nothing, and didn't fail
abbrev pub IsQuiet : (before after : Stream) → Type 0
IsQuiet before after = (after.taken ≡ before.taken) × (after.failures ≡ before.failures)

-- a text was put out whole, or a part of it, behind which the writer failed
abbrev pub IsPut : List ℕ → (before after : Stream) → Type 0
IsPut text before after = (after.taken ≡ with_more before.taken text) ⊎ (IsPart before.taken after.taken text × (after.failures ≡ one_more before.failures))

-- nothing was started, and nothing written on standard output
abbrev pub IsUntouched : (before after : Stage) → Type 0
IsUntouched before after = (after.started ≡ before.started) × (after.out.taken ≡ before.out.taken)
