-- Launchers that are hired out to runners.
use Rattle.std.specs.Prelude.{◌≡◌, ◌≤◌, ℕ, List, [], All, Option, length, vec_capacity}
use Rattle.pb_runner.specs.declared.local.LocalRunner.{LocalRunner}
use Rattle.pb_cli.specs.declared.workers.Staff.{Staff}

abbrev pub launcher_of : {L : Type 0} → LocalRunner L → L
launcher_of runner = runner.launcher

-- the program that a runner has for gathering facts, if it has one
abbrev pub facts_of : {L : Type 0} → LocalRunner L → Option (List ℕ)
facts_of runner = runner.facts

-- room for so many launchers, of which so many get a runner, and for each of these the facts program
abbrev pub HasRoomFor : {L : Type 0} → (facts_program : Option (List ℕ)) → (launchers forks : ℕ) → Staff L → Type 0
HasRoomFor facts_program launchers forks staff =
    ((staff.queue.items ≡ []) × (launchers ≤ vec_capacity staff.queue)) × ((staff.runners.items ≡ []) × (forks ≤ vec_capacity staff.runners))
    × (length staff.facts.items ≡ forks) × All (λ (copy : Option (List ℕ)). copy ≡ facts_program) staff.facts.items
