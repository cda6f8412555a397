-- The places of a plan's runs, in the order of its steps.
use Rattle.std.specs.Prelude.{◌≡◌, ℕ, ◌-◌, Bool, ◌&&◌, List, [], ◌∷◌, ◌++◌, if◌then◌else◌, reverse}
use Rattle.std.specs.List.{range_with_len}
use Rattle.pb_tree.specs.Tree.{Nodes, TreeOf, size, size_of}
use Rattle.pb_tree.specs.Walk.{ends_in_flush, front}
use Rattle.pb_flat.specs.declared.step.Step.{Step}
use Rattle.pb_flat.specs.declared.step.Step.TheVariants.{End, Runs as OneRun, Enter, Leave}

-- the places of a step and of the steps behind it
abbrev pub step_places : Step → List ℕ → List ℕ
step_places (End kind) behind = behind
step_places (OneRun run) behind = run.place ∷ behind
step_places (Enter before n) behind = behind
step_places (Leave after) behind = behind

-- the places of the runs among these steps, in their order
abbrev pub run_places : List Step → List ℕ
run_places [] = []
run_places (step ∷ steps) = step_places step (run_places steps)

-- a last Flush that runs its handlers after a failure too stands there twice more: for hosts that failed, and for halted ones
abbrev pub last_places : TreeOf → List ℕ
last_places tree = range_with_len (size_of tree - tree.handlers) tree.handlers

-- the places of these two copies; none where no handler is forced, or where the last node is no Flush
abbrev pub copies : TreeOf → List ℕ
copies tree = if tree.force_handlers && ends_in_flush tree.nodes then last_places tree ++ last_places tree else []

-- the runs are the places 0, 1, 2, .. of the tree, in order
abbrev pub RunsInOrder : List Step → TreeOf → Type 0
RunsInOrder steps tree = run_places steps ≡ range_with_len 0 (size_of tree) ++ copies tree

-- ---- while a plan is laid out, from its last step to its first
unfoldable pub places_in : List Step → List ℕ
places_in steps = run_places (reverse steps)

-- so many places more, from `at` on
abbrev pub AddsPlaces : List Step → List Step → ℕ → ℕ → Type 0
AddsPlaces old new at count = places_in new ≡ range_with_len at count ++ places_in old

-- the places of a play whose last Flush is forced, and of any play
abbrev pub forced_places : ℕ → Nodes → List ℕ
forced_places handlers before =
    let last = range_with_len (size handlers before) handlers in
    range_with_len 0 (size handlers before) ++ (last ++ (last ++ last))

abbrev pub whole_places : ℕ → Bool → Nodes → List ℕ
whole_places handlers force nodes = if force && ends_in_flush nodes then forced_places handlers (front nodes) else range_with_len 0 (size handlers nodes)
