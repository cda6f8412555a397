-- What the code keeps of the elements so far.
use Rattle.std.specs.Prelude.{◌≡◌, ℕ, Bool, true, false, ◌&&◌, ◌||◌, not, List, replicate, if◌then◌else◌}
use Rattle.std.specs.Simd.Lanes.{zip2}
use Rattle.pb_patterns.specs.declared.choice.Choice.{Choice}
use Rattle.pb_patterns.specs.declared.element.Mark.{Mark}
use Rattle.pb_patterns.specs.declared.element.Mark.TheVariants.{Unmarked, Met, Excluded}

-- what is kept before the first element, of so many hosts: none is in an unmarked element or one marked `!`, and all are in each marked `&`
abbrev pub IsBegun : ℕ → Choice → Type 0
IsBegun hosts choice = choice ≡ record { joined = replicate hosts false; met = replicate hosts true; excluded = replicate hosts false; has_unmarked = false }

-- what is kept with one element more, which has this mark and means these hosts
abbrev pub added : Mark → List Bool → Choice → Choice
added Unmarked set choice = record choice { joined = zip2 (λ a b. a || b) choice.joined set; has_unmarked = true }
added Met set choice = record choice { met = zip2 (λ a b. a && b) choice.met set }
added Excluded set choice = record choice { excluded = zip2 (λ a b. a || b) choice.excluded set }

abbrev pub IsAdded : Mark → List Bool → Choice → Choice → Type 0
IsAdded mark set old new = new ≡ added mark set old

-- of each of so many hosts whether a pattern chooses it, by what is kept of all its elements
abbrev pub chosen_by : ℕ → Choice → List Bool
chosen_by hosts choice =
    zip2 (λ a b. a && not b) (zip2 (λ a b. a && b) (if choice.has_unmarked then choice.joined else replicate hosts true) choice.met) choice.excluded
