-- What `--list-hosts` prints: of each play its number, how many hosts it has, and their names in host order. See ansible-playbook's `--list-hosts`.
use Rattle.std.specs.Prelude.{ℕ, ◌+◌, Bool, List, [], ◌∷◌, ◌++◌, codes, decimal, count_by, if◌then◌else◌}
use Rattle.pb_plan.specs.Plan.{PlayOf, PlanOf}

-- the line of a play: its number, and how many hosts it has
abbrev pub heading : ℕ → ℕ → List ℕ
heading number count = codes "play " ++ decimal number ++ codes " (" ++ decimal count ++ codes " hosts)\n"

-- a host's name, behind two spaces
abbrev pub host_if : List ℕ → Bool → List ℕ
host_if name listed = if listed then codes "  " ++ name ++ codes "\n" else []

-- a line for each of these names that is in the set
abbrev pub host_lines : List (List ℕ) → List Bool → List ℕ
host_lines [] set = []
host_lines (name ∷ names) [] = []
host_lines (name ∷ names) (listed ∷ set) = host_if name listed ++ host_lines names set

-- the line of a play, and those of its own hosts
abbrev pub play_lines : List (List ℕ) → ℕ → PlayOf → List ℕ
play_lines names number play = heading number (count_by (λ b. b) play.hosts) ++ host_lines names play.hosts

-- the plays from the one of this number on
abbrev pub plays_from : List (List ℕ) → ℕ → List PlayOf → List ℕ
plays_from names number [] = []
plays_from names number (play ∷ plays) = play_lines names number play ++ plays_from names (number + 1) plays

abbrev pub listing : PlanOf → List ℕ
listing plan = plays_from plan.inventory.hosts 0 plan.plays
