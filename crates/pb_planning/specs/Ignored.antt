-- What is warned of in a play that isn't linear: the keys that linear plays alone heed are ignored there, wherever in the play and its roles they are
-- written (Ansible's documentation, "Controlling playbook execution: strategies and more").
use Rattle.std.specs.Prelude.{ℕ, Bool, List, [], ◌∷◌, ◌++◌, codes, if◌then◌else◌}
use Rattle.pb_roles.specs.declared.sections.LinearKeys.{LinearKeys}
use Rattle.pb_strategies.specs.declared.strategy.Strategy.{Strategy}
use Rattle.pb_strategies.specs.declared.strategy.Strategy.TheVariants.{Linear, Free, HostPinned}

-- the name of a strategy, as a play writes it
abbrev pub name_of : Strategy → List ℕ
name_of Linear = codes "linear"
name_of Free = codes "free"
name_of HostPinned = codes "host_pinned"

-- the warning that this key has no effect under this strategy
abbrev pub ignored_line : Strategy → List ℕ → List ℕ
ignored_line strategy key = codes "warning: " ++ key ++ codes " is ignored under " ++ name_of strategy

-- the line of a key that is written
abbrev pub line_of : Strategy → Bool → List ℕ → List (List ℕ)
line_of strategy is_written key = if is_written then ignored_line strategy key ∷ [] else []

-- one line for each key, in the order of their bytes
abbrev pub lines_of : Strategy → LinearKeys → List (List ℕ)
lines_of strategy keys =
    line_of strategy keys.any_errors_fatal (codes "any_errors_fatal") ++ line_of strategy keys.max_fail_percentage (codes "max_fail_percentage")
    ++ line_of strategy keys.run_once (codes "run_once")

-- a linear play heeds them
abbrev pub ignored_lines : Strategy → LinearKeys → List (List ℕ)
ignored_lines Linear keys = []
ignored_lines Free keys = lines_of Free keys
ignored_lines HostPinned keys = lines_of HostPinned keys
