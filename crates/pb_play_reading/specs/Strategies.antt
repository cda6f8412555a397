-- The strategy of a play. See Ansible's documentation, "Controlling playbook execution: strategies and more".
use Rattle.std.specs.Prelude.{ℕ, List, Ok, Err, codes, if◌then◌else◌}
use Rattle.std.specs.Str.{bytes_eq}
use Rattle.serde_json.specs.Data as json
use Rattle.pb_reading.specs.Reading.{Reading, Own}
use Rattle.pb_strategies.specs.declared.strategy.Strategy.{Strategy}
use Rattle.pb_strategies.specs.declared.strategy.Strategy.TheVariants.{Linear, Free, HostPinned}
use Rattle.pb_written.specs.declared.fault.LoadFault.{LoadFault}
use Rattle.pb_written.specs.declared.fault.LoadFault.TheVariants.{BadStrategy}

-- a strategy is known by its name, as it stands
abbrev pub strategy_of : List ℕ → List ℕ → Reading Strategy LoadFault
strategy_of path s =
    if bytes_eq s (codes "free") then Ok Free
    else (if bytes_eq s (codes "host_pinned") then Ok HostPinned
    else (if bytes_eq s (codes "linear") then Ok Linear else Err (Own (BadStrategy path))))

-- whatever is no such name, of whatever kind it is
abbrev pub strategy : List ℕ → json.Data → Reading Strategy LoadFault
strategy path (json.string s) = strategy_of path s
strategy path d = Err (Own (BadStrategy path))
