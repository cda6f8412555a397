-- Where a host stands, as strategies see it (Ansible's documentation, "Controlling playbook execution: strategies and more").
use Rattle.std.specs.Prelude.{Bool, ◌||◌, is_some, option_map}
use Rattle.pb_strategies.specs.declared.standings.Standing.{Standing}
use Rattle.pb_host.specs.declared.host.Running.{Running}
use Rattle.pb_host.specs.Host.{HostOf, next_place}

-- a host has begun its batch where it runs a task of it, or has finished one
abbrev pub has_begun : HostOf → Bool
has_begun row = is_some row.running || is_some row.last

-- where a host stands
abbrev pub standing : HostOf → Standing
standing row = record { next = next_place row; runs = option_map (λ (r : Running). r.place) row.running; has_begun = has_begun row }
