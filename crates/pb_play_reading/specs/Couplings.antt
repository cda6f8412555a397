-- How the keys are read that say how the hosts of a task are coupled. See Ansible's documentation, "Controlling where tasks run", "Error handling in
-- playbooks" and "Controlling playbook execution: strategies and more".
use Rattle.std.specs.Prelude.{Bool, Ok, Option, codes}
use Rattle.pb_reading.specs.Fields.{◌>>=◌, Part, Telling, field, rule}
use Rattle.pb_written.specs.Simple.{switched}
use Rattle.pb_written.specs.Values.{template_text}
use Rattle.pb_written.specs.declared.fault.LoadFault.{LoadFault}
use Rattle.pb_play_reading.specs.Throttles.{throttle}
use Rattle.pb_play.specs.declared.couplings.Couplings.{Couplings}
use Rattle.pb_play_reading.specs.declared.couplings.Delegation.{Delegation}
use Rattle.pb_play_reading.specs.declared.couplings.Runs.{Runs}

-- which host runs a task in place of its own, by a template of its name, and whether the facts are that host's; the other keys of the object tell what
-- they tell
abbrev pub delegation : {S : Type 0} → Telling S LoadFault → Part S LoadFault Delegation
delegation tells = do
  delegate_facts ← field tells (codes "delegate_facts") switched
  delegate_to ← field tells (codes "delegate_to") template_text
  rule (Ok (record { delegate_facts = delegate_facts; delegate_to = delegate_to }))

-- whether the first host runs a task for all of them, and how many run it at once
abbrev pub runs : {S : Type 0} → Telling S LoadFault → Part S LoadFault Runs
runs tells = do
  run_once ← field tells (codes "run_once") switched
  throttle ← field tells (codes "throttle") throttle
  rule (Ok (record { run_once = run_once; throttle = throttle }))

-- what is said of it, where these keys say so
abbrev pub coupled : Option Bool → Delegation → Option Bool → Couplings
coupled any_errors_fatal delegation run_once =
    record { any_errors_fatal = any_errors_fatal; delegate_facts = delegation.delegate_facts; delegate_to = delegation.delegate_to; run_once = run_once }
