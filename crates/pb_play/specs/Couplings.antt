-- How the hosts of a task are coupled, where nothing is said of it. See Ansible's documentation, "Controlling where tasks run" and "Error handling in playbooks".
use Rattle.std.specs.Prelude.{None}
use Rattle.pb_play.specs.declared.couplings.Couplings.{Couplings}

-- where nothing is said of it
abbrev pub uncoupled : Couplings
uncoupled = record { any_errors_fatal = None; delegate_facts = None; delegate_to = None; run_once = None }
