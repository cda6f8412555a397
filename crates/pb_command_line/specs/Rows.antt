-- Worked command lines.
use Rattle.std.specs.Prelude.{◌≡◌, ⊤, true, false, None, Some, [], ◌∷◌, codes, refl}
use Rattle.std.proofs.Common.{arith}
use Rattle.std.specs.Str.Parse.{digits_value, without_leading_plus}
use Rattle.clap.proofs.OnLiterals.{clap_on_literals}
use Rattle.clap.specs.declared.error.kind.ErrorKind.TheVariants.{DisplayHelp, MissingRequiredArgument, UnknownArgument}
use Rattle.pb_command_line.specs.CommandLine.{errors_in, value_in, Asks}
use Rattle.pb_command_line.specs.declared.words.Purpose.TheVariants.{Run, CheckSyntax, ListHosts}

-- what computes a row from its words
unfoldable on_literals : ⊤
unfolding errors_in value_in clap_on_literals
on_literals = tt

asked : Asks (codes "pb-play" ∷ codes "-i" ∷ codes "hosts.json" ∷ codes "site.json" ∷ []) (record { inventory = codes "hosts.json"; playbook = codes "site.json"; forks = 5; outcomes = None; limit = None; extra = None; roles = None; facts_program = None; stop_after = None; same_under = None; failed = None; trail = None; audit = None; strict = false; places = false; purpose = Run })
unfolding on_literals
asked = (refl, (refl, refl, refl, refl, refl, refl, refl, refl, refl, refl, refl, refl, refl, refl, refl, refl))

-- the inventory may come last, and stand in its option's word
asked_last : Asks (codes "pb-play" ∷ codes "site.json" ∷ codes "-ihosts.json" ∷ []) (record { inventory = codes "hosts.json"; playbook = codes "site.json"; forks = 5; outcomes = None; limit = None; extra = None; roles = None; facts_program = None; stop_after = None; same_under = None; failed = None; trail = None; audit = None; strict = false; places = false; purpose = Run })
unfolding on_literals
asked_last = (refl, (refl, refl, refl, refl, refl, refl, refl, refl, refl, refl, refl, refl, refl, refl, refl, refl))

-- hosts are listed, within a limit
lists : Asks (codes "pb-play" ∷ codes "-i" ∷ codes "hosts.json" ∷ codes "-l" ∷ codes "web:!db" ∷ codes "--list-hosts" ∷ codes "site.json" ∷ [])
    (record { inventory = codes "hosts.json"; playbook = codes "site.json"; forks = 5; outcomes = None; limit = Some (codes "web:!db"); extra = None; roles = None; facts_program = None; stop_after = None; same_under = None; failed = None; trail = None; audit = None; strict = false; places = false; purpose = ListHosts })
unfolding on_literals
lists = (refl, (refl, refl, refl, refl, refl, refl, refl, refl, refl, refl, refl, refl, refl, refl, refl, refl))

-- the check goes before the list
checks : Asks (codes "pb-play" ∷ codes "--list-hosts" ∷ codes "--syntax-check" ∷ codes "-i" ∷ codes "hosts.json" ∷ codes "site.json" ∷ [])
    (record { inventory = codes "hosts.json"; playbook = codes "site.json"; forks = 5; outcomes = None; limit = None; extra = None; roles = None; facts_program = None; stop_after = None; same_under = None; failed = None; trail = None; audit = None; strict = false; places = false; purpose = CheckSyntax })
unfolding on_literals
checks = (refl, (refl, refl, refl, refl, refl, refl, refl, refl, refl, refl, refl, refl, refl, refl, refl, refl))

-- warnings are faults
is_strict : Asks (codes "pb-play" ∷ codes "-i" ∷ codes "hosts.json" ∷ codes "--strict" ∷ codes "site.json" ∷ [])
    (record { inventory = codes "hosts.json"; playbook = codes "site.json"; forks = 5; outcomes = None; limit = None; extra = None; roles = None; facts_program = None; stop_after = None; same_under = None; failed = None; trail = None; audit = None; strict = true; places = false; purpose = Run })
unfolding on_literals
is_strict = (refl, (refl, refl, refl, refl, refl, refl, refl, refl, refl, refl, refl, refl, refl, refl, refl, refl))

-- faults are reported with their places
placed : Asks (codes "pb-play" ∷ codes "--where" ∷ codes "-i" ∷ codes "hosts.json" ∷ codes "site.json" ∷ []) (record { inventory = codes "hosts.json"; playbook = codes "site.json"; forks = 5; outcomes = None; limit = None; extra = None; roles = None; facts_program = None; stop_after = None; same_under = None; failed = None; trail = None; audit = None; strict = false; places = true; purpose = Run })
unfolding on_literals
placed = (refl, (refl, refl, refl, refl, refl, refl, refl, refl, refl, refl, refl, refl, refl, refl, refl, refl))

-- extra variables
varied : Asks (codes "pb-play" ∷ codes "-i" ∷ codes "hosts.json" ∷ codes "-e" ∷ codes "{\"x\":6}" ∷ codes "site.json" ∷ [])
    (record { inventory = codes "hosts.json"; playbook = codes "site.json"; forks = 5; outcomes = None; limit = None; extra = Some (codes "{\"x\":6}"); roles = None; facts_program = None; stop_after = None; same_under = None; failed = None; trail = None; audit = None; strict = false; places = false; purpose = Run })
unfolding on_literals
varied = (refl, (refl, refl, refl, refl, refl, refl, refl, refl, refl, refl, refl, refl, refl, refl, refl, refl))

-- a folder of roles
roled : Asks (codes "pb-play" ∷ codes "-i" ∷ codes "hosts.json" ∷ codes "--roles=roles" ∷ codes "site.json" ∷ [])
    (record { inventory = codes "hosts.json"; playbook = codes "site.json"; forks = 5; outcomes = None; limit = None; extra = None; roles = Some (codes "roles"); facts_program = None; stop_after = None; same_under = None; failed = None; trail = None; audit = None; strict = false; places = false; purpose = Run })
unfolding on_literals
roled = (refl, (refl, refl, refl, refl, refl, refl, refl, refl, refl, refl, refl, refl, refl, refl, refl, refl))

-- a program that gathers facts
gathers : Asks (codes "pb-play" ∷ codes "-i" ∷ codes "hosts.json" ∷ codes "--facts-program" ∷ codes "./facts" ∷ codes "site.json" ∷ [])
    (record { inventory = codes "hosts.json"; playbook = codes "site.json"; forks = 5; outcomes = None; limit = None; extra = None; roles = None; facts_program = Some (codes "./facts"); stop_after = None; same_under = None; failed = None; trail = None; audit = None; strict = false; places = false; purpose = Run })
unfolding on_literals
gathers = (refl, (refl, refl, refl, refl, refl, refl, refl, refl, refl, refl, refl, refl, refl, refl, refl, refl))

-- once more, with as many forks as there may be at most: three digits, each below 10, and their value
once_more : Asks (codes "pb-play" ∷ codes "-i" ∷ codes "hosts.json" ∷ codes "--same-under" ∷ codes "256" ∷ codes "site.json" ∷ [])
    (record { inventory = codes "hosts.json"; playbook = codes "site.json"; forks = 5; outcomes = None; limit = None; extra = None; roles = None; facts_program = None; stop_after = None; same_under = Some 256; failed = None; trail = None; audit = None; strict = false; places = false; purpose = Run })
unfolding on_literals
once_more = (refl, (refl, refl, refl, refl, refl, refl, refl, refl, refl, ((omega arith, (omega arith, (omega arith, (omega arith, tt)))), refl, omega arith, omega arith), refl, refl, refl, refl, refl, refl))

-- a file for the hosts that didn't get through
keeps_hosts : Asks (codes "pb-play" ∷ codes "-i" ∷ codes "hosts.json" ∷ codes "--failed" ∷ codes "left.txt" ∷ codes "site.json" ∷ [])
    (record { inventory = codes "hosts.json"; playbook = codes "site.json"; forks = 5; outcomes = None; limit = None; extra = None; roles = None; facts_program = None; stop_after = None; same_under = None; failed = Some (codes "left.txt"); trail = None; audit = None; strict = false; places = false; purpose = Run })
unfolding on_literals
keeps_hosts = (refl, (refl, refl, refl, refl, refl, refl, refl, refl, refl, refl, refl, refl, refl, refl, refl, refl))

-- a file for the run's trail
records : Asks (codes "pb-play" ∷ codes "-i" ∷ codes "hosts.json" ∷ codes "--trail" ∷ codes "run.trail" ∷ codes "site.json" ∷ [])
    (record { inventory = codes "hosts.json"; playbook = codes "site.json"; forks = 5; outcomes = None; limit = None; extra = None; roles = None; facts_program = None; stop_after = None; same_under = None; failed = None; trail = Some (codes "run.trail"); audit = None; strict = false; places = false; purpose = Run })
unfolding on_literals
records = (refl, (refl, refl, refl, refl, refl, refl, refl, refl, refl, refl, refl, refl, refl, refl, refl, refl))

-- a trail that is looked at
audits : Asks (codes "pb-play" ∷ codes "-i" ∷ codes "hosts.json" ∷ codes "--audit=run.trail" ∷ codes "site.json" ∷ [])
    (record { inventory = codes "hosts.json"; playbook = codes "site.json"; forks = 5; outcomes = None; limit = None; extra = None; roles = None; facts_program = None; stop_after = None; same_under = None; failed = None; trail = None; audit = Some (codes "run.trail"); strict = false; places = false; purpose = Run })
unfolding on_literals
audits = (refl, (refl, refl, refl, refl, refl, refl, refl, refl, refl, refl, refl, refl, refl, refl, refl, refl))

-- the number of reports behind which a run is stopped, as it is written, and the largest
stops : value_in (codes "stop_after") (codes "pb-play" ∷ codes "-i" ∷ codes "hosts.json" ∷ codes "--stop-after" ∷ codes "3" ∷ codes "site.json" ∷ []) ≡ Some (codes "3")
unfolding on_literals
stops = refl

largest_stop : digits_value 10 (without_leading_plus (codes "4294967295")) ≡ 4294967295
unfolding on_literals
largest_stop = refl

help : errors_in (codes "pb-play" ∷ codes "--help" ∷ []) ≡ DisplayHelp ∷ []
unfolding on_literals
help = refl

no_playbook : errors_in (codes "pb-play" ∷ codes "-i" ∷ codes "hosts.json" ∷ []) ≡ MissingRequiredArgument ∷ []
unfolding on_literals
no_playbook = refl

no_inventory : errors_in (codes "pb-play" ∷ codes "site.json" ∷ []) ≡ MissingRequiredArgument ∷ []
unfolding on_literals
no_inventory = refl

unknown : errors_in (codes "pb-play" ∷ codes "--bad" ∷ []) ≡ UnknownArgument ∷ []
unfolding on_literals
unknown = refl
