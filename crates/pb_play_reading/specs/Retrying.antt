-- Tasks that are tried more than once. See Ansible's documentation, "Retrying a task until a condition is met".
use Rattle.std.specs.Prelude.{◌≡◌, ℕ, ℤ, pos, negsuc, nat_lt, List, [], Ok, Option, Some, None, unwrap_or, codes, option_and_then, if◌then◌else◌, refl}
use Rattle.serde_json.specs.Data as json
use Rattle.serde_json.specs.Find.{as_i64}
use Rattle.pb_expr_syntax.specs.Tree.{Tree}
use Rattle.pb_reading.specs.Fields.{◌>>=◌, Part, Telling, field, rule}
use Rattle.pb_reading.specs.Reading.{Reading, wrong, required}
use Rattle.pb_written.specs.Conditions.{conditions}
use Rattle.pb_written.specs.Faults.{refused_below}
use Rattle.pb_written.specs.declared.fault.LoadFault.{LoadFault}
use Rattle.pb_play_reading.specs.Couplings.{runs}
use Rattle.pb_play.specs.Modules.{is_program}
use Rattle.pb_play.specs.declared.modules.Module.{Module}
use Rattle.pb_play.specs.declared.retrying.Retrying.{Retrying}
use Rattle.pb_play_reading.specs.declared.retrying.Tries.{Tries}

-- an integer from 0 up to the most
abbrev pub within : ℕ → ℤ → Option ℕ
within most (pos n) = if nat_lt most n then None else Some n
within most (negsuc n) = None

-- a whole number from 0 up to this one; all else has the wrong shape
abbrev pub up_to : ℕ → List ℕ → json.Data → Reading ℕ LoadFault
up_to most path (json.number n) = required path (option_and_then (within most) (as_i64 n))
up_to most path d = wrong path

-- how many attempts may follow the first one, and how many seconds lie between two
abbrev pub retries : List ℕ → json.Data → Reading ℕ LoadFault
retries path d = up_to 100 path d

abbrev pub delay : List ℕ → json.Data → Reading ℕ LoadFault
delay path d = up_to 3600 path d

-- how often a task is tried and until what holds, and how its hosts run it
abbrev pub tries : {S : Type 0} → Telling S LoadFault → Part S LoadFault Tries
tries tells = do
  retries ← field tells (codes "retries") retries
  runs ← runs tells
  until ← field tells (codes "until") conditions
  rule (Ok (record { retries = retries; runs = runs; until = until }))

-- only a program is tried more than once: on any other task these keys are refused
abbrev pub not_tried_again : List ℕ → Option (List Tree) → Option ℕ → Reading Unit LoadFault
not_tried_again path None None = Ok tt
not_tried_again path None (Some n) = refused_below path (codes "retries")
not_tried_again path (Some until) retries = refused_below path (codes "until")

-- what a task says of further attempts is refused, unless its module runs a program
abbrev pub may_retry : List ℕ → Module → Tries → Reading Unit LoadFault
may_retry path called tries = if is_program called then Ok tt else not_tried_again path tries.until tries.retries

-- a task that says neither until when nor how often is tried once; where it says one of them, three attempts may follow the first one, five seconds apart,
-- unless it says otherwise
abbrev pub retrying_of : Option (List Tree) → Option ℕ → Option ℕ → Option Retrying
retrying_of None None delay = None
retrying_of None (Some n) delay = Some (record { until = None; retries = n; delay = unwrap_or delay 5 })
retrying_of (Some until) retries delay = Some (record { until = Some until; retries = unwrap_or retries 3; delay = unwrap_or delay 5 })

-- a task that says until when it is tried: up to four times, every five seconds
abbrev by_default : Option Retrying
by_default = retrying_of (Some []) None None

-- a delay alone has no effect
delay_alone : retrying_of None None (Some 7) ≡ None
delay_alone = refl

retries_alone : retrying_of None (Some 2) (Some 0) ≡ Some (record { until = None; retries = 2; delay = 0 })
retries_alone = refl

until_alone : by_default ≡ Some (record { until = Some []; retries = 3; delay = 5 })
until_alone = refl

no_retry_at_all : retrying_of (Some []) (Some 0) None ≡ Some (record { until = Some []; retries = 0; delay = 5 })
no_retry_at_all = refl
