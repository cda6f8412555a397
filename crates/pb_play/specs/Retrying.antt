-- How long an attempt at a task waits. See Ansible's documentation, "Retrying a task until a condition is met".
use Rattle.std.specs.Prelude.{◌≡◌, ℕ, ◌==◌, [], Option, Some, None, if◌then◌else◌, refl}
use Rattle.pb_play.specs.declared.retrying.Retrying.{Retrying}

-- the seconds before an attempt: none lie before the first one
abbrev pub delay_before : Option Retrying → ℕ → ℕ
delay_before None attempt = 0
delay_before (Some retrying) attempt = if attempt == 1 then 0 else retrying.delay

-- a task that is tried up to four times, every five seconds
abbrev every_five : Option Retrying
every_five = Some (record { until = Some []; retries = 3; delay = 5 })

none_before_the_first : delay_before every_five 1 ≡ 0
none_before_the_first = refl

five_before_the_second : delay_before every_five 2 ≡ 5
five_before_the_second = refl

none_where_it_is_tried_once : delay_before None 2 ≡ 0
none_where_it_is_tried_once = refl
