-- How often a writer has failed when a run breaks off.
use Rattle.std.specs.Prelude.{ℕ}
use Rattle.pb_driver.specs.declared.driver.RunFault.{RunFault}
use Rattle.pb_driver.specs.declared.driver.RunFault.TheVariants.{Memory, Write, Closed}
use Rattle.pb_driver.specs.Taken.{one_more}

-- a run ends by `Write` at the first call of the writer that fails; where it ends by another fault no call has failed
abbrev pub failures_by : RunFault → ℕ → ℕ
failures_by Memory failures = failures
failures_by Write failures = one_more failures
failures_by Closed failures = failures
