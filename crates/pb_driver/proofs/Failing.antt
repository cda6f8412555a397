-- How often a writer has failed, by the fault that ends a run.
use Rattle.std.proofs.Common.{◌≡◌, ℕ, sym, ◌∙◌, ap}
use Rattle.pb_driver.specs.declared.driver.RunFault.{RunFault}
use Rattle.pb_driver.specs.declared.driver.RunFault.TheVariants.{Memory, Write}
use Rattle.pb_driver.specs.Failing.{failures_by}
use Rattle.pb_driver.specs.Taken.{one_more}

-- a want of memory is no failed call
pub memory_quiet : (fault : RunFault) (m : ℕ) → fault ≡ Memory → m ≡ failures_by fault m
memory_quiet fault m memory = sym (ap (λ (f : RunFault). failures_by f m) memory)

pub write_once : (fault : RunFault) (m n : ℕ) → fault ≡ Write → n ≡ one_more m → n ≡ failures_by fault m
write_once fault m n write once = once ∙ sym (ap (λ (f : RunFault). failures_by f m) write)

pub failed_as : (fault : RunFault) (m n : ℕ) → n ≡ m → failures_by fault n ≡ failures_by fault m
failed_as fault m n same = ap (λ (k : ℕ). failures_by fault k) same
