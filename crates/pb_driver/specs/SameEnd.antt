-- Whether two runs of one plan ended in the same: each host with the same facts and the same counts.
use Rattle.std.specs.Prelude.{◌≡◌, ◌≢◌, ◌<◌, ◌⊎◌, ℕ, true, List, length, Option, Some, None, slice_get}
use Rattle.std.specs.Option.{option_map_or}
use Rattle.pb_audit.specs.Audit.{is_legal, Tells, TellsUnder}
use Rattle.pb_audit.specs.declared.fault.AuditFault.{AuditFault}
use Rattle.pb_audit.specs.declared.fault.AuditFault.TheVariants.{Memory}
use Rattle.pb_engine.specs.Laws.{IsWhole, Fixed, is_independent, are_linear}
use Rattle.pb_ids.specs.declared.numbers.HostNo.{HostNo}
use Rattle.pb_host.specs.declared.host.Counts.{Counts}
use Rattle.pb_host.specs.Host.{HostOf, none_counted}
use Rattle.pb_plan.specs.Plan.{PlanOf}
use Rattle.pb_state.specs.declared.event.Event.{Event}
use Rattle.pb_state.specs.Machine.{facts_at}
use Rattle.pb_state.specs.State.{State}

-- how a host's finished tasks count; of a number that is no host's nothing is counted
abbrev pub counts_at : State → ℕ → Counts
counts_at s host = option_map_or (λ (row : HostOf). row.counts) (slice_get s.rows host) none_counted

-- a host has the same facts and the same counts in two states
pub record IsSameAt (s t : State) (host : ℕ) : Type 0 where
  pub facts : facts_at s host ≡ facts_at t host
  pub counts : counts_at s host ≡ counts_at t host

-- the first host that hasn't, or none where all have
abbrev pub IsFirstApart : PlanOf → State → State → Option HostNo → Type 0
IsFirstApart plan s t None = (host : ℕ) → host < length plan.inventory.hosts → IsSameAt s t host
IsFirstApart plan s t (Some found) = (found.0 < length plan.inventory.hosts) × ((host : ℕ) → host < found.0 → IsSameAt s t host) × (IsSameAt s t found.0 → ⊥)

-- what an audit tells of the first of two trails that it refuses: the second one is looked at where the first is legal
abbrev pub IsFaultOfEither : PlanOf → List Event → ℕ → List Event → AuditFault → Type 0
IsFaultOfEither plan trail forks other fault = fault ≢ Memory → Tells plan trail fault ⊎ ((is_legal plan trail ≡ true) × TellsUnder plan forks other fault)

-- two whole runs of a linear and independent plan, under the same fixed outcomes, end in the same, whatever the forks of each
abbrev pub EndsSame : PlanOf → List Event → ℕ → List Event → Option HostNo → Type 0
EndsSame plan trail forks other found =
    (f : Fixed) → are_linear plan ≡ true → is_independent plan ≡ true → IsWhole plan f plan.forks 256 trail → IsWhole plan f forks 256 other → found ≡ None
