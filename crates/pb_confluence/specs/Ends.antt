-- What a run may be relied on for in whose jobs what comes of each is fixed: its facts and its recap are known by plan and outcomes alone. How many hosts ran at
-- once, which of them began first, and in what order reports came is nothing to them.
use Rattle.std.specs.Prelude.{◌≡◌, ◌<◌, ℕ, true, false, List, length, map, slice_get}
use Rattle.std.specs.List.{range_with_len}
use Rattle.std.specs.Option.{option_map_or}
use Rattle.pb_facts.specs.Facts.{FactsOf, no_facts}
use Rattle.pb_independence.specs.Independent.{is_independent, are_linear}
use Rattle.pb_plan.specs.Plan.{PlanOf}
use Rattle.pb_host.specs.Host.{HostOf}
use Rattle.pb_recap.specs.Recap.{recap}
use Rattle.pb_state.specs.declared.event.Event.{Event}
use Rattle.pb_state.specs.Machine.{facts_at, is_left}
use Rattle.pb_state.specs.State.{State}
use Rattle.pb_confluence.specs.Alone.{alone, are_uncoupled}
use Rattle.pb_confluence.specs.Confluence.{IsEnd}
use Rattle.pb_confluence.specs.Fixed.{Fixed}
use Rattle.pb_confluence.specs.Together.{together}

-- what a host knows by its row; of a number that is no host's nothing is known
abbrev pub facts_in : List HostOf → ℕ → FactsOf
facts_in rows host = option_map_or (λ (row : HostOf). row.facts) (slice_get rows host) no_facts

-- the end is what the hosts reach together: the rows, so the facts of each host, and the recap, which is counted over the trail from scratch
pub record IsTogether (plan : PlanOf) (f : Fixed) (pool : ℕ) (trail : List Event) (s : State) : Type 0 where
  pub rows : s.rows ≡ together plan f
  pub facts : (host : ℕ) → facts_at s host ≡ facts_in (together plan f) host
  pub counts : recap plan pool trail ≡ map (λ (row : HostOf). row.counts) (together plan f)

-- the end is what each host reaches alone
pub record IsAlone (plan : PlanOf) (f : Fixed) (pool : ℕ) (trail : List Event) (s : State) : Type 0 where
  pub facts : (host : ℕ) → host < length plan.inventory.hosts → facts_at s host ≡ (alone plan f host).facts
  pub counts : recap plan pool trail ≡ map (λ (host : ℕ). (alone plan f host).counts) (range_with_len 0 (length plan.inventory.hosts))

-- so it is at the end of a run that wasn't stopped: together where all plays are linear, alone where no host has an effect on others and the run didn't end while a batch was left
pub record EndsAsFixed (plan : PlanOf) (pool : ℕ) (trail : List Event) (s : State) : Type 0 where
  pub together : (f : Fixed) → are_linear plan ≡ true → is_independent plan ≡ true → IsEnd plan f pool trail s → IsTogether plan f pool trail s
  pub alone : (f : Fixed) → are_uncoupled plan ≡ true → is_independent plan ≡ true → IsEnd plan f pool trail s → (s.ended ≡ true → is_left plan s ≡ false) → IsAlone plan f pool trail s

-- of every trail of every plan
abbrev pub RunsEndAsFixed : Type 0
RunsEndAsFixed = (plan : PlanOf) (pool : ℕ) (trail : List Event) (s : State) → EndsAsFixed plan pool trail s
