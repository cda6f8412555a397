-- What the tasks of hosts give to other hosts as they end, and what the rows of all hosts are then.
use Rattle.std.specs.Prelude.{ℕ, List, [], ◌∷◌, slice_get, if◌then◌else◌}
use Rattle.std.specs.Option.{option_map_or}
use Rattle.pb_inventory.specs.InventoryOf.{InventoryOf}
use Rattle.pb_facts.specs.Facts.{with_given}
use Rattle.pb_outcome.specs.declared.item.Item.{Item}
use Rattle.pb_outcome.specs.declared.outcome.Form.{Form}
use Rattle.pb_outcome.specs.Items.{is_over}
use Rattle.pb_host.specs.FromTaskVars.{given_by, DelegatedFacts}
use Rattle.pb_host.specs.FromPlan.{PlayOf, PlanOf}
use Rattle.pb_host.specs.declared.host.Running.{Running}
use Rattle.pb_host.specs.Host.{HostOf, task_at, items_after}
use Rattle.pb_hosts.specs.Hosts.{change}

-- facts that the task of another host gives
abbrev pub takes : DelegatedFacts → HostOf → HostOf
takes gift row = record row { facts = with_given gift.gives gift.facts row.facts }

-- each gift goes to its host, one after another
abbrev pub with_delegated : List DelegatedFacts → List HostOf → List HostOf
with_delegated [] rows = rows
with_delegated (gift ∷ gifts) rows = with_delegated gifts (change rows gift.host.0 (takes gift))

-- what the task at a place gives to other hosts than the one that started it, once these items end it
abbrev pub gifts_at : InventoryOf → PlayOf → ℕ → ℕ → List Item → List DelegatedFacts
gifts_at inventory play p h items = if is_over items then given_by inventory play p h (task_at play p items).result items else []

-- what the task that a host runs gives to other hosts as its job comes to this
abbrev pub gifts_by : PlanOf → PlayOf → Form → ℕ → HostOf → Running → List DelegatedFacts
gifts_by plan play outcome h row r = gifts_at plan.inventory play r.place h (items_after plan play row.host row.facts outcome r)

-- nothing where the host runs nothing
abbrev pub gifts_of : PlanOf → PlayOf → Form → ℕ → HostOf → List DelegatedFacts
gifts_of plan play outcome h row = option_map_or (gifts_by plan play outcome h row) row.running []

-- the same of the host with this number; a number that is no host's gives nothing
abbrev pub report_gives : PlanOf → PlayOf → Form → ℕ → List HostOf → List DelegatedFacts
report_gives plan play outcome h rows = option_map_or (gifts_of plan play outcome h) (slice_get rows h) []

-- the same of the task with the items that it has
abbrev pub gives_with : InventoryOf → PlayOf → ℕ → Running → List DelegatedFacts
gives_with inventory play h r = gifts_at inventory play r.place h r.items

-- nothing where the host runs nothing
abbrev pub gives_on : InventoryOf → PlayOf → ℕ → HostOf → List DelegatedFacts
gives_on inventory play h row = option_map_or (gives_with inventory play h) row.running []

-- the same of the host with this number; a number that is no host's gives nothing
abbrev pub gives_now : InventoryOf → PlayOf → ℕ → List HostOf → List DelegatedFacts
gives_now inventory play h rows = option_map_or (gives_on inventory play h) (slice_get rows h) []
