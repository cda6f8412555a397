-- A task that starts is one that its host runs, and goes on from there.
use Rattle.std.proofs.Common.{◌≡◌, ℕ, Bool, true, false, List, refl}
use Rattle.std.specs.Prelude.{Some, None, if◌then◌else◌}
use Rattle.pb_inventory.specs.InventoryOf.{InventoryOf}
use Rattle.pb_outcome.specs.declared.item.Item.{Item}
use Rattle.pb_outcome.specs.Items.{is_over}
use Rattle.pb_task_vars.specs.FromPlan.{PlayOf}
use Rattle.pb_host.specs.Back.{with_running, went_on}
use Rattle.pb_host.specs.Host.{HostOf, ended, progressed}

pub begun_as : (inventory : InventoryOf) (play : PlayOf) (p : ℕ) (items : List Item) (row : HostOf)
    → went_on inventory play (with_running (Some (record { place = p; items = items; out = None })) row) ≡ progressed inventory play p items row
begun_as inventory play p items row = by_over (is_over items)
  where
    by_over : (over : Bool)
        → (if over then ended inventory play p items (with_running (Some (record { place = p; items = items; out = None })) row)
        else record (with_running (Some (record { place = p; items = items; out = None })) row) { running = Some (record { place = p; items = items; out = None }) })
        ≡ (if over then ended inventory play p items row else record row { running = Some (record { place = p; items = items; out = None }) })
    by_over true = refl
    by_over false = refl
