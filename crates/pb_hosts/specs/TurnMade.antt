-- What a turn makes of the rows: what hosts learn is made before a row changes, so that memory that is refused on the way changes nothing.
use Rattle.std.specs.Prelude.{◌≡◌, ℕ, Bool, false, List, map, Option, Some, None, option_map}
use Rattle.std.specs.Option.{option_map_or}
use Rattle.pb_inventory.specs.InventoryOf.{InventoryOf}
use Rattle.pb_host.specs.FromPlan.{PlayOf}
use Rattle.pb_tree.specs.declared.answer.Kind.{Kind}
use Rattle.pb_host.specs.declared.host.LastTask.{LastTask}
use Rattle.pb_host.specs.Host.{HostOf, knows}
use Rattle.pb_host.specs.Turned.{with_answer, halted_if}
use Rattle.pb_hosts.specs.declared.turned.Turning.{Turning}
use Rattle.pb_hosts.specs.declared.turned.TurnMade.{TurnMade}
use Rattle.pb_hosts.specs.Applied.{with_update}
use Rattle.pb_hosts.specs.Turn.{with_copy, source, is_halting}

-- the first two parts of a turn, for one row and for all of them
abbrev pub turned_row : InventoryOf → PlayOf → ℕ → Option HostOf → Bool → HostOf → HostOf
turned_row inventory play p from halts row = halted_if halts (with_copy inventory play p from row)

-- what the first part alone makes of the rows
abbrev pub copied_rows : InventoryOf → PlayOf → ℕ → List HostOf → List HostOf
copied_rows inventory play p rows = map (with_copy inventory play p (source play p rows)) rows

-- whether the second part halts hosts, as the rows are behind the first one
abbrev pub halts_at : InventoryOf → PlayOf → ℕ → List HostOf → Bool
halts_at inventory play p rows = is_halting play p (copied_rows inventory play p rows)

abbrev pub turned_rows : InventoryOf → PlayOf → ℕ → List HostOf → List HostOf
turned_rows inventory play p rows = map (turned_row inventory play p (source play p rows) (halts_at inventory play p rows)) rows

-- what a host knows that gets what another one did for all
abbrev pub copy_applied : InventoryOf → PlayOf → ℕ → Option HostOf → HostOf → HostOf
copy_applied inventory play p from row = knows (with_copy inventory play p from row).facts row

-- what that one answered
abbrev pub kind_from : Option HostOf → Option Kind
kind_from from = option_map_or (λ (row : HostOf). option_map (λ (finish : LastTask). finish.kind) row.last) from None

-- what a turn does to a host that has learnt what it learns
abbrev pub turning_row : Turning → HostOf → HostOf
turning_row t row = halted_if t.halts (with_answer t.place t.kind t.is_caught row)

-- what was made comes to what a turn does to these rows; where nothing was, it leaves them as they are
abbrev pub IsTurnOf : InventoryOf → PlayOf → ℕ → List HostOf → Option TurnMade → Type 0
IsTurnOf inventory play p rows None = (turned_rows inventory play p rows ≡ rows) × (halts_at inventory play p rows ≡ false)
IsTurnOf inventory play p rows (Some made) = (map (turning_row made.turning) (with_update made.all.items rows) ≡ turned_rows inventory play p rows) × (made.turning.halts ≡ halts_at inventory play p rows)
