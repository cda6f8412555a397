-- A state whose hosts have turned is the one with what the turn makes of its batch.
use Rattle.std.proofs.Common.{◌≡◌, ℕ, Bool, true, false, List, [], map, refl, sym, ◌∙◌, ap}
use Rattle.std.specs.Prelude.{if◌then◌else◌}
use Rattle.std.proofs.lemmas.Simd.{map-map}
use Rattle.pb_inventory.specs.InventoryOf.{InventoryOf}
use Rattle.pb_plan.specs.Plan.{PlayOf}
use Rattle.pb_host.specs.Host.{HostOf}
use Rattle.pb_state.specs.Machine.{batch_of, with_batch}
use Rattle.pb_state.specs.State.{State}
use Rattle.pb_hosts.specs.Turn.{BatchOf, source, with_copy, halted, turned}
use Rattle.pb_hosts.specs.TurnMade.{turned_row, copied_rows, halts_at, turned_rows}

-- what is made of the rows, and what is left of the later batches, is what the turn says
abbrev pub left_later : Bool → List ℕ → List ℕ
left_later halting sizes_left = if halting then [] else sizes_left

pub turned_is : (inventory : InventoryOf) (play : PlayOf) (p : ℕ) (batch : BatchOf)
    → turned inventory play p batch ≡ record { rows = turned_rows inventory play p batch.rows; sizes_left = left_later (halts_at inventory play p batch.rows) batch.sizes_left }
turned_is inventory play p batch = by_halting (halts_at inventory play p batch.rows)
  where
    by_halting : (b : Bool) → ◌≡◌ {A = BatchOf} (if b then record { rows = map halted (copied_rows inventory play p batch.rows); sizes_left = [] } else record { rows = copied_rows inventory play p batch.rows; sizes_left = batch.sizes_left })
        (record { rows = map (turned_row inventory play p (source play p batch.rows) b) batch.rows; sizes_left = left_later b batch.sizes_left })
    by_halting true = ap (λ (rows : List HostOf). record { rows = rows; sizes_left = [] }) (map-map halted (with_copy inventory play p (source play p batch.rows)) batch.rows)
    by_halting false = refl

pub rows_turned : (inventory : InventoryOf) (play : PlayOf) (p : ℕ) (rows new : List HostOf) (sizes_left : List ℕ) → new ≡ turned_rows inventory play p rows → new ≡ (turned inventory play p (record { rows = rows; sizes_left = sizes_left })).rows
rows_turned inventory play p rows new sizes_left e = e ∙ sym (ap (λ (batch : BatchOf). batch.rows) (turned_is inventory play p (record { rows = rows; sizes_left = sizes_left })))

-- so a state whose hosts have turned is the one with what the turn makes of its batch
pub with_turn : (inventory : InventoryOf) (play : PlayOf) (p : ℕ) (s inside : State) (rows new : List HostOf) (sizes_left left : List ℕ) (halting : Bool) → s ≡ record inside { rows = rows; sizes_left = sizes_left } → new ≡ turned_rows inventory play p rows
    → halting ≡ halts_at inventory play p rows → left ≡ left_later halting sizes_left → record inside { rows = new; sizes_left = left } ≡ with_batch (turned inventory play p (batch_of s)) s
with_turn inventory play p s inside rows new sizes_left left halting v e h l =
    ap (λ (all : List HostOf). record inside { rows = all; sizes_left = left }) e
    ∙ ap (λ (sizes : List ℕ). record inside { rows = turned_rows inventory play p rows; sizes_left = sizes }) (l ∙ ap (λ (b : Bool). left_later b sizes_left) h)
    ∙ sym (ap (λ (batch : BatchOf). with_batch batch (record inside { rows = rows; sizes_left = sizes_left })) (turned_is inventory play p (record { rows = rows; sizes_left = sizes_left })))
    ∙ sym (ap (λ (t : State). with_batch (turned inventory play p (batch_of t)) t) v)
