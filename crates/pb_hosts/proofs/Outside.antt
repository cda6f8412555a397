-- Hosts outside of the batch stay as a batch that closes leaves them.
use Rattle.std.proofs.Common.{◌≡◌, ℕ, zero, suc, ◌+◌, Bool, true, false, ◌&&◌, not, List, [], ◌∷◌, map, refl, sym, ◌∙◌, ap, subst, inl, inr}
use Rattle.std.specs.Prelude.{Option, Some, None, IfSome, option_map, slice_get, if◌then◌else◌}
use Rattle.std.specs.Option.{option_map_or}
use Rattle.pb_ids.specs.declared.numbers.Ticket.{Ticket}
use Rattle.pb_inventory.specs.InventoryOf.{InventoryOf}
use Rattle.pb_facts.specs.Facts.{with_given}
use Rattle.pb_outcome.specs.declared.item.Item.{Item}
use Rattle.pb_outcome.specs.declared.outcome.Form.{Form}
use Rattle.pb_outcome.specs.Items.{is_over}
use Rattle.pb_host.specs.FromTaskVars.{DelegatedFacts}
use Rattle.pb_host.specs.FromPlan.{PlanOf, PlayOf}
use Rattle.pb_tree.specs.Walk.{reach}
use Rattle.pb_cursors.specs.Walks.{PlayWalkOf}
use Rattle.pb_host.specs.declared.host.Running.{Running}
use Rattle.pb_host.specs.Host.{HostOf, no_tree, first_rows, next_place, place_of, is_play_host, is_waiting, as_play_begins, left, ended, progressed, sent_running, sent, items_after, reported_running, reported}
use Rattle.pb_host.specs.Walking.{with_walk}
use Rattle.pb_hosts.specs.Hosts.{change}
use Rattle.pb_hosts.specs.Joining.{taken, walks_behind, joined_by}
use Rattle.pb_hosts.specs.Giving.{takes, with_delegated}
use Rattle.pb_hosts.specs.Turn.{with_copy, source, halted}
use Rattle.pb_hosts.specs.TurnMade.{turned_row, turned_rows, halts_at}
use Rattle.pb_hosts.specs.Due.{is_inside, IsOutside, AreOutside}
use Rattle.pb_hosts.proofs.Giving.{change_on, map_same, given_keeps, given_map}
use Rattle.pb_hosts.proofs.Turning.{Goes, goes_inside, copy_goes, halted_goes}

never : (b : Bool) → b ≡ true → b ≡ false → ⊥
never true t f = cc
never false t f = cc

-- ---- one row, and all
pub out_changed : (f : HostOf → HostOf) (h : ℕ) (rows : List HostOf) → ((row : HostOf) → slice_get rows h ≡ Some row → IsOutside row → IsOutside (f row)) → AreOutside rows → AreOutside (change rows h f)
out_changed f h [] keeps w = w
out_changed f zero (row ∷ rows) keeps w = (keeps row refl w.0, w.1)
out_changed f (suc h) (row ∷ rows) keeps w = subst AreOutside (sym (change_on row rows h f)) (w.0, out_changed f h rows keeps w.1)

pub out_mapped : (f : HostOf → HostOf) → ((row : HostOf) → IsOutside row → IsOutside (f row)) → (rows : List HostOf) → AreOutside rows → AreOutside (map f rows)
out_mapped f keeps [] w = w
out_mapped f keeps (row ∷ rows) w = (keeps row w.0, out_mapped f keeps rows w.1)

runs_none : (row : HostOf) → IsOutside row → row.in_batch ≡ false → row.running ≡ None
runs_none row out e = sym (ap (λ (r : HostOf). r.running) (out e))

-- ---- a step of one host
takes_out : (gift : DelegatedFacts) (row : HostOf) → IsOutside row → IsOutside (takes gift row)
takes_out gift row out e = ap (λ (r : HostOf). record r { facts = with_given gift.gives gift.facts row.facts }) (out e)

pub sent_out : (ticket : Ticket) (row : HostOf) → IsOutside row → IsOutside (sent ticket row)
sent_out ticket row out e =
    let none : row.running ≡ None = runs_none row out e in
    let same : sent ticket row ≡ row = ap (λ (o : Option Running). record row { running = option_map (sent_running ticket) o }) none ∙ ap (λ (o : Option Running). record row { running = o }) (sym none) in
    ap left same ∙ out e ∙ sym same

pub progressed_inside : (inventory : InventoryOf) (play : PlayOf) (p : ℕ) (items : List Item) (row : HostOf) → is_inside (progressed inventory play p items row) ≡ is_inside row
progressed_inside inventory play p items row = by_over (is_over items)
  where
    by_over : (over : Bool) → is_inside (if over then ended inventory play p items row else record row { running = Some (record { place = p; items = items; out = None }) }) ≡ is_inside row
    by_over true = refl
    by_over false = refl

pub progressed_waits : (inventory : InventoryOf) (play : PlayOf) (p : ℕ) (items : List Item) (row : HostOf) → is_waiting (progressed inventory play p items row) ≡ is_waiting row
progressed_waits inventory play p items row = by_over (is_over items)
  where
    by_over : (over : Bool) → is_waiting (if over then ended inventory play p items row else record row { running = Some (record { place = p; items = items; out = None }) }) ≡ is_waiting row
    by_over true = refl
    by_over false = refl

pub progressed_out : (inventory : InventoryOf) (play : PlayOf) (p : ℕ) (items : List Item) (rows : List HostOf) (h : ℕ) → IfSome (slice_get rows h) (λ (row : HostOf). row.in_batch ≡ true) → (row : HostOf) → slice_get rows h ≡ Some row → IsOutside row
    → IsOutside (progressed inventory play p items row)
progressed_out inventory play p items rows h inside row at out e =
    absurd (never row.in_batch (subst (λ (o : Option HostOf). IfSome o (λ (r : HostOf). r.in_batch ≡ true)) at inside) (sym (progressed_inside inventory play p items row) ∙ e))

pub reported_inside : (plan : PlanOf) (play : PlayOf) (outcome : Form) (row : HostOf) → is_inside (reported plan play outcome row) ≡ is_inside row
reported_inside plan play outcome row = by_running row.running
  where
    by_running : (found : Option Running) → is_inside (option_map_or (reported_running plan play outcome row) found row) ≡ is_inside row
    by_running None = refl
    by_running (Some r) = progressed_inside plan.inventory play r.place (items_after plan play row.host row.facts outcome r) row

pub reported_waits : (plan : PlanOf) (play : PlayOf) (outcome : Form) (row : HostOf) → is_waiting (reported plan play outcome row) ≡ is_waiting row
reported_waits plan play outcome row = by_running row.running
  where
    by_running : (found : Option Running) → is_waiting (option_map_or (reported_running plan play outcome row) found row) ≡ is_waiting row
    by_running None = refl
    by_running (Some r) = progressed_waits plan.inventory play r.place (items_after plan play row.host row.facts outcome r) row

pub reported_out : (plan : PlanOf) (play : PlayOf) (outcome : Form) (row : HostOf) → IsOutside row → IsOutside (reported plan play outcome row)
reported_out plan play outcome row out e =
    let outside : row.in_batch ≡ false = sym (reported_inside plan play outcome row) ∙ e in
    let same : reported plan play outcome row ≡ row = ap (λ (o : Option Running). option_map_or (reported_running plan play outcome row) o row) (runs_none row out outside) in
    ap left same ∙ out outside ∙ sym same

-- what these steps keep of each row, a list tells of all rows as before
pub given_column : (of : HostOf → Bool) → ((gift : DelegatedFacts) (row : HostOf) → of (takes gift row) ≡ of row) → (gifts : List DelegatedFacts) (f : HostOf → HostOf) → ((row : HostOf) → of (f row) ≡ of row) → (h : ℕ) (column : List Bool) (rows new : List HostOf)
    → column ≡ map of rows → new ≡ with_delegated gifts (change rows h f) → column ≡ map of new
given_column of kept gifts f same h column rows new e n = e ∙ sym (ap (map of) n ∙ given_map of kept gifts (change rows h f) ∙ map_same of f same rows h)

pub given_out : (gifts : List DelegatedFacts) (f : HostOf → HostOf) (h : ℕ) (rows new : List HostOf) → ((row : HostOf) → slice_get rows h ≡ Some row → IsOutside row → IsOutside (f row)) → AreOutside rows → new ≡ with_delegated gifts (change rows h f) → AreOutside new
given_out gifts f h rows new keeps w n =
    subst AreOutside (sym n)
    (given_keeps AreOutside (λ gift all held. out_changed (takes gift) gift.host.0 all (λ row at out. takes_out gift row out) held) gifts (change rows h f) (out_changed f h rows keeps w))

-- ---- before the run, and as a batch opens and closes
stays : (b : Bool) → (b && not false) ≡ b
stays true = refl
stays false = refl

as_left : (row : HostOf) → record row { tree = no_tree; answers = []; in_batch = false; awaits_batch = row.awaits_batch && not false; is_broken = false; running = None; last = None } ≡ record row { tree = no_tree; answers = []; in_batch = false; is_broken = false; running = None; last = None }
as_left row = ap (λ (w : Bool). record row { tree = no_tree; answers = []; in_batch = false; awaits_batch = w; is_broken = false; running = None; last = None }) (stays row.awaits_batch)

pub out_first : (h n : ℕ) → AreOutside (first_rows h n)
out_first h zero = tt
out_first h (suc n) = (λ e. refl, out_first (h + 1) n)

walk_out : (walk : Option PlayWalkOf) (row : HostOf) → IsOutside (with_walk walk row)
walk_out (Some walk) row e = absurd (never true refl e)
walk_out None row e = as_left row

pub out_joined : (walks : List PlayWalkOf) (rows : List HostOf) → AreOutside (joined_by walks rows)
out_joined walks [] = tt
out_joined walks (row ∷ rows) = (walk_out (taken row.awaits_batch walks) row, out_joined (walks_behind row.awaits_batch walks) rows)

left_out : (row : HostOf) → IsOutside (left row)
left_out row e = as_left (left row)

pub out_left : (rows : List HostOf) → AreOutside (map left rows)
out_left [] = tt
out_left (row ∷ rows) = (left_out row, out_left rows)

-- and as a play begins
called_out : (hosts : List Bool) (row : HostOf) → IsOutside row → IsOutside (as_play_begins hosts row)
called_out hosts row out e =
    ap (λ (b : Bool). record row { tree = no_tree; answers = []; in_batch = false; awaits_batch = is_play_host hosts row && not b; is_broken = false; running = None; last = None }) e
    ∙ ap (λ (w : Bool). record row { tree = no_tree; answers = []; in_batch = false; awaits_batch = w; is_broken = false; running = None; last = None }) (stays (is_play_host hosts row))
    ∙ ap (λ (r : HostOf). record r { awaits_batch = is_play_host hosts row }) (out e)

pub out_called : (hosts : List Bool) (rows new : List HostOf) → AreOutside rows → new ≡ map (as_play_begins hosts) rows → AreOutside new
out_called hosts rows new w n = subst AreOutside (sym n) (out_mapped (as_play_begins hosts) (called_out hosts) rows w)

-- ---- as it goes on
pub next_none : (row : HostOf) → row.in_batch ≡ false → next_place row ≡ None
next_none row e = ap (λ (b : Bool). if b then place_of (reach row.tree row.answers) else None) e

no_place : (next : Option ℕ) (p : ℕ) → next ≡ None → next ≡ Some p → ⊥
no_place None p n s = cc
no_place (Some q) p n s = cc

goes_out : (f : HostOf → HostOf) → Goes f → (row : HostOf) → IsOutside row → IsOutside (f row)
goes_out f goes row out e = elim (goes row) [
  | inl same ↦ ap left same ∙ out outside ∙ sym same
  | inr given ↦ absurd (no_place (next_place row) given.place (next_none row outside) given.next)
]
  where
    outside : row.in_batch ≡ false
    outside = sym (goes_inside f goes row) ∙ e

turned_out : (inventory : InventoryOf) (play : PlayOf) (p : ℕ) (from : Option HostOf) (halts : Bool) (row : HostOf) → IsOutside row → IsOutside (turned_row inventory play p from halts row)
turned_out inventory play p from true row out = goes_out halted halted_goes (with_copy inventory play p from row) (goes_out (with_copy inventory play p from) (copy_goes inventory play p from) row out)
turned_out inventory play p from false row out = goes_out (with_copy inventory play p from) (copy_goes inventory play p from) row out

pub out_turned : (inventory : InventoryOf) (play : PlayOf) (p : ℕ) (rows : List HostOf) → AreOutside rows → AreOutside (turned_rows inventory play p rows)
out_turned inventory play p rows w =
    out_mapped (turned_row inventory play p (source play p rows) (halts_at inventory play p rows)) (turned_out inventory play p (source play p rows) (halts_at inventory play p rows)) rows w
