-- The rows in which a run will end, by the state it is in: no event changes them.
use Rattle.std.proofs.Common.{◌≡◌, ◌⊎◌, inl, inr, ℕ, ◌+◌, ◌-◌, Bool, true, false, List, [], ◌∷◌, map, drop, refl, sym, ◌∙◌, ap}
use Rattle.std.specs.Prelude.{Option, Some, None, slice_get, if◌then◌else◌}
use Rattle.std.specs.List.{list_any}
use Rattle.std.specs.Option.{option_map_or}
use Rattle.pb_tree.specs.Tree.{size_of}
use Rattle.pb_plan.specs.Plan.{PlayOf, PlanOf}
use Rattle.pb_hosts.specs.Batches.{has_batch_left}
use Rattle.pb_hosts.specs.Hosts.{change}
use Rattle.pb_hosts.specs.Turn.{BatchOf, turned}
use Rattle.pb_host.specs.Host.{HostOf, left, runs_once_at}
use Rattle.pb_host.specs.Runs.{is_in}
use Rattle.pb_state.specs.State.{State}
use Rattle.pb_confluence.specs.Fixed.{Fixed}
use Rattle.pb_confluence.specs.Effect.{complete}
use Rattle.pb_confluence.specs.Together.{behind, at_batches, at_plays, at_places}
use Rattle.pb_confluence.proofs.Lists.{Every}
use Rattle.pb_confluence.proofs.Once.{IsIdle, Before, Solo, IfOnce, by_changed}
use Rattle.pb_confluence.proofs.Rows.{IsWell, passed}
use Rattle.pb_confluence.proofs.Turns.{IsLater, from_place}

-- the plays behind one
abbrev pub later_plays : PlanOf → Fixed → ℕ → List HostOf → List HostOf
later_plays plan f number rows = at_plays plan f (number + 1) (drop (number + 1) plan.plays) rows

-- the batches that are left of a play, and the plays behind it
abbrev pub batches_left : PlanOf → Fixed → ℕ → PlayOf → List ℕ → List HostOf → List HostOf
batches_left plan f number play sizes_left rows = at_batches plan f number play (later_plays plan f number) sizes_left rows

-- what comes behind a batch that has gone through all places
abbrev pub closing : PlanOf → Fixed → ℕ → PlayOf → BatchOf → List HostOf
closing plan f number play batch = if list_any is_in batch.rows then batches_left plan f number play batch.sizes_left (map left batch.rows) else map left batch.rows

abbrev pub in_open : PlanOf → Fixed → ℕ → Option ℕ → BatchOf → PlayOf → List HostOf
in_open plan f number place batch play = closing plan f number play (from_place plan f number play place batch)

abbrev pub in_closed : PlanOf → Fixed → ℕ → List ℕ → List HostOf → Bool → List HostOf
in_closed plan f number sizes_left rows true = option_map_or (λ (play : PlayOf). batches_left plan f number play sizes_left rows) (slice_get plan.plays number) rows
in_closed plan f number sizes_left rows false = at_plays plan f number (drop number plan.plays) rows

abbrev pub rest : PlanOf → Fixed → Bool → Bool → Option ℕ → ℕ → BatchOf → List HostOf
rest plan f true ended place number batch = option_map_or (in_open plan f number place batch) (slice_get plan.plays number) batch.rows
rest plan f false true place number batch = batch.rows
rest plan f false false place number batch = in_closed plan f number batch.sizes_left batch.rows (has_batch_left batch.sizes_left)

abbrev pub value : PlanOf → Fixed → State → List HostOf
value plan f s = rest plan f s.is_open s.ended s.place s.play (record { rows = s.rows; sizes_left = s.sizes_left })

-- ---- what holds of the rows of an open batch, and of the hosts at a place whose task runs once
abbrev pub SoloAt : PlayOf → Option ℕ → List HostOf → Type 0
SoloAt play None rows = Unit {0}
SoloAt play (Some p) rows = IfOnce (runs_once_at play p) (Solo p rows)

abbrev pub Holds : PlayOf → Option ℕ → List HostOf → Type 0
Holds play place rows = Every (IsWell place) rows × SoloAt play place rows

abbrev pub HoldsIn : Option ℕ → List HostOf → Option PlayOf → Type 0
HoldsIn place rows None = Every IsIdle rows
HoldsIn place rows (Some play) = Holds play place rows

abbrev pub open_in : PlanOf → Bool → ℕ → Option PlayOf
open_in plan is_open number = if is_open then slice_get plan.plays number else None

-- ---- one row changed, where the change isn't seen at the place
pub row_changed : (plan : PlanOf) (f : Fixed) (number p h : ℕ) (play : PlayOf) (rows : List HostOf) (sizes_left : List ℕ) (c : HostOf → HostOf) → IfOnce (runs_once_at play p) (Before p rows h)
    → ((row : HostOf) → slice_get rows h ≡ Some row → complete plan f number play p (c row) ≡ complete plan f number play p row)
    → in_open plan f number (Some p) (record { rows = change rows h c; sizes_left = sizes_left }) play ≡ in_open plan f number (Some p) (record { rows = rows; sizes_left = sizes_left }) play
row_changed plan f number p h play rows sizes_left c before on =
    ap
    (λ (all : List HostOf).
    closing plan f number play (at_places plan f number play (size_of play.tree - (p + 1)) (p + 1) (turned plan.inventory play p (record { rows = all; sizes_left = sizes_left }))))
    (by_changed (runs_once_at play p) p (complete plan f number play p) (λ row idle away. passed plan f number play p row idle away) c rows h before on)

-- ---- the batches behind a batch, where it left as many as there were, or none
later_of : (plan : PlanOf) (f : Fixed) (number : ℕ) (play : PlayOf) (rows : List HostOf) (sizes : List ℕ)
    → (if has_batch_left sizes then batches_left plan f number play sizes rows else later_plays plan f number rows) ≡ batches_left plan f number play sizes rows
later_of plan f number play rows [] = refl
later_of plan f number play rows (size ∷ sizes) = refl

later_same : (plan : PlanOf) (f : Fixed) (number : ℕ) (play : PlayOf) (sizes_left new : List ℕ) (rows : List HostOf) → (new ≡ sizes_left) ⊎ (new ≡ [])
    → (if has_batch_left new then batches_left plan f number play sizes_left rows else later_plays plan f number rows) ≡ batches_left plan f number play new rows
later_same plan f number play sizes_left new rows (inl e) =
    ap (λ (sizes : List ℕ). if has_batch_left sizes then batches_left plan f number play sizes_left rows else later_plays plan f number rows) e ∙ later_of plan f number play rows sizes_left
    ∙ sym (ap (λ (sizes : List ℕ). batches_left plan f number play sizes rows) e)
later_same plan f number play sizes_left new rows (inr e) =
    ap (λ (sizes : List ℕ). if has_batch_left sizes then batches_left plan f number play sizes_left rows else later_plays plan f number rows) e
    ∙ sym (ap (λ (sizes : List ℕ). batches_left plan f number play sizes rows) e)

-- so the batch that was gone through comes to what is behind it
pub batch_closes : (plan : PlanOf) (f : Fixed) (number : ℕ) (play : PlayOf) (sizes_left : List ℕ) (one new : BatchOf) → one.sizes_left ≡ sizes_left → IsLater one new
    → behind (list_any is_in new.rows) (has_batch_left new.sizes_left) (map left new.rows) (batches_left plan f number play sizes_left (map left new.rows)) (later_plays plan f number (map left new.rows)) ≡ closing plan f number play new
batch_closes plan f number play sizes_left one new is how = by_some (list_any is_in new.rows)
  where
    kept : (new.sizes_left ≡ sizes_left) ⊎ (new.sizes_left ≡ [])
    kept = elim how [ inl e ↦ inl (e ∙ is) | inr e ↦ inr e ]

    by_some : (b : Bool) → behind b (has_batch_left new.sizes_left) (map left new.rows) (batches_left plan f number play sizes_left (map left new.rows)) (later_plays plan f number (map left new.rows))
        ≡ (if b then batches_left plan f number play new.sizes_left (map left new.rows) else map left new.rows)
    by_some true = later_same plan f number play sizes_left new.sizes_left (map left new.rows) kept
    by_some false = refl
