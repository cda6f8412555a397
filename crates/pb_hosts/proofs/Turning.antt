-- What a turn does to the rows of a batch: it leaves a row as it is, or gives its host an answer at its next place.
use Rattle.std.proofs.Common.{◌≡◌, ℕ, ◌≤◌, Bool, true, false, ◌&&◌, not, List, [], ◌∷◌, length, map, refl, ◌∙◌, ap, arith, ◌⊎◌, inl, inr}
use Rattle.std.specs.Prelude.{◌==◌, Option, Some, None, is_some, if◌then◌else◌}
use Rattle.std.specs.List.{list_any}
use Rattle.std.specs.Option.{option_map_or}
use Rattle.std.proofs.lemmas.Bool.{eqb-true}
use Rattle.std.proofs.lemmas.List.{length-map}
use Rattle.pb_facts.specs.Facts.{FactsOf}
use Rattle.pb_inventory.specs.InventoryOf.{InventoryOf}
use Rattle.pb_tree.specs.declared.answer.Kind.{Kind}
use Rattle.pb_tree.specs.declared.answer.Kind.TheVariants as kinds
use Rattle.pb_host.specs.FromPlan.{PlayOf}
use Rattle.pb_host.specs.declared.host.LastTask.{LastTask}
use Rattle.pb_host.specs.Host.{HostOf, next_place, is_active, answered, is_at}
use Rattle.pb_host.specs.Runs.{is_running}
use Rattle.pb_host.specs.Ends.{plain_answer}
use Rattle.pb_hosts.specs.Turn.{BatchOf, source, copied, copied_if, with_copy, copies, is_halting, may_be_halted, halted, turned, turned_by}

-- an answer is given at the next place of a host, after which it knows this, and is broken or not
pub record IsGiven (row new : HostOf) : Type 0 where
  pub place : ℕ
  pub next : next_place row ≡ Some place
  pub kind : Kind
  pub broken : Bool
  pub facts : FactsOf
  pub is : new ≡ record (answered (plain_answer kind) row) { is_broken = broken; facts = facts }

abbrev pub Goes : (HostOf → HostOf) → Type 0
Goes f = (row : HostOf) → (f row ≡ row) ⊎ IsGiven row (f row)

pub at_is : (p : ℕ) (next : Option ℕ) → option_map_or (λ q. q == p) next false ≡ true → next ≡ Some p
at_is p (Some q) e = ap Some (eqb-true q p e)
at_is p None e = cc

given_if : (b : Bool) (row new : HostOf) → (b ≡ true → IsGiven row new) → ((if b then new else row) ≡ row) ⊎ IsGiven row (if b then new else row)
given_if true row new given = inr (given refl)
given_if false row new given = inl refl

-- the two parts of a turn
copied_given : (inventory : InventoryOf) (play : PlayOf) (p : ℕ) (finish : LastTask) (row : HostOf) → is_at p row ≡ true → IsGiven row (copied inventory play p finish row)
copied_given inventory play p finish row e =
    record {
      place = p;
      next = at_is p (next_place row) e;
      kind = finish.kind;
      broken = (copied inventory play p finish row).is_broken;
      facts = (copied inventory play p finish row).facts;
      is = refl;
    }

pub copy_goes : (inventory : InventoryOf) (play : PlayOf) (p : ℕ) (from : Option HostOf) → Goes (with_copy inventory play p from)
copy_goes inventory play p None row = inl refl
copy_goes inventory play p (Some from) row = by_last from.last
  where
    by_last : (last : Option LastTask) → (option_map_or (copied_if inventory play p row) last row ≡ row) ⊎ IsGiven row (option_map_or (copied_if inventory play p row) last row)
    by_last None = inl refl
    by_last (Some finish) = given_if (is_at p row) row (copied inventory play p finish row) (λ e. copied_given inventory play p finish row e)

and_left : (a b : Bool) → (a && b) ≡ true → a ≡ true
and_left true b e = refl
and_left false b e = cc

and_right : (a b : Bool) → (a && b) ≡ true → b ≡ true
and_right true b e = e
and_right false b e = cc

some_is : (next : Option ℕ) → is_some next ≡ true → (p : ℕ) × (next ≡ Some p)
some_is (Some p) e = (p, refl)
some_is None e = cc

halted_given : (row : HostOf) → may_be_halted row ≡ true → IsGiven row (answered (plain_answer kinds.Halted) row)
halted_given row e =
    let at = some_is (next_place row) (and_right (is_active row.status && not row.is_broken) _ e) in
    record { place = at.0; next = at.1; kind = kinds.Halted; broken = row.is_broken; facts = row.facts; is = refl }

pub halted_goes : Goes halted
halted_goes row = given_if (may_be_halted row) row (answered (plain_answer kinds.Halted) row) (λ e. halted_given row e)

-- what holds of the rows of a batch, and is kept by each part, holds once it has gone on
pub turned_case : (P : List HostOf → Type 0) → ((f : HostOf → HostOf) → Goes f → (rows : List HostOf) → P rows → P (map f rows)) → (inventory : InventoryOf) (play : PlayOf) (p : ℕ) (batch : BatchOf) → P batch.rows
    → P (turned inventory play p batch).rows
turned_case P each inventory play p batch first = by_halting (is_halting play p (copies inventory play p batch).rows)
  where
    second : P (copies inventory play p batch).rows
    second = each (with_copy inventory play p (source play p batch.rows)) (copy_goes inventory play p (source play p batch.rows)) batch.rows first

    by_halting : (b : Bool) → P (if b then record { rows = map halted (copies inventory play p batch).rows; sizes_left = [] } else copies inventory play p batch).rows
    by_halting true = each halted halted_goes (copies inventory play p batch).rows second
    by_halting false = second

pub turned_by_case : (P : List HostOf → Type 0) → ((f : HostOf → HostOf) → Goes f → (rows : List HostOf) → P rows → P (map f rows)) → (inventory : InventoryOf) (play : PlayOf) (batch : BatchOf) (place : Option ℕ) → P batch.rows
    → P (turned_by inventory play batch place).rows
turned_by_case P each inventory play batch None first = first
turned_by_case P each inventory play batch (Some p) first = turned_case P each inventory play p batch first

-- no further batch of the play comes
turned_later : (inventory : InventoryOf) (play : PlayOf) (p : ℕ) (batch : BatchOf) → length (turned inventory play p batch).sizes_left ≤ length batch.sizes_left
turned_later inventory play p batch = by_halting (is_halting play p (copies inventory play p batch).rows)
  where
    by_halting : (b : Bool) → length (if b then record { rows = map halted (copies inventory play p batch).rows; sizes_left = [] } else copies inventory play p batch).sizes_left ≤ length batch.sizes_left
    by_halting true = omega arith
    by_halting false = omega arith

pub later_fewer : (inventory : InventoryOf) (play : PlayOf) (batch : BatchOf) (place : Option ℕ) → length (turned_by inventory play batch place).sizes_left ≤ length batch.sizes_left
later_fewer inventory play batch None = omega arith
later_fewer inventory play batch (Some p) = turned_later inventory play p batch

-- what stays of each row
pub goes_host : (f : HostOf → HostOf) → Goes f → (row : HostOf) → (f row).host ≡ row.host
goes_host f goes row = elim (goes row) [ inl same ↦ rw same refl | inr given ↦ rw given.is refl ]

pub goes_tree : (f : HostOf → HostOf) → Goes f → (row : HostOf) → (f row).tree ≡ row.tree
goes_tree f goes row = elim (goes row) [ inl same ↦ rw same refl | inr given ↦ rw given.is refl ]

pub goes_inside : (f : HostOf → HostOf) → Goes f → (row : HostOf) → (f row).in_batch ≡ row.in_batch
goes_inside f goes row = elim (goes row) [ inl same ↦ rw same refl | inr given ↦ rw given.is refl ]

pub goes_waits : (f : HostOf → HostOf) → Goes f → (row : HostOf) → (f row).awaits_batch ≡ row.awaits_batch
goes_waits f goes row = elim (goes row) [ inl same ↦ rw same refl | inr given ↦ rw given.is refl ]

pub goes_running : (f : HostOf → HostOf) → Goes f → (row : HostOf) → (f row).running ≡ row.running
goes_running f goes row = elim (goes row) [ inl same ↦ rw same refl | inr given ↦ rw given.is refl ]

pub goes_last : (f : HostOf → HostOf) → Goes f → (row : HostOf) → (f row).last ≡ row.last
goes_last f goes row = elim (goes row) [ inl same ↦ rw same refl | inr given ↦ rw given.is refl ]

pub goes_counts : (f : HostOf → HostOf) → Goes f → (row : HostOf) → (f row).counts ≡ row.counts
goes_counts f goes row = elim (goes row) [ inl same ↦ rw same refl | inr given ↦ rw given.is refl ]

-- nobody runs then either
pub idle_map : (f : HostOf → HostOf) → Goes f → (rows : List HostOf) → list_any is_running rows ≡ list_any is_running (map f rows)
idle_map f goes [] = refl
idle_map f goes (row ∷ rows) = let same : is_running (f row) ≡ is_running row = ap is_some (goes_running f goes row) in rw (same, idle_map f goes rows) refl

pub turned_idle : (inventory : InventoryOf) (play : PlayOf) (batch : BatchOf) (place : Option ℕ) → list_any is_running batch.rows ≡ list_any is_running (turned_by inventory play batch place).rows
turned_idle inventory play batch place =
    turned_by_case (λ (rows : List HostOf). list_any is_running batch.rows ≡ list_any is_running rows) (λ f goes rows same. same ∙ idle_map f goes rows) inventory play batch place refl

-- there are as many hosts
pub turned_hosts : (inventory : InventoryOf) (play : PlayOf) (batch : BatchOf) (place : Option ℕ) → length (turned_by inventory play batch place).rows ≡ length batch.rows
turned_hosts inventory play batch place =
    turned_by_case (λ (rows : List HostOf). length rows ≡ length batch.rows) (λ f goes rows same. length-map rows f ∙ same) inventory play batch place refl
