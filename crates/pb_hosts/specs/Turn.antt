-- How a batch goes on from its current place, in three parts, each on what the one before it left: what one host did for all goes to the others, hosts
-- are halted, and the next place is the least at which one of them is (Ansible's documentation, "Controlling where tasks run", "Error handling in
-- playbooks", and "Controlling playbook execution: strategies and more").
use Rattle.std.specs.Prelude.{ℕ, ◌*◌, ◌==◌, nat_lt, Bool, false, ◌&&◌, ◌||◌, List, [], ◌∷◌, map, Option, Some, None, count_by, slice_get, if◌then◌else◌}
use Rattle.std.specs.List.{list_any}
use Rattle.std.specs.Option.{option_map_or}
use Rattle.pb_inventory.specs.InventoryOf.{InventoryOf}
use Rattle.pb_host.specs.FromPlaces.{PlaceOf}
use Rattle.pb_host.specs.FromPlan.{PlayOf}
use Rattle.pb_host.specs.Ends.{breaks, plain_answer, ends_run_once, is_fatal}
use Rattle.pb_host.specs.Host.{HostOf, answered, caught_at, runs_once_at, facts_after, is_at}
use Rattle.pb_host.specs.declared.host.LastTask.{LastTask}
pub use Rattle.pb_host.specs.Turned.{may_be_halted, halted}

-- the rows of a batch, and the sizes of those of its play that come behind it
pub record BatchOf : Type 0 where
  pub rows : List HostOf
  pub sizes_left : List ℕ

-- ---- what one host did for all
-- a task that runs once is done as a host has finished it so
abbrev pub ends_run_once_at : ℕ → LastTask → Bool
ends_run_once_at p finish = (finish.place == p) && ends_run_once finish.kind

-- whether the task that a host finished last is the one at this place, finished so
abbrev pub has_done_run_once : ℕ → HostOf → Bool
has_done_run_once p row = option_map_or (ends_run_once_at p) row.last false

-- whether the task at a place runs once, and one of these hosts has done it
abbrev pub is_run_once_done_at : PlayOf → List HostOf → ℕ → Bool
is_run_once_done_at play rows p = runs_once_at play p && list_any (has_done_run_once p) rows

-- the same of the batch's current place, if it has one
abbrev pub is_run_once_done : PlayOf → List HostOf → Option ℕ → Bool
is_run_once_done play rows place = option_map_or (is_run_once_done_at play rows) place false

-- the first of these hosts that did so
abbrev pub run_once_host : ℕ → List HostOf → Option HostOf
run_once_host p [] = None
run_once_host p (row ∷ rows) = if has_done_run_once p row then Some row else run_once_host p rows

-- the host whose answer at this place goes to the others; none where its task isn't one that runs once, or where no host has done it
abbrev pub source : PlayOf → ℕ → List HostOf → Option HostOf
source play p rows = if runs_once_at play p then run_once_host p rows else None

-- A host whose next place it is gets that host's answer, and learns what that one registered and learnt itself, but for the facts of a delegated item
-- where facts are delegated: these are the delegate's alone. No handler is notified, and nothing counts.
abbrev pub copied : InventoryOf → PlayOf → ℕ → LastTask → HostOf → HostOf
copied inventory play p finish row =
    record (answered (plain_answer finish.kind) row) {
      is_broken = row.is_broken || breaks (caught_at play p) finish.kind;
      facts = facts_after inventory play p None finish.items row.facts;
    }

-- a host whose next place is another one stays as it is
abbrev pub copied_if : InventoryOf → PlayOf → ℕ → HostOf → LastTask → HostOf
copied_if inventory play p row finish = if is_at p row then copied inventory play p finish row else row

-- the first of the two hosts gets what the second finished last; where that one finished nothing, it stays as it is
abbrev pub copied_from : InventoryOf → PlayOf → ℕ → HostOf → HostOf → HostOf
copied_from inventory play p row from = option_map_or (copied_if inventory play p row) from.last row

-- a host stays as it is where no other one did it for all
abbrev pub with_copy : InventoryOf → PlayOf → ℕ → Option HostOf → HostOf → HostOf
with_copy inventory play p from row = option_map_or (copied_from inventory play p row) from row

-- the first part
abbrev pub copies : InventoryOf → PlayOf → ℕ → BatchOf → BatchOf
copies inventory play p batch = record batch { rows = map (with_copy inventory play p (source play p batch.rows)) batch.rows }

-- ---- failures that halt all
-- a host has ended the task at a place so
abbrev pub ends_fatally : PlayOf → ℕ → LastTask → Bool
ends_fatally play p finish = (finish.place == p) && is_fatal (caught_at play p) finish.kind

-- whether the task that a host finished last is the one at this place, ended so
abbrev pub has_ended_fatally : PlayOf → ℕ → HostOf → Bool
has_ended_fatally play p row = option_map_or (ends_fatally play p) row.last false

-- whether a failure at a place is one for all hosts, as the place says; where no task stands it is not
abbrev pub any_errors_fatal_at : PlayOf → ℕ → Bool
any_errors_fatal_at play p = option_map_or (λ (place : PlaceOf). place.any_errors_fatal) (slice_get play.places p) false

-- failures at this place are fatal, and one of these hosts has ended its task there so
abbrev pub is_fatal_at : PlayOf → ℕ → List HostOf → Bool
is_fatal_at play p rows = any_errors_fatal_at play p && list_any (has_ended_fatally play p) rows

-- how many of these hosts are in the batch, and how many are broken
abbrev pub batch_count : List HostOf → ℕ
batch_count rows = count_by (λ (row : HostOf). row.in_batch) rows

abbrev pub broken_count : List HostOf → ℕ
broken_count rows = count_by (λ (row : HostOf). row.is_broken) rows

-- more of the batch's hosts are broken than the play allows: as many as it allows aren't too many
abbrev pub has_failed_too_often : PlayOf → List HostOf → Bool
has_failed_too_often play rows = nat_lt (play.max_fail_percentage * batch_count rows) (100 * broken_count rows)

-- why hosts are halted: by a fatal failure at this place, or since too many of them are broken
abbrev pub is_halting : PlayOf → ℕ → List HostOf → Bool
is_halting play p rows = is_fatal_at play p rows || has_failed_too_often play rows

-- the second part: where hosts are halted, no further batch of the play opens
abbrev pub halts : PlayOf → ℕ → BatchOf → BatchOf
halts play p batch = if is_halting play p batch.rows then record { rows = map halted batch.rows; sizes_left = [] } else batch

-- both
abbrev pub turned : InventoryOf → PlayOf → ℕ → BatchOf → BatchOf
turned inventory play p batch = halts play p (copies inventory play p batch)

-- a batch without a current place stays as it is
abbrev pub turned_by : InventoryOf → PlayOf → BatchOf → Option ℕ → BatchOf
turned_by inventory play batch place = option_map_or (λ p. turned inventory play p batch) place batch
