-- What is kept beside the rows, so that no step looks at all of them: which hosts have a job to send, where each stands, which are in the batch, which
-- wait for theirs, and which jobs are out.
use Rattle.std.specs.Prelude.{◌≡◌, ⊤, ℕ, Bool, false, List, [], ◌∷◌, map, slice_get, slice_set}
use Rattle.std.specs.Option.{option_map_or}
use Rattle.pb_ids.specs.declared.numbers.HostNo.{HostNo}
use Rattle.pb_ids.specs.declared.numbers.Ticket.{Ticket}
use Rattle.pb_host.specs.Host.{HostOf, is_waiting, left}
use Rattle.pb_strategies.specs.declared.standings.Standing.{Standing}
use Rattle.pb_host.specs.Runs.{has_send}
use Rattle.pb_hosts.specs.Oldest.{all_out}
use Rattle.pb_host.specs.Standing.{standing}

-- what a list says of each host's row, once one host's row is asked anew
abbrev pub asked_at : {A : Type 0} → (HostOf → A) → List HostOf → ℕ → List A → List A
asked_at of rows h column = option_map_or (λ (row : HostOf). slice_set column h (of row)) (slice_get rows h) column

-- whether a host is in the batch
abbrev pub is_inside : HostOf → Bool
is_inside row = row.in_batch

-- a host outside of the batch is what a batch that closes makes of a host: it has no tree and no answers, runs nothing, finished nothing, and isn't
-- broken
abbrev pub IsOutside : HostOf → Type 0
IsOutside row = row.in_batch ≡ false → left row ≡ row

-- so it is with each of these hosts
abbrev pub AreOutside : List HostOf → Type 0
AreOutside [] = ⊤
AreOutside (row ∷ rows) = IsOutside row × AreOutside rows

-- what is kept says the same as the rows of all hosts: of each host whether it has a job to send, where it stands, whether it is in the batch,
-- and whether it waits for its own, and then the jobs that are out; a host outside of the batch has nothing left of one
pub record IsDue (sends : List Bool) (standings : List Standing) (batch : List Bool) (awaits_batch : List Bool) (jobs : List (HostNo × Ticket)) (rows : List HostOf) : Type 0 where
  pub sending : sends ≡ map has_send rows
  pub stands : standings ≡ map standing rows
  pub insiders : batch ≡ map is_inside rows
  pub waiting : awaits_batch ≡ map is_waiting rows
  pub outsiders : AreOutside rows
  -- in the order in which they were sent
  pub in_order : jobs ≡ all_out rows
