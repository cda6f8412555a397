-- Worked rows: the jobs that are out, in the order in which they were sent.
use Rattle.std.specs.Prelude.{◌≡◌, ℕ, List, [], ◌∷◌, Some, refl}
use Rattle.pb_ids.specs.declared.numbers.HostNo.{HostNo}
use Rattle.pb_ids.specs.declared.numbers.Ticket.{Ticket}
use Rattle.pb_host.specs.Host.{HostOf, first_row}
use Rattle.pb_hosts.specs.Oldest.{all_out, oldest_out, with_job, without_job}

-- a host whose job is out under this ticket
abbrev under : ℕ → HostOf
under ticket = record (first_row 0) { running = Some (record { place = 0; items = []; out = Some (record { 0 = ticket }) }) }

abbrev job : ℕ → ℕ → HostNo × Ticket
job host ticket = (record { 0 = host }, record { 0 = ticket })

-- of four hosts three have a job that is out
abbrev rows : List HostOf
rows = under 7 ∷ first_row 1 ∷ under 4 ∷ under 5 ∷ []

in_order : all_out rows ≡ job 2 4 ∷ job 3 5 ∷ job 0 7 ∷ []
in_order = refl

first_is_oldest : oldest_out rows ≡ Some (job 2 4)
first_is_oldest = refl

-- a report takes one of them
one_back : without_job 3 (all_out rows) ≡ job 2 4 ∷ job 0 7 ∷ []
one_back = refl

-- and a send puts one behind the others
one_more : with_job (job 1 8) (all_out rows) ≡ job 2 4 ∷ job 3 5 ∷ job 0 7 ∷ job 1 8 ∷ []
one_more = refl

-- nothing is out before the run
none_out : all_out (first_row 0 ∷ first_row 1 ∷ []) ≡ []
none_out = refl
