-- Of the jobs that are out, the one that was sent first, and all of them in the order in which they were sent.
use Rattle.std.specs.Prelude.{ℕ, ◌+◌, ◌==◌, nat_le, Bool, List, [], ◌∷◌, map, Option, Some, None, option_map, if◌then◌else◌}
use Rattle.std.specs.Option.{option_map_or}
use Rattle.pb_ids.specs.declared.numbers.HostNo.{HostNo}
use Rattle.pb_ids.specs.declared.numbers.Ticket.{Ticket}
use Rattle.pb_host.specs.declared.host.Running.{Running}
use Rattle.pb_host.specs.Host.{HostOf}

-- of two jobs, each of them a host and its ticket, the one that was sent first; where one is missing it is the other
abbrev pub older : Option (HostNo × Ticket) → Option (HostNo × Ticket) → Option (HostNo × Ticket)
older None q = q
older (Some p) None = Some p
older (Some p) (Some q) = if nat_le p.1.0 q.1.0 then Some p else Some q

-- the ticket of a task's job that is out, if one is
abbrev pub out_of : Running → Option Ticket
out_of r = r.out

-- the host with this number, and the ticket of its job, if that is out
abbrev pub out_at : ℕ → HostOf → Option (HostNo × Ticket)
out_at h row = option_map (λ ticket. (record { 0 = h }, ticket)) (option_map_or out_of row.running None)

-- of these hosts, whose first has the number h
abbrev pub oldest_from : ℕ → List HostOf → Option (HostNo × Ticket)
oldest_from h [] = None
oldest_from h (row ∷ rows) = older (out_at h row) (oldest_from (h + 1) rows)

-- the job of all hosts that was sent first; none where no job is out
abbrev pub oldest_out : List HostOf → Option (HostNo × Ticket)
oldest_out rows = oldest_from 0 rows

-- the ticket of a host's job, if that is out
abbrev pub ticket_of : HostOf → Option Ticket
ticket_of row = option_map_or out_of row.running None

-- a job was sent before another one: its ticket is less; of two under one ticket, which a run never has, that of the first host comes first
abbrev pub is_before : HostNo × Ticket → HostNo × Ticket → Bool
is_before p q = if p.1.0 == q.1.0 then nat_le p.0.0 q.0.0 else nat_le p.1.0 q.1.0

-- one job more among those in their order
abbrev pub with_job : HostNo × Ticket → List (HostNo × Ticket) → List (HostNo × Ticket)
with_job p [] = p ∷ []
with_job p (q ∷ jobs) = if is_before p q then p ∷ q ∷ jobs else q ∷ with_job p jobs

-- one job more of the host with this number, if it has a ticket
abbrev pub with_ticket : ℕ → Option Ticket → List (HostNo × Ticket) → List (HostNo × Ticket)
with_ticket h None jobs = jobs
with_ticket h (Some ticket) jobs = with_job (record { 0 = h }, ticket) jobs

-- of hosts with these tickets, of which the first has the number h
abbrev pub out_from : ℕ → List (Option Ticket) → List (HostNo × Ticket)
out_from h [] = []
out_from h (ticket ∷ tickets) = with_ticket h ticket (out_from (h + 1) tickets)

-- all jobs that are out, from the one that was sent first on
abbrev pub all_out : List HostOf → List (HostNo × Ticket)
all_out rows = out_from 0 (map ticket_of rows)

-- the job of this host, and the jobs without it
abbrev pub is_of : ℕ → HostNo × Ticket → Bool
is_of h p = p.0.0 == h

-- the first job of this host is taken away; the jobs stay as they are where it has none
abbrev pub without_job : ℕ → List (HostNo × Ticket) → List (HostNo × Ticket)
without_job h [] = []
without_job h (p ∷ jobs) = if is_of h p then jobs else p ∷ without_job h jobs

-- a job under this ticket
abbrev pub is_under : Ticket → HostNo × Ticket → Bool
is_under ticket p = p.1.0 == ticket.0
