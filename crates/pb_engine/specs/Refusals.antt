-- Why a report is refused.
use Rattle.std.specs.Prelude.{nat_lt, not, Bool, Option, Some, None, if◌then◌else◌}
use Rattle.std.specs.List.{list_any}
use Rattle.pb_outcome.specs.declared.job.Report.{Report}
use Rattle.pb_state.specs.State.{State}
use Rattle.pb_host.specs.Runs.{awaits, has_ticket}
use Rattle.pb_hosts.specs.Hosts.{at_row}
use Rattle.pb_engine.specs.declared.refusal.Refusal.{Refusal}
use Rattle.pb_engine.specs.declared.refusal.Refusal.TheVariants.{UnknownTicket, AlreadyReported, WrongItem}

-- whether a job was sent under the report's ticket
abbrev pub is_sent : State → Report → Bool
is_sent s r = nat_lt r.ticket.0 s.sends

-- whether the job of the report's ticket is out
abbrev pub is_waited_for : State → Report → Bool
is_waited_for s r = list_any (has_ticket r.ticket) s.rows

-- whether it is out for the report's host, item and attempt
abbrev pub fits : State → Report → Bool
fits s r = at_row (awaits r.ticket r.item r.attempt) s.rows r.host.0

-- why a report is refused, if it is; want of memory is another matter
abbrev pub refusal_of : State → Report → Option Refusal
refusal_of s r =
    if not (is_sent s r) then Some UnknownTicket
    else if not (is_waited_for s r) then Some AlreadyReported
    else if not (fits s r) then Some WrongItem
    else None
