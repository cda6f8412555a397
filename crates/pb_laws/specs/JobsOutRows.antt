-- Worked examples: each is proved by computing both sides.
use Rattle.std.specs.Prelude.{◌≡◌, true, false, [], ◌∷◌, Some, None, refl}
use Rattle.pb_ids.specs.declared.numbers.HostNo.{HostNo}
use Rattle.pb_ids.specs.declared.numbers.Ticket.{Ticket}
use Rattle.pb_outcome.specs.declared.outcome.Form.{Form}
use Rattle.pb_state.specs.declared.event.Event.TheVariants.{Send, Report as Reported}
use Rattle.pb_laws.specs.JobsOut.{has_mail, is_report_of, outs, runs}

-- of three hosts one runs nothing, one has a job out, and one runs a task whose next job isn't out
one_is_out : (ticket : Ticket) → outs (None ∷ Some (record { place = 0; items = []; out = Some ticket }) ∷ Some (record { place = 2; items = []; out = None }) ∷ []) ≡ 1
one_is_out ticket = refl

two_run : (ticket : Ticket) → runs (None ∷ Some (record { place = 0; items = []; out = Some ticket }) ∷ Some (record { place = 2; items = []; out = None }) ∷ []) ≡ 2
two_run ticket = refl

-- a send is mail, and no report; a report is one of its own host alone
sends_are_mail : (host : HostNo) (ticket : Ticket) → has_mail (Send host 0 1 ticket) ≡ true
sends_are_mail host ticket = refl

own_report : (ticket : Ticket) (outcome : Form) → is_report_of (record { 0 = 3 }) (Reported (record { ticket = ticket; host = record { 0 = 3 }; item = 0; attempt = 1; outcome = outcome })) ≡ true
own_report ticket outcome = refl

another_report : (ticket : Ticket) (outcome : Form) → is_report_of (record { 0 = 3 }) (Reported (record { ticket = ticket; host = record { 0 = 4 }; item = 0; attempt = 1; outcome = outcome })) ≡ false
another_report ticket outcome = refl
