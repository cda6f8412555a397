-- A fork's seat may go to another thread, and threads may share a pool: by the parts of what lies in a slot, one after the other, since a search through
-- all of them at once meets its limit.
use denote.Builtin.{u32}
use denote.RattleType.{RattleType}
use denote.Param.Send.{IsSend, IsSync, sendable, view_send}
use denote.Param.SendFields.{declared_send, declared_sync, variants_send}
use Rattle.std.proofs.Crossing as std
use Rattle.std.proofs.MapsCrossing as maps
use Rattle.std.specs.contracts.alloc.Global as Global
use Rattle.std.specs.contracts.impls.GlobalAllocator.TheImpl as heap
use Rattle.std.specs.contracts.option.Option as Option
use Rattle.atomic_table.proofs.owned.Table.TheSendSync as table
use Rattle.atomic_table.proofs.shared.Seat.TheSendSync as seat
use Rattle.pb_value.proofs.text.Text.TheSendSync as text
use Rattle.pb_value.proofs.val.Dict.TheLaws.TheKnot as ring
use Rattle.pb_value.specs.contracts.val.Val as Val
use Rattle.pb_outcome.proofs.cause.Cause.TheSendSync as cause
use Rattle.pb_outcome.proofs.job.Job.TheSendSync as job
use Rattle.pb_outcome.specs.contracts.job.Report as Report
use Rattle.pb_outcome.specs.contracts.outcome.Form as Form
use Rattle.pb_outcome.specs.contracts.outcome.Outcome as Outcome
use Rattle.pb_outcome.specs.contracts.outcome.Outcome.TheInside as inside
use Rattle.pb_outcome.specs.declared.job.Allows as Allows
use Rattle.pb_forks.specs.contracts.parcel.Parcel as Parcel
use Rattle.pb_forks.specs.contracts.rule.Mailboxes as Mailboxes
use Rattle.pb_forks.specs.contracts.rule.MailboxesTableRuleOptionParcelViewU32.TheImpl as rule
use Rattle.pb_forks.specs.contracts.seats.ForkSeat as ForkSeat
use Rattle.pb_forks.specs.contracts.seats.Pool as Pool
use Rattle.pb_forks.specs.contracts.views.View as View

val_send : IsSend Val.the_row
val_send = search (ring.crosses, maps.crosses, std.crosses, sendable) depth 20

form_send : IsSend Form.the_row
form_send = variants_send Form.enum ((search sendable, (text.the_send, (text.the_send, tt))), ((val_send, tt), ((text.the_send, tt), ((cause.the_send, tt), tt))))

outcome_send : IsSend Outcome.the_row
outcome_send = view_send inside.the_row _ _ _ _ (declared_send inside.the_type (form_send, tt))

report_send : IsSend Report.the_row
report_send = declared_send Report.the_type (search sendable depth 20, (search sendable depth 20, (search sendable, (search sendable, (outcome_send, tt)))))

parcel_send : IsSend Parcel.the_row
parcel_send = variants_send Parcel.enum ((job.the_send, tt), ((report_send, tt), tt))

slot_send : IsSend (Option.the_row Parcel.the_row)
slot_send = let p : IsSend Parcel.the_row = parcel_send in search sendable depth 20

pub seat_send : IsSend ForkSeat.the_row
seat_send = declared_send ForkSeat.the_type (seat.the_send (Option.the_row Parcel.the_row) View.the_row slot_send, (search sendable, tt))

pub pool_sync : (A : RattleType) (g : Allows.Ghosts A.Denot) → IsSync (Pool.the_row A g)
pool_sync A g = declared_sync (Pool.the_type A g) (
  table.the_sync (Option.the_row Parcel.the_row) View.the_row u32 (Mailboxes.the_row A) Global.the_row (rule.ghosts A g rule.no_dict) heap.ghosts slot_send std.send std.sync std.frees,
  (search sendable, (search (std.crosses, sendable) depth 20, tt)),
)
