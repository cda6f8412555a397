-- A worker may go to its thread, where its runner may.
use denote.RattleType.{RattleType}
use denote.Struct.Field.{row_field}
use denote.Param.Send.{IsSend}
use denote.Param.SendFields.{as_row_send, declared_send}
use Rattle.pb_forks.proofs.Sent.{seat_send}
use Rattle.pb_driver.specs.contracts.workers.Worker as Worker

pub worker_send : (N : RattleType) → IsSend N → IsSend (Worker.the_row N)
worker_send N s = declared_send (Worker.the_type N) (seat_send, (as_row_send (row_field N) s, tt))
