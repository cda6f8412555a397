use denote.Param.Send.{sendable}
use Rattle.pb_driver.proofs.Sent.{worker_send}
use Rattle.pb_driver.proofs.workers.start_one.Goals as goal

pub spawn_with-requires-send-T : goal.spawn_with-requires-send-T
spawn_with-requires-send-T g c κs within = search (worker_send, sendable) depth 20

pub spawn_with-requires-send-F : goal.spawn_with-requires-send-F
spawn_with-requires-send-F g c κs within = search (worker_send, sendable) depth 20
