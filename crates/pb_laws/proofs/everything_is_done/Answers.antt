use Rattle.pb_laws.proofs.AllClosed.{batches_all_close}
use Rattle.pb_laws.proofs.InOrder.{batches_are_walked}
use Rattle.pb_laws.proofs.everything_is_done.Goals as goal

pub returns : goal.returns
returns c = record { walked = batches_are_walked; closed = batches_all_close }
