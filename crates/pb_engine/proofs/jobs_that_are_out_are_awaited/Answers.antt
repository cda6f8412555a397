use Rattle.pb_engine.proofs.Waits.{out_awaited}
use Rattle.pb_engine.proofs.jobs_that_are_out_are_awaited.Goals as goal

pub returns : goal.returns
returns c = λ plan pool trail s x r run out its. out_awaited plan pool trail s x r run out its
