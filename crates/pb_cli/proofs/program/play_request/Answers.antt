use Rattle.std.proofs.Common.{rules}
use Rattle.pb_cli.proofs.Ending.{broken}
use Rattle.pb_cli.proofs.program.play_request.Goals as goal

pub returns-clause-fault : goal.returns-clause-fault
returns-clause-fault g c = λ one. broken _ _ _ _ _ _ _ _ c.in-Ok.ensures.bundle c.in-Ok.ensures.wanted (search rules) c.in-Ok.ensures.trail c.in-Ok.ensures.under c.in-Ok.ensures.failed (c.play_asked.ensures.fault one)
