use Rattle.std.proofs.Common.{◌≡◌, Some}
use Rattle.pb_cli.proofs.Running.{tabled_to}
use Rattle.pb_cli.proofs.runs.run_tabled.Goals as goal

pub returns-clause-cut : goal.returns-clause-cut
returns-clause-cut g c = λ fault trail h.
    let same_fault : c.in-Err-run_by.fault ≡ fault = cc in
    let same_trail : Some c.in-Err-run_by.trail ≡ trail = cc in
    tabled_to c.args.bytes.now c.args.plan c.args.stop_after c.in-Ok.runner c.run_by.new.runner c.in-Err-run_by.trail c.in-Err-run_by.fault fault trail (g.O.LineOut.taken c.args.out.now) (g.O.LineOut.taken c.run_by.new.out)
    c.in-Ok.ensures.value c.in-Err-run_by.ensures.cut c.in-Err-run_by.ensures.over c.in-Err-run_by.ensures.opened same_fault same_trail
