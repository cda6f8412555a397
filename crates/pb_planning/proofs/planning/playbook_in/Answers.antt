use Rattle.std.proofs.Common.{◌≢◌, subst, arith}
use Rattle.std.proofs.lemmas.Grind.{common_steps}
use Rattle.pb_written.specs.declared.fault.LoadFault.TheVariants.{Memory}
use Rattle.pb_planning.specs.declared.bundle.BundleFault.TheVariants.{Playbook}
use Rattle.pb_planning.specs.Bundle.{IsPlaybookFault}
use Rattle.pb_planning.proofs.Plans.{playbook_fault}
use Rattle.pb_planning.proofs.planning.playbook_in.Goals as goal

pub returns-in-Err : goal.returns-in-Err
returns-in-Err c =
    let not_memory : c.in-Err.fault ≢ Memory = grind (arith, common_steps) in record {
      value = tt;
      taken = tt;
      limit = tt;
      fault = λ other. subst (λ bytes. IsPlaybookFault bytes (Playbook c.in-Err.fault)) c.as_slice.ensures (playbook_fault _ c.in-Err.fault (c.in-Err.ensures.fault not_memory));
    }
