use Rattle.std.proofs.Common.{◌≢◌, subst, Some, arith}
use Rattle.std.proofs.lemmas.Grind.{common_steps}
use Rattle.pb_patterns.specs.declared.fault.PatFault.TheVariants.{Memory}
use Rattle.pb_planning.specs.declared.bundle.BundleFault.TheVariants.{Limit}
use Rattle.pb_planning.specs.Bundle.{IsLimitFault}
use Rattle.pb_planning.proofs.Plans.{limit_fault}
use Rattle.pb_planning.proofs.planning.limit_in.Goals as goal

pub returns-in-Err : goal.returns-in-Err
returns-in-Err c =
    let not_memory : c.in-Err.fault ≢ Memory = grind (arith, common_steps) in record {
      value = tt;
      taken = tt;
      fault = λ other. rw c.in-Some.is (subst (λ text. IsLimitFault (Some text) (Limit c.in-Err.fault)) c.as_str.ensures (limit_fault _ c.in-Err.fault (c.in-Err.ensures.fault not_memory)));
    }
