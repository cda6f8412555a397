use Rattle.std.proofs.lemmas.Result.{IfOk-weaker}
use Rattle.pb_cli.proofs.Compared.{compared}
use Rattle.pb_cli.proofs.again.compare.Goals as goal

pub returns-clause-comparison : goal.returns-clause-comparison
returns-clause-comparison c =
    IfOk-weaker c.same_text.result _ _
    (λ text is. (
      c.in_ok-plan.plan,
      c.in-Ok.found,
      compared c.args.bundle.now c.args.forks c.args.stop_after c.args.bytes.now c.args.trail.now _ _ _ _ c.in-Ok.found c.in_ok-plan.ensures c.in_ok-other.ensures c.in_ok-again.ensures c.as_slice.ensures
          c.in-Ok.ensures.found c.in-Ok.ensures.alike,
      is,
    ))
    c.same_text.ensures
