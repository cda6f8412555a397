use Rattle.std.proofs.Common.{◌∙◌, Option, ap, subst, sym}
use Rattle.pb_state.specs.Known.{IsKnown}
use Rattle.pb_state.specs.State.{State}
use Rattle.pb_state.proofs.InTurn.{Map}
use Rattle.pb_state.proofs.PutRight.{kept_right}
use Rattle.pb_state.proofs.state.EngineState.renew.Goals as goal

pub returns : goal.returns
returns c = λ old learns k.
    subst (λ (kept : Option Map). IsKnown c.args.plan.now c.args.self.now kept) (sym c.replace-2.ensures.after)
    (kept_right c.args.plan.now old c.args.self.now c.as_slice-rows.result.now c.args.log.now c.args.known.now c.renewed_once_learnt-anew.result c.in-Some.hosts (sym c.replace.ensures.value ∙ c.in-Some.is)
    (c.as_slice-rows.ensures ∙ ap (λ (s : State). s.rows) c.self.view_is) c.renewed_once_learnt-anew.ensures learns k)
