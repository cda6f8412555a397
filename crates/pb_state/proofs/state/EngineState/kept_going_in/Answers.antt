use Rattle.std.proofs.Common.{◌≡◌, ◌∙◌, length, map, ap, sym, subst, false}
use Rattle.std.specs.Prelude.{replicate}
use Rattle.pb_planes.specs.Set.{has_some}
use Rattle.pb_strategies.specs.MayStart.{ViewOf, ready as starting}
use Rattle.pb_host.specs.Runs.{has_send}
use Rattle.pb_state.specs.State.{State}
use Rattle.pb_state.proofs.Readies.{ready_to_start, ready_to_send, if_kept, has_none}
use Rattle.pb_state.proofs.state.EngineState.kept_going_in.Goals as goal

pub returns-then-none_may_start : goal.returns-then-none_may_start
returns-then-none_may_start c =
    ready_to_send c.args.self.now c.args.play.now c.sends-sends.result.now c.requires (c.sends-sends.ensures ∙ ap (λ (s : State). map has_send s.rows) c.self.view_is)
    (subst (λ (v : ViewOf). starting v ≡ replicate (length v.hosts) false) c.view-view.ensures (c.none_may_start.ensures c.if-none_may_start.true))

pub returns-then-is_empty : goal.returns-then-is_empty
returns-then-is_empty c =
    if_kept _ _ c.kept.result
    (λ set is. is ∙ ap starting c.view-view.ensures
    ∙ ready_to_start c.args.self.now c.args.play.now c.sends-sends.result.now c.requires (c.sends-sends.ensures ∙ ap (λ (s : State). map has_send s.rows) c.self.view_is)
    (has_none (has_some c.sends-sends.result.now) (sym c.is_empty.ensures ∙ c.if-is_empty.true)))
    c.kept.ensures
