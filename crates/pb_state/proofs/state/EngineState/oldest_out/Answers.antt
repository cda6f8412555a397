use Rattle.std.proofs.Common.{◌∙◌, ap}
use Rattle.pb_state.specs.State.{State}
use Rattle.pb_hosts.specs.Oldest.{oldest_out}
use Rattle.pb_hosts.proofs.OldestOut.{some_is_out, some_is_least, none_is_out}
use Rattle.pb_state.proofs.state.EngineState.oldest_out.Goals as goal

pub returns-clause-out : goal.returns-clause-out
returns-clause-out c = some_is_out c.args.self.now.rows c.oldest_out.result (c.oldest_out.ensures ∙ ap (λ (s : State). oldest_out s.rows) c.self.view_is)

pub returns-clause-least : goal.returns-clause-least
returns-clause-least c = some_is_least c.args.self.now.rows c.oldest_out.result (c.oldest_out.ensures ∙ ap (λ (s : State). oldest_out s.rows) c.self.view_is)

pub returns-clause-none : goal.returns-clause-none
returns-clause-none c = none_is_out c.args.self.now.rows c.oldest_out.result (c.oldest_out.ensures ∙ ap (λ (s : State). oldest_out s.rows) c.self.view_is)
