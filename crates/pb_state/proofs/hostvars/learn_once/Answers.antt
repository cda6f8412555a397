use Rattle.std.proofs.Common.{◌∙◌, None, sym}
use Rattle.pb_state.proofs.InTurn.{once_rising}
use Rattle.pb_state.proofs.hostvars.learn_once.Goals as goal

pub returns-then-rises : goal.returns-then-rises
returns-then-rises c = sym (once_rising c.args.log.now None (sym c.rises.ensures ∙ c.if-rises.true))
