use Rattle.std.proofs.Common.{sym, ◌∙◌}
use Rattle.pb_items.proofs.OneStart.{one_start}
use Rattle.pb_items.proofs.constant.is_constant.Goals as goal

pub returns-clause-items : goal.returns-clause-items
returns-clause-items c = λ constant start layers magic t n d.
    one_start start (rw (t, n, d) (sym c.stands_alone.ensures ∙ constant)) layers magic
