use Rattle.std.proofs.Common.{◌≡◌, drop}
use Rattle.pb_facts.specs.Facts.{given_in}
use Rattle.pb_facts.specs.Update.{gives_some}
use Rattle.pb_facts.proofs.update.gives_some.Given as goal

abbrev pub invariant-loop-item : goal.invariant-loop-item
invariant-loop-item l = gives_some (given_in l.items) ≡ gives_some (given_in (drop l.item-index l.items))
