use Rattle.std.proofs.Common.{◌≡◌, drop}
use Rattle.std.specs.List.{list_any}
use Rattle.pb_outcome.specs.Gathered.{is_faulty}
use Rattle.pb_outcome.specs.Items.{ended}
use Rattle.pb_outcome.specs.declared.gather.ItemResult.{ItemResult}
use Rattle.pb_outcome.proofs.items.has_faulty.Given as goal

abbrev pub invariant-loop-item : goal.invariant-loop-item
invariant-loop-item l =
    list_any (λ (item : ItemResult). is_faulty item.ending) (ended l.items) ≡ list_any (λ (item : ItemResult). is_faulty item.ending) (ended (drop l.item-index l.items))
