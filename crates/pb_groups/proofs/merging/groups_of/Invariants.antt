use Rattle.std.proofs.Common.{◌≡◌, ◌++◌, map}
use Rattle.pb_groups.specs.Merging.{group_no}
use Rattle.pb_groups.proofs.merging.groups_of.Given as goal

abbrev pub invariant-loop-key : goal.invariant-loop-key
invariant-loop-key l = map (λ k. group_no k.group) l.fn.keys.keys ≡ l.groups.items ++ map (λ k. group_no k.group) l.key-iterator
