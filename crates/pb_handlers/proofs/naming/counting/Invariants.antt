use Rattle.std.proofs.Common.{◌≡◌, ◌≤◌, ℕ, List, length, drop}
use Rattle.std.specs.List.{list_any}
use Rattle.std.specs.Str.{bytes_eq}
use Rattle.pb_handlers.specs.Naming.{counting, is_named}
use Rattle.pb_handlers.proofs.naming.counting.Given as goal

abbrev pub invariant-loop-at : goal.invariant-loop-at
invariant-loop-at l = record {
  le : l.at ≤ length l.handlers;
  long : length l.counts.items ≡ length l.handlers;
  counted : drop l.at l.counts.items ≡ counting (drop l.at l.handlers);
  seen : (word : List ℕ) → list_any (bytes_eq word) l.later ≡ list_any (is_named word) (drop l.at l.handlers);
}

abbrev pub decreases-loop-at : goal.decreases-loop-at
decreases-loop-at l = l.at
