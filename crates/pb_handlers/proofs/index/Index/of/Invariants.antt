use Rattle.std.proofs.Common.{◌≡◌, ℕ, List, length, take}
use Rattle.pb_handlers.specs.Pending.{is_among}
use Rattle.pb_handlers.specs.Index.{under, answers_at}
use Rattle.pb_handlers.proofs.index.Index.of.Given as goal

abbrev pub invariant-loop-number : goal.invariant-loop-number
invariant-loop-number l = record {
  long : length l.words ≡ length l.numbers.items;
  among : (word : List ℕ) (k : ℕ) → is_among k (under word l.words l.numbers.items) ≡ answers_at word (take l.number l.handlers) k;
}
