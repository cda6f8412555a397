use Rattle.std.proofs.Common.{◌≡◌, ℕ, List, length, take, nat_eq}
use Rattle.std.specs.Prelude.{◌&&◌, ◌||◌}
use Rattle.std.specs.List.{list_any}
use Rattle.std.specs.Str.{bytes_eq}
use Rattle.pb_handlers.specs.Pending.{is_among}
use Rattle.pb_handlers.specs.Index.{under}
use Rattle.pb_handlers.proofs.index.add_handler.Given as goal

abbrev pub invariant-loop-topic : goal.invariant-loop-topic
invariant-loop-topic l = record {
  long : length l.words ≡ length l.numbers.items;
  among : (word : List ℕ) (k : ℕ) → is_among k (under word l.words l.numbers.items) ≡ (is_among k (under word l.fn.words l.fn.numbers.items)
      || ((bytes_eq word l.handler.name || list_any (bytes_eq word) (take l.topic-index l.handler.listens)) && nat_eq k l.number));
}
