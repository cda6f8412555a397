use Rattle.std.proofs.Common.{◌≡◌, ◌<◌, ◌==◌, ℕ, length, take, false}
use Rattle.std.specs.Prelude.{slice_index_or}
use Rattle.std.specs.List.{list_any}
use Rattle.pb_inventory.proofs.numbering.missing_of.Given as goal

abbrev pub invariant-loop-number : goal.invariant-loop-number
invariant-loop-number l =
    (length l.marks.items ≡ l.limit)
    × ((k : ℕ) → k < l.limit → slice_index_or l.marks.items k false ≡ list_any (λ m. m == k) (take l.number-index l.numbers))
