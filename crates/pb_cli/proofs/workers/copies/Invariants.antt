use Rattle.std.proofs.Common.{◌≡◌, ℕ, All, List, Option, length}
use Rattle.pb_cli.proofs.workers.copies.Given as goal

abbrev pub invariant-loop : goal.invariant-loop
invariant-loop l = record {
  count : length l.copies.items ≡ l.counter;
  same : All (λ (copy : Option (List ℕ)). copy ≡ l.facts_program) l.copies.items;
}
