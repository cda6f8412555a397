use Rattle.std.proofs.Common.{◌≡◌, ◌≤◌, ◌+◌, ◌++◌, length, map, reverse, vec_capacity, vec_len}
use Rattle.pb_cli.specs.Hired.{facts_of, launcher_of}
use Rattle.pb_cli.proofs.workers.pair.Given as goal

abbrev pub invariant-loop-facts : goal.invariant-loop-facts
invariant-loop-facts g l = record {
  enough : length l.facts.items ≤ length l.queue.items;
  room : length l.runners.items + length l.facts.items ≤ vec_capacity l.runners;
  launchers : l.queue.items ++ reverse (map launcher_of l.runners.items) ≡ l.initial.queue.items;
  facts : map facts_of l.runners.items ++ reverse l.facts.items ≡ reverse l.initial.facts.items;
  kept : vec_capacity l.queue ≡ vec_capacity l.initial.queue;
}

abbrev pub decreases-loop-facts : goal.decreases-loop-facts
decreases-loop-facts g l = vec_len l.facts
