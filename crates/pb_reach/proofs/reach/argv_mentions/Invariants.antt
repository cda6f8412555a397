use Rattle.std.proofs.Common.{◌≡◌, drop}
use Rattle.pb_value.specs.Datum.{items_of}
use Rattle.pb_mentions.specs.Mentions.{items_mention}
use Rattle.pb_reach.proofs.reach.argv_mentions.Given as goal

abbrev pub invariant-loop-value : goal.invariant-loop-value
invariant-loop-value l = items_mention l.word (items_of l.values) ≡ items_mention l.word (items_of (drop l.value-index l.values))
