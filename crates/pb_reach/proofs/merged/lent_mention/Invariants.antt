use Rattle.std.proofs.Common.{◌≡◌, drop}
use Rattle.pb_value.specs.Datum.{members_of}
use Rattle.pb_layers.specs.Lent.{lent_map}
use Rattle.pb_mentions.specs.Mentions.{members_mention}
use Rattle.pb_reach.proofs.merged.lent_mention.Given as goal

abbrev pub invariant-loop-entry : goal.invariant-loop-entry
invariant-loop-entry l = members_mention l.word (members_of (lent_map l.entries)) ≡ members_mention l.word (members_of (lent_map (drop l.entry-index l.entries)))
