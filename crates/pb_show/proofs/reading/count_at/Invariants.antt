use Rattle.std.proofs.Common.{◌≡◌, ◌+◌}
use Rattle.serde_json.specs.View.{members_view}
use Rattle.pb_show.specs.Reading.{values_of, count_in}
use Rattle.pb_show.proofs.reading.count_at.Given as goal

abbrev pub invariant-loop-counts : goal.invariant-loop-counts
invariant-loop-counts l = l.count + count_in l.key (values_of (members_view l.counts-iterator)) ≡ count_in l.key (values_of (members_view l.hosts.entries))
