use Rattle.std.proofs.Common.{arith}
use Rattle.serde_json.specs.View.{members_view}
use Rattle.pb_show.specs.Reading.{values_of}
use Rattle.pb_show.proofs.Rows.{values-length, count-within, count-step}
use Rattle.pb_show.proofs.reading.count_at.Goals as goal

pub overflow_add-count : goal.overflow_add-count
overflow_add-count c =
    let l = c.loop-counts in
    let s = count-step c.args.key.now (c.in-Some.field-0-0.now, c.in-Some.counts.now) l.counts-iterator c.next.new.self l.count c.one_if-count.result _ c.in-Some.ensures.steps c.one_if-count.ensures l.invariant in
    let all = count-within c.args.key.now (values_of (members_view c.args.hosts.now.entries)) in
    let len = values-length c.args.hosts.now.entries in
    omega (arith, s, all, len, c.len-most.ensures.len, c.len-most.ensures.small)

pub loop-counts-preserved : goal.loop-counts-preserved
loop-counts-preserved c =
    count-step c.args.key.now (c.in-Some.field-0-0.now, c.in-Some.counts.now) c.loop-counts.counts-iterator c.next.new.self c.loop-counts.count c.one_if-count.result _ c.in-Some.ensures.steps c.one_if-count.ensures c.loop-counts.invariant
