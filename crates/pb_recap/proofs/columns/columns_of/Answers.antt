use Rattle.std.proofs.Common.{arith, ◌≡◌, ◌+◌, ◌<◌, List, length, map, subst, sym}
use Rattle.std.proofs.lemmas.List.{length-map}
use Rattle.pb_lanes.specs.ColumnsOf.{ColumnsOf}
use Rattle.pb_lanes.specs.declared.kind.CountKind.TheVariants.{Okay}
use Rattle.pb_host.specs.declared.host.Counts.{Counts}
use Rattle.pb_host.specs.Host.{HostOf}
use Rattle.pb_recap.proofs.InColumns.{IsCopied, all_copied, one_copied}
use Rattle.pb_recap.proofs.columns.columns_of.Goals as goal

pub put_counts-requires-clause-host : goal.put_counts-requires-clause-host
put_counts-requires-clause-host c =
    let wide = c.loop-host.invariant.0 Okay in
    let long = length-map c.args.state.now.rows (λ (row : HostOf). row.counts) in
    omega (arith, wide, long, c.loop-host-test.true, c.hosts-hosts.ensures.value)

pub loop-host-preserved : goal.loop-host-preserved
loop-host-preserved c =
    let all : List Counts = map (λ (row : HostOf). row.counts) c.args.state.now.rows in
    let long = length-map c.args.state.now.rows (λ (row : HostOf). row.counts) in
    let inside : c.loop-host.host < length all = omega (arith, long, c.loop-host-test.true, c.hosts-hosts.ensures.value) in
    subst (λ (columns : ColumnsOf). IsCopied columns all (c.loop-host.host + 1)) (sym c.put_counts.ensures)
    (one_copied c.loop-host.columns all c.loop-host.host c.host_counts.result inside c.host_counts.ensures.value c.loop-host.invariant)

pub returns : goal.returns
returns c =
    let all : List Counts = map (λ (row : HostOf). row.counts) c.args.state.now.rows in
    let long = length-map c.args.state.now.rows (λ (row : HostOf). row.counts) in
    let whole : c.loop-host.host ≡ length all = omega (arith, long, c.loop-host-test.false, c.loop-host.auto.host-end, c.hosts-hosts.ensures.value) in
    all_copied c.loop-host.columns all c.loop-host.host whole c.loop-host.invariant
