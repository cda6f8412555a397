use Rattle.std.proofs.Common.{arith, ap, sym, ◌∙◌, ◌<◌, subst}
use Rattle.std.specs.Prelude.{IfSome, slice_set}
use Rattle.std.specs.Option.{option_map_or}
use Rattle.pb_lanes.specs.ColumnsOf.{hosts_in}
use Rattle.pb_host.specs.declared.host.Counts.{Counts}
use Rattle.pb_recap.specs.Counting.{HasRoom, with_task}
use Rattle.pb_recap.specs.InColumns.{counts_of, rows_of}
use Rattle.pb_recap.proofs.InColumns.{has_all, no_row, row_at, rows_put}
use Rattle.pb_recap.proofs.counting.add_task.Goals as goal

pub add_to_host-requires-clause-room : goal.add_to_host-requires-clause-room
add_to_host-requires-clause-room c =
    let there = row_at c.args.counts.now c.args.host.0 (omega (arith, c.hosts.ensures.count, c.if-host-hosts.true)) in
    subst (λ found. IfSome found HasRoom) there (c.requires c.args.host.0)

pub returns-then-host-hosts : goal.returns-then-host-hosts
returns-then-host-hosts c =
    let inside : c.args.host.0 < hosts_in c.args.counts.now = omega (arith, c.hosts.ensures.count, c.if-host-hosts.true) in
    let there = row_at c.args.counts.now c.args.host.0 inside in
    let own = counts_of c.args.counts.now c.args.host.0 in
    ap rows_of c.add_to_host.ensures ∙ rows_put c.args.counts.now c.args.host.0 (with_task c.args.task own) (has_all c.args.counts.now c.args.host.0 c.hosts.ensures.columns inside)
    ∙ ap (λ found. option_map_or (λ (x : Counts). slice_set (rows_of c.args.counts.now) c.args.host.0 (with_task c.args.task x)) found (rows_of c.args.counts.now)) (sym there)

pub returns-else-host-hosts : goal.returns-else-host-hosts
returns-else-host-hosts c =
    let none = no_row c.args.counts.now c.args.host.0 (omega (arith, c.hosts.ensures.count, c.if-host-hosts.false)) in
    ap (λ found. option_map_or (λ (x : Counts). slice_set (rows_of c.args.counts.now) c.args.host.0 (with_task c.args.task x)) found (rows_of c.args.counts.now)) (sym none)
