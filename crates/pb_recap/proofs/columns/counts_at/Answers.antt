use Rattle.std.proofs.Common.{arith, ap, sym, ◌∙◌}
use Rattle.std.specs.Prelude.{Some}
use Rattle.pb_recap.proofs.InColumns.{no_row, row_at}
use Rattle.pb_recap.proofs.columns.counts_at.Goals as goal

pub returns-then-host-hosts : goal.returns-then-host-hosts
returns-then-host-hosts c =
    let inside = row_at c.args.columns.now c.args.host.0 (omega (arith, c.hosts.ensures.count, c.if-host-hosts.true)) in
    ap Some c.counts_of.ensures ∙ sym inside

pub returns-else-host-hosts : goal.returns-else-host-hosts
returns-else-host-hosts c = sym (no_row c.args.columns.now c.args.host.0 (omega (arith, c.hosts.ensures.count, c.if-host-hosts.false)))
