use Rattle.std.proofs.Common.{map}
use Rattle.pb_host.specs.Host.{HostOf}
use Rattle.pb_recap.proofs.InColumns.{IsCopied}
use Rattle.pb_recap.proofs.columns.columns_of.Given as goal

abbrev pub invariant-loop-host : goal.invariant-loop-host
invariant-loop-host l = IsCopied l.columns (map (λ (row : HostOf). row.counts) l.state.rows) l.host
