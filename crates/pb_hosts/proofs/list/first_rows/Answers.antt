use Rattle.std.proofs.Common.{List, [], ◌∷◌, ◌++◌, ◌∙◌, ap, sym}
use Rattle.pb_host.specs.Host.{HostOf, first_rows}
use Rattle.pb_hosts.proofs.FirstRows.{first_more}
use Rattle.pb_hosts.proofs.list.first_rows.Goals as goal

pub loop-host-preserved : goal.loop-host-preserved
loop-host-preserved c =
    c.in_ok-push.ensures.items
    ∙ ap (λ (rows : List HostOf). rows ++ c.new.result ∷ []) c.loop-host.invariant
    ∙ ap (λ (row : HostOf). first_rows 0 c.loop-host.host ++ row ∷ []) c.new.ensures
    ∙ sym (first_more c.loop-host.host)
