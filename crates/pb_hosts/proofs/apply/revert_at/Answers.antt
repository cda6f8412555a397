use Rattle.std.proofs.Common.{length, refl}
use Rattle.std.proofs.lemmas.Option.{slice_get_read}
use Rattle.pb_hosts.proofs.Applying.{back_some}
use Rattle.pb_hosts.proofs.apply.revert_at.Goals as goal

pub returns-in-Some : goal.returns-in-Some
returns-in-Some c =
    back_some c.args.rows.now.items _ c.args.host.0 c.in-Some.row.now c.revert.new.self c.args.past
    (slice_get_read c.args.rows.now.items (length c.args.rows.now.items) c.args.host.0 c.in-Some.row.now refl c.in-Some.ensures.item.3.0 c.in-Some.ensures.item.1)
    refl c.revert.ensures
