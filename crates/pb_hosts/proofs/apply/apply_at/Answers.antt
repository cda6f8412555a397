use Rattle.std.proofs.Common.{length, refl}
use Rattle.std.proofs.lemmas.Option.{slice_get_read, slice_get_past}
use Rattle.pb_hosts.proofs.Applying.{applied_some, applied_none}
use Rattle.pb_hosts.proofs.apply.apply_at.Goals as goal

pub returns-in_ok-past-in-Some-clause-past : goal.returns-in_ok-past-in-Some-clause-past
returns-in_ok-past-in-Some-clause-past c =
    applied_some c.args.update c.args.rows.now.items _ c.args.host.0 c.in-Some.row.now c.apply.new.self c.in_ok-past-in-Some.past
    (slice_get_read c.args.rows.now.items (length c.args.rows.now.items) c.args.host.0 c.in-Some.row.now refl c.in-Some.ensures.item.3.0 c.in-Some.ensures.item.1)
    refl c.in_ok-past-in-Some.ensures.ok c.in_ok-past-in-Some.ensures.past c.in_ok-past-in-Some.ensures.between

pub returns-in-None-clause-past : goal.returns-in-None-clause-past
returns-in-None-clause-past c = applied_none c.args.rows.now.items c.args.rows.now.items c.args.host.0 (slice_get_past c.args.rows.now.items c.args.host.0 c.in-None.ensures.item.3) refl
