use Rattle.std.proofs.Common.{◌∙◌, ℕ, false, length, map, replicate, ap, subst, sym}
use Rattle.pb_strategies.specs.Hosts.{nowhere}
use Rattle.pb_host.specs.Runs.{has_send}
use Rattle.pb_hosts.specs.Due.{is_inside, AreOutside}
use Rattle.pb_hosts.proofs.Asked.{width_is}
use Rattle.pb_hosts.proofs.Joined.{length-joined_by, joined_quiet}
use Rattle.pb_hosts.proofs.Outside.{out_joined}
use Rattle.pb_hosts.proofs.hosts.open_batch.Goals as goal

pub empty_by-requires : goal.empty_by-requires
empty_by-requires c =
    c.requires.sends
    ∙ sym (width_is is_inside c.join_waiting.new.rows.items c.join_waiting.new.batch c.join_waiting.ensures.batch ∙ ap length c.join_waiting.ensures.rows ∙ length-joined_by c.args.walks.items c.args.rows.now.items)

pub stand_inside-requires-clause-outsiders : goal.stand_inside-requires-clause-outsiders
stand_inside-requires-clause-outsiders c = subst AreOutside (sym (c.as_slice.ensures.value ∙ c.join_waiting.ensures.rows)) (out_joined c.args.walks.items c.args.rows.now.items)

pub stand_inside-requires-clause-nowhere : goal.stand_inside-requires-clause-nowhere
stand_inside-requires-clause-nowhere c =
    c.requires.stands ∙ ap (λ (n : ℕ). replicate n nowhere) (sym (ap length (c.as_slice.ensures.value ∙ c.join_waiting.ensures.rows) ∙ length-joined_by c.args.walks.items c.args.rows.now.items))

pub returns-clause-sends : goal.returns-clause-sends
returns-clause-sends c =
    c.empty_by.ensures ∙ ap (λ (n : ℕ). replicate n false) c.requires.sends ∙ sym (ap (map has_send) c.join_waiting.ensures.rows ∙ joined_quiet c.args.walks.items c.args.rows.now.items)
