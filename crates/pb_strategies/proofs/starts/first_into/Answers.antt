use Rattle.std.proofs.Common.{◌∙◌, ap, not, length, replicate, slice_set, false}
use Rattle.pb_strategies.proofs.Turning.{first_is, none_is}
use Rattle.pb_strategies.proofs.starts.first_into.Goals as goal

pub returns-in-Some : goal.returns-in-Some
returns-in-Some c =
    let set = c.next_into.new.set in
    let first = c.in-Some.first.0 in
    first_is c.args.hosts.now c.args.place first set c.one_into.new.set c.next_into.ensures c.in-Some.ensures.some (c.one_into.ensures ∙ ap (λ b. slice_set (replicate (length set) false) first (not b)) c.is_running.ensures)

pub returns-in_default : goal.returns-in_default
returns-in_default c = none_is c.args.hosts.now c.args.place c.next_into.new.set c.next_into.ensures c.in_default.ensures.none
