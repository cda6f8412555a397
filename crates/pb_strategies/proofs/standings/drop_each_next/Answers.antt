use Rattle.std.proofs.Common.{◌<◌, ◌∙◌, ℕ, Some, length, get_or, slice_set, not, ap, sym, subst, arith}
use Rattle.std.proofs.lemmas.Option.{slice_get-get_or}
use Rattle.pb_strategies.specs.Hosts.{nowhere, is_next_at}
use Rattle.pb_strategies.proofs.Members.{member_below}
use Rattle.pb_strategies.proofs.Closing.{IsAsked, asked_first, asked_step, asked_all}
use Rattle.pb_strategies.proofs.standings.drop_each_next.Goals as goal

pub loop-host-init : goal.loop-host-init
loop-host-init c = asked_first (is_next_at (Some c.args.place)) c.args.set.now c.args.hosts.now

pub loop-host-preserved : goal.loop-host-preserved
loop-host-preserved c =
    let hosts = c.args.hosts.now in
    let set = c.loop-host.set in
    let h = c.in-Some.host.0 in
    let test = is_next_at (Some c.args.place) in
    let next = c.in-Some.ensures.some in
    let below = member_below set h next.1 in
    let width = c.loop-host.invariant.width in
    let there : h < length hosts = omega (arith, below, width, c.requires) in
    subst (λ (n : ℕ). IsAsked test c.args.set.now c.put.new.self hosts n) (sym c.behind-from.ensures)
    (asked_step test c.args.set.now set c.put.new.self hosts c.loop-host.from h (get_or hosts h nowhere) c.requires c.loop-host.invariant next (slice_get-get_or hosts h nowhere there)
    (c.put.ensures ∙ ap (λ b. slice_set set h (not b)) c.same_place-is_next.ensures))

pub loop-host-smaller : goal.loop-host-smaller
loop-host-smaller c =
    let set = c.loop-host.set in
    let h = c.in-Some.host.0 in
    let next = c.in-Some.ensures.some in
    let below = member_below set h next.1 in
    let width = c.loop-host.invariant.width in
    let there : h < length c.args.hosts.now = omega (arith, below, width, c.requires) in
    omega (arith, there, next.0, c.behind-from.ensures)

pub returns : goal.returns
returns c = asked_all (is_next_at (Some c.args.place)) c.args.set.now c.loop-host.set c.args.hosts.now c.loop-host.from c.requires c.loop-host.invariant c.in_default.ensures.none
