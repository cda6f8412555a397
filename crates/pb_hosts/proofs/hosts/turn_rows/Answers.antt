use Rattle.std.proofs.Common.{◌∙◌, List, ap, arith, length, refl, rules, subst, sym, w32, Fits}
use Rattle.pb_host.specs.Host.{HostOf}
use Rattle.pb_hosts.specs.Applied.{LearnInTurn, learnt_in}
use Rattle.pb_hosts.specs.Due.{is_inside}
use Rattle.pb_hosts.proofs.Asked.{width_is}
use Rattle.pb_hosts.proofs.InTurn.{none_learnt}
use Rattle.pb_hosts.proofs.Making.{made_some, made_none}
use Rattle.pb_hosts.proofs.Turns.{turned_due}
use Rattle.pb_hosts.proofs.hosts.turn_rows.Goals as goal

pub turn_of-requires-clause-few : goal.turn_of-requires-clause-few
turn_of-requires-clause-few c =
    let width = c.width-hosts.ensures ∙ width_is is_inside c.rows.inside.rows.items c.rows.inside.batch c.rows.invariant.insiders ∙ sym (ap length c.as_slice.ensures.value) in
    let fits : Fits w32 c.width-hosts.result = search rules in
    omega (arith, width, fits)

pub returns-in_ok-came-in-Some-clause-rows : goal.returns-in_ok-came-in-Some-clause-rows
returns-in_ok-came-in-Some-clause-rows c =
    let made = made_some c.args.inventory.now c.args.play.now c.args.place c.as_slice.result.now c.rows.inside.rows.items c.args.rows.now c.in_ok-made.field-0 c.in-Some.made c.as_slice.ensures.value c.rows.view_is c.in-Some.is c.in_ok-made.ensures in
    c.in_ok-came-in-Some.ensures.rows ∙ made.0

pub returns-in_ok-came-in-Some-clause-halts : goal.returns-in_ok-came-in-Some-clause-halts
returns-in_ok-came-in-Some-clause-halts c =
    let made = made_some c.args.inventory.now c.args.play.now c.args.place c.as_slice.result.now c.rows.inside.rows.items c.args.rows.now c.in_ok-made.field-0 c.in-Some.made c.as_slice.ensures.value c.rows.view_is c.in-Some.is c.in_ok-made.ensures in
    c.in_ok-came-in-Some.ensures.halts ∙ made.1

pub returns-in-None-clause-rows : goal.returns-in-None-clause-rows
returns-in-None-clause-rows c =
    let made = made_none c.args.inventory.now c.args.play.now c.args.place c.as_slice.result.now c.rows.inside.rows.items c.args.rows.now c.in_ok-made.field-0 c.as_slice.ensures.value c.rows.view_is c.in-None.is c.in_ok-made.ensures in made.0

pub returns-in-None-clause-halts : goal.returns-in-None-clause-halts
returns-in-None-clause-halts c =
    let made = made_none c.args.inventory.now c.args.play.now c.args.place c.as_slice.result.now c.rows.inside.rows.items c.args.rows.now c.in_ok-made.field-0 c.as_slice.ensures.value c.rows.view_is c.in-None.is c.in_ok-made.ensures in
    c.nothing.ensures.halts ∙ made.1

pub returns-in_ok-came-in-Some-clause-learnt : goal.returns-in_ok-came-in-Some-clause-learnt
returns-in_ok-came-in-Some-clause-learnt c =
    subst (λ (rows : List HostOf). LearnInTurn c.in_ok-came-in-Some.came.learnt.items (learnt_in rows) (learnt_in c.turn_batch.new.rows.items)) c.rows.view_is c.in_ok-came-in-Some.ensures.learnt

pub returns-in-None-clause-learnt : goal.returns-in-None-clause-learnt
returns-in-None-clause-learnt c = none_learnt c.nothing.result.learnt.items (learnt_in c.args.rows.now) (learnt_in c.args.rows.now) c.nothing.ensures.learnt refl

-- who runs, and under which tickets, stays as it is as a batch goes on
pub invariant_of-rows-in-Some : goal.invariant_of-rows-in-Some
invariant_of-rows-in-Some c =
    turned_due c.in-Some.made.all.items c.in-Some.made.turning c.rows.inside.sends c.rows.inside.batch c.rows.inside.awaits_batch c.rows.inside.standings c.turn_batch.new.standings c.rows.inside.out.items c.rows.inside.rows.items c.turn_batch.new.rows.items
    c.rows.invariant c.in_ok-came-in-Some.ensures.rows c.in_ok-came-in-Some.ensures.stands
