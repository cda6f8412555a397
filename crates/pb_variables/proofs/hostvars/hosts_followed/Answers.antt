use Rattle.std.proofs.Common.{arith}
use Rattle.std.proofs.lemmas.Result.{IfOk-weaker}
use Rattle.pb_variables.proofs.Renewing.{found_none}
use Rattle.pb_variables.proofs.Between.{no_host_between, kept_between, twice_between}
use Rattle.pb_variables.proofs.hostvars.hosts_followed.Goals as goal

pub returns-then-learner-hosts-clause-value : goal.returns-then-learner-hosts-clause-value
returns-then-learner-hosts-clause-value c =
    no_host_between c.args.inventory.now c.args.extra.now c.args.learner.now.past.now c.args.learner.now.facts.now c.args.learner.now.host.0 c.args.hosts (omega (arith, c.if-learner-hosts.true, c.hosts.ensures.count))

pub returns-in-Some-clause-value : goal.returns-in-Some-clause-value
returns-in-Some-clause-value c =
    IfOk-weaker c.map_followed.result _ _
    (λ kept anew. kept_between c.args.inventory.now c.args.extra.now c.args.learner.now.past.now c.args.learner.now.facts.now c.args.learner.now.host.0 c.args.hosts c.in-Some.known _ c.in_ok-known.ensures c.in-Some.is kept anew)
    c.map_followed.ensures.value

pub returns-in-Some-clause-none : goal.returns-in-Some-clause-none
returns-in-Some-clause-none c =
    IfOk-weaker c.map_followed.result _ _
    (λ kept twice none. twice_between c.args.inventory.now c.args.extra.now c.args.hosts c.in-Some.known _ c.in_ok-known.ensures c.in-Some.is (twice none))
    c.map_followed.ensures.none

pub returns-in-None-clause-none : goal.returns-in-None-clause-none
returns-in-None-clause-none c = λ none. found_none c.args.inventory.now c.args.extra.now c.args.hosts _ c.in_ok-known.ensures c.in-None.is
