use Rattle.std.proofs.lemmas.Result.{on_ok_weaker}
use Rattle.pb_variables.proofs.Between.{nothing_follows, stood_follows, gathered_follows}
use Rattle.pb_variables.proofs.hostvars.put_learnt.Goals as goal

pub returns-in-Nothing : goal.returns-in-Nothing
returns-in-Nothing c = nothing_follows c.args.extra.now c.args.learner.now.facts.now c.args.learner.now.past.now c.args.variables.now c.in-Nothing.is

pub returns-in-Stood : goal.returns-in-Stood
returns-in-Stood c =
    on_ok_weaker
    c.put_names.result
    (stood_follows c.args.extra.now _ c.args.learner.now.facts.now c.args.learner.now.past.now c.in-Stood.log c.as_slice.result.now c.args.variables.now c.put_names.new.variables c.in-Stood.is c.as_slice.ensures.value c.set_layer-set.ensures)
    c.put_names.ensures

pub returns-in_ok-put_facts-in-Gathered : goal.returns-in_ok-put_facts-in-Gathered
returns-in_ok-put_facts-in-Gathered c =
    on_ok_weaker
    c.put_fact.result
    (gathered_follows c.args.extra.now _ c.args.learner.now.facts.now c.args.learner.now.past.now c.in-Gathered.stood c.in-Gathered.facts c.in-Gathered.layer c.as_slice-in-Gathered.result.now c.as_slice-in-Gathered-2.result.now
    c.args.variables.now c.put_names-in-Gathered.new.variables c.put_facts.new.variables c.put_fact.new.variables c.in-Gathered.is c.as_slice-in-Gathered.ensures.value c.as_slice-in-Gathered-2.ensures.value c.set_layer-set.ensures
    c.in_ok-put_names-in-Gathered.ensures c.in_ok-put_facts-in-Gathered.ensures)
    c.put_fact.ensures
