use Rattle.std.proofs.Common.{ap, sym, ◌∙◌}
use Rattle.std.specs.Prelude.{Ok}
use Rattle.pb_inventory.proofs.Whole.{whole_ok, whole_cycle, some_within, own_within, links_within}
use Rattle.pb_inventory.proofs.graph.linked.Goals as goal

pub new-requires-clause-some_group : goal.new-requires-clause-some_group
new-requires-clause-some_group c = some_within c.args.listed.now c.args.names.now c.len-2.result c.requires.names c.len-2.ensures

pub new-requires-clause-own : goal.new-requires-clause-own
new-requires-clause-own c =
    own_within c.args.listed.now c.args.names.now c.args.hosts.now c.in_ok-kept.kept.items c.len-2.result c.len.result (c.in_ok-kept.ensures.items ∙ c.requires.own) c.len-2.ensures c.len.ensures

pub new-requires-clause-links : goal.new-requires-clause-links
new-requires-clause-links c = links_within c.args.listed.now c.args.names.now c.in_ok-links.links.items c.len-2.result c.in_ok-links.ensures c.len-2.ensures

pub returns-in-Ok-clause-graph : goal.returns-in-Ok-clause-graph
returns-in-Ok-clause-graph c =
    whole_ok c.args.listed.now c.args.names.now c.args.hosts.now c.args.own.now c.in_ok-links.links.items c.len-2.result c.requires.names c.requires.hosts c.requires.own c.in_ok-links.ensures c.len-2.ensures
    c.requires.few_groups c.requires.few_hosts c.in-Ok.ensures.not_endless
    ∙ ap (λ l. Ok (record { hosts = c.args.hosts.now; groups = c.args.names.now; own = c.args.own.now; links = l })) (sym (ap (λ g. g.links) c.in-Ok.ensures.value))

pub returns-in-Err-Cycle-clause-fault : goal.returns-in-Err-Cycle-clause-fault
returns-in-Err-Cycle-clause-fault c =
    λ _. whole_cycle c.args.listed.now c.args.names.now c.args.hosts.now c.in_ok-links.links.items c.len-2.result c.requires.names c.requires.hosts c.in_ok-links.ensures c.len-2.ensures
    c.requires.few_groups c.requires.few_hosts (rw c.in-Err-Cycle.field-0-is at c.in-Err-Cycle.ensures.fault).1
