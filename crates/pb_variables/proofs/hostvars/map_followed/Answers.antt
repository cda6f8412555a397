use Rattle.std.proofs.Common.{◌≡◌, [], length, ap, sym, ◌∙◌, arith}
use Rattle.std.proofs.lemmas.Option.{get_or_from_slice_get}
use Rattle.pb_value.specs.Datum.{Datum, put}
use Rattle.pb_variables.specs.Magic.{hosts_magic}
use Rattle.pb_variables.proofs.Between.{map_follows, map_has}
use Rattle.pb_variables.proofs.hostvars.map_followed.Goals as goal

pub returns-then-len-hosts-clause-none : goal.returns-then-len-hosts-clause-none
returns-then-len-hosts-clause-none c = λ none before old long. omega (arith, c.len.ensures, c.if-len-hosts.true, c.hosts.ensures.count)

pub returns-in_ok-hosts-in-Some-clause-value : goal.returns-in_ok-hosts-in-Some-clause-value
returns-in_ok-hosts-in-Some-clause-value c =
    let long : length c.args.known ≡ length c.args.inventory.now.hosts = omega (arith, c.len.ensures, c.if-len-hosts.false, c.hosts.ensures.count) in
    map_follows c.args.inventory.now c.args.extra.now c.args.learner.now.past.now c.args.learner.now.facts.now c.args.learner.now.host.0 c.name-name.result.now c.args.known c.taken.new.known c.in-Some.stored c.put_learnt.new.variables
    c.put.new.self _ c.requires long (sym (get_or_from_slice_get c.args.inventory.now.hosts c.args.learner.now.host.0 c.name-name.result.now [] c.name-name.ensures)) c.in_ok-stored.ensures.found c.in-Some.is c.in_ok-stored.ensures.left
    c.in_ok-put_learnt-in-Some.ensures (c.in_ok-put-in-Some.ensures.ok ∙ ap (λ (d : Datum). put c.name-name.result.now d c.taken.new.known) c.dict.ensures)
    c.in_ok-hosts-in-Some.hosts (c.in_ok-hosts-in-Some.ensures ∙ ap hosts_magic c.dict-in-Some.ensures)

pub returns-in-None-clause-none : goal.returns-in-None-clause-none
returns-in-None-clause-none c =
    let long : length c.args.known ≡ length c.args.inventory.now.hosts = omega (arith, c.len.ensures, c.if-len-hosts.false, c.hosts.ensures.count) in
    λ none before old twice. map_has c.args.inventory.now c.args.extra.now c.args.learner.now.host.0 c.name-name.result.now c.args.known _ c.requires long
    (sym (get_or_from_slice_get c.args.inventory.now.hosts c.args.learner.now.host.0 c.name-name.result.now [] c.name-name.ensures)) c.in_ok-stored.ensures.found c.in-None.is before old
