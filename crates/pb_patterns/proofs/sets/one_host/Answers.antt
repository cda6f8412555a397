use Rattle.std.proofs.Common.{ap, ◌∙◌, length, set, replicate, true, false}
use Rattle.std.specs.Prelude.{position}
use Rattle.std.specs.Str.{bytes_eq}
use Rattle.pb_patterns.proofs.SetLaws.{one_is, none_is, place_below}
use Rattle.pb_patterns.proofs.sets.one_host.Goals as goal

pub returns-in-Some-clause-set : goal.returns-in-Some-clause-set
returns-in-Some-clause-set c =
    one_is (length c.args.inventory.now.hosts) c.in-Some.host.0 (position (bytes_eq c.args.name.now) c.args.inventory.now.hosts) c.insert.new.self c.in-Some.ensures
    (place_below (bytes_eq c.args.name.now) c.args.inventory.now.hosts c.in-Some.host.0 c.in-Some.ensures)
    (c.insert.ensures ∙ ap (λ s. set s c.in-Some.host.0 true) (c.in_ok-set.ensures ∙ ap (λ n. replicate n false) c.hosts.ensures.count))

pub returns-in-None-clause-set : goal.returns-in-None-clause-set
returns-in-None-clause-set c =
    none_is (length c.args.inventory.now.hosts) (position (bytes_eq c.args.name.now) c.args.inventory.now.hosts) c.in_ok-set.set c.in-None.ensures
    (c.in_ok-set.ensures ∙ ap (λ n. replicate n false) c.hosts.ensures.count)
