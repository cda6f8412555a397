use Rattle.std.proofs.Common.{map, refl, ap, ◌∙◌, arith}
use Rattle.std.proofs.lemmas.List.{take_all}
use Rattle.regex.specs.Strings.{regex_source}
use Rattle.pb_patterns.specs.Sets.{begins_as}
use Rattle.pb_patterns.proofs.SetLaws.{push_hit}
use Rattle.pb_patterns.proofs.hits.hosts_that_match.Goals as goal

pub loop-host-preserved : goal.loop-host-preserved
loop-host-preserved c = (
  push_hit (begins_as (regex_source c.args.regex.now)) c.args.inventory.now.hosts c.loop-host.host _ c.name.result.now c.loop-host.hits.items c.push.new.self.items c.begins.result refl c.name.ensures
      c.loop-host.invariant.0 c.in_ok-push.ensures.items (c.begins.ensures.read c.args.regex.now c.requires c.loop-host.invariant.1),
  c.begins.ensures.same ∙ c.loop-host.invariant.1,
)

pub loop-host-init : goal.loop-host-init
loop-host-init c = (c.new-hits.ensures.items, c.in_ok-matcher.ensures.pattern)

pub returns : goal.returns
returns c =
    c.loop-host.invariant.0
    ∙ ap (map (begins_as (regex_source c.args.regex.now))) (take_all c.loop-host.host c.args.inventory.now.hosts (omega (arith, c.loop-host-test.false, c.hosts-host-end.ensures.count)))
