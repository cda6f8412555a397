use Rattle.std.proofs.Common.{map, refl, ap, ◌∙◌, arith}
use Rattle.std.proofs.lemmas.List.{take_all}
use Rattle.regex.specs.Strings.{regex_source}
use Rattle.pb_patterns.specs.Sets.{begins_as}
use Rattle.pb_patterns.proofs.SetLaws.{push_hit}
use Rattle.pb_patterns.proofs.hits.groups_that_match.Goals as goal

pub loop-group-preserved : goal.loop-group-preserved
loop-group-preserved c = (
  push_hit (begins_as (regex_source c.args.regex.now)) c.args.inventory.now.groups c.loop-group.group _ c.group_name.result.now c.loop-group.hits.items c.push.new.self.items c.begins.result refl c.group_name.ensures
      c.loop-group.invariant.0 c.in_ok-push.ensures.items (c.begins.ensures.read c.args.regex.now c.requires c.loop-group.invariant.1),
  c.begins.ensures.same ∙ c.loop-group.invariant.1,
)

pub loop-group-init : goal.loop-group-init
loop-group-init c = (c.new-hits.ensures.items, c.in_ok-matcher.ensures.pattern)

pub returns : goal.returns
returns c =
    c.loop-group.invariant.0
    ∙ ap (map (begins_as (regex_source c.args.regex.now))) (take_all c.loop-group.group c.args.inventory.now.groups (omega (arith, c.loop-group-test.false, c.groups-group-end.ensures.count)))
