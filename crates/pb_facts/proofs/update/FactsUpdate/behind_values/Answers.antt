use Rattle.pb_facts.proofs.Joined.{values_nothing, values_more, values_gathered}
use Rattle.pb_facts.proofs.update.FactsUpdate.behind_values.Goals as goal

pub returns-in-Nothing : goal.returns-in-Nothing
returns-in-Nothing c = λ facts. values_nothing c.args.self c.args.first.items facts c.in-Nothing.is

pub returns-in_ok-more-in-More : goal.returns-in_ok-more-in-More
returns-in_ok-more-in-More c =
    λ facts. values_more c.args.self c.in-More.entries c.args.first.items c.in_ok-more-in-More.more.items facts c.in-More.is c.in_ok-more-in-More.ensures

pub returns-in_ok-more-in-Gathered : goal.returns-in_ok-more-in-Gathered
returns-in_ok-more-in-Gathered c =
    λ facts. values_gathered c.args.self c.in-Gathered.more c.in-Gathered.facts c.args.first.items c.in_ok-more-in-Gathered.more.items facts c.in-Gathered.is c.in_ok-more-in-Gathered.ensures
