use Rattle.pb_facts.proofs.Joined.{facts_nothing, facts_more, facts_gathered}
use Rattle.pb_facts.proofs.update.FactsUpdate.behind_facts.Goals as goal

pub returns-in-Nothing : goal.returns-in-Nothing
returns-in-Nothing c = λ known. facts_nothing c.args.self c.args.first.items c.args.given.items known c.in-Nothing.is

pub returns-in_ok-more-in-More : goal.returns-in_ok-more-in-More
returns-in_ok-more-in-More c =
    λ known. facts_more c.args.self c.in-More.entries c.args.first.items c.args.given.items c.in_ok-more-in-More.more.items known c.in-More.is c.in_ok-more-in-More.ensures

pub returns-in_ok-facts-in-Gathered : goal.returns-in_ok-facts-in-Gathered
returns-in_ok-facts-in-Gathered c =
    λ known. facts_gathered c.args.self c.in-Gathered.more c.in-Gathered.facts c.args.first.items c.args.given.items c.in_ok-more-in-Gathered.more.items c.in_ok-facts-in-Gathered.facts.items known
    c.in-Gathered.is c.in_ok-more-in-Gathered.ensures c.in_ok-facts-in-Gathered.ensures
