use Rattle.pb_patterns.proofs.Meant.{term_is, built_own, regex_is}
use Rattle.pb_patterns.proofs.meaning.Meaning.set.Goals as goal

pub returns-in-Some-clause-set : goal.returns-in-Some-clause-set
returns-in-Some-clause-set c =
    term_is c.args.inventory.now c.args.self.now c.self.inside.what c.as_str.result.now c.in-Term.term c.in-Term.subscript c.in-Some.subscript c.subscripted.result c.self.view_is c.in-Term.is c.in-Some.is
    c.as_str.ensures c.subscripted.ensures.set

pub returns-in-Some-regex-clause-set : goal.returns-in-Some-regex-clause-set
returns-in-Some-regex-clause-set c =
    regex_is c.args.inventory.now c.args.self.now c.self.inside.what c.in-Regex.source c.self.inside.regex c.in-Some-regex.regex c.matched.result c.self.view_is c.in-Regex.is c.in-Some-regex.is
    c.self.invariant c.matched.ensures.set

pub matched-requires : goal.matched-requires
matched-requires c = built_own c.self.inside.what c.in-Regex.source c.self.inside.regex c.in-Some-regex.regex c.in-Regex.is c.in-Some-regex.is c.self.invariant
