use Rattle.std.proofs.Common.{ap, ◌∙◌}
use Rattle.pb_patterns.specs.Sets.{starts}
use Rattle.pb_patterns.proofs.Read.{begins_read}
use Rattle.pb_patterns.proofs.hits.begins.Goals as goal

pub returns-clause-read : goal.returns-clause-read
returns-clause-read c =
    λ r of same. c.starts.ensures.value ∙ ap (λ p. starts p c.args.name.now) same ∙ begins_read r of c.args.name.now (λ k. (c.type_inv.name k).fits)
