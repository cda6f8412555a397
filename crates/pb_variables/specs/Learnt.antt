-- What the hosts of a list have learnt, behind references.
use Rattle.std.specs.Prelude.{List, map}
use Rattle.std.specs.Borrow.{Bor}
use Rattle.pb_facts.specs.Facts.{FactsOf}

abbrev pub facts_in : List (Bor FactsOf) → List FactsOf
facts_in = map (λ f. f.now)
