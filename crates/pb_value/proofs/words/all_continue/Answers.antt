use Rattle.std.proofs.Common.{rules, tests}
use Rattle.std.proofs.lemmas.Iterator.{YieldsList-from_slice}
use Rattle.std.proofs.lemmas.Iterator.Search.{all_from_yields_List}
use Rattle.pb_value.specs.Words.{continues_name}
use Rattle.pb_value.proofs.words.all_continue.Goals as goal

pub returns : goal.returns
returns c = all_from_yields_List continues_name _ _ _ c.all.ensures.ran (YieldsList-from_slice c.args.bytes.now cc) (λ x b q k. search (rules, tests))
