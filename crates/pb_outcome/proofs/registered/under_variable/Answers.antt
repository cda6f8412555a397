use Rattle.std.proofs.Common.{arith}
use Rattle.pb_value.proofs.Lists.{entries_of-members_of}
use Rattle.pb_outcome.proofs.registered.under_variable.Goals as goal

pub returns-in_ok-put-in-Some-Dict : goal.returns-in_ok-put-in-Some-Dict
returns-in_ok-put-in-Some-Dict c = grind (arith, entries_of-members_of)
