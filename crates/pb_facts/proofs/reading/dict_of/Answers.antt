use Rattle.std.proofs.Common.{Some, ap, sym}
use Rattle.pb_value.proofs.Lists.{entries_of-members_of}
use Rattle.pb_facts.proofs.reading.dict_of.Goals as goal

pub returns-in-Dict : goal.returns-in-Dict
returns-in-Dict c = rw (← c.value.view_is, c.in-Dict.is) (ap Some (sym (entries_of-members_of c.in-Dict.members)))
