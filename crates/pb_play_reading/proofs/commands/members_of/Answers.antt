use Rattle.std.proofs.Common.{Ok, ap}
use Rattle.pb_play_reading.proofs.Lists.{list_of-items_of}
use Rattle.pb_play_reading.proofs.commands.members_of.Goals as goal

pub returns-in-List : goal.returns-in-List
returns-in-List c = rw (← c.into_node.ensures, c.in-List.is) (ap Ok (list_of-items_of c.in-List.words))
