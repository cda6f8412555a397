-- What is written in the nodes of a list.
use Rattle.std.specs.Prelude.{List, [], ◌∷◌, map}
use Rattle.pb_play.specs.Nodes.{Written, Nothing, Task, Block, Flush}
use Rattle.pb_play.specs.declared.node.Node.{Node}
use Rattle.pb_play.specs.declared.node.Node.TheOpen.{Node-F, Task as OneTask, Block as OneBlock, Flush as OneFlush}
use Rattle.pb_play.specs.declared.node.Node.TheFolds.{fold-Node}

-- nodes one behind another
abbrev pub joined : List (Written → Written) → Written
joined [] = Nothing
joined (f ∷ fs) = f (joined fs)

-- a node in front of what is behind it
abbrev pub node_step : Node-F (Written → Written) → Written → Written
node_step (OneTask t) rest = Task t rest
node_step (OneBlock keys body rescue always) rest = Block keys (joined body.items) (joined rescue.items) (joined always.items) rest
node_step OneFlush rest = Flush rest

abbrev pub node_of : Node → Written → Written
node_of = fold-Node (Written → Written) node_step

abbrev pub written_of : List Node → Written
written_of nodes = joined (map node_of nodes)
