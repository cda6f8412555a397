-- What is written in a list of nodes: tasks, blocks with their keys, and places at which handlers run.
-- See Ansible's documentation, "Blocks" and "Handlers: running operations on change".
use Rattle.pb_play.specs.declared.node.BlockKeys.{BlockKeys}
use Rattle.pb_play.specs.declared.task.Task as declared

-- a list of nodes, from its front: a block has a body, a rescue part and an always part
pub data Written : Type 0 where
  Nothing : Written
  Task : declared.Task → Written → Written
  Block : BlockKeys → Written → Written → Written → Written → Written
  Flush : Written → Written

-- nodes with others behind them
abbrev pub followed : Written → Written → Written
followed Nothing rest = rest
followed (Task t more) rest = Task t (followed more rest)
followed (Block keys body rescue always more) rest = Block keys body rescue always (followed more rest)
followed (Flush more) rest = Flush (followed more rest)
