-- Gathering: the task with which a play begins where its facts aren't switched off.
-- See Ansible's documentation, "Playbook Keywords", gather_facts, and "Discovering variables: facts and magic variables".
use Rattle.std.specs.Prelude.{Bool, true, false, [], codes}
use Rattle.pb_play.specs.Nodes.{Written, Task}
use Rattle.pb_play.specs.Tasks.{plain_task}
use Rattle.pb_play.specs.declared.modules.Module.TheVariants.{Setup}
use Rattle.pb_play.specs.declared.task.Task as declared

-- the task that gathers the facts of a host
abbrev pub gathering_task : declared.Task
gathering_task = plain_task (codes "Gathering Facts") [] Setup

-- the first nodes of a play
abbrev pub begun : (gathers : Bool) → Written → Written
begun true nodes = Task gathering_task nodes
begun false nodes = nodes
