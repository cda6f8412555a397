-- Which of the keys that linear plays alone heed are written in a play and in its roles, whatever their values: on the play itself, on its blocks and tasks, and on
-- handlers, also on one that doesn't count (Ansible's documentation, "Controlling playbook execution: strategies and more").
use Rattle.std.specs.Prelude.{Bool, false, ◌||◌, is_some}
use Rattle.std.specs.List.{list_any}
use Rattle.pb_play.specs.Nodes.{Written, Nothing, Task, Block, Flush}
use Rattle.pb_play.specs.declared.couplings.Couplings.{Couplings}
use Rattle.pb_play_reading.specs.declared.handlers.Handler.{Handler}
use Rattle.pb_play_reading.specs.declared.play.Play.{Play}
use Rattle.pb_roles.specs.declared.linear_keys.CoupledKey.{CoupledKey}
use Rattle.pb_roles.specs.declared.linear_keys.CoupledKey.TheVariants.{AnyErrorsFatal, RunOnce}
use Rattle.pb_roles.specs.declared.collected.HandlerIn.{HandlerIn}
use Rattle.pb_roles.specs.declared.collected.Expansion.{Expansion}
use Rattle.pb_roles.specs.declared.collected.Section.{Section}
use Rattle.pb_roles.specs.declared.sections.LinearKeys.{LinearKeys}

-- whether a task or a block has the key
abbrev pub has_key : CoupledKey → Couplings → Bool
has_key AnyErrorsFatal couplings = is_some couplings.any_errors_fatal
has_key RunOnce couplings = is_some couplings.run_once

-- whether it stands in these nodes, on a task or a block
abbrev pub stands_in : CoupledKey → Written → Bool
stands_in key Nothing = false
stands_in key (Task task rest) = has_key key task.couplings || stands_in key rest
stands_in key (Block block body rescue always rest) =
    has_key key block.couplings || (stands_in key body || (stands_in key rescue || (stands_in key always || stands_in key rest)))
stands_in key (Flush rest) = stands_in key rest

abbrev pub section_has : CoupledKey → Section → Bool
section_has key section = stands_in key section.nodes

abbrev pub handler_has : CoupledKey → Handler → Bool
handler_has key handler = has_key key handler.task.couplings

abbrev pub role_handler_has : CoupledKey → HandlerIn → Bool
role_handler_has key it = handler_has key it.handler

-- whether it stands in what is written in a play, and in what its roles bring
abbrev pub stands_in_play : CoupledKey → Play → Bool
stands_in_play key play =
    stands_in key play.pre_tasks || (stands_in key play.tasks || (stands_in key play.post_tasks || list_any (handler_has key) play.handlers))

abbrev pub stands_in_roles : CoupledKey → Expansion → Bool
stands_in_roles key met = list_any (section_has key) met.sections || list_any (role_handler_has key) met.handlers

-- those of a play whose roles brought this
abbrev pub linear_keys_of : Play → Expansion → LinearKeys
linear_keys_of play met =
    record {
      any_errors_fatal = is_some play.any_errors_fatal || (stands_in_play AnyErrorsFatal play || stands_in_roles AnyErrorsFatal met);
      max_fail_percentage = is_some play.max_fail_percentage;
      run_once = stands_in_play RunOnce play || stands_in_roles RunOnce met;
    }
