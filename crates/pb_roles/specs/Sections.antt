-- What stands in a play, with its roles, in the order in which it runs (Ansible's documentation, "Roles", Using roles at the play level, and "Handlers:
-- running operations on change").
use Rattle.std.specs.Prelude.{Bool, List, [], ◌∷◌, ◌++◌, map}
use Rattle.pb_play.specs.Nodes.{Written}
use Rattle.pb_play_reading.specs.declared.play.Play.{Play}
use Rattle.pb_handlers.specs.Naming.{counting, kept}
use Rattle.pb_handlers.specs.declared.naming.HandlerNames.{HandlerNames}
use Rattle.pb_roles.specs.Expansion.{handlers_in}
use Rattle.pb_roles.specs.Origins.{from_play}
use Rattle.pb_roles.specs.declared.collected.HandlerIn.{HandlerIn}
use Rattle.pb_roles.specs.declared.collected.Expansion.{Expansion}
use Rattle.pb_roles.specs.declared.collected.Section.{Section}
use Rattle.pb_roles.specs.declared.sections.Own.{Own}
use Rattle.pb_roles.specs.declared.sections.PlayKeys.{PlayKeys}
use Rattle.pb_roles.specs.declared.sections.Sections.{Sections}

-- nodes that stand in the play itself
abbrev pub own : Written → Section
own nodes = record { origin = from_play; nodes = nodes }

-- what a handler is notified by
abbrev pub names_of : HandlerIn → HandlerNames
names_of handler = record { name = handler.handler.task.name; listens = handler.handler.listens }

-- of handlers with one name the last counts, at its own position
abbrev pub counted : List HandlerIn → List HandlerIn
counted handlers = kept (counting (map names_of handlers)) handlers

-- what stands in the play itself
abbrev pub own_of : Play → Own
own_of play = record { pre = play.pre_tasks; tasks = play.tasks; post = play.post_tasks; handlers = play.handlers }

-- the same with what its roles brought, in a play that hands this down
abbrev pub with_roles : Expansion → PlayKeys → Bool → Own → Sections
with_roles met keys force_handlers o =
    record {
      keys = keys;
      pre = own o.pre ∷ [];
      tasks = met.sections ++ own o.tasks ∷ [];
      post = own o.post ∷ [];
      handlers = counted (met.handlers ++ handlers_in from_play o.handlers);
      force_handlers = force_handlers;
    }

-- the roles stand between the play's pre_tasks and its own tasks, and their handlers in front of its own
abbrev pub sections_of : Play → Expansion → Sections
sections_of play met =
    record {
      keys = record { any_errors_fatal = play.any_errors_fatal; ignore_errors = play.ignore_errors };
      pre = own play.pre_tasks ∷ [];
      tasks = met.sections ++ own play.tasks ∷ [];
      post = own play.post_tasks ∷ [];
      handlers = counted (met.handlers ++ handlers_in from_play play.handlers);
      force_handlers = play.force_handlers;
    }
