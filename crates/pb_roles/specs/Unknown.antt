-- The first name or topic that a play notifies and that none of its handlers has: of tasks in the order of their places, and then of the handlers.
use Rattle.std.specs.Prelude.{ℕ, List, [], ◌∷◌, map, Option, None}
use Rattle.pb_layers.specs.Scope.{or_else}
use Rattle.pb_play.specs.Nodes.{Written, Nothing, Task, Block, Flush}
use Rattle.pb_handlers.specs.Naming.{first_unknown}
use Rattle.pb_handlers.specs.declared.naming.HandlerNames.{HandlerNames}
use Rattle.pb_roles.specs.Sections.{names_of}
use Rattle.pb_roles.specs.declared.collected.HandlerIn.{HandlerIn}
use Rattle.pb_roles.specs.declared.collected.Section.{Section}
use Rattle.pb_roles.specs.declared.sections.Sections.{Sections}

-- the first unknown one that these nodes notify; none where each name and topic is that of a handler
abbrev pub unknown_in : List HandlerNames → Written → Option (List ℕ)
unknown_in names Nothing = None
unknown_in names (Task task rest) = or_else (first_unknown names task.notify) (unknown_in names rest)
unknown_in names (Block block body rescue always rest) =
    or_else (unknown_in names body) (or_else (unknown_in names rescue) (or_else (unknown_in names always) (unknown_in names rest)))
unknown_in names (Flush rest) = unknown_in names rest

-- the same of the nodes of sections, in their order
abbrev pub unknown_in_sections : List HandlerNames → List Section → Option (List ℕ)
unknown_in_sections names [] = None
unknown_in_sections names (section ∷ sections) = or_else (unknown_in names section.nodes) (unknown_in_sections names sections)

-- the same of handlers, which may notify others
abbrev pub unknown_in_handlers : List HandlerNames → List HandlerIn → Option (List ℕ)
unknown_in_handlers names [] = None
unknown_in_handlers names (handler ∷ handlers) = or_else (first_unknown names handler.handler.task.notify) (unknown_in_handlers names handlers)

-- the same of a play whose handlers are notified by these
abbrev pub unknown_with : List HandlerNames → Sections → Option (List ℕ)
unknown_with names play =
    or_else (unknown_in_sections names play.pre)
    (or_else (unknown_in_sections names play.tasks) (or_else (unknown_in_sections names play.post) (unknown_in_handlers names play.handlers)))

-- the same of a play, by what its own handlers are notified by
abbrev pub unknown_of : Sections → Option (List ℕ)
unknown_of play = unknown_with (map names_of play.handlers) play
