-- What a host's answers in a play tell of handlers, each answer at the place to which those before it led.
use Rattle.std.specs.Prelude.{ℕ, zero, suc, ◌+◌, List, [], ◌∷◌, ◌++◌, Option, Some, None, slice_index_or, if◌then◌else◌}
use Rattle.pb_tree.specs.declared.answer.Kind.{Kind}
use Rattle.pb_tree.specs.declared.answer.Kind.TheVariants as kinds
use Rattle.pb_tree.specs.declared.tree.Reach.{Reach}
use Rattle.pb_tree.specs.declared.tree.Reach.TheVariants.{At, Done}
use Rattle.pb_tree.specs.Answer.{AnswerOf}
use Rattle.pb_tree.specs.Tree.{Nodes, Nothing, Task, Block, Flush, TreeOf}
use Rattle.pb_tree.specs.Walk.{reach}
use Rattle.pb_tree.specs.Laws.{counts}
use Rattle.pb_handlers.specs.Pending.{Noted, Notified, Ran}

-- so many handlers, from the one with number h on
abbrev pub handlers_from : ℕ → ℕ → List (Option ℕ)
handlers_from h zero = []
handlers_from h (suc left) = Some h ∷ handlers_from (h + 1) left

-- of each place of these nodes, in their order, the handler that stands there, or none where a task does
abbrev pub handlers_in : ℕ → Nodes → List (Option ℕ)
handlers_in handlers Nothing = []
handlers_in handlers (Task rest) = None ∷ handlers_in handlers rest
handlers_in handlers (Block body rescue always rest) =
    handlers_in handlers body ++ handlers_in handlers rescue ++ handlers_in handlers always ++ handlers_in handlers rest
handlers_in handlers (Flush rest) = handlers_from 0 handlers ++ handlers_in handlers rest

-- the handler at a place; none where a task stands there, and past the end
abbrev pub handler_at : TreeOf → ℕ → Option ℕ
handler_at tree place = slice_index_or (handlers_in tree.handlers tree.nodes) place None

-- a handler ran, unless its answer is that the host was halted there
abbrev pub ran_by : Option ℕ → Kind → List Noted
ran_by None kind = []
ran_by (Some handler) kinds.Good = Ran handler ∷ []
ran_by (Some handler) kinds.Bad = Ran handler ∷ []
ran_by (Some handler) kinds.Halted = []
ran_by (Some handler) kinds.Gone = Ran handler ∷ []
ran_by (Some handler) kinds.Ended = Ran handler ∷ []

-- What an answer tells where the host is: first that a handler ran, then what was notified. So a handler that notifies itself is pending again.
abbrev pub happened_at : (ℕ → Option ℕ) → Reach → AnswerOf → List Noted
happened_at handler_of (At place) a = ran_by (handler_of place) a.kind ++ Notified a.notified ∷ []
happened_at handler_of (Done ending) a = []

-- a second halted answer tells nothing
abbrev pub happened_by : TreeOf → List AnswerOf → AnswerOf → List Noted
happened_by tree before a = if counts before a then happened_at (handler_at tree) (reach tree before) a else []

-- what answers tell, in order; the first list has those that were given before them
abbrev pub happened_behind : TreeOf → List AnswerOf → List AnswerOf → List Noted
happened_behind tree before [] = []
happened_behind tree before (a ∷ answers) = happened_by tree before a ++ happened_behind tree (before ++ a ∷ []) answers

-- the history that a host's answers in a play tell
abbrev pub history_of : TreeOf → List AnswerOf → List Noted
history_of tree answers = happened_behind tree [] answers
