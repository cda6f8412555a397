-- What holds of every play and every host.
use Rattle.std.specs.Prelude.{◌≡◌, ℕ, true, ◌↔◌, List, ◌∷◌, [], ◌++◌, Some}
use Rattle.pb_tree.specs.Answer.{AnswerOf}
use Rattle.pb_tree.specs.Tree.{TreeOf, path_at}
use Rattle.pb_tree.specs.Walk.{marks_of}
use Rattle.pb_handlers.specs.Pending.{Noted, is_pending, IsPending, marks_after}
use Rattle.pb_handlers.specs.History.{handler_at, history_of}

-- the marks that a host's walk carries are what its history says is pending
abbrev pub MarksAreNotes : Type 0
MarksAreNotes = (tree : TreeOf) (answers : List AnswerOf) → marks_of tree answers ≡ marks_after tree.handlers (history_of tree answers)

-- the place of a handler has the handler's number as its last step
pub record EndsWith (handler : ℕ) (tree : TreeOf) (place : ℕ) : Type 0 where
  pub above : List ℕ
  pub path : path_at tree place ≡ Some (above ++ handler ∷ [])

-- so it is for each place of each tree where a handler stands
abbrev pub HandlersEndPlaces : Type 0
HandlersEndPlaces = (tree : TreeOf) (place handler : ℕ) → handler_at tree place ≡ Some handler → EndsWith handler tree place

-- what is computed is the relation
abbrev pub PendingIsPending : Type 0
PendingIsPending = (handler : ℕ) (history : List Noted) → (is_pending handler history ≡ true) ↔ IsPending handler history
