-- What is pending on each host, from what happened on each.
use Rattle.std.specs.Prelude.{ℕ, Bool, List, [], ◌∷◌, ◌++◌, false, length, replicate, map, slice_set, slice_index_or}
use Rattle.pb_handlers.specs.Pending.{Noted, marks_after}

-- of each host the marks of its history, in a play with so many handlers
abbrev pub notes_after : ℕ → List (List Noted) → List (List Bool)
notes_after handlers histories = map (marks_after handlers) histories

-- what happened on a host; nothing where there is no such host
abbrev pub history_at : List (List Noted) → ℕ → List Noted
history_at histories host = slice_index_or histories host []

-- the histories, with this at the end of a host's
abbrev pub with_noted : ℕ → Noted → List (List Noted) → List (List Noted)
with_noted host noted histories = slice_set histories host (history_at histories host ++ noted ∷ [])

-- a batch is closed: what happened before it counts no more
abbrev pub closed : List (List Noted) → List (List Noted)
closed histories = map (λ history. []) histories

-- marks, all of them taken away
abbrev pub unmarked_all : List Bool → List Bool
unmarked_all marks = replicate (length marks) false
