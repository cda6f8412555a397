-- Which handlers names stand for (Ansible's documentation, "Handlers: running operations on change"). A handler has a name and listens to topics;
-- its number is its position among those that count, in the order of definition.
use Rattle.std.specs.Prelude.{ℕ, ◌+◌, Bool, ◌||◌, not, List, [], ◌∷◌, Option, if◌then◌else◌, find}
use Rattle.std.specs.List.{list_any}
use Rattle.std.specs.Str.{bytes_eq}
use Rattle.pb_handlers.specs.declared.naming.HandlerNames.{HandlerNames}

-- whether a handler has this name
abbrev pub is_named : List ℕ → HandlerNames → Bool
is_named name handler = bytes_eq name handler.name

-- of each handler whether it counts: no later one has its name. So of handlers with one name the last counts, at its own position
abbrev pub counting : List HandlerNames → List Bool
counting [] = []
counting (handler ∷ later) = not (list_any (is_named handler.name) later) ∷ counting later

-- the elements that are marked
abbrev pub kept : {X : Type 0} → List Bool → List X → List X
kept [] xs = []
kept (mark ∷ marks) [] = []
kept (mark ∷ marks) (x ∷ xs) = if mark then x ∷ kept marks xs else kept marks xs

-- the handlers that count, in their order
abbrev pub last_named : List HandlerNames → List HandlerNames
last_named [] = []
last_named (handler ∷ later) = if list_any (is_named handler.name) later then last_named later else handler ∷ last_named later

-- a word that a task notifies stands for each handler that has it as its name, and for each that listens to it
abbrev pub answers_to : List ℕ → HandlerNames → Bool
answers_to word handler = is_named word handler || list_any (bytes_eq word) handler.listens

-- whether one of these words stands for the handler
abbrev pub is_notified : List (List ℕ) → HandlerNames → Bool
is_notified words handler = list_any (λ word. answers_to word handler) words

-- the numbers of the handlers for which these words stand, in order; the first one has number n
abbrev pub notified_from : List (List ℕ) → ℕ → List HandlerNames → List ℕ
notified_from words n [] = []
notified_from words n (handler ∷ handlers) = if is_notified words handler then n ∷ notified_from words (n + 1) handlers else notified_from words (n + 1) handlers

-- whether a word stands for none of these handlers
abbrev pub is_unknown : List HandlerNames → List ℕ → Bool
is_unknown handlers word = not (list_any (answers_to word) handlers)

-- the first of these words that stands for no handler
abbrev pub first_unknown : List HandlerNames → List (List ℕ) → Option (List ℕ)
first_unknown handlers words = find (is_unknown handlers) words
