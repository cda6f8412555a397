-- Worked examples: each is proved by computing both sides.
use Rattle.std.specs.Prelude.{◌≡◌, ℕ, true, false, List, [], ◌∷◌, Some, None, codes, refl}
use Rattle.pb_tree.specs.declared.answer.Kind.TheVariants as kinds
use Rattle.pb_tree.specs.Rows.{a, n, both, notifies, flushes}
use Rattle.pb_handlers.specs.declared.naming.HandlerNames.{HandlerNames}
use Rattle.pb_handlers.specs.Pending.{Notified, Ran, marks_after}
use Rattle.pb_handlers.specs.Notes.{notes_after, with_noted, closed}
use Rattle.pb_handlers.specs.History.{handler_at, history_of}
use Rattle.pb_handlers.specs.Naming.{counting, last_named, notified_from, first_unknown}

-- notified twice, a handler is pending once; it isn't any more once it ran, until it is notified again
once : marks_after 2 (Notified (1 ∷ 0 ∷ []) ∷ Notified (1 ∷ []) ∷ Ran 1 ∷ []) ≡ true ∷ false ∷ []
once = refl

again : marks_after 2 (Notified (1 ∷ 0 ∷ []) ∷ Ran 0 ∷ Ran 1 ∷ Notified (0 ∷ []) ∷ []) ≡ true ∷ false ∷ []
again = refl

-- each host has its own; a number that no handler has marks nothing; once the batch is closed nothing is pending
hosts : notes_after 2 (with_noted 1 (Notified (0 ∷ 7 ∷ [])) ([] ∷ [] ∷ [])) ≡ (false ∷ false ∷ []) ∷ (true ∷ false ∷ []) ∷ []
hosts = refl

after_close : notes_after 2 (closed (with_noted 1 (Notified (0 ∷ [])) ([] ∷ [] ∷ []))) ≡ (false ∷ false ∷ []) ∷ (false ∷ false ∷ []) ∷ []
after_close = refl

-- each flush has a place for each handler: one stands in front of the two tasks, and one behind them
places : (handler_at notifies 3 ≡ None) × (handler_at notifies 4 ≡ Some 0) × (handler_at notifies 5 ≡ Some 1)
places = (refl, refl, refl)

happened_in_order : history_of notifies (both ∷ both ∷ a kinds.Good ∷ n (0 ∷ []) ∷ [])
    ≡ Notified (1 ∷ 0 ∷ []) ∷ Notified (1 ∷ 0 ∷ []) ∷ Ran 0 ∷ Notified [] ∷ Ran 1 ∷ Notified (0 ∷ []) ∷ []
happened_in_order = refl

-- a handler that was halted keeps its mark; one that failed doesn't
halted_there : history_of flushes (both ∷ a kinds.Good ∷ a kinds.Halted ∷ []) ≡ Notified (1 ∷ 0 ∷ []) ∷ Notified [] ∷ Notified [] ∷ []
halted_there = refl

failed_there : history_of flushes (both ∷ a kinds.Good ∷ a kinds.Bad ∷ []) ≡ Notified (1 ∷ 0 ∷ []) ∷ Notified [] ∷ Ran 0 ∷ Notified [] ∷ []
failed_there = refl

-- one answer behind the end tells nothing, and so does a second halted one
no_more : (history_of notifies (a kinds.Bad ∷ both ∷ []) ≡ Notified [] ∷ []) × (history_of notifies (a kinds.Halted ∷ a kinds.Halted ∷ []) ≡ Notified [] ∷ [])
no_more = (refl, refl)

-- ---- names
abbrev named : List ℕ → List (List ℕ) → HandlerNames
named name topics = record { name = name; listens = topics }

abbrev two : List HandlerNames
two = named (codes "h1") (codes "web" ∷ []) ∷ named (codes "h2") [] ∷ []

-- by name and by topic, in the order of definition, each once
both_named : (notified_from (codes "h2" ∷ codes "h1" ∷ []) 0 two ≡ 0 ∷ 1 ∷ []) × (notified_from (codes "h2" ∷ codes "web" ∷ codes "h1" ∷ []) 0 two ≡ 0 ∷ 1 ∷ [])
both_named = (refl, refl)

-- a topic with two listeners
two_listen : notified_from (codes "web" ∷ []) 0 (named (codes "h0") (codes "web" ∷ []) ∷ two) ≡ 0 ∷ 1 ∷ []
two_listen = refl

-- of two handlers with one name the last counts, at its own position
abbrev twice : List HandlerNames
twice = named (codes "h") (codes "web" ∷ []) ∷ named (codes "g") [] ∷ named (codes "h") [] ∷ []

last_counts : (counting twice ≡ false ∷ true ∷ true ∷ []) × (last_named twice ≡ named (codes "g") [] ∷ named (codes "h") [] ∷ [])
last_counts = (refl, refl)

-- the topic of the one that doesn't count is known no more
nobody : (first_unknown (last_named twice) (codes "h" ∷ codes "web" ∷ codes "x" ∷ []) ≡ Some (codes "web")) × (first_unknown two (codes "web" ∷ codes "h2" ∷ []) ≡ None)
nobody = (refl, refl)
