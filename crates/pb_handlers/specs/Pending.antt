-- Which handlers are pending on a host, known from all that happened there in a batch
-- (Ansible's documentation, "Handlers: running operations on change").
use Rattle.std.specs.Prelude.{◌≡◌, ℕ, Bool, true, false, ◌&&◌, ◌||◌, not, nat_eq, List, [], ◌∷◌, ◌++◌, map}
use Rattle.std.specs.List.{list_any, range_with_len}

-- something that happens on a host, with handlers by their numbers
pub data Noted : Type 0 where
  -- a task notified these handlers
  Notified : List ℕ → Noted
  -- a handler finished, or the host got the answer of another one for it
  Ran : ℕ → Noted

-- whether a handler is one of these
abbrev pub is_among : ℕ → List ℕ → Bool
is_among handler handlers = list_any (nat_eq handler) handlers

-- whether what happened is that the handler was notified
abbrev pub notifies : ℕ → Noted → Bool
notifies handler (Notified handlers) = is_among handler handlers
notifies handler (Ran ran) = false

-- whether what happened is that the handler ran
abbrev pub runs : ℕ → Noted → Bool
runs handler (Notified handlers) = false
runs handler (Ran ran) = nat_eq handler ran

-- a handler is pending where something notified it, and behind that it hasn't run
abbrev pub is_pending : ℕ → List Noted → Bool
is_pending handler [] = false
is_pending handler (noted ∷ later) = (notifies handler noted && not (list_any (runs handler) later)) || is_pending handler later

-- the same as a relation: the history falls into what was before, a notification of the handler, and what came since, in which it hasn't run
pub record IsPending (handler : ℕ) (history : List Noted) : Type 0 where
  pub before : List Noted
  pub handlers : List ℕ
  pub since : List Noted
  pub parts : history ≡ before ++ Notified handlers ∷ since
  pub notified : is_among handler handlers ≡ true
  pub still : list_any (runs handler) since ≡ false

-- of each of so many handlers whether it is pending
abbrev pub marks_after : ℕ → List Noted → List Bool
marks_after handlers history = map (λ handler. is_pending handler history) (range_with_len 0 handlers)
