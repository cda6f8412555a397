-- The lines of a text, and what those are that are written for events: each is one object as JSON, and none is torn or joined with another.
use Rattle.std.specs.Prelude.{◌≡◌, ⊤, ℕ, ◌==◌, List, [], ◌∷◌, ◌++◌, if◌then◌else◌}
use Rattle.serde_json.specs.Data.{Data}
use Rattle.serde_json.specs.Written.{compact_text}
use Rattle.pb_value.specs.Datum.{Datum}
use Rattle.pb_plan.specs.Plan.{PlanOf}
use Rattle.pb_state.specs.declared.event.Event.{Event}
use Rattle.pb_state.specs.State.{State}
use Rattle.pb_events.specs.Line.{line}
use Rattle.pb_events.specs.Lines.{lines_of, start_line}

-- a byte in front of the first line
abbrev pub with_byte : ℕ → List (List ℕ) → List (List ℕ)
with_byte byte [] = (byte ∷ []) ∷ []
with_byte byte (first ∷ lines) = (byte ∷ first) ∷ lines

-- a text, cut behind each line feed; what stands behind the last one is a line too
abbrev pub lines_in : List ℕ → List (List ℕ)
lines_in [] = []
lines_in (byte ∷ bytes) = if byte == 10 then (10 ∷ []) ∷ lines_in bytes else with_byte byte (lines_in bytes)

-- one object as compact JSON, and a line end
abbrev pub IsObject : List ℕ → Type 0
IsObject text = (members : List (List ℕ × Datum)) × (text ≡ line members)

-- the same of each of these texts
abbrev pub AreObjects : List (List ℕ) → Type 0
AreObjects [] = ⊤
AreObjects (text ∷ texts) = IsObject text × AreObjects texts

-- whatever is written behind it
pub record EventsHaveLines : Type 0 where
  -- compact JSON and a line end are one line
  pub json : (value : Data) (more : List ℕ) → lines_in ((compact_text value ++ 10 ∷ []) ++ more) ≡ (compact_text value ++ 10 ∷ []) ∷ lines_in more
  -- the line before all events is one
  pub start : (plays : ℕ) (more : List ℕ) → lines_in (start_line plays ++ more) ≡ start_line plays ∷ lines_in more
  -- an event's lines are whole, so that what comes behind them begins a line of its own
  pub whole : (plan : PlanOf) (s : State) (e : Event) (more : List ℕ) → lines_in (lines_of plan s e ++ more) ≡ lines_in (lines_of plan s e) ++ lines_in more
  -- and each of them is an object
  pub objects : (plan : PlanOf) (s : State) (e : Event) → AreObjects (lines_in (lines_of plan s e))
