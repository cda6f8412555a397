-- What holds of all that is shown, whatever the events are.
use Rattle.std.specs.Prelude.{◌≡◌, ◌≢◌, ⊤, ◌≤◌, ℕ, Bool, true, false, List, [], ◌∷◌, ◌++◌, None, IfSome}
use Rattle.std.specs.Str.{chars, NonePass}
use Rattle.serde_json.specs.Data.{Data}
use Rattle.pb_show.specs.Banners.{play_text, task_text, notice_text}
use Rattle.pb_show.specs.Escaped.{is_hidden, escaped}
use Rattle.pb_show.specs.Results.{ended_text}
use Rattle.pb_show.specs.Showing.{Shown, event_shown, event_at, shown}
use Rattle.pb_show.specs.Whole.{lines_in}
use Rattle.pb_show.specs.declared.ended.Ended.{Ended}
use Rattle.pb_show.specs.declared.kind.Kind.{Kind}
use Rattle.pb_show.specs.declared.kind.Kind.TheVariants.{Begun, Play as Plays, Task as Tasks, Handler, HostStart, Ended as Ends, Item, Notify, Totals}
use Rattle.pb_show.specs.declared.look.Look.{Look}
use Rattle.pb_show.specs.declared.showing.Showing.{Showing}
use Rattle.pb_show.specs.declared.notices.Notice.{Notice}
use Rattle.pb_show.specs.declared.notices.Play.{Play}
use Rattle.pb_show.specs.declared.notices.Task.{Task}

-- a text stands in another one
abbrev pub Stands : List ℕ → List ℕ → Type 0
Stands part text = (front : List ℕ) × (back : List ℕ) × (text ≡ front ++ part ++ back)

-- each of these texts stands, as it is escaped, in the other one
abbrev pub EachStands : List (List ℕ) → List ℕ → Type 0
EachStands [] text = ⊤
EachStands (part ∷ parts) text = Stands (escaped part) text × EachStands parts text

-- a text that ends in a line end, and so isn't empty
abbrev pub EndsLine : List ℕ → Type 0
EndsLine text = (front : List ℕ) × (text ≡ front ++ 10 ∷ [])

-- no character that ends a line, moves the cursor or turns the direction of text
abbrev pub NoneHidden : List ℕ → Type 0
NoneHidden text = NonePass is_hidden (chars text)

-- no byte of ASCII's controls
abbrev pub IsVisible : List ℕ → Type 0
IsVisible [] = ⊤
IsVisible (b ∷ bs) = (32 ≤ b) × (b ≢ 127) × IsVisible bs

-- lines, one behind another
abbrev pub joined : List (List ℕ) → List ℕ
joined [] = []
joined (line ∷ lines) = line ++ joined lines

-- whether an event of this kind tells of a start that is shown where that is asked for
abbrev pub is_start : Kind → Bool
is_start Begun = true
is_start Plays = false
is_start Tasks = false
is_start Handler = false
is_start HostStart = true
is_start (Ends how) = false
is_start (Item how) = false
is_start Notify = false
is_start Totals = false

pub record TextsStand : Type 0 where
  -- each text of an event that is shown stands in the event's text as it is escaped
  pub play : (play : Play) → Stands (escaped play.name) (play_text play)
  pub task : (task : Task) → Stands (escaped task.name) (task_text task)
  pub host : (look : Look) (e : Ended) → Stands (escaped e.host) (ended_text look e)
  pub message : (look : Look) (e : Ended) → Stands (escaped e.message) (ended_text look e)
  pub errors : (look : Look) (e : Ended) → EachStands e.errors (ended_text look e)
  pub notice : (notice : Notice) → Stands (escaped notice.host) (notice_text notice) × Stands (escaped notice.handler) (notice_text notice)
  -- and there it ends no line, moves no cursor and turns no text: none of its characters is hidden, and none of its bytes is a control
  pub visible : (text : List ℕ) → NoneHidden (escaped text)
  pub bytes : (text : List ℕ) → IsVisible (escaped text)
  -- an event's text is never empty and ends in a line end, but that starts are passed over unless they are shown
  pub whole : (look : Look) (s : Showing) (d : Data) (kind : Kind) → is_start kind ≡ false → IfSome (event_shown look s d kind) (λ (x : Shown). EndsLine x.text)
  pub starts : (look : Look) (s : Showing) (d : Data) (kind : Kind) → look.starts ≡ true → IfSome (event_shown look s d kind) (λ (x : Shown). EndsLine x.text)
  -- a line that is no event is passed on, byte for byte
  pub passed : (look : Look) (s : Showing) (line : List ℕ) → event_at look s line ≡ None → (shown look s line).text ≡ line
  -- the lines of some bytes, one behind another, are these bytes: none is dropped, doubled or torn
  pub cut : (bytes : List ℕ) → joined (lines_in bytes) ≡ bytes
