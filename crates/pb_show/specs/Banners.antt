-- The banners of plays and tasks, and the lines of what has no result.
use Rattle.std.specs.Prelude.{ℕ, ◌+◌, nat_eq, Bool, List, [], ◌∷◌, ◌++◌, length, codes, decimal, if◌then◌else◌}
use Rattle.pb_show.specs.Escaped.{escaped, stars}
use Rattle.pb_show.specs.declared.look.Look.{Look}
use Rattle.pb_show.specs.declared.notices.Notice.{Notice}
use Rattle.pb_show.specs.declared.notices.Play.{Play}
use Rattle.pb_show.specs.declared.notices.Task.{Task}

-- a title, an empty line in front of it, and stars behind it
abbrev pub starred : List ℕ → List ℕ
starred title = title ++ stars (length title)

-- which batch of its play it is, counted from 1; nothing of the first one
abbrev pub batch_text : ℕ → List ℕ
batch_text batch = if nat_eq batch 0 then [] else codes " (batch " ++ decimal (batch + 1) ++ codes ")"

unfoldable pub play_text : Play → List ℕ
play_text play = starred (codes "\nPLAY [" ++ escaped play.name ++ codes "]" ++ batch_text play.batch)

-- the front of a banner, up to the name: that of a handler, where it is one, else of a task
abbrev pub task_head : Bool → List ℕ
task_head is_handler = if is_handler then codes "\nRUNNING HANDLER [" else codes "\nTASK ["

unfoldable pub task_text : Task → List ℕ
task_text task = starred (task_head task.is_handler ++ escaped task.name ++ codes "]")

unfoldable pub notice_text : Notice → List ℕ
notice_text notice = codes "notified: [" ++ escaped notice.host ++ codes "] => " ++ escaped notice.handler ++ 10 ∷ []

-- starts are shown where that is asked for
abbrev pub started_text : Look → List ℕ → List ℕ
started_text look host = if look.starts then codes "started: [" ++ escaped host ++ codes "]\n" else []

-- how many plays the run has, where starts are shown; else nothing
abbrev pub begun_text : Look → ℕ → List ℕ
begun_text look plays = if look.starts then codes "plays: " ++ decimal plays ++ 10 ∷ [] else []
