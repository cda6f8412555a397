-- The kinds of events, by their words.
use Rattle.std.specs.Prelude.{ℕ, List, Option, Some, None, codes, if◌then◌else◌}
use Rattle.std.specs.Str.{bytes_eq}
use Rattle.pb_show.specs.declared.kind.How.TheVariants as how
use Rattle.pb_show.specs.declared.kind.Kind.{Kind}
use Rattle.pb_show.specs.declared.kind.Kind.TheVariants.{Begun, Play, Task, Handler, HostStart, Ended, Item, Notify, Totals}

-- what an event of this word tells that is a start, a notice or the statistics; none for any other word
abbrev pub start_named : List ℕ → Option Kind
start_named word =
    if bytes_eq word (codes "playbook_on_start") then Some Begun
    else if bytes_eq word (codes "playbook_on_play_start") then Some Play
    else if bytes_eq word (codes "playbook_on_task_start") then Some Task
    else if bytes_eq word (codes "playbook_on_handler_task_start") then Some Handler
    else if bytes_eq word (codes "playbook_on_notify") then Some Notify
    else if bytes_eq word (codes "playbook_on_stats") then Some Totals
    else if bytes_eq word (codes "runner_on_start") then Some HostStart
    else None

-- what an event of this word tells that is the end of a task, of an item or of an attempt; none for any other word
abbrev pub ended_named : List ℕ → Option Kind
ended_named word =
    if bytes_eq word (codes "runner_on_ok") then Some (Ended how.Ok)
    else if bytes_eq word (codes "runner_on_failed") then Some (Ended how.Failed)
    else if bytes_eq word (codes "runner_on_skipped") then Some (Ended how.Skipped)
    else if bytes_eq word (codes "runner_on_unreachable") then Some (Ended how.Unreachable)
    else if bytes_eq word (codes "runner_item_on_ok") then Some (Item how.Ok)
    else if bytes_eq word (codes "runner_item_on_failed") then Some (Item how.Failed)
    else if bytes_eq word (codes "runner_item_on_skipped") then Some (Item how.Skipped)
    else if bytes_eq word (codes "runner_retry") then Some (Item how.Again)
    else None

-- the first, or where there is none the second
abbrev pub or_else : {A : Type 0} → Option A → Option A → Option A
or_else None other = other
or_else (Some a) other = Some a

-- what an event of this word tells, if it is one
abbrev pub kind_named : List ℕ → Option Kind
kind_named word = or_else (ended_named word) (start_named word)
