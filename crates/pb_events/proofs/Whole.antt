-- The texts that are written for events are whole lines, each of them an object.
use Rattle.std.proofs.Common.{◌≡◌, ℕ, Bool, true, false, cond, List, [], ◌∷◌, ◌++◌, Option, Some, None, refl, sym, ap, ◌∙◌, subst, append_assoc, append-nil}
use Rattle.std.proofs.lemmas.Bool.{ne_eqb}
use Rattle.std.specs.Prelude.{slice_get}
use Rattle.std.specs.Option.{option_map_or}
use Rattle.serde_json.specs.Data.{Data}
use Rattle.serde_json.specs.Written.{compact_text}
use Rattle.pb_value.specs.Datum.{Datum, dict, members_of}
use Rattle.pb_value.specs.ToJson.{json_of}
use Rattle.pb_outcome.specs.Gathered.{is_unreachable}
use Rattle.pb_outcome.specs.declared.gather.ItemResult.{ItemResult}
use Rattle.pb_play.specs.Modules.{is_meta}
use Rattle.pb_plan.specs.Plan.{PlayOf, PlanOf}
use Rattle.pb_host.specs.declared.step_result.TaskDone.{TaskDone}
use Rattle.pb_host.specs.declared.step_result.Retried.{Retried}
use Rattle.pb_state.specs.declared.event.Event.{Event}
use Rattle.pb_state.specs.declared.event.Event.TheVariants.{Open, Start, Send, Report as Reported, Turn, Close, Stop, Forks}
use Rattle.pb_state.specs.State.{State}
use Rattle.pb_events.specs.Line.{line}
use Rattle.pb_events.specs.Lines.{start_event, task_start, host_start, start_text, result_line, done_text, retried_text, meta_text, SiteOf, site_of, end_text, started, came_back, opened_in, lines_of}
use Rattle.pb_events.specs.Items.{item_line, item_lines}
use Rattle.pb_events.specs.Notify.{handler_name, notify_line, notify_lines, notify_text}
use Rattle.pb_events.specs.Whole.{lines_in, AreObjects, EventsHaveLines}
use Rattle.pb_events.proofs.NoLineFeed.{HasNone, in_json}

-- ---- one line
cut_behind : (text more : List ℕ) → HasNone text → lines_in (text ++ 10 ∷ more) ≡ (text ++ 10 ∷ []) ∷ lines_in more
cut_behind [] more none = refl
cut_behind (b ∷ text) more none = rw (ne_eqb b 10 none.0, cut_behind text more none.1) refl

pub json_line : (value : Data) (more : List ℕ) → lines_in ((compact_text value ++ 10 ∷ []) ++ more) ≡ (compact_text value ++ 10 ∷ []) ∷ lines_in more
json_line value more = ap lines_in (append_assoc (compact_text value) (10 ∷ []) more) ∙ cut_behind (compact_text value) more (in_json value)

one_line : (members : List (List ℕ × Datum)) (more : List ℕ) → lines_in (line members ++ more) ≡ line members ∷ lines_in more
unfolding line
one_line members more = json_line (json_of (dict (members_of members))) more

-- ---- whole lines, whatever is written behind them
record IsWhole (text : List ℕ) : Type 0 where
  lines : List (List ℕ)
  objects : AreObjects lines
  cut : (more : List ℕ) → lines_in (text ++ more) ≡ lines ++ lines_in more

are_both : (lines more : List (List ℕ)) → AreObjects lines → AreObjects more → AreObjects (lines ++ more)
are_both [] more a b = b
are_both (first ∷ lines) more a b = (a.0, are_both lines more a.1 b)

nothing : IsWhole []
nothing = record { lines = []; objects = tt; cut = λ more. refl }

one : (members : List (List ℕ × Datum)) → IsWhole (line members)
one members = record { lines = line members ∷ []; objects = ((members, refl), tt); cut = λ more. one_line members more }

both : (a b : List ℕ) → IsWhole a → IsWhole b → IsWhole (a ++ b)
both a b first next = record {
  lines = first.lines ++ next.lines;
  objects = are_both first.lines next.lines first.objects next.objects;
  cut = λ more.
      ap lines_in (append_assoc a b more) ∙ first.cut (b ++ more) ∙ ap (λ l. first.lines ++ l) (next.cut more) ∙ sym (append_assoc first.lines next.lines (lines_in more));
}

if_so : (b : Bool) (x y : List ℕ) → IsWhole x → IsWhole y → IsWhole (cond b x y)
if_so true x y p q = p
if_so false x y p q = q

of_some : {A : Type 0} (found : Option A) (f : A → List ℕ) → ((a : A) → IsWhole (f a)) → IsWhole (option_map_or f found [])
of_some None f each = nothing
of_some (Some a) f each = each a

-- ---- the texts of tasks
items_whole : (host place : List ℕ) (play : ℕ) (results : List (ℕ × ItemResult)) → IsWhole (item_lines host place play results)
items_whole host place play [] = nothing
items_whole host place play (first ∷ rest) =
    both (item_line host place play first.0 first.1) _ (if_so (is_unreachable first.1.ending) _ _ nothing (one _)) (items_whole host place play rest)

handlers_whole : (host : List ℕ) (play : PlayOf) (number : ℕ) (handlers : List ℕ) → IsWhole (notify_lines host play number handlers)
handlers_whole host play number [] = nothing
handlers_whole host play number (handler ∷ rest) = both (notify_line host (handler_name play handler) number) _ (one _) (handlers_whole host play number rest)

notified_whole : (host : List ℕ) (play : PlayOf) (number : ℕ) (done : Option TaskDone) → IsWhole (notify_text host play number done)
notified_whole host play number None = nothing
notified_whole host play number (Some done) = handlers_whole host play number done.notified

result_whole : (host place : List ℕ) (play : ℕ) (done : TaskDone) → IsWhole (result_line host place play done)
result_whole host place play done =
    if_so done.task.result.unreachable _ _ (one _) (if_so done.task.result.failed _ _ (one _) (if_so done.task.result.skipped _ _ (one _) (one _)))

done_whole : (host place : List ℕ) (play : ℕ) (done : Option TaskDone) → IsWhole (done_text host place play done)
done_whole host place play None = nothing
done_whole host place play (Some done) = result_whole host place play done

retried_whole : (host place : List ℕ) (play : ℕ) (retried : Option Retried) → IsWhole (retried_text host place play retried)
retried_whole host place play None = nothing
retried_whole host place play (Some retried) = one _

meta_whole : (host place : List ℕ) (play : ℕ) (done : Option TaskDone) → IsWhole (meta_text host place play done)
meta_whole host place play None = nothing
meta_whole host place play (Some done) = if_so done.task.result.failed _ _ (one _) nothing

start_whole : (site : SiteOf) → IsWhole (start_text site)
start_whole site =
    both (cond site.step_result.is_new (task_start (start_event site.place.handler) site.place.task.name site.path site.number) []) (host_start site.host site.path site.number)
    (if_so site.step_result.is_new _ _ (one _) nothing) (one _)

end_whole : (site : SiteOf) → IsWhole (end_text site)
end_whole site =
    both _ (notify_text site.host site.play site.number site.step_result.done)
    (both _ (done_text site.host site.path site.number site.step_result.done)
    (both (item_lines site.host site.path site.number site.step_result.items) (retried_text site.host site.path site.number site.step_result.retried)
    (items_whole site.host site.path site.number site.step_result.items) (retried_whole site.host site.path site.number site.step_result.retried))
    (done_whole site.host site.path site.number site.step_result.done)) (notified_whole site.host site.play site.number site.step_result.done)

-- ---- the texts of events
started_whole : (site : SiteOf) → IsWhole (started site)
started_whole site =
    if_so (is_meta site.place.task.«module») _ _ (meta_whole site.host site.path site.number site.step_result.done) (both (start_text site) (end_text site) (start_whole site) (end_whole site))

came_whole : (site : SiteOf) → IsWhole (came_back site)
came_whole site = if_so (is_meta site.place.task.«module») _ _ (meta_whole site.host site.path site.number site.step_result.done) (end_whole site)

event_whole : (plan : PlanOf) (s : State) (e : Event) → IsWhole (lines_of plan s e)
event_whole plan s Open = of_some (slice_get plan.plays s.play) (opened_in plan s) (λ play. one _)
event_whole plan s (Start h) = of_some (site_of plan s h.0) started started_whole
event_whole plan s (Send h item attempt ticket) = nothing
event_whole plan s (Reported r) = of_some (site_of plan s r.host.0) came_back came_whole
event_whole plan s Turn = nothing
event_whole plan s Close = nothing
event_whole plan s Stop = nothing
event_whole plan s (Forks n) = nothing

-- with nothing behind them, these lines are those of the text
its_lines : (text : List ℕ) (is : IsWhole text) → lines_in text ≡ is.lines
its_lines text is = ap lines_in (sym (append-nil text)) ∙ is.cut [] ∙ append-nil is.lines

pub events_have_lines : EventsHaveLines
events_have_lines = record {
  json = json_line;
  start = λ plays more. one_line _ more;
  whole = λ plan s e more. let is = event_whole plan s e in is.cut more ∙ ap (λ l. l ++ lines_in more) (sym (its_lines (lines_of plan s e) is));
  objects = λ plan s e. let is = event_whole plan s e in subst AreObjects (sym (its_lines (lines_of plan s e) is)) is.objects;
}
