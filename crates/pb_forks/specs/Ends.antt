-- What clauses say of a pool that was closed.
use Rattle.std.specs.Prelude.{◌≡◌, ℕ, List, slice_index, slice_index_or}
use Rattle.std.specs.Mem.Slots.{slots_items}
use Rattle.pb_outcome.specs.declared.job.Job.{Job}
use Rattle.pb_outcome.specs.declared.outcome.Form.{Form}
use Rattle.pb_forks.specs.declared.views.ForkView.{ForkView}
use Rattle.pb_forks.specs.declared.views.MainView.{MainView}
use Rattle.pb_forks.specs.declared.views.Lodged.TheVariants.{Here, Away}
use Rattle.pb_forks.specs.declared.closed.PoolEnd.{PoolEnd}
use Rattle.pb_forks.specs.Logs.{offers_of, collects_of, job_tickets, report_tickets}
use Rattle.pb_forks.specs.Mailbox.{HasLists}
use Rattle.pb_forks.specs.Views.{main_of, MainSees}

-- the word of fork j
abbrev pub end_word : PoolEnd → ℕ → ℕ
end_word e j = slice_index (slots_items e.table.value.words) j

-- what the main seat knew at the end, with the views of the seats that were joined
abbrev pub end_view : PoolEnd → MainView
end_view e = main_of e.seat.value.me.0

-- the view of fork j was joined
abbrev pub IsJoined : MainView → ℕ → ForkView → Type 0
IsJoined m j p = slice_index_or m.parts j Away ≡ Here p

-- jobs were offered, taken, answered and collected alike
abbrev pub AreEqual : List ℕ → List ℕ → List ℕ → List ℕ → Type 0
AreEqual offers takes answers collects = (offers ≡ takes) × (takes ≡ answers) × (answers ≡ collects)

-- the four lists of fork j by tickets are equal
abbrev pub HasEqualLists : ℕ → MainView → ForkView → Type 0
HasEqualLists j m p = AreEqual (job_tickets (offers_of j m.log)) (job_tickets p.takes) (report_tickets p.answers) (report_tickets (collects_of j m.log))

-- fork j is shut, its seat's view was joined, and its four lists are equal
abbrev pub EndedShut : ℕ → PoolEnd → Type 0
EndedShut j e = (end_word e j ≡ 4) × (p : ForkView) × IsJoined (end_view e) j p × HasEqualLists j (end_view e) p

-- what holds of fork j at the end
pub record EndedFork (allows : Job → Form → Type 0) (j w : ℕ) (m : MainView) (p : ForkView) : Type 0 where
  pub sees : MainSees (slice_index m.seen j) w
  pub lists : HasLists allows w (offers_of j m.log) p.takes p.answers (collects_of j m.log)
