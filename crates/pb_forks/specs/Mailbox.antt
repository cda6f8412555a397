-- The rule of the mailboxes as a table by the word, for its reader. It holds between any two steps.
use Rattle.std.specs.Prelude.{◌≡◌, ◌⊎◌, ℕ, ◌/◌, ◌%◌, List, [], ◌∷◌, ◌++◌, Some, None}
use mathlib.Core.Option.{some, none}
use Rattle.atomic_table.specs.Table.{State}
use Rattle.pb_outcome.specs.declared.job.Job.{Job}
use Rattle.pb_outcome.specs.declared.job.Report.{Report}
use Rattle.pb_outcome.specs.declared.outcome.Form.{Form}
use Rattle.pb_forks.specs.declared.parcel.Parcel.TheVariants.{Work, Done}
use Rattle.pb_forks.specs.declared.views.ForkView.{ForkView}
use Rattle.pb_forks.specs.declared.views.View.{View}
use Rattle.pb_forks.specs.Logs.{job_tickets, report_tickets, AnsweredSoFar, IsBeginning, EndsIn}
use Rattle.pb_forks.specs.Rule.{Slot, Home, Ruled, Kept}
use Rattle.pb_forks.specs.Steps.{Change, Goes}
use Rattle.pb_forks.specs.Views.{MainSees, ForkSees}

-- 0 and 4 are the only words that 4 divides
abbrev pub IsWord : ℕ → Type 0
IsWord w = w % 4 ≡ 0 → (w ≡ 0) ⊎ (w ≡ 4)

-- the four lists of a fork by tickets, by its word
abbrev pub Row : ℕ → List ℕ → List ℕ → List ℕ → List ℕ → Type 0
Row w offers takes answers collects =
    (w % 4 ≡ 0 → (offers ≡ takes) × (takes ≡ answers) × (answers ≡ collects))
    × (w % 4 ≡ 1 → (offers ≡ takes ++ w / 4 ∷ []) × (takes ≡ answers) × (answers ≡ collects))
    × (w % 4 ≡ 2 → (offers ≡ takes) × (takes ≡ answers ++ w / 4 ∷ []) × (answers ≡ collects))
    × (w % 4 ≡ 3 → (offers ≡ takes) × (takes ≡ answers) × (answers ≡ collects ++ w / 4 ∷ []))

-- the parcel that lies in the slot; there is none while a seat has the slot out
abbrev pub parcel_at : Home → Slot
parcel_at (some (some slot)) = slot
parcel_at (some none) = None
parcel_at none = None

-- the last offer lies in the slot while it is offered, the last answer while it is answered, and nothing else
abbrev pub Lies : ℕ → Slot → List Job → List Report → Type 0
Lies w slot offers answers =
    (w % 4 ≡ 0 → slot ≡ None)
    × (w % 4 ≡ 1 → (x : Job) × (slot ≡ Some (Work x)) × EndsIn offers x)
    × (w % 4 ≡ 2 → slot ≡ None)
    × (w % 4 ≡ 3 → (r : Report) × (slot ≡ Some (Done r)) × EndsIn answers r)

-- what a fork's word says of its four lists
pub record HasLists (allows : Job → Form → Type 0) (w : ℕ) (offers takes : List Job) (answers collects : List Report) : Type 0 where
  pub word : IsWord w
  pub row : Row w (job_tickets offers) (job_tickets takes) (report_tickets answers) (report_tickets collects)
  pub taken : IsBeginning takes offers
  pub collected : IsBeginning collects answers
  pub fits : AnsweredSoFar allows takes answers

-- what holds of fork j: of its lists and its slot by its word, and of the words that the two seats saw last
pub record IsMailbox (allows : Job → Form → Type 0) (j w : ℕ) (home : Home) (offers : List Job) (collects : List Report) (seen hand : ℕ) (p : ForkView) : Type 0 where
  pub lists : HasLists allows w offers p.takes p.answers collects
  pub parcel : Lies w (parcel_at home) offers p.answers
  pub main_sees : MainSees seen w
  pub fork_sees : ForkSees p.seen w

-- whatever the table is between two steps, each fork is a mailbox
abbrev pub MailboxesHold : (Job → Form → Type 0) → Type 0
MailboxesHold allows = (k : ℕ) (s : State Slot View) → Kept allows k s → Ruled (IsMailbox allows) k s

-- no step changes the word 4
abbrev pub NothingFollowsShut : Type 0
NothingFollowsShut = (step : Change) (t n : ℕ) → Goes step t 4 n → ⊥
