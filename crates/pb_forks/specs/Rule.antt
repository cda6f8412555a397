-- The rule of the mailboxes, which each step keeps. Fork j has the word j and the slot j of the table.
use Rattle.std.specs.Prelude.{◌≡◌, ℕ, ◌+◌, ◌*◌, ◌<◌, true, List, [], ◌∷◌, ◌++◌, length, slice_index, slice_index_or, Option, Some, None}
use mathlib.Core.Option.{some, none}
use mathlib.Core.Option as maybe
use lib.ListN.{get_elem?}
use Rattle.atomic_table.specs.Table.{State}
use Rattle.pb_outcome.specs.declared.job.Job.{Job}
use Rattle.pb_outcome.specs.declared.job.Report.{Report}
use Rattle.pb_outcome.specs.declared.outcome.Form.{Form}
use Rattle.pb_forks.specs.declared.parcel.Parcel.{Parcel}
use Rattle.pb_forks.specs.declared.parcel.Parcel.TheVariants.{Work, Done}
use Rattle.pb_forks.specs.declared.views.ForkView.{ForkView}
use Rattle.pb_forks.specs.declared.views.MainView.{MainView}
use Rattle.pb_forks.specs.declared.views.Lodged.{Lodged}
use Rattle.pb_forks.specs.declared.views.Lodged.TheVariants.{Here, Away}
use Rattle.pb_forks.specs.declared.views.View.{View}
use Rattle.pb_forks.specs.declared.views.View.TheVariants.{Main, Fork, Spent}
use Rattle.pb_forks.specs.Logs.{offers_of, collects_of, Rises, Answered}
use Rattle.pb_forks.specs.Views.{MainSees, ForkSees}

-- where a fork is. A taken job comes with those that were taken before it
pub data Phase : Type 0 where
  idle : Phase
  offered : Job → Phase
  taken : List Job → Job → Phase
  answered : Report → Phase
  shut : Phase

-- the word of a fork by where it is
abbrev pub word_of : Phase → ℕ
word_of idle = 0
word_of (offered x) = 4 * x.ticket.0 + 1
word_of (taken before x) = 4 * x.ticket.0 + 2
word_of (answered r) = 4 * r.ticket.0 + 3
word_of shut = 4

-- what a slot holds: a parcel, or nothing
abbrev pub Slot : Type 0
Slot = Option Parcel

-- a slot at home with its content, or out with a seat; none where there is no such slot
abbrev pub Home : Type 0
Home = maybe.Option (maybe.Option Slot)

-- the slot is at home and empty, unless its seat has it out
abbrev pub Empty : Type 0 → Home → Type 0
Empty IsOut home = (IsOut → home ≡ some none) × ((IsOut → ⊥) → home ≡ some (some None))

-- the slot is at home, with this parcel in it
abbrev pub Full : Parcel → Home → Type 0
Full parcel home = home ≡ some (some (Some parcel))

-- the lists of fork j and its slot, by its phase
module _ (allows : Job → Form → Type 0) (j : ℕ) (home : Home) (offers : List Job) (collects : List Report) (hand : ℕ) (p : ForkView) where
  abbrev pub Lists : Phase → Type 0
  Lists idle = (offers ≡ p.takes) × (collects ≡ p.answers) × Answered allows p.takes p.answers × Empty (hand ≡ j + 1) home
  Lists (offered x) = (offers ≡ p.takes ++ x ∷ []) × (collects ≡ p.answers) × Answered allows p.takes p.answers × Full (Work x) home
  Lists (taken before x) = (offers ≡ p.takes) × (collects ≡ p.answers) × (p.takes ≡ before ++ x ∷ []) × Answered allows before p.answers × Empty (p.holds ≡ true) home
  Lists (answered r) = (offers ≡ p.takes) × (p.answers ≡ collects ++ r ∷ []) × Answered allows p.takes p.answers × Full (Done r) home
  Lists shut = (offers ≡ p.takes) × (collects ≡ p.answers) × Answered allows p.takes p.answers × Empty (hand ≡ j + 1) home

-- what the rule says of fork j, of its word and slot, and of what was offered to it and collected from it
pub record ForkOk (allows : Job → Form → Type 0) (j w : ℕ) (home : Home) (offers : List Job) (collects : List Report) (seen hand : ℕ) (p : ForkView) : Type 0 where
  pub phase : Phase
  pub word_is : w ≡ word_of phase
  pub lists : Lists allows j home offers collects hand p phase
  pub main_sees : MainSees seen w
  pub fork_sees : ForkSees p.seen w

-- Fork j's view is lodged in the main view, before its seat is split off and after it is joined, or else its seat has it
abbrev pub Stands : List View → (ℕ → ℕ) → ℕ → ForkView → Lodged → Type 0
Stands views owner j p (Here q) = q ≡ p
Stands views owner j p Away = get_elem? views (owner j) ≡ some (Fork j p)

-- there is one main seat, and each fork's seat is one; the view that a join leaves says nothing
module _ (k main_id : ℕ) (main : MainView) (part : ℕ → ForkView) (owner : ℕ → ℕ) (id : ℕ) where
  abbrev pub Knows : View → Type 0
  Knows (Main m) = (id ≡ main_id) × (m ≡ main)
  Knows (Fork j p) = (j < k) × (owner j ≡ id) × (p ≡ part j) × (slice_index_or main.parts j Away ≡ Away)
  Knows Spent = Unit {0}

-- a fork's number, its word and slot, what was offered to it and collected from it, what the main seat has seen and has in hand, the fork's view
abbrev pub ForkRule : Type 1
ForkRule = ℕ → ℕ → Home → List Job → List Report → ℕ → ℕ → ForkView → Type 0

-- A pool of k forks, of each of which Says is true
pub record Ruled (Says : ForkRule) (k : ℕ) (s : State Slot View) : Type 0 where
  pub main_id : ℕ
  pub main : MainView
  pub part : ℕ → ForkView
  pub owner : ℕ → ℕ
  pub wide : length s.words ≡ k
  pub deep : length s.homes ≡ k
  pub sees_all : length main.seen ≡ k
  pub all_parts : length main.parts ≡ k
  pub rises : Rises 0 main.log
  pub each_fork : (j : ℕ) → j < k → Says j (slice_index s.words j) (get_elem? s.homes j) (offers_of j main.log) (collects_of j main.log) (slice_index main.seen j) main.hand (part j)
  pub main_seat : get_elem? s.views main_id ≡ some (Main main)
  pub stands : (j : ℕ) → j < k → Stands s.views owner j (part j) (slice_index_or main.parts j Away)
  pub each_seat : (id : ℕ) (v : View) → get_elem? s.views id ≡ some v → Knows k main_id main part owner id v

-- the rule of a pool of k forks: each of them is as the rule says of one
abbrev pub Kept : (Job → Form → Type 0) → ℕ → State Slot View → Type 0
Kept allows = Ruled (ForkOk allows)
