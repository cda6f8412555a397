-- What each single step tells its seat.
use Rattle.std.specs.Prelude.{◌≡◌, ℕ, ◌+◌, ◌*◌, Bool, true, false, [], ◌∷◌, slice_index, Some, None}
use Rattle.atomic_table.specs.Table.{Me, Step, rest}
use Rattle.pb_outcome.specs.declared.job.Job.{Job}
use Rattle.pb_outcome.specs.declared.job.Report.{Report}
use Rattle.pb_outcome.specs.declared.outcome.Form.{Form}
use Rattle.pb_forks.specs.declared.parcel.Parcel.TheVariants.{Work, Done}
use Rattle.pb_forks.specs.declared.views.Entry.TheVariants.{Offered, Collected}
use Rattle.pb_forks.specs.declared.views.View.{View}
use Rattle.pb_forks.specs.declared.views.View.TheVariants.{Main, Fork}
use Rattle.pb_forks.specs.Logs.{offers_of, FitsLast}
use Rattle.pb_forks.specs.Rule.{Slot}
use Rattle.pb_forks.specs.Views.{main_looked, main_hand, main_did, main_shut, fork_looked, fork_holds, fork_took, fork_answered, main_of, fork_of, MainSees, ForkSees}

-- the steps that change a word; all others only read one
pub data Change : Type 0 where
  offer : Change
  take : Change
  answer : Change
  collect : Change
  shut : Change

-- from which word to which, for ticket t: nothing goes on from 4
abbrev pub Goes : Change → ℕ → ℕ → ℕ → Type 0
Goes offer t w n = (w ≡ 0) × (n ≡ 4 * t + 1)
Goes take t w n = (w ≡ 4 * t + 1) × (n ≡ 4 * t + 2)
Goes answer t w n = (w ≡ 4 * t + 2) × (n ≡ 4 * t + 3)
Goes collect t w n = (w ≡ 4 * t + 3) × (n ≡ 0)
Goes shut t w n = (w ≡ 0) × (n ≡ 4)

-- what a seat knows, and the slots that it has out, each with what is in it
abbrev pub Mine : Type 0
Mine = Me Slot View

-- what a step does: the step itself, the seat as it was, the number found and the seat as it is
abbrev pub SeatStep : Type 1
SeatStep = Step Slot → Mine → ℕ → Mine → Type 0

-- the main seat looks at a fork's word
abbrev pub MainLook : SeatStep
MainLook st me r me' = (me'.0 ≡ Main (main_looked st.word r (main_of me.0))) × (me'.1 ≡ me.1) × MainSees (slice_index (main_of me.0).seen st.word) r

-- the seat takes the empty slot, and lays it down
abbrev pub MainGrab : SeatStep
MainGrab st me r me' = (me'.0 ≡ Main (main_hand (st.word + 1) (main_of me.0))) × (me'.1 ≡ (st.word, None) ∷ me.1)

abbrev pub MainLay : SeatStep
MainLay st me r me' = (me'.0 ≡ Main (main_hand 0 (main_of me.0))) × (me'.1 ≡ rest me.1)

-- the job that lies in the slot is offered
abbrev pub MainOffer : SeatStep
MainOffer st me r me' = (x : Job) → me.1 ≡ (st.word, Some (Work x)) ∷ [] → (me'.0 ≡ Main (main_did st.word st.first 0 (Offered st.word x) (main_of me.0))) × (me'.1 ≡ []) × Goes offer x.ticket.0 r st.first

-- the report of the fork, for the last job that it was offered
abbrev pub MainCollect : (Job → Form → Type 0) → SeatStep
MainCollect allows st me r me' = (rep : Report)
    × (slice_index (main_of me.0).seen st.word ≡ 4 * rep.ticket.0 + 3) × FitsLast allows (offers_of st.word (main_of me.0).log) rep × Goes collect rep.ticket.0 r st.first
    × (me'.0 ≡ Main (main_did st.word 0 (st.word + 1) (Collected st.word rep) (main_of me.0))) × (me'.1 ≡ (st.word, Some (Done rep)) ∷ me.1)

-- an idle fork is shut
abbrev pub MainShut : SeatStep
MainShut st me r me' = (me'.0 ≡ Main (main_shut st.word (main_of me.0))) × (me'.1 ≡ me.1) × Goes shut 0 r st.first

-- a fork's seat looks at its word
abbrev pub ForkLook : SeatStep
ForkLook st me r me' = (me'.0 ≡ Fork st.word (fork_looked r (fork_of me.0))) × (me'.1 ≡ me.1) × ForkSees (fork_of me.0).seen r

-- it takes the job that it saw offered, and has the slot out in which that lies
abbrev pub ForkTake : SeatStep
ForkTake st me r me' = (x : Job) × ((fork_of me.0).seen ≡ 4 * x.ticket.0 + 1) × (me'.0 ≡ Fork st.word (fork_took st.first x (fork_of me.0))) × (me'.1 ≡ (st.word, Some (Work x)) ∷ me.1) × Goes take x.ticket.0 r st.first

-- it has its slot out from then on, or no longer
abbrev pub ForkHold : Bool → SeatStep
ForkHold b st me r me' = (me'.0 ≡ Fork st.word (fork_holds b (fork_of me.0)))

-- it takes its empty slot, and lays it down
abbrev pub ForkGrab : SeatStep
ForkGrab st me r me' = ForkHold true st me r me' × (me'.1 ≡ (st.word, None) ∷ me.1)

abbrev pub ForkLay : SeatStep
ForkLay st me r me' = ForkHold false st me r me' × (me'.1 ≡ rest me.1)

-- the report that lies in the slot is given as the answer
abbrev pub ForkAnswer : SeatStep
ForkAnswer st me r me' = (rep : Report) → me.1 ≡ (st.word, Some (Done rep)) ∷ [] → (me'.0 ≡ Fork st.word (fork_answered st.first rep (fork_of me.0))) × (me'.1 ≡ []) × Goes answer rep.ticket.0 r st.first
