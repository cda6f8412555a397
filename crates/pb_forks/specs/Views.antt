-- What the seats know, and how each call changes it. The word of a fork is 0 where it is idle, 4t+1 where ticket t is offered, 4t+2 where it is taken, 4t+3 where it is answered, and 4 where the fork is shut.
use Rattle.std.specs.Prelude.{◌==◌, not, cond, count_by, ◌≡◌, ◌≢◌, ℕ, zero, suc, ◌+◌, ◌*◌, ◌/◌, ◌%◌, ◌<◌, ◌≤◌, Bool, true, false, List, [], ◌∷◌, ◌++◌, length, replicate, slice_index, slice_index_or, slice_set}
use Rattle.pb_outcome.specs.declared.job.Job.{Job}
use Rattle.pb_outcome.specs.declared.job.Report.{Report}
use Rattle.pb_outcome.specs.declared.outcome.Form.{Form}
use Rattle.pb_forks.specs.declared.views.Entry.{Entry}
use Rattle.pb_forks.specs.declared.views.Entry.TheVariants.{Offered, Collected}
use Rattle.pb_forks.specs.declared.views.ForkView.{ForkView}
use Rattle.pb_forks.specs.declared.views.MainView.{MainView}
use Rattle.pb_forks.specs.declared.views.Lodged.{Lodged}
use Rattle.pb_forks.specs.declared.views.Lodged.TheVariants.{Here, Away}
use Rattle.pb_forks.specs.declared.views.View.{View}
use Rattle.pb_forks.specs.declared.views.View.TheVariants.{Main, Fork, Spent}
use Rattle.pb_forks.specs.Logs.{FitsLast, offers_of}

-- the seats at the start
abbrev pub fresh : ForkView
fresh = record { takes = []; answers = []; seen = 0; looks = 0; holds = false }

-- the main seat of k forks, before any other seat is split off
abbrev pub first_main : ℕ → MainView
first_main k = record { log = []; seen = replicate k 0; looks = 0; hand = 0; parts = replicate k (Here fresh); next = 0 }

-- what a main seat knows; any other seat counts as one of no forks
abbrev pub main_of : View → MainView
main_of (Main m) = m
main_of (Fork j p) = first_main 0
main_of Spent = first_main 0

-- what a fork's seat knows; any other seat counts as one that has done nothing
abbrev pub fork_of : View → ForkView
fork_of (Fork j p) = p
fork_of (Main m) = fresh
fork_of Spent = fresh

-- the main view after each single step on fork j
abbrev pub main_looked : ℕ → ℕ → MainView → MainView
main_looked j r m = record { log = m.log; seen = slice_set m.seen j r; looks = m.looks + 1; hand = m.hand; parts = m.parts; next = m.next }

-- h is 0, or 1 more than the fork whose slot the seat then has out
abbrev pub main_hand : ℕ → MainView → MainView
main_hand h m = record { log = m.log; seen = m.seen; looks = m.looks; hand = h; parts = m.parts; next = m.next }

-- the fork has the word r then, h is as above, and the entry stands behind the others
abbrev pub main_did : ℕ → ℕ → ℕ → Entry → MainView → MainView
main_did j r h e m = record { log = m.log ++ e ∷ []; seen = slice_set m.seen j r; looks = m.looks; hand = h; parts = m.parts; next = m.next }

abbrev pub main_shut : ℕ → MainView → MainView
main_shut j m = record { log = m.log; seen = slice_set m.seen j 4; looks = m.looks; hand = m.hand; parts = m.parts; next = m.next }

-- a fork's view after each single step
abbrev pub fork_looked : ℕ → ForkView → ForkView
fork_looked r p = record { takes = p.takes; answers = p.answers; seen = r; looks = p.looks + 1; holds = p.holds }

abbrev pub fork_holds : Bool → ForkView → ForkView
fork_holds b p = record { takes = p.takes; answers = p.answers; seen = p.seen; looks = p.looks; holds = b }

abbrev pub fork_took : ℕ → Job → ForkView → ForkView
fork_took r x p = record { takes = p.takes ++ x ∷ []; answers = p.answers; seen = r; looks = p.looks; holds = true }

abbrev pub fork_answered : ℕ → Report → ForkView → ForkView
fork_answered r rep p = record { takes = p.takes; answers = p.answers ++ rep ∷ []; seen = r; looks = p.looks; holds = false }

-- the main view after a whole call: the job stands behind all that was offered and collected before
abbrev pub offered_to : ℕ → Job → MainView → MainView
offered_to j x m = main_did j (4 * x.ticket.0 + 1) 0 (Offered j x) m

-- one look found the answer, and the report stands behind all that was offered and collected before
abbrev pub collected_from : ℕ → Report → MainView → MainView
collected_from j r m = main_hand 0 (main_did j 0 0 (Collected j r) (main_looked j (4 * r.ticket.0 + 3) m))

-- a fork's view after a whole call: one look found the offer, and the job stands behind those taken before
abbrev pub took_one : Job → ForkView → ForkView
took_one x p = fork_holds false (fork_took (4 * x.ticket.0 + 2) x (fork_looked (4 * x.ticket.0 + 1) p))

abbrev pub answered_one : Report → ForkView → ForkView
answered_one r p = fork_answered (4 * r.ticket.0 + 3) r p

-- What the main seat has seen, and what it may find now. Only the main seat changes an idle, answered or shut word; while a job is out the word keeps its ticket and goes on
abbrev pub MainSees : ℕ → ℕ → Type 0
MainSees seen w = (seen % 4 ≡ 0 → w ≡ seen) × (seen % 4 ≢ 0 → (w / 4 ≡ seen / 4) × (seen ≤ w))

-- The same of a fork's own seat. Only it changes an offered or taken word, and nobody changes 4
abbrev pub ForkSees : ℕ → ℕ → Type 0
ForkSees seen w = (seen % 4 ≡ 1 → w ≡ seen) × (seen % 4 ≡ 2 → w ≡ seen) × (seen ≡ 4 → w ≡ seen)

-- the seat may have looked some times, and did no more
abbrev pub ForkStays : ForkView → ForkView → Type 0
ForkStays p q = (q.takes ≡ p.takes) × (q.answers ≡ p.answers) × (q.holds ≡ p.holds) × (p.looks ≤ q.looks) × ForkSees p.seen q.seen

-- the same of the main seat: what it saw of each fork may have gone on
abbrev pub MainStays : MainView → MainView → Type 0
MainStays m n = (n.log ≡ m.log) × (n.parts ≡ m.parts) × (n.next ≡ m.next) × (n.hand ≡ m.hand) × (length n.seen ≡ length m.seen) × (m.looks ≤ n.looks)
    × ((j : ℕ) → MainSees (slice_index m.seen j) (slice_index n.seen j))

-- it looked some times, and the last look found the offer
abbrev pub TookLast : ForkView → Job → ForkView → Type 0
TookLast p x q = (between : ForkView) × ForkStays p between × ForkSees between.seen (4 * x.ticket.0 + 1) × (q ≡ took_one x between)

-- it looked some times, and the last look found 4
abbrev pub SawShut : ForkView → ForkView → Type 0
SawShut p q = (between : ForkView) × ForkStays p between × (q ≡ fork_looked 4 between)

-- it looked some times, and the last look found the answer, to the last job that was offered to the fork
abbrev pub CollectedLast : (Job → Form → Type 0) → ℕ → MainView → Report → MainView → Type 0
CollectedLast allows j m r n = (between : MainView) × MainStays m between × MainSees (slice_index between.seen j) (4 * r.ticket.0 + 3) × (n ≡ collected_from j r between) × FitsLast allows (offers_of j m.log) r

-- how many forks are idle, as far as the main seat has seen. Only it makes a fork idle, or ends that, so this is exact
abbrev pub idle_words : List ℕ → ℕ
idle_words [] = 0
idle_words (w ∷ ws) = cond (w == 0) 1 0 + idle_words ws

abbrev pub idle_forks : MainView → ℕ
idle_forks m = idle_words m.seen

-- a fork with this word is neither idle nor shut: its job is out
abbrev pub is_out : ℕ → Bool
is_out w = not (w % 4 == 0)

-- how many jobs are out, as far as the main seat has seen. Only it sends a job out, and collects its report, so this is exact
abbrev pub jobs_out : MainView → ℕ
jobs_out m = count_by is_out m.seen

-- the first n forks were shut, and nothing else was done
abbrev pub WasShut : ℕ → MainView → MainView → Type 0
WasShut n m m' = (m'.log ≡ m.log) × (m'.parts ≡ m.parts) × (m'.looks ≡ m.looks) × (length m'.seen ≡ length m.seen)
    × ((j : ℕ) → j < n → slice_index m'.seen j ≡ 4) × ((j : ℕ) → n ≤ j → slice_index m'.seen j ≡ slice_index m.seen j)

-- the next fork's seat is split off
abbrev pub lodged : Lodged → ForkView
lodged (Here p) = p
lodged Away = fresh

abbrev pub main_dealt : MainView → MainView
main_dealt m = record { log = m.log; seen = m.seen; looks = m.looks; hand = m.hand; parts = slice_set m.parts m.next Away; next = m.next + 1 }

-- what a seat knows once another is split off: only the main seat has any to split off
abbrev pub dealt : View → View
dealt (Main m) = Main (main_dealt m)
dealt (Fork j p) = Fork j p
dealt Spent = Spent

-- what the seat knows that is split off; one from a seat that isn't the main one knows nothing
abbrev pub next_fork : View → View
next_fork (Main m) = Fork m.next (lodged (slice_index_or m.parts m.next Away))
next_fork (Fork j p) = Spent
next_fork Spent = Spent

-- a fork's seat is joined
abbrev pub main_joined : ℕ → ForkView → MainView → MainView
main_joined j p m = record { log = m.log; seen = m.seen; looks = m.looks; hand = m.hand; parts = slice_set m.parts j (Here p); next = m.next }

-- what the first seat knows once the second is joined: only a fork's seat that the main seat joins adds anything
abbrev pub joined : View → View → View
joined (Main m) (Fork j p) = Main (main_joined j p m)
joined (Main m) (Main n) = Main m
joined (Main m) Spent = Main m
joined (Fork j p) w = Fork j p
joined Spent w = Spent

-- the first n seats are split off
abbrev pub deals : ℕ → MainView → MainView
deals zero m = m
deals (suc n) m = main_dealt (deals n m)

-- the main view of a new pool: nothing was offered, each fork was last seen idle, and each seat is split off
abbrev pub start : ℕ → MainView
start k = record { log = []; seen = replicate k 0; looks = 0; hand = 0; parts = replicate k Away; next = k }

-- the numbers below n, from 0 on
abbrev pub upto : ℕ → List ℕ
upto zero = []
upto (suc n) = upto n ++ n ∷ []
