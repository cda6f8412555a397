-- The table by the word follows from the rule, between any two steps and at the end.
use Rattle.std.proofs.Common.{◌≡◌, inl, inr, Bool, true, false, true≢false, ℕ, zero, suc, ◌+◌, ◌*◌, ◌/◌, ◌%◌, ◌<◌, ◌≤◌, ◌≢◌, ⊎_elim, cond, eqb, eq-eqb, ne_eqb, List, [], ◌∷◌, ◌++◌, map, set, length, length-set, get_or-set_same, get_or-set_other, get_or, None, refl, sym, ap, ◌∙◌, subst, arith, append-nil}
use mathlib.Core.Option.{some}
use native.Mathlib.Decide.{ℕ_discrete}
use mathlib.Core.List.{map-append}
use mathlib.Core.Logic.{dite}
use Rattle.std.proofs.lemmas.Bool.{cases_lt}
use Rattle.std.proofs.lemmas.List.Sorted.{sum_by-IsPermutation}
use Rattle.std.proofs.lemmas.List.Sums.{sum_by-cons, sum_by_push}
use lib.ListN.{get_elem?}
use Rattle.atomic_table.specs.Table.{Final, Seen}
use Rattle.pb_outcome.specs.declared.job.Job.{Job}
use Rattle.pb_outcome.specs.declared.job.Report.{Report}
use Rattle.pb_outcome.specs.declared.outcome.Form.{Form}
use Rattle.pb_forks.specs.declared.views.ForkView.{ForkView}
use Rattle.pb_forks.specs.declared.views.MainView.{MainView}
use Rattle.pb_forks.specs.declared.views.Lodged.TheVariants.{Here, Away}
use Rattle.pb_forks.specs.declared.views.View.{View}
use Rattle.pb_forks.specs.declared.views.View.TheVariants.{Main}
use Rattle.pb_forks.specs.declared.seats.ForkSeat.{ForkSeat}
use Rattle.pb_forks.specs.Logs.{Rises, offers_of, collects_of, Answered, job_tickets, report_tickets, AnsweredSoFar}
use Rattle.pb_forks.specs.Rule.{Phase, idle, offered, taken, answered, shut, word_of, Home, Slot, Lists, Empty, Stands, ForkOk, Kept}
use Rattle.pb_forks.specs.Mailbox.{IsWord, Row, parcel_at, Lies, HasLists, IsMailbox, MailboxesHold, NothingFollowsShut}
use Rattle.pb_forks.specs.Steps.{offer, take, answer, collect, shut as shuts}
use Rattle.std.specs.Prelude.{All, sum_by, IsPermutation}
use Rattle.pb_forks.specs.Ends.{EndedFork, IsJoined, HasEqualLists}
use Rattle.pb_forks.specs.Views.{MainSees, fork_of, main_joined, upto}
use Rattle.pb_forks.specs.Seats.{rejoin, number, IsEachOnce}
use Rattle.pb_forks.proofs.Keeps.{fork_at}

pub rejoin_snoc : (xs : List ForkSeat) (s : ForkSeat) (m : MainView) → rejoin (xs ++ s ∷ []) m ≡ main_joined s.fork (fork_of s.seat.me.0) (rejoin xs m)
rejoin_snoc [] s m = refl
rejoin_snoc (x ∷ xs) s m = rejoin_snoc xs s (main_joined x.fork (fork_of x.seat.me.0) m)

pub nothing_follows_shut : NothingFollowsShut
nothing_follows_shut offer t n h = let a = h.0 in omega arith
nothing_follows_shut take t n h = let a = h.0 in omega arith
nothing_follows_shut answer t n h = let a = h.0 in omega arith
nothing_follows_shut collect t n h = let a = h.0 in omega arith
nothing_follows_shut shuts t n h = let a = h.0 in omega arith

word_is : (ph : Phase) → IsWord (word_of ph)
word_is idle e = inl refl
word_is (offered x) e = absurd (omega arith)
word_is (taken b x) e = absurd (omega arith)
word_is (answered r) e = absurd (omega arith)
word_is shut e = inr refl

is_true : (b : Bool) → Dec (b ≡ true)
is_true true = yes refl
is_true false = no (λ e. true≢false (sym e))

-- no parcel lies in an empty slot, or in one that is out
no_parcel : (IsOut : Type 0) (home : Home) → Empty IsOut home → Dec IsOut → parcel_at home ≡ None
no_parcel IsOut home h (yes d) = ap parcel_at (h.0 d)
no_parcel IsOut home h (no d) = ap parcel_at (h.1 d)

module _ (allows : Job → Form → Type 0) where
  tickets : (xs : List Job) (rs : List Report) → Answered allows xs rs → job_tickets xs ≡ report_tickets rs
  tickets [] [] h = refl
  tickets [] (r ∷ rs) h = absurd h
  tickets (x ∷ xs) [] h = absurd h
  tickets (x ∷ xs) (r ∷ rs) h = λ i. ap (λ t. t.0) (sym h.0.0) i ∷ tickets xs rs h.1 i

  module _ (j : ℕ) (home : Home) (os : List Job) (cs : List Report) (hand : ℕ) (p : ForkView) where
    row : (ph : Phase) → Lists allows j home os cs hand p ph → Row (word_of ph) (job_tickets os) (job_tickets p.takes) (report_tickets p.answers) (report_tickets cs)
    row idle l = ((λ _. (ap job_tickets l.0, tickets p.takes p.answers l.2, ap report_tickets (sym l.1))), (λ e. absurd (omega arith)), (λ e. absurd (omega arith)), λ e. absurd (omega arith))
    row (offered x) l =
        let t : (4 * x.ticket.0 + 1) / 4 ≡ x.ticket.0 = omega arith in (
          (λ e. absurd (omega arith)),
          (λ _. (ap job_tickets l.0 ∙ map-append (λ (y : Job). y.ticket.0) p.takes (x ∷ []) ∙ ap (λ n. job_tickets p.takes ++ n ∷ []) (sym t), tickets p.takes p.answers l.2, ap report_tickets (sym l.1))),
          (λ e. absurd (omega arith)),
          λ e. absurd (omega arith),
        )
    row (taken b x) l =
        let t : (4 * x.ticket.0 + 2) / 4 ≡ x.ticket.0 = omega arith in (
          (λ e. absurd (omega arith)),
          (λ e. absurd (omega arith)),
          (λ _. (ap job_tickets l.0, ap job_tickets l.2 ∙ map-append (λ (y : Job). y.ticket.0) b (x ∷ []) ∙ (λ i. tickets b p.answers l.3 i ++ sym t i ∷ []), ap report_tickets (sym l.1))),
          λ e. absurd (omega arith),
        )
    row (answered r) l =
        let t : (4 * r.ticket.0 + 3) / 4 ≡ r.ticket.0 = omega arith in (
          (λ e. absurd (omega arith)),
          (λ e. absurd (omega arith)),
          (λ e. absurd (omega arith)),
          λ _. (ap job_tickets l.0, tickets p.takes p.answers l.2, ap report_tickets l.1 ∙ map-append (λ (y : Report). y.ticket.0) cs (r ∷ []) ∙ ap (λ n. report_tickets cs ++ n ∷ []) (sym t)),
        )
    row shut l = ((λ _. (ap job_tickets l.0, tickets p.takes p.answers l.2, ap report_tickets (sym l.1))), (λ e. absurd (omega arith)), (λ e. absurd (omega arith)), λ e. absurd (omega arith))

    takes_first : (ph : Phase) → Lists allows j home os cs hand p ph → (left : List Job) × (os ≡ p.takes ++ left)
    takes_first idle l = ([], l.0 ∙ sym (append-nil p.takes))
    takes_first (offered x) l = (x ∷ [], l.0)
    takes_first (taken b x) l = ([], l.0 ∙ sym (append-nil p.takes))
    takes_first (answered r) l = ([], l.0 ∙ sym (append-nil p.takes))
    takes_first shut l = ([], l.0 ∙ sym (append-nil p.takes))

    collects_first : (ph : Phase) → Lists allows j home os cs hand p ph → (left : List Report) × (p.answers ≡ cs ++ left)
    collects_first idle l = ([], sym l.1 ∙ sym (append-nil cs))
    collects_first (offered x) l = ([], sym l.1 ∙ sym (append-nil cs))
    collects_first (taken b x) l = ([], sym l.1 ∙ sym (append-nil cs))
    collects_first (answered r) l = (r ∷ [], l.1)
    collects_first shut l = ([], sym l.1 ∙ sym (append-nil cs))

    all_fit : (ph : Phase) → Lists allows j home os cs hand p ph → AnsweredSoFar allows p.takes p.answers
    all_fit idle l = (p.takes, [], sym (append-nil p.takes), l.2)
    all_fit (offered x) l = (p.takes, [], sym (append-nil p.takes), l.2)
    all_fit (taken b x) l = (b, x ∷ [], l.2, l.3)
    all_fit (answered r) l = (p.takes, [], sym (append-nil p.takes), l.2)
    all_fit shut l = (p.takes, [], sym (append-nil p.takes), l.2)

    lies : (ph : Phase) → Lists allows j home os cs hand p ph → Lies (word_of ph) (parcel_at home) os p.answers
    lies idle l = ((λ _. no_parcel _ home l.3 (ℕ_discrete hand (j + 1))), (λ e. absurd (omega arith)), (λ e. absurd (omega arith)), λ e. absurd (omega arith))
    lies (offered x) l = ((λ e. absurd (omega arith)), (λ _. (x, ap parcel_at l.3, (p.takes, l.0))), (λ e. absurd (omega arith)), λ e. absurd (omega arith))
    lies (taken b x) l = ((λ e. absurd (omega arith)), (λ e. absurd (omega arith)), (λ _. no_parcel _ home l.4 (is_true p.holds)), λ e. absurd (omega arith))
    lies (answered r) l = ((λ e. absurd (omega arith)), (λ e. absurd (omega arith)), (λ e. absurd (omega arith)), λ _. (r, ap parcel_at l.3, (cs, l.1)))
    lies shut l = ((λ _. no_parcel _ home l.3 (ℕ_discrete hand (j + 1))), (λ e. absurd (omega arith)), (λ e. absurd (omega arith)), λ e. absurd (omega arith))

    has_lists : (ph : Phase) → Lists allows j home os cs hand p ph → HasLists allows (word_of ph) os p.takes p.answers cs
    has_lists ph l = record { word = word_is ph; row = row ph l; taken = takes_first ph l; collected = collects_first ph l; fits = all_fit ph l }

  pub is_mailbox : (j w : ℕ) (home : Home) (os : List Job) (cs : List Report) (seen hand : ℕ) (p : ForkView) → ForkOk allows j w home os cs seen hand p → IsMailbox allows j w home os cs seen hand p
  is_mailbox j w home os cs seen hand p ok = record {
    lists = subst (λ n. HasLists allows n os p.takes p.answers cs) (sym ok.word_is) (has_lists j home os cs hand p ok.phase ok.lists);
    parcel = subst (λ n. Lies n (parcel_at home) os p.answers) (sym ok.word_is) (lies j home os cs hand p ok.phase ok.lists);
    main_sees = ok.main_sees;
    fork_sees = ok.fork_sees;
  }

  pub mailboxes_hold : MailboxesHold allows
  mailboxes_hold k s r = record {
    main_id = r.main_id;
    main = r.main;
    part = r.part;
    owner = r.owner;
    wide = r.wide;
    deep = r.deep;
    sees_all = r.sees_all;
    all_parts = r.all_parts;
    rises = r.rises;
    each_fork = λ j l. is_mailbox j _ _ _ _ _ _ _ (r.each_fork j l);
    main_seat = r.main_seat;
    stands = r.stands;
    each_seat = r.each_seat;
  }

  pub ended_fork : (k : ℕ) (ws : List ℕ) (xs : List Slot) (id : ℕ) (v : View) (m : MainView) → v ≡ Main m → Final (Seen (Kept allows k) id v) ws xs → (j : ℕ) (p : ForkView) → j < k → get_or m.parts j Away ≡ Here p → EndedFork allows j (get_or ws j 0) m p
  ended_fork k ws xs id v m is f j p lt here =
      let s = f.0 in
      let r = f.1.0 in
      let at : get_elem? s.views id ≡ some (Main m) = f.1.1 ∙ ap some is in
      let ok = fork_at allows k s r id m at j lt in
      let stood = subst (λ (z : MainView). Stands s.views r.owner j (r.part j) (get_or z.parts j Away)) (sym (r.each_seat id (Main m) at).1) (r.stands j lt) in
      let same : p ≡ r.part j = subst (Stands s.views r.owner j (r.part j)) here stood in
      let q = r.part j in
      let os = offers_of j m.log in
      let cs = collects_of j m.log in
      let word : word_of ok.phase ≡ get_or ws j 0 = sym ok.word_is ∙ ap (λ ls. get_or ls j 0) f.2 in
      subst (EndedFork allows j (get_or ws j 0) m) (sym same)
      (record {
        sees = subst (MainSees (get_or m.seen j 0)) (ap (λ ls. get_or ls j 0) f.2) ok.main_sees;
        lists = subst (λ n. HasLists allows n os q.takes q.answers cs) word (has_lists j (get_elem? s.homes j) os cs m.hand q ok.phase ok.lists);
      })

-- a fork that was shut has four equal lists
pub equal_when_shut : (allows : Job → Form → Type 0) (j w : ℕ) (m : MainView) (p : ForkView) → get_or m.seen j 0 ≡ 4 → EndedFork allows j w m p → (w ≡ 4) × HasEqualLists j m p
equal_when_shut allows j w m p four t =
    let is : w ≡ 4 = t.sees.0 (ap (λ n. n % 4) four) ∙ four in
    (is, t.lists.row.0 (ap (λ n. n % 4) is))

pub rejoin_log : (xs : List ForkSeat) (m : MainView) → (rejoin xs m).log ≡ m.log
rejoin_log [] m = refl
rejoin_log (x ∷ xs) m = rejoin_log xs (main_joined x.fork (fork_of x.seat.me.0) m)

pub rejoin_seen : (xs : List ForkSeat) (m : MainView) → (rejoin xs m).seen ≡ m.seen
rejoin_seen [] m = refl
rejoin_seen (x ∷ xs) m = rejoin_seen xs (main_joined x.fork (fork_of x.seat.me.0) m)

rejoin_parts : (xs : List ForkSeat) (m : MainView) → length (rejoin xs m).parts ≡ length m.parts
rejoin_parts [] m = refl
rejoin_parts (x ∷ xs) m = rejoin_parts xs (main_joined x.fork (fork_of x.seat.me.0) m) ∙ length-set m.parts x.fork (Here (fork_of x.seat.me.0))

-- 1 where n is j, else 0
abbrev hit : ℕ → ℕ → ℕ
hit j n = cond (eqb n j) 1 0

-- how often j stands in a list
abbrev times : ℕ → List ℕ → ℕ
times j ns = sum_by (hit j) ns

one_here : (n j : ℕ) → n ≡ j → hit j n ≡ 1
one_here n j e = ap (λ b. cond b 1 0) (eq-eqb n j e)

none_here : (n j : ℕ) → n ≢ j → hit j n ≡ 0
none_here n j ne = ap (λ b. cond b 1 0) (ne_eqb n j ne)

times_cons : (j n : ℕ) (ns : List ℕ) → times j (n ∷ ns) ≡ hit j n + times j ns
times_cons j n ns = sum_by-cons (hit j) n ns

upto_none : (j k : ℕ) → k ≤ j → times j (upto k) ≡ 0
upto_none j zero le = refl
upto_none j (suc n) le =
    let a = sum_by_push (hit j) (upto n) n in
    let b = upto_none j n (omega arith) in
    let c = none_here n j (λ e. omega arith) in
    omega arith

upto_once : (j k : ℕ) → j < k → times j (upto k) ≡ 1
upto_once j zero lt = absurd (omega arith)
upto_once j (suc n) lt =
    let a = sum_by_push (hit j) (upto n) n in
    dite (ℕ_discrete n j)
    (λ e. let b = upto_none j n (omega arith) in let c = one_here n j e in omega arith)
    (λ ne. let b = upto_once j n (omega arith) in let c = none_here n j ne in omega arith)

-- a seat stands in the list as often as its number
once : (k j : ℕ) (ns : List ℕ) → IsPermutation (upto k) ns → j < k → times j ns ≡ 1
once k j ns e lt = sum_by-IsPermutation (hit j) (upto k) ns e ∙ upto_once j k lt

never : (k j : ℕ) (ns : List ℕ) → IsPermutation (upto k) ns → k ≤ j → times j ns ≡ 0
never k j ns e le = sum_by-IsPermutation (hit j) (upto k) ns e ∙ upto_none j k le

rejoin_none : (j : ℕ) (xs : List ForkSeat) (m : MainView) → times j (map number xs) ≡ 0 → get_or (rejoin xs m).parts j Away ≡ get_or m.parts j Away
rejoin_none j [] m e = refl
rejoin_none j (x ∷ xs) m e =
    let a = times_cons j x.fork (map number xs) in
    let ne : x.fork ≢ j = λ is. (let b = one_here x.fork j is in omega arith) in
    rejoin_none j xs (main_joined x.fork (fork_of x.seat.me.0) m) (omega arith) ∙ get_or-set_other m.parts x.fork j (Here (fork_of x.seat.me.0)) Away (λ c. ne (sym c))

-- the seat of fork j stands in the list
joined_once : (j : ℕ) (xs : List ForkSeat) (m : MainView) → times j (map number xs) ≡ 1 → j < length m.parts → (p : ForkView) × IsJoined (rejoin xs m) j p
joined_once j [] m e lt = absurd (omega arith)
joined_once j (x ∷ xs) m e lt =
    let p = fork_of x.seat.me.0 in
    let m' = main_joined x.fork p m in
    let a = times_cons j x.fork (map number xs) in
    dite (ℕ_discrete x.fork j)
    (λ is. let b = one_here x.fork j is in (p, rejoin_none j xs m' (omega arith) ∙ (ap (λ n. get_or (set m.parts n (Here p)) j Away) is ∙ get_or-set_same m.parts j (Here p) Away lt)))
    (λ ne. let b = none_here x.fork j ne in let long : length m'.parts ≡ length m.parts = length-set m.parts x.fork (Here p) in joined_once j xs m' (omega arith) (omega arith))

-- numbers that stand once at most, each of them below n
abbrev AreOnce : ℕ → List ForkSeat → Type 0
AreOnce n xs = (j : ℕ) → (times j (map number xs) ≤ 1) × (n ≤ j → times j (map number xs) ≡ 0)

less_once : (n : ℕ) (x : ForkSeat) (xs : List ForkSeat) → AreOnce n (x ∷ xs) → AreOnce n xs
less_once n x xs h j =
    let a = times_cons j x.fork (map number xs) in
    let b = (h j).0 in
    (omega arith, λ le. (let c = (h j).1 le in omega arith))

joined_each : (n : ℕ) (xs : List ForkSeat) (m : MainView) → AreOnce n xs → length m.parts ≡ n → All (λ s. IsJoined (rejoin xs m) s.fork (fork_of s.seat.me.0)) xs
joined_each n [] m h long i d lt = absurd (omega arith)
joined_each n (x ∷ xs) m h long zero d lt =
    let p = fork_of x.seat.me.0 in
    let a = times_cons x.fork x.fork (map number xs) in
    let b = one_here x.fork x.fork refl in
    let c = (h x.fork).0 in
    let within : x.fork < n = ⊎_elim (λ l. l) (λ ge. let z = (h x.fork).1 ge in absurd (omega arith)) (cases_lt x.fork n) in
    rejoin_none x.fork xs (main_joined x.fork p m) (omega arith) ∙ get_or-set_same m.parts x.fork (Here p) Away (omega arith)
joined_each n (x ∷ xs) m h long (suc i) d lt =
    let p = fork_of x.seat.me.0 in
    joined_each n xs (main_joined x.fork p m) (less_once n x xs h) (length-set m.parts x.fork (Here p) ∙ long) i d (omega arith)

are_once : (k : ℕ) (xs : List ForkSeat) → IsEachOnce k xs → AreOnce k xs
are_once k xs e j =
    let le : times j (map number xs) ≤ 1 = ⊎_elim (λ lt. let a = once k j (map number xs) e lt in omega arith) (λ ge. let a = never k j (map number xs) e ge in omega arith) (cases_lt j k) in
    (le, never k j (map number xs) e)

pub joined_all : (xs : List ForkSeat) (k : ℕ) (m : MainView) → IsEachOnce k xs → length (rejoin xs m).parts ≡ k → All (λ s. IsJoined (rejoin xs m) s.fork (fork_of s.seat.me.0)) xs
joined_all xs k m e long = joined_each k xs m (are_once k xs e) (sym (rejoin_parts xs m) ∙ long)

pub joined_at : (xs : List ForkSeat) (k : ℕ) (m : MainView) → IsEachOnce k xs → length (rejoin xs m).parts ≡ k → (j : ℕ) → j < k → (p : ForkView) × IsJoined (rejoin xs m) j p
joined_at xs k m e long j lt =
    let same = rejoin_parts xs m in
    joined_once j xs m (once k j (map number xs) e lt) (omega arith)

pub parts_at_end : (allows : Job → Form → Type 0) (k : ℕ) (ws : List ℕ) (xs : List Slot) (id : ℕ) (v : View) (m : MainView) → v ≡ Main m → Final (Seen (Kept allows k) id v) ws xs → length m.parts ≡ k
parts_at_end allows k ws xs id v m is f =
    let r = f.1.0 in
    ap (λ (z : MainView). length z.parts) (r.each_seat id (Main m) (f.1.1 ∙ ap some is)).1 ∙ r.all_parts

pub rises_at_end : (allows : Job → Form → Type 0) (k : ℕ) (ws : List ℕ) (xs : List Slot) (id : ℕ) (v : View) (m : MainView) → v ≡ Main m → Final (Seen (Kept allows k) id v) ws xs → Rises 0 m.log
rises_at_end allows k ws xs id v m is f =
    let r = f.1.0 in
    subst (λ (z : MainView). Rises 0 z.log) (sym (r.each_seat id (Main m) (f.1.1 ∙ ap some is)).1) r.rises
