-- The counts in the rows are the recap from scratch.
use Rattle.std.proofs.Common.{◌≡◌, ℕ, zero, suc, ◌+◌, ◌<◌, Bool, true, false, ◌&&◌, List, [], ◌∷◌, length, map, refl, sym, ap, ◌∙◌, arith}
use Rattle.std.specs.Prelude.{◌==◌, Option, Some, None, option_map, slice_get, slice_set, if◌then◌else◌}
use Rattle.std.specs.Option.{option_map_or}
use Rattle.std.proofs.Math.Dec.{eqb-suc-zero, eqb-zero-suc, eqb-suc-suc}
use Rattle.std.proofs.lemmas.List.{length-map, length-set}
use Rattle.pb_ids.specs.declared.numbers.Ticket.{Ticket}
use Rattle.pb_outcome.specs.declared.item.Item.{Item}
use Rattle.pb_outcome.specs.declared.job.Report.{Report}
use Rattle.pb_outcome.specs.declared.outcome.Form.{Form}
use Rattle.pb_outcome.specs.Items.{is_over}
use Rattle.pb_tree.specs.Tree.{TreeOf}
use Rattle.pb_inventory.specs.InventoryOf.{InventoryOf}
use Rattle.pb_state.specs.FromTaskVars.{items_at, DelegatedFacts}
use Rattle.pb_state.specs.declared.event.Event.{Event}
use Rattle.pb_state.specs.declared.event.Event.TheVariants.{Open, Start, Send, Report as Reported, Turn, Close, Stop, Forks}
use Rattle.pb_host.specs.declared.host.Counts.{Counts}
use Rattle.pb_host.specs.declared.host.Running.{Running}
use Rattle.pb_plan.specs.Plan.{PlayOf, PlanOf}
use Rattle.pb_state.specs.FromHosts.{room_behind, joined_first, change, at_row, takes, with_delegated, gifts_at, report_gives}
use Rattle.pb_host.specs.Host.{HostOf, first_rows, next_place, as_play_begins, left, ended, pending, ignores_at, caught_at, meta_at, task_at, items_after, progressed, sent, reported, reported_running}
use Rattle.pb_state.specs.State.{State}
use Rattle.pb_host.specs.StepResults.{done_at, done_if, report_result, step_result_by}
use Rattle.pb_state.specs.Machine.{open_play, possible, after, first_state, after_open, started_in, facts_at, plan_seen, start_at, start_with, sent_in, reported_in, pending_at, batch_of, turned_in, may_start_in, next_at, may_report_in, same_place}
use Rattle.pb_state.specs.Run.{legal_from, state_from, IsLegal, state_after, IsRun}
use Rattle.pb_state.proofs.FromHosts.{length-joined, length-given, length-first, Goes, goes_counts, turned_by_case, turned_hosts as length-turned}
use Rattle.pb_state.proofs.Stands.{stands_at, start_stands}
use Rattle.pb_state.proofs.Opening.{open_case, rows_case}
use Rattle.pb_lanes.specs.declared.kind.CountKind.{CountKind}
use Rattle.pb_lanes.specs.declared.kind.CountKind.TheVariants.{Okay, Changed, Unreachable, Failed, Skipped, Rescued, Ignored}
use Rattle.pb_recap.specs.Kinds.{count_of}
use Rattle.pb_recap.specs.Recap.{by_host, ended_by, ended_in, finishes, counts_under, counted, count_from, counts_from, hosts_from, recap}
use Rattle.pb_recap.proofs.Formed.{one, none_more, task_counts}

-- one row's count of a kind
abbrev row_count : CountKind → List HostOf → ℕ → ℕ
row_count kind [] h = 0
row_count kind (row ∷ rows) zero = count_of kind row.counts
row_count kind (row ∷ rows) (suc h) = row_count kind rows h

joined_keeps : (kind : CountKind) (tree : TreeOf) (room : ℕ) (rows : List HostOf) (k : ℕ) → row_count kind (joined_first tree room rows) k ≡ row_count kind rows k
joined_keeps kind tree room [] k = refl
joined_keeps kind tree room (row ∷ rows) zero = refl
joined_keeps kind tree room (row ∷ rows) (suc k) = joined_keeps kind tree (room_behind room row.awaits_batch) rows k

called_keeps : (kind : CountKind) (hosts : List Bool) (rows : List HostOf) (k : ℕ) → row_count kind (map (as_play_begins hosts) rows) k ≡ row_count kind rows k
called_keeps kind hosts [] k = refl
called_keeps kind hosts (row ∷ rows) zero = refl
called_keeps kind hosts (row ∷ rows) (suc k) = called_keeps kind hosts rows k

left_keeps : (kind : CountKind) (rows : List HostOf) (k : ℕ) → row_count kind (map left rows) k ≡ row_count kind rows k
left_keeps kind [] k = refl
left_keeps kind (row ∷ rows) zero = refl
left_keeps kind (row ∷ rows) (suc k) = left_keeps kind rows k

change_on : (row : HostOf) (rows : List HostOf) (h : ℕ) (f : HostOf → HostOf) (found : Option HostOf) → slice_get rows h ≡ found → change (row ∷ rows) (suc h) f ≡ row ∷ change rows h f
change_on row rows h f None e = rw e refl
change_on row rows h f (Some r) e = rw e refl

change_none : (rows : List HostOf) (h : ℕ) (f : HostOf → HostOf) → slice_get rows h ≡ None → change rows h f ≡ rows
change_none rows h f e = rw e refl

-- what the change of one row, that adds n there, adds to each
abbrev added : ℕ → ℕ → ℕ → ℕ
added n h k = if h == k then n else 0

changed_count : (kind : CountKind) (f : HostOf → HostOf) (n : ℕ) (rows : List HostOf) (h k : ℕ) → k < length rows
    → ((row : HostOf) → slice_get rows h ≡ Some row → count_of kind (f row).counts ≡ n + count_of kind row.counts)
    → row_count kind (change rows h f) k ≡ added n h k + row_count kind rows k
changed_count kind f n [] h k b adds = absurd (omega arith)
changed_count kind f n (row ∷ rows) zero zero b adds = adds row refl
changed_count kind f n (row ∷ rows) zero (suc k) b adds = rw (eqb-zero-suc k) (none_more (row_count kind rows k))
changed_count kind f n (row ∷ rows) (suc h) zero b adds = rw (change_on row rows h f (slice_get rows h) refl, eqb-suc-zero h) (none_more (count_of kind row.counts))
changed_count kind f n (row ∷ rows) (suc h) (suc k) b adds =
    rw (change_on row rows h f (slice_get rows h) refl, eqb-suc-suc h k) (changed_count kind f n rows h k (omega arith) adds)

if_both : (a b : Bool) → (if a && b then 1 else 0) ≡ (if a then one b else 0)
if_both true b = refl
if_both false b = refl

abbrev nothing : ℕ
nothing = 0

none_if : (a : Bool) → nothing ≡ (if a then 0 else 0)
none_if true = refl
none_if false = refl

-- a task that has come to these items counts where it is over
abbrev items_add : CountKind → PlayOf → ℕ → List Item → ℕ
items_add kind play p items = if is_over items then one (counts_under kind (task_at play p items)) else 0

progressed_row : (kind : CountKind) (inventory : InventoryOf) (play : PlayOf) (p : ℕ) (items : List Item) (row : HostOf) → count_of kind (progressed inventory play p items row).counts ≡ items_add kind play p items + count_of kind row.counts
progressed_row kind inventory play p items row = by_over (is_over items)
  where
    by_over : (over : Bool) → count_of kind (if over then ended inventory play p items row else record row { running = Some (record { place = p; items = items; out = None }) }).counts
        ≡ (if over then one (counts_under kind (task_at play p items)) else 0) + count_of kind row.counts
    by_over true = task_counts (ignores_at play p) items (caught_at play p) (meta_at play p) row.counts kind
    by_over false = none_more (count_of kind row.counts)

progressed_counted : (kind : CountKind) (play : PlayOf) (p : ℕ) (marks : List Bool) (items : List Item) (h k : ℕ) → counted k kind (option_map (by_host h) (done_if play p marks items)) ≡ added (items_add kind play p items) h k
progressed_counted kind play p marks items h k = by_over (is_over items)
  where
    by_over : (over : Bool) → counted k kind (option_map (by_host h) (if over then Some (done_at play p marks items) else None)) ≡ added (if over then one (counts_under kind (task_at play p items)) else 0) h k
    by_over true = if_both (h == k) (counts_under kind (task_at play p items))
    by_over false = none_if (h == k)

-- what hosts are given doesn't count
takes_keep : (kind : CountKind) (gift : DelegatedFacts) (rows : List HostOf) (h k : ℕ) → row_count kind (change rows h (takes gift)) k ≡ row_count kind rows k
takes_keep kind gift [] h k = refl
takes_keep kind gift (row ∷ rows) zero zero = refl
takes_keep kind gift (row ∷ rows) zero (suc k) = refl
takes_keep kind gift (row ∷ rows) (suc h) zero = rw (change_on row rows h (takes gift) (slice_get rows h) refl) refl
takes_keep kind gift (row ∷ rows) (suc h) (suc k) = rw (change_on row rows h (takes gift) (slice_get rows h) refl) (takes_keep kind gift rows h k)

given_keep : (kind : CountKind) (gifts : List DelegatedFacts) (rows : List HostOf) (k : ℕ) → row_count kind (with_delegated gifts rows) k ≡ row_count kind rows k
given_keep kind [] rows k = refl
given_keep kind (gift ∷ gifts) rows k = given_keep kind gifts (change rows gift.host.0 (takes gift)) k ∙ takes_keep kind gift rows gift.host.0 k

-- a task that starts
start_with_counts : (kind : CountKind) (inventory : InventoryOf) (s : State) (h k : ℕ) (play : PlayOf) (p : ℕ) (items : List Item) → k < length s.rows
    → row_count kind (start_with inventory s h play p items).rows k ≡ counted k kind (ended_in (start_with inventory s h play p items) h) + row_count kind s.rows k
start_with_counts kind inventory s h k play p items b =
    given_keep kind (gifts_at inventory play p h items) (change s.rows h (progressed inventory play p items)) k
    ∙ changed_count kind (progressed inventory play p items) (items_add kind play p items) s.rows h k b (λ row e. progressed_row kind inventory play p items row)
    ∙ ap (λ n. n + row_count kind s.rows k) (sym (progressed_counted kind play p (pending_at s h) items h k))

-- no host starts where there is no place
no_same : (a : Bool) (q : Option ℕ) → (a && same_place q None) ≡ true → ⊥
no_same false q e = cc
no_same true None e = cc
no_same true (Some p) e = cc

no_start : (found : Option HostOf) → option_map_or (stands_at None) found false ≡ true → ⊥
no_start None e = cc
no_start (Some row) e = no_same _ (next_place row) e

start_counts : (kind : CountKind) (plan : PlanOf) (s : State) (h k : ℕ) (play : PlayOf) (place : Option ℕ) → k < length s.rows → at_row (stands_at place) s.rows h ≡ true
    → row_count kind (option_map_or (start_at plan s h play) place s).rows k ≡ counted k kind (ended_in (option_map_or (start_at plan s h play) place s) h) + row_count kind s.rows k
start_counts kind plan s h k play None b may = absurd (no_start (slice_get s.rows h) may)
start_counts kind plan s h k play (Some p) b may = start_with_counts kind plan.inventory s h k play p (items_at (plan_seen plan s) play h (facts_at s h) p) b

started_counts : (kind : CountKind) (plan : PlanOf) (s : State) (h k : ℕ) (found : Option PlayOf) → k < length s.rows → option_map_or (may_start_in s h) found false ≡ true
    → row_count kind (option_map_or (started_in plan s h) found s).rows k ≡ counted k kind (ended_in (option_map_or (started_in plan s h) found s) h) + row_count kind s.rows k
started_counts kind plan s h k None b may = cc
started_counts kind plan s h k (Some play) b may = start_counts kind plan s h k play (next_at s h) b (start_stands s h play may)

-- a job that goes out ends no task
sent_row : (kind : CountKind) (ticket : Ticket) (row : HostOf) → count_of kind (sent ticket row).counts ≡ 0 + count_of kind row.counts
sent_row kind ticket row = none_more (count_of kind row.counts)

sent_counts : (kind : CountKind) (s : State) (h k : ℕ) (ticket : Ticket) (found : Option PlayOf) → k < length s.rows → row_count kind (option_map_or (sent_in s h ticket) found s).rows k ≡ 0 + row_count kind s.rows k
sent_counts kind s h k ticket None b = none_more (row_count kind s.rows k)
sent_counts kind s h k ticket (Some play) b =
    changed_count kind (sent ticket) 0 s.rows h k b (λ row e. sent_row kind ticket row) ∙ ap (λ n. n + row_count kind s.rows k) (sym (none_if (h == k)))

-- a report counts where it ends the task that waited for it
abbrev report_adds : CountKind → PlanOf → PlayOf → Form → HostOf → Option Running → ℕ
report_adds kind plan play outcome row None = 0
report_adds kind plan play outcome row (Some r) = items_add kind play r.place (items_after plan play row.host row.facts outcome r)

report_row : (kind : CountKind) (plan : PlanOf) (play : PlayOf) (outcome : Form) (row : HostOf) (running : Option Running)
    → count_of kind (option_map_or (reported_running plan play outcome row) running row).counts ≡ report_adds kind plan play outcome row running + count_of kind row.counts
report_row kind plan play outcome row None = none_more (count_of kind row.counts)
report_row kind plan play outcome row (Some r) = progressed_row kind plan.inventory play r.place (items_after plan play row.host row.facts outcome r) row

report_counted : (kind : CountKind) (plan : PlanOf) (play : PlayOf) (outcome : Form) (h k : ℕ) (row : HostOf) (running : Option Running)
    → counted k kind (option_map_or (ended_by h) (option_map (step_result_by plan play outcome row) running) None) ≡ added (report_adds kind plan play outcome row running) h k
report_counted kind plan play outcome h k row None = none_if (h == k)
report_counted kind plan play outcome h k row (Some r) = progressed_counted kind play r.place (pending row) (items_after plan play row.host row.facts outcome r) h k

report_counts : (kind : CountKind) (plan : PlanOf) (play : PlayOf) (outcome : Form) (rows : List HostOf) (h k : ℕ) (found : Option HostOf) → slice_get rows h ≡ found → k < length rows
    → row_count kind (change rows h (reported plan play outcome)) k ≡ counted k kind (option_map_or (ended_by h) (option_map_or (report_result plan play outcome) found None) None) + row_count kind rows k
report_counts kind plan play outcome rows h k None e b = rw (change_none rows h (reported plan play outcome) e) (none_more (row_count kind rows k))
report_counts kind plan play outcome rows h k (Some row) e b =
    changed_count kind (reported plan play outcome) (report_adds kind plan play outcome row row.running) rows h k b
    (λ r q. let same : r ≡ row = cc in rw same (report_row kind plan play outcome row row.running))
    ∙ ap (λ n. n + row_count kind rows k) (sym (report_counted kind plan play outcome h k row row.running))

reported_counts : (kind : CountKind) (plan : PlanOf) (s : State) (r : Report) (k : ℕ) (found : Option PlayOf) → k < length s.rows → option_map_or (may_report_in s r) found false ≡ true
    → row_count kind (option_map_or (reported_in plan s r) found s).rows k ≡ counted k kind (ended_in (option_map_or (reported_in plan s r) found s) r.host.0) + row_count kind s.rows k
reported_counts kind plan s r k None b may = cc
reported_counts kind plan s r k (Some play) b may =
    given_keep kind (report_gives (plan_seen plan s) play r.outcome r.host.0 s.rows) (change s.rows r.host.0 (reported (plan_seen plan s) play r.outcome)) k
    ∙ report_counts kind (plan_seen plan s) play r.outcome s.rows r.host.0 k (slice_get s.rows r.host.0) refl b

opened_counts : (kind : CountKind) (plan : PlanOf) (s : State) (k : ℕ) → row_count kind (after_open plan s).rows k ≡ row_count kind s.rows k
opened_counts kind plan s k =
    open_case (λ (new : State). row_count kind new.rows k ≡ row_count kind s.rows k) plan s (λ none. refl)
    (λ n batch sizes rows play size is.
    joined_keeps kind play.tree size rows k
    ∙ rows_case (λ (calls : List HostOf). row_count kind calls k ≡ row_count kind s.rows k) plan s n batch sizes rows play size is refl (λ hosts. called_keeps kind hosts s.rows k))

-- what a turn gives to hosts doesn't count
goes_keep : (kind : CountKind) (f : HostOf → HostOf) → Goes f → (rows : List HostOf) (k : ℕ) → row_count kind (map f rows) k ≡ row_count kind rows k
goes_keep kind f goes [] k = refl
goes_keep kind f goes (row ∷ rows) zero = ap (count_of kind) (goes_counts f goes row)
goes_keep kind f goes (row ∷ rows) (suc k) = goes_keep kind f goes rows k

turned_counts : (kind : CountKind) (inventory : InventoryOf) (s : State) (k : ℕ) (found : Option PlayOf) → row_count kind (option_map_or (turned_in inventory s) found s).rows k ≡ row_count kind s.rows k
turned_counts kind inventory s k None = refl
turned_counts kind inventory s k (Some play) =
    turned_by_case (λ (rows : List HostOf). row_count kind rows k ≡ row_count kind s.rows k) (λ f goes rows same. goes_keep kind f goes rows k ∙ same) inventory play (batch_of s) s.place refl

-- an event that is possible adds to a host's count what its finished task counts
step_counts : (plan : PlanOf) (s : State) (e : Event) (k : ℕ) (kind : CountKind) → k < length s.rows → possible plan s e ≡ true
    → row_count kind (after plan s e).rows k ≡ counted k kind (finishes plan s e) + row_count kind s.rows k
step_counts plan s Open k kind b may = opened_counts kind plan s k ∙ none_more (row_count kind s.rows k)
step_counts plan s (Start h) k kind b may = started_counts kind plan s h.0 k (open_play plan s) b may
step_counts plan s (Send h item attempt ticket) k kind b may = sent_counts kind s h.0 k ticket (open_play plan s) b
step_counts plan s (Reported r) k kind b may = reported_counts kind plan s r k (open_play plan s) b may
step_counts plan s Turn k kind b may = turned_counts kind plan.inventory s k (open_play plan s) ∙ none_more (row_count kind s.rows k)
step_counts plan s Close k kind b may = left_keeps kind s.rows k ∙ none_more (row_count kind s.rows k)
step_counts plan s Stop k kind b may = none_more (row_count kind s.rows k)
step_counts plan s (Forks n) k kind b may = none_more (row_count kind s.rows k)

-- no event adds or drops a host
changed_hosts : (rows : List HostOf) (h : ℕ) (f : HostOf → HostOf) (found : Option HostOf) → length (option_map_or (λ row. slice_set rows h (f row)) found rows) ≡ length rows
changed_hosts rows h f None = refl
changed_hosts rows h f (Some row) = length-set rows h (f row)

change_hosts : (rows : List HostOf) (h : ℕ) (f : HostOf → HostOf) → length (change rows h f) ≡ length rows
change_hosts rows h f = changed_hosts rows h f (slice_get rows h)

start_hosts : (plan : PlanOf) (s : State) (h : ℕ) (play : PlayOf) (place : Option ℕ) → length (option_map_or (start_at plan s h play) place s).rows ≡ length s.rows
start_hosts plan s h play None = refl
start_hosts plan s h play (Some p) =
    length-given (gifts_at plan.inventory play p h (items_at (plan_seen plan s) play h (facts_at s h) p)) (change s.rows h (progressed plan.inventory play p (items_at (plan_seen plan s) play h (facts_at s h) p)))
    ∙ change_hosts s.rows h (progressed plan.inventory play p (items_at (plan_seen plan s) play h (facts_at s h) p))

started_hosts : (plan : PlanOf) (s : State) (h : ℕ) (found : Option PlayOf) → length (option_map_or (started_in plan s h) found s).rows ≡ length s.rows
started_hosts plan s h None = refl
started_hosts plan s h (Some play) = start_hosts plan s h play (next_at s h)

sent_hosts : (s : State) (h : ℕ) (ticket : Ticket) (found : Option PlayOf) → length (option_map_or (sent_in s h ticket) found s).rows ≡ length s.rows
sent_hosts s h ticket None = refl
sent_hosts s h ticket (Some play) = change_hosts s.rows h (sent ticket)

reported_hosts : (plan : PlanOf) (s : State) (r : Report) (found : Option PlayOf) → length (option_map_or (reported_in plan s r) found s).rows ≡ length s.rows
reported_hosts plan s r None = refl
reported_hosts plan s r (Some play) =
    length-given (report_gives (plan_seen plan s) play r.outcome r.host.0 s.rows) (change s.rows r.host.0 (reported (plan_seen plan s) play r.outcome))
    ∙ change_hosts s.rows r.host.0 (reported (plan_seen plan s) play r.outcome)

opened_hosts : (plan : PlanOf) (s : State) → length (after_open plan s).rows ≡ length s.rows
opened_hosts plan s =
    open_case (λ (new : State). length new.rows ≡ length s.rows) plan s (λ none. refl)
    (λ n batch sizes rows play size is.
    length-joined play.tree size rows
    ∙ rows_case (λ (calls : List HostOf). length calls ≡ length s.rows) plan s n batch sizes rows play size is refl (λ hosts. length-map s.rows (as_play_begins hosts)))

turned_hosts : (inventory : InventoryOf) (s : State) (found : Option PlayOf) → length (option_map_or (turned_in inventory s) found s).rows ≡ length s.rows
turned_hosts inventory s None = refl
turned_hosts inventory s (Some play) = length-turned inventory play (batch_of s) s.place

step_hosts : (plan : PlanOf) (s : State) (e : Event) → length (after plan s e).rows ≡ length s.rows
step_hosts plan s Open = opened_hosts plan s
step_hosts plan s (Start h) = started_hosts plan s h.0 (open_play plan s)
step_hosts plan s (Send h item attempt ticket) = sent_hosts s h.0 ticket (open_play plan s)
step_hosts plan s (Reported r) = reported_hosts plan s r (open_play plan s)
step_hosts plan s Turn = turned_hosts plan.inventory s (open_play plan s)
step_hosts plan s Close = length-map s.rows left
step_hosts plan s Stop = refl
step_hosts plan s (Forks n) = refl

trail_hosts : (plan : PlanOf) (s : State) (trail : List Event) → length (state_from plan s trail).rows ≡ length s.rows
trail_hosts plan s [] = refl
trail_hosts plan s (e ∷ es) = trail_hosts plan (after plan s e) es ∙ step_hosts plan s e

both_left : (a b : Bool) → (a && b) ≡ true → a ≡ true
both_left true b e = refl
both_left false b e = cc

both_right : (a b : Bool) → (a && b) ≡ true → b ≡ true
both_right true b e = e
both_right false b e = cc

trail_counts : (plan : PlanOf) (s : State) (trail : List Event) (k : ℕ) (kind : CountKind) → legal_from plan s trail ≡ true → k < length s.rows
    → row_count kind (state_from plan s trail).rows k ≡ count_from plan s trail k kind + row_count kind s.rows k
trail_counts plan s [] k kind legal b = omega arith
trail_counts plan s (e ∷ es) k kind legal b =
    omega (
      arith,
      trail_counts plan (after plan s e) es k kind (both_right (possible plan s e) _ legal) (omega (arith, step_hosts plan s e, b)),
      step_counts plan s e k kind b (both_left (possible plan s e) _ legal),
    )

none_first : (h n k : ℕ) (kind : CountKind) → row_count kind (first_rows h n) k ≡ 0
none_first h zero k kind = refl
none_first h (suc n) zero Okay = refl
none_first h (suc n) zero Changed = refl
none_first h (suc n) zero Unreachable = refl
none_first h (suc n) zero Failed = refl
none_first h (suc n) zero Skipped = refl
none_first h (suc n) zero Rescued = refl
none_first h (suc n) zero Ignored = refl
none_first h (suc n) (suc k) kind = none_first (h + 1) n k kind

pub seven : (counts : Counts) (a b c d e f g : ℕ) → counts.ok ≡ a → counts.changed ≡ b → counts.unreachable ≡ c → counts.failed ≡ d → counts.skipped ≡ e → counts.rescued ≡ f → counts.ignored ≡ g
    → counts ≡ record { ok = a; changed = b; unreachable = c; failed = d; skipped = e; rescued = f; ignored = g }
seven counts a b c d e f g p q r s t u v = rw (← p, ← q, ← r, ← s, ← t, ← u, ← v) refl

of_counts : (counts : Counts) (plan : PlanOf) (s : State) (trail : List Event) (h : ℕ) → ((kind : CountKind) → count_of kind counts ≡ count_from plan s trail h kind) → counts ≡ counts_from plan s trail h
of_counts counts plan s trail h e = seven counts _ _ _ _ _ _ _ (e Okay) (e Changed) (e Unreachable) (e Failed) (e Skipped) (e Rescued) (e Ignored)

each_host : (plan : PlanOf) (s : State) (trail : List Event) (rows : List HostOf) (hosts : List (List ℕ)) (h : ℕ) → length rows ≡ length hosts
    → ((k : ℕ) (kind : CountKind) → k < length rows → row_count kind rows k ≡ count_from plan s trail (h + k) kind)
    → map (λ (row : HostOf). row.counts) rows ≡ hosts_from plan s trail h hosts
each_host plan s trail [] [] h e f = refl
each_host plan s trail [] (host ∷ hosts) h e f = absurd (omega (arith, e))
each_host plan s trail (row ∷ rows) [] h e f = absurd (omega (arith, e))
each_host plan s trail (row ∷ rows) (host ∷ hosts) h e f =
    let here : (kind : CountKind) → count_of kind row.counts ≡ count_from plan s trail h kind =
    λ kind. f zero kind (omega arith) ∙ ap (λ n. count_from plan s trail n kind) (let at : h + 0 ≡ h = omega arith in at) in
    let sizes_left : (k : ℕ) (kind : CountKind) → k < length rows → row_count kind rows k ≡ count_from plan s trail ((h + 1) + k) kind =
    λ k kind b. f (suc k) kind (omega (arith, b)) ∙ ap (λ n. count_from plan s trail n kind) (let at : h + suc k ≡ (h + 1) + k = omega arith in at) in
    rw (of_counts row.counts plan s trail h here, each_host plan s trail rows hosts (h + 1) (omega (arith, e)) sizes_left) refl

run_counts : (plan : PlanOf) (pool : ℕ) (trail : List Event) → IsLegal plan pool trail
    → map (λ (row : HostOf). row.counts) (state_after plan pool trail).rows ≡ recap plan pool trail
run_counts plan pool trail legal =
    let s : State = first_state plan plan.forks pool in
    let hosts : length (state_from plan s trail).rows ≡ length plan.inventory.hosts = trail_hosts plan s trail ∙ length-first 0 (length plan.inventory.hosts) in
    each_host plan s trail (state_from plan s trail).rows plan.inventory.hosts 0 hosts
    (λ k kind b. omega (arith, trail_counts plan s trail k kind legal (omega (arith, b, trail_hosts plan s trail)), none_first 0 (length plan.inventory.hosts) k kind, ap (λ n. count_from plan s trail n kind) (let at : 0 + k ≡ k = omega arith in at)))

-- the counts at the end of a legal run are the recap of its events
pub recap_of_run : (plan : PlanOf) (pool : ℕ) (trail : List Event) (s : State) → IsRun plan pool trail s → map (λ (row : HostOf). row.counts) s.rows ≡ recap plan pool trail
recap_of_run plan pool trail s run = ap (λ (t : State). map (λ (row : HostOf). row.counts) t.rows) (sym run.ends) ∙ run_counts plan pool trail run.legal
