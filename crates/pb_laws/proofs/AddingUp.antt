-- The five counts of a host come to the tasks that ended on it: each task that counts is of one kind among them.
use Rattle.std.proofs.Common.{◌≡◌, ℕ, ◌+◌, Bool, true, false, ◌&&◌, ◌||◌, not, List, [], ◌∷◌, refl, sym, ◌∙◌, ap, subst, arith}
use Rattle.std.specs.Prelude.{◌==◌, Option, Some, None, option_map, slice_get, is_none, if◌then◌else◌}
use Rattle.std.specs.List.{list_any, list_all}
use Rattle.std.specs.Option.{option_map_or}
use Rattle.std.proofs.lemmas.Bool.{eq-eqb}
use Rattle.pb_outcome.specs.declared.gather.ItemResult.{ItemResult}
use Rattle.pb_outcome.specs.declared.gather.TaskResult.{TaskResult}
use Rattle.pb_outcome.specs.declared.item.Item.{Item}
use Rattle.pb_outcome.specs.declared.job.Report.{Report}
use Rattle.pb_outcome.specs.Gathered.{some_unreachable, is_failed, is_skipped, is_changed, is_faulty, gathered}
use Rattle.pb_outcome.specs.Items.{ended, is_over}
use Rattle.pb_plan.specs.Plan.{PlayOf, PlanOf}
use Rattle.pb_play.specs.declared.modules.Meta.{Meta}
use Rattle.pb_task_vars.specs.Results.{items_at}
use Rattle.pb_host.specs.declared.step_result.StepResult.{StepResult}
use Rattle.pb_host.specs.declared.step_result.TaskDone.{TaskDone}
use Rattle.pb_state.specs.declared.event.Event.{Event}
use Rattle.pb_state.specs.declared.event.Event.TheVariants.{Open, Start, Send, Report as Reported, Turn, Close, Stop, Forks}
use Rattle.pb_host.specs.declared.host.Counts.{Counts}
use Rattle.pb_host.specs.declared.host.Running.{Running}
use Rattle.pb_host.specs.StepResults.{report_result, step_result_by, done_at, done_if}
use Rattle.pb_host.specs.Runs.{awaits}
use Rattle.pb_hosts.specs.Hosts.{one_if}
use Rattle.pb_state.specs.Machine.{possible, after, first_state, open_play, next_at, start_at, started_in, facts_at, plan_seen, reported_in, pending_at, may_start_in, may_report_in}
use Rattle.pb_state.specs.Once.{place_run_by}
use Rattle.pb_host.specs.Host.{HostOf, pending, ignores_at, caught_at, meta_at, items_after}
use Rattle.pb_state.specs.Run.{legal_from}
use Rattle.pb_state.specs.State.{State}
use Rattle.pb_state.proofs.StepNumbers.{and_left, and_right}
use Rattle.pb_state.proofs.Once.{start_place}
use Rattle.pb_state.proofs.Stands.{both}
use Rattle.pb_confluence.specs.FromRecap.{CountKind, Okay, Unreachable, Failed, Skipped, Rescued, has, status_of, by_host, ended_by, finishes, result_counts, counted, count_from, hosts_from, recap}
use Rattle.pb_laws.specs.History.{HostTask, Happening, MayRun, Starts, Sends, Reports, at_place, ended_in, ends_if, given_in, happenings, history_from, history}
use Rattle.pb_laws.specs.Laws.{so_far, counts, tasks_ended, add_up, has_trouble, status_tells, RecapAddsUp}
use Rattle.pb_laws.proofs.Telling.{row_at}
use Rattle.pb_laws.proofs.TaskTelling.{place_there, awaits_is}
use Rattle.pb_laws.proofs.BatchTelling.{rows_given}
use Rattle.pb_laws.proofs.Holding.{given_same, so_far_both}

-- ---- one task
-- unreachable, else failed, else skipped; and ignored only where it failed
abbrev formed : Bool → Bool → Bool → Bool → Bool → TaskResult
formed u f s c i = record { unreachable = u; failed = not u && f; skipped = not u && (not (not u && f) && s); changed = c; ignored = (not u && f) && i }

abbrev kinds : Bool → TaskResult → ℕ
kinds is_caught result =
    one_if (result_counts Okay is_caught result) + one_if (result_counts Failed is_caught result) + one_if (result_counts Rescued is_caught result)
    + one_if (result_counts Skipped is_caught result) + one_if (result_counts Unreachable is_caught result)

one_kind : (is_caught u f s c i : Bool) → kinds is_caught (formed u f s c i) ≡ 1
one_kind true true f s c i = refl
one_kind false true f s c i = refl
one_kind true false true s c true = refl
one_kind true false true s c false = refl
one_kind false false true s c true = refl
one_kind false false true s c false = refl
one_kind true false false true c i = refl
one_kind true false false false c i = refl
one_kind false false false true c i = refl
one_kind false false false false c i = refl

one_gathered : (is_caught ignore : Bool) (items : List ItemResult) → kinds is_caught (gathered ignore items) ≡ 1
one_gathered is_caught ignore items =
    one_kind is_caught (some_unreachable items) (list_any (λ (item : ItemResult). is_failed item.ending) items) (list_all (λ (item : ItemResult). is_skipped item.ending) items)
    (list_any (λ (item : ItemResult). is_changed item.ending) items) (ignore && not (list_any (λ (item : ItemResult). is_faulty item.ending) items))

abbrev five : (CountKind → ℕ) → ℕ
five count = count Okay + count Failed + count Rescued + count Skipped + count Unreachable

-- of a host's task that counts or not
five_one : (a b v w x y z : Bool) → one_if v + one_if w + one_if x + one_if y + one_if z ≡ 1
    → (if a && (b && v) then 1 else 0) + (if a && (b && w) then 1 else 0) + (if a && (b && x) then 1 else 0) + (if a && (b && y) then 1 else 0) + (if a && (b && z) then 1 else 0) ≡ one_if (a && b)
five_one true true v w x y z e = e
five_one true false v w x y z e = refl
five_one false b v w x y z e = refl

five_task : (h k : ℕ) (is_caught ignore : Bool) (items : List ItemResult) (meta : Option Meta)
    → five (λ (kind : CountKind). counted k kind (Some (record { host = h; task = record { result = gathered ignore items; is_caught = is_caught; meta = meta } })))
    ≡ one_if ((h == k) && counts (record { result = gathered ignore items; is_caught = is_caught; meta = meta }))
five_task h k is_caught ignore items meta =
    five_one (h == k) (is_none meta || (gathered ignore items).failed) (result_counts Okay is_caught (gathered ignore items)) (result_counts Failed is_caught (gathered ignore items))
    (result_counts Rescued is_caught (gathered ignore items)) (result_counts Skipped is_caught (gathered ignore items)) (result_counts Unreachable is_caught (gathered ignore items))
    (one_gathered is_caught ignore items)

-- ---- one event
-- what is counted of a task that came to some items
ends_count : (k : ℕ) (past : List Happening) (found : Option PlayOf) (task : HostTask) (play : PlayOf) (p : ℕ) (marks : List Bool) (items : List Item)
    → tasks_ended k (so_far past (ends_if found (option_map (λ (d : TaskDone). d.task) (done_if play p marks items)) task))
    ≡ tasks_ended k past + five (λ (kind : CountKind). counted k kind (option_map (by_host task.host) (done_if play p marks items)))
ends_count k past found task play p marks items = by_over (is_over items)
  where
    by_over : (over : Bool)
        → tasks_ended k (so_far past (ends_if found (option_map (λ (d : TaskDone). d.task) (if over then Some (done_at play p marks items) else None)) task))
        ≡ tasks_ended k past + five (λ (kind : CountKind). counted k kind (option_map (by_host task.host) (if over then Some (done_at play p marks items) else None)))
    by_over true = ap (λ (n : ℕ). tasks_ended k past + n) (sym (five_task task.host k (caught_at play p) (ignores_at play p) (ended items) (meta_at play p)))
    by_over false = omega arith

nothing_more : (n m : ℕ) → n ≡ m → n ≡ m + 0
nothing_more n m e = omega (arith, e)

start_count : (plan : PlanOf) (s : State) (h k : ℕ) (past : List Happening) (play : PlayOf) (place : Option ℕ) → next_at s h ≡ place → may_start_in s h play ≡ true
    → tasks_ended k (so_far past (at_place s.play h place (λ task. Starts task ∷ ends_if (open_play plan s) (ended_in (option_map_or (start_at plan s h play) place s).step_result) task)))
    ≡ tasks_ended k past + five (λ (kind : CountKind). counted k kind (option_map_or (ended_by h) (option_map_or (start_at plan s h play) place s).step_result None))
start_count plan s h k past play None n may = absurd (let at = start_place plan s h (Some play) may in let there = at.1 in cc)
start_count plan s h k past play (Some p) n may =
    ends_count k (Starts (record { play = s.play; host = h; place = p }) ∷ past) (open_play plan s) (record { play = s.play; host = h; place = p }) play p (pending_at s h) (items_at (plan_seen plan s) play h (facts_at s h) p)

started_count : (plan : PlanOf) (s : State) (h k : ℕ) (past : List Happening) (found : Option PlayOf) → option_map_or (may_start_in s h) found false ≡ true
    → tasks_ended k (so_far past (at_place s.play h (next_at s h) (λ task. Starts task ∷ ends_if (open_play plan s) (ended_in (option_map_or (started_in plan s h) found s).step_result) task)))
    ≡ tasks_ended k past + five (λ (kind : CountKind). counted k kind (option_map_or (ended_by h) (option_map_or (started_in plan s h) found s).step_result None))
started_count plan s h k past None may = cc
started_count plan s h k past (Some play) may = start_count plan s h k past play (next_at s h) refl may

reports_count : (plan : PlanOf) (s : State) (r : Report) (k : ℕ) (past : List Happening) (play : PlayOf) (row : HostOf) (q : Running) → slice_get s.rows r.host.0 ≡ Some row → row.running ≡ Some q
    → tasks_ended k (so_far (Reports r.host.0 r.item r.ticket.0 ∷ past) (at_place s.play r.host.0 (place_run_by s r.host) (λ task. ends_if (open_play plan s) (ended_in (reported_in plan s r play).step_result) task)))
    ≡ tasks_ended k past + five (λ (kind : CountKind). counted k kind (option_map_or (ended_by r.host.0) (reported_in plan s r play).step_result None))
reports_count plan s r k past play row q there runs =
    subst (λ (place : Option ℕ). Adds place (option_map_or (report_result (plan_seen plan s) play r.outcome) (slice_get s.rows r.host.0) None)) (sym (place_there s r.host row q there runs))
    (subst (λ (step_result : Option StepResult). Adds (Some q.place) step_result) (sym result_is)
    (ends_count k (Reports r.host.0 r.item r.ticket.0 ∷ past) (open_play plan s) (record { play = s.play; host = r.host.0; place = q.place }) play q.place (pending row) (items_after (plan_seen plan s) play row.host row.facts r.outcome q)))
  where
    Adds : Option ℕ → Option StepResult → Type 0
    Adds place step_result =
        tasks_ended k (so_far (Reports r.host.0 r.item r.ticket.0 ∷ past) (at_place s.play r.host.0 place (λ task. ends_if (open_play plan s) (ended_in step_result) task)))
        ≡ tasks_ended k past + five (λ (kind : CountKind). counted k kind (option_map_or (ended_by r.host.0) step_result None))

    result_is : option_map_or (report_result (plan_seen plan s) play r.outcome) (slice_get s.rows r.host.0) None ≡ Some (step_result_by (plan_seen plan s) play r.outcome row q)
    result_is =
        ap (λ (found : Option HostOf). option_map_or (report_result (plan_seen plan s) play r.outcome) found None) there
        ∙ ap (option_map (step_result_by (plan_seen plan s) play r.outcome row)) runs

reported_count : (plan : PlanOf) (s : State) (r : Report) (k : ℕ) (past : List Happening) (found : Option PlayOf) → option_map_or (may_report_in s r) found false ≡ true
    → tasks_ended k (so_far (Reports r.host.0 r.item r.ticket.0 ∷ past)
    (at_place s.play r.host.0 (place_run_by s r.host) (λ task. ends_if (open_play plan s) (ended_in (option_map_or (reported_in plan s r) found s).step_result) task)))
    ≡ tasks_ended k past + five (λ (kind : CountKind). counted k kind (option_map_or (ended_by r.host.0) (option_map_or (reported_in plan s r) found s).step_result None))
reported_count plan s r k past None may = cc
reported_count plan s r k past (Some play) may =
    let at = row_at (awaits r.ticket r.item r.attempt) s.rows r.host.0 may in
    let is = awaits_is r.ticket r.item r.attempt at.0.running at.2 in
    reports_count plan s r k past play at.0 is.0 at.1 is.1

sent_count : (k play host item attempt ticket : ℕ) (past : List Happening) (place : Option ℕ) → tasks_ended k (so_far past (at_place play host place (λ task. Sends task item attempt ticket ∷ []))) ≡ tasks_ended k past
sent_count k play host item attempt ticket past None = refl
sent_count k play host item attempt ticket past (Some p) = refl

event_count : (plan : PlanOf) (s : State) (e : Event) (k : ℕ) (past : List Happening) → possible plan s e ≡ true
    → tasks_ended k (so_far past (happenings plan s e (after plan s e))) ≡ tasks_ended k past + five (λ (kind : CountKind). counted k kind (finishes plan s e))
event_count plan s Open k past may = omega arith
event_count plan s (Start h) k past may = started_count plan s h.0 k past (open_play plan s) may
event_count plan s (Send h item attempt ticket) k past may = nothing_more _ _ (sent_count k s.play h.0 item attempt ticket.0 past (place_run_by s h))
event_count plan s (Reported r) k past may = reported_count plan s r k past (open_play plan s) may
event_count plan s Turn k past may =
    nothing_more _ _
    (given_same (tasks_ended k) (λ before task how. refl) past (given_in s.play 0 s.rows (after plan s Turn).rows) (rows_given s.play 0 s.rows (after plan s Turn).rows))
event_count plan s Close k past may = omega arith
event_count plan s Stop k past may = omega arith
event_count plan s (Forks n) k past may = omega arith

-- ---- whole runs
trail_count : (plan : PlanOf) (s : State) (trail : List Event) (k : ℕ) (past : List Happening) → legal_from plan s trail ≡ true
    → tasks_ended k (so_far past (history_from plan s trail)) ≡ tasks_ended k past + five (λ (kind : CountKind). count_from plan s trail k kind)
trail_count plan s [] k past l = omega arith
trail_count plan s (e ∷ es) k past l =
    omega (
      arith,
      ap (tasks_ended k) (so_far_both past (happenings plan s e (after plan s e)) (history_from plan (after plan s e) es)),
      trail_count plan (after plan s e) es k (so_far past (happenings plan s e (after plan s e))) (and_right (possible plan s e) _ l),
      event_count plan s e k past (and_left (possible plan s e) _ l),
    )

hosts_add : (plan : PlanOf) (s : State) (trail : List Event) (past : List Happening) (h : ℕ) (hosts : List (List ℕ)) → ((k : ℕ) → five (λ (kind : CountKind). count_from plan s trail k kind) ≡ tasks_ended k past)
    → add_up h (hosts_from plan s trail h hosts) past ≡ true
hosts_add plan s trail past h [] each = refl
hosts_add plan s trail past h (host ∷ hosts) each =
    both (five (λ (kind : CountKind). count_from plan s trail h kind) == tasks_ended h past) (add_up (h + 1) (hosts_from plan s trail (h + 1) hosts) past)
    (eq-eqb (five (λ (kind : CountKind). count_from plan s trail h kind)) (tasks_ended h past) (each h)) (hosts_add plan s trail past (h + 1) hosts each)

-- ---- the status
or_apart : (a b c d : Bool) → ((a || b) || (c || d)) ≡ ((a || c) || (b || d))
or_apart true b c d = refl
or_apart false true true d = refl
or_apart false true false d = refl
or_apart false false c d = refl

trouble_is : (all : List Counts) → list_any has_trouble all ≡ (list_any (has Failed) all || list_any (has Unreachable) all)
trouble_is [] = refl
trouble_is (c ∷ all) = ap (λ (b : Bool). has_trouble c || b) (trouble_is all) ∙ or_apart (has Failed c) (has Unreachable c) (list_any (has Failed) all) (list_any (has Unreachable) all)

status_is : (all : List Counts) → status_tells all ≡ true
status_is all =
    ap (λ (b : Bool). if b then not (status_of all == 0) else status_of all == 0) (trouble_is all) ∙ by_kinds (list_any (has Failed) all) (list_any (has Unreachable) all)
  where
    by_kinds : (a b : Bool) → (if a || b then not ((if a then 2 else (if b then 4 else 0)) == 0) else (if a then 2 else (if b then 4 else 0)) == 0) ≡ true
    by_kinds true b = refl
    by_kinds false true = refl
    by_kinds false false = refl

pub recap_adds_up : RecapAddsUp
recap_adds_up plan pool trail l = (
  hosts_add plan (first_state plan plan.forks pool) trail (so_far [] (history plan plan.forks pool trail)) 0 plan.inventory.hosts
      (λ k. let total = trail_count plan (first_state plan plan.forks pool) trail k (MayRun plan.forks ∷ []) l in omega (arith, total)),
  status_is (recap plan pool trail),
)
