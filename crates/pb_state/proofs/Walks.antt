-- In every run the hosts of the open batch are where their answers lead in the play's tree.
use Rattle.std.proofs.Common.{◌≡◌, ℕ, zero, suc, ◌+◌, Bool, true, false, List, [], ◌∷◌, length, map, refl, sym, ◌∙◌, ap, subst}
use Rattle.std.specs.Prelude.{Option, Some, None, slice_get, if◌then◌else◌}
use Rattle.std.specs.Option.{option_map_or}
use Rattle.pb_ids.specs.declared.numbers.Ticket.{Ticket}
use Rattle.pb_tree.specs.Tree.{TreeOf}
use Rattle.pb_tree.specs.Walk.{reach}
use Rattle.pb_outcome.specs.declared.job.Report.{Report}
use Rattle.pb_outcome.specs.declared.outcome.Form.{Form}
use Rattle.pb_task_vars.specs.Results.{items_at}
use Rattle.pb_state.specs.declared.event.Event.{Event}
use Rattle.pb_state.specs.declared.event.Event.TheVariants.{Open, Start, Send, Report as Reported, Turn, Close, Stop, Forks}
use Rattle.pb_outcome.specs.declared.item.Item.{Item}
use Rattle.pb_outcome.specs.Items.{is_over}
use Rattle.pb_host.specs.declared.host.Running.{Running}
use Rattle.pb_inventory.specs.InventoryOf.{InventoryOf}
use Rattle.pb_plan.specs.Plan.{PlayOf, PlanOf}
use Rattle.pb_host.specs.Host.{HostOf, no_tree, place_of, ended, items_after, progressed, sent, reported, reported_running, as_play_begins, left, first_rows}
use Rattle.pb_state.specs.State.{State}
use Rattle.pb_hosts.specs.Batches.{joins, room_behind, joined_first}
use Rattle.pb_task_vars.specs.declared.gifts.DelegatedFacts.{DelegatedFacts}
use Rattle.pb_hosts.specs.Hosts.{change}
use Rattle.pb_hosts.specs.Giving.{takes, with_delegated, gifts_at, report_gives}
use Rattle.pb_state.specs.Machine.{after, open_play, after_open, started_in, next_at, facts_at, plan_seen, start_at, sent_in, reported_in, batch_of, turned_in, first_state}
use Rattle.pb_state.specs.Run.{state_from, IsRun}
use Rattle.pb_state.specs.Walks.{walks_in, IsWalked, AreWalked, IsTracked, AreNumbered, RowsStay, WalksLead}
use Rattle.pb_hosts.proofs.Giving.{given_keeps}
use Rattle.pb_state.proofs.Opening.{open_case, rows_case}
use Rattle.pb_hosts.proofs.Turning.{Goes as RowGoes, turned_by_case, goes_host, goes_tree, goes_inside}

-- a host of the batch walks this tree
abbrev pub IsIn : TreeOf → HostOf → Type 0
IsIn tree row = row.in_batch ≡ true → row.tree ≡ tree

abbrev pub AllIn : TreeOf → List HostOf → Type 0
AllIn tree [] = Unit {0}
AllIn tree (row ∷ rows) = IsIn tree row × AllIn tree rows

abbrev pub IsOfPlan : PlanOf → State → Type 0
IsOfPlan plan s = (play : PlayOf) → open_play plan s ≡ Some play → AllIn play.tree s.rows

-- one row changed
change_on : (row : HostOf) (rows : List HostOf) (h : ℕ) (f : HostOf → HostOf) (found : Option HostOf) → slice_get rows h ≡ found → change (row ∷ rows) (suc h) f ≡ row ∷ change rows h f
change_on row rows h f None e = rw e refl
change_on row rows h f (Some r) e = rw e refl

in_change : (tree : TreeOf) (f : HostOf → HostOf) → ((row : HostOf) → IsIn tree row → IsIn tree (f row)) → (rows : List HostOf) (h : ℕ) → AllIn tree rows → AllIn tree (change rows h f)
in_change tree f keeps [] h all = tt
in_change tree f keeps (row ∷ rows) zero all = (keeps row all.0, all.1)
in_change tree f keeps (row ∷ rows) (suc h) all = rw (change_on row rows h f (slice_get rows h) refl) (all.0, in_change tree f keeps rows h all.1)

given_in : (tree : TreeOf) (gifts : List DelegatedFacts) (rows : List HostOf) → AllIn tree rows → AllIn tree (with_delegated gifts rows)
given_in tree gifts rows all = given_keeps (AllIn tree) (λ gift rows all. in_change tree (takes gift) (λ row is. is) rows gift.host.0 all) gifts rows all

progressed_in_tree : (tree : TreeOf) (inventory : InventoryOf) (play : PlayOf) (p : ℕ) (items : List Item) (row : HostOf) → IsIn tree row → IsIn tree (progressed inventory play p items row)
progressed_in_tree tree inventory play p items row is = by_over (is_over items)
  where
    by_over : (over : Bool) → IsIn tree (if over then ended inventory play p items row else record row { running = Some (record { place = p; items = items; out = None }) })
    by_over true = is
    by_over false = is

reported_in_tree : (tree : TreeOf) (plan : PlanOf) (play : PlayOf) (outcome : Form) (row : HostOf) → IsIn tree row → IsIn tree (reported plan play outcome row)
reported_in_tree tree plan play outcome row is = by_running row.running
  where
    by_running : (running : Option Running) → IsIn tree (option_map_or (reported_running plan play outcome row) running row)
    by_running None = is
    by_running (Some r) = progressed_in_tree tree plan.inventory play r.place (items_after plan play row.host row.facts outcome r) row is

joined_in_tree : (tree : TreeOf) (room : ℕ) (rows : List HostOf) → AllIn tree (joined_first tree room rows)
joined_in_tree tree room [] = tt
joined_in_tree tree room (row ∷ rows) = (λ e. chosen (joins room row.awaits_batch) e, joined_in_tree tree (room_behind room row.awaits_batch) rows)
  where
    chosen : (b : Bool) → b ≡ true → (if b then tree else no_tree) ≡ tree
    chosen true e = refl
    chosen false e = cc

-- a step in the play that is open
record Goes (plan : PlanOf) (s new : State) : Type 0 where
  same : open_play plan new ≡ open_play plan s
  keeps : (tree : TreeOf) → AllIn tree s.rows → AllIn tree new.rows

goes_on : (plan : PlanOf) (s new : State) → Goes plan s new → IsOfPlan plan s → IsOfPlan plan new
goes_on plan s new goes is = λ play o. goes.keeps play.tree (is play (sym goes.same ∙ o))

stays : (plan : PlanOf) (s : State) → Goes plan s s
stays plan s = record { same = refl; keeps = λ tree all. all }

start_goes : (plan : PlanOf) (s : State) (h : ℕ) (play : PlayOf) (place : Option ℕ) → Goes plan s (option_map_or (start_at plan s h play) place s)
start_goes plan s h play None = stays plan s
start_goes plan s h play (Some p) =
    record {
      same = refl;
      keeps = λ tree all. given_in tree (gifts_at plan.inventory play p h (items_at (plan_seen plan s) play h (facts_at s h) p)) (change s.rows h (progressed plan.inventory play p (items_at (plan_seen plan s) play h (facts_at s h) p)))
          (in_change tree (progressed plan.inventory play p (items_at (plan_seen plan s) play h (facts_at s h) p)) (λ row is. progressed_in_tree tree plan.inventory play p (items_at (plan_seen plan s) play h (facts_at s h) p) row is) s.rows h all);
    }

started_goes : (plan : PlanOf) (s : State) (h : ℕ) (found : Option PlayOf) → Goes plan s (option_map_or (started_in plan s h) found s)
started_goes plan s h None = stays plan s
started_goes plan s h (Some play) = start_goes plan s h play (next_at s h)

sent_goes : (plan : PlanOf) (s : State) (h : ℕ) (ticket : Ticket) (found : Option PlayOf) → Goes plan s (option_map_or (sent_in s h ticket) found s)
sent_goes plan s h ticket None = stays plan s
sent_goes plan s h ticket (Some play) = record { same = refl; keeps = λ tree all. in_change tree (sent ticket) (λ row is. is) s.rows h all }

reported_goes : (plan : PlanOf) (s : State) (r : Report) (found : Option PlayOf) → Goes plan s (option_map_or (reported_in plan s r) found s)
reported_goes plan s r None = stays plan s
reported_goes plan s r (Some play) =
    record {
      same = refl;
      keeps = λ tree all. given_in tree (report_gives (plan_seen plan s) play r.outcome r.host.0 s.rows) (change s.rows r.host.0 (reported (plan_seen plan s) play r.outcome))
          (in_change tree (reported (plan_seen plan s) play r.outcome) (λ row is. reported_in_tree tree (plan_seen plan s) play r.outcome row is) s.rows r.host.0 all);
    }

in_map : (tree : TreeOf) (f : HostOf → HostOf) → RowGoes f → (rows : List HostOf) → AllIn tree rows → AllIn tree (map f rows)
in_map tree f goes [] all = tt
in_map tree f goes (row ∷ rows) all = (λ e. goes_tree f goes row ∙ all.0 (sym (goes_inside f goes row) ∙ e), in_map tree f goes rows all.1)

turned_goes : (plan : PlanOf) (s : State) (found : Option PlayOf) → Goes plan s (option_map_or (turned_in plan.inventory s) found s)
turned_goes plan s None = stays plan s
turned_goes plan s (Some play) =
    record { same = refl; keeps = λ tree all. turned_by_case (AllIn tree) (λ f goes rows now. in_map tree f goes rows now) plan.inventory play (batch_of s) s.place all }

-- an open
some_same : (a b : PlayOf) → Some a ≡ Some b → a ≡ b
some_same a b e = cc

opened_of : (plan : PlanOf) (s : State) → IsOfPlan plan s → IsOfPlan plan (after_open plan s)
opened_of plan s is =
    open_case (IsOfPlan plan) plan s (λ none. is)
    (λ n batch sizes rows play size opens. λ other o.
    let same : play ≡ other = some_same play other (sym opens.there ∙ o) in
    subst (λ (p : PlayOf). AllIn p.tree (joined_first play.tree size rows)) same (joined_in_tree play.tree size rows))

pub step_of : (plan : PlanOf) (s : State) (e : Event) → IsOfPlan plan s → IsOfPlan plan (after plan s e)
step_of plan s Open is = opened_of plan s is
step_of plan s (Start h) is = goes_on plan s _ (started_goes plan s h.0 (open_play plan s)) is
step_of plan s (Send h item attempt ticket) is = goes_on plan s _ (sent_goes plan s h.0 ticket (open_play plan s)) is
step_of plan s (Reported r) is = goes_on plan s _ (reported_goes plan s r (open_play plan s)) is
step_of plan s Turn is = goes_on plan s _ (turned_goes plan s (open_play plan s)) is
step_of plan s Close is = λ play o. cc
step_of plan s Stop is = is
step_of plan s (Forks n) is = is

of_from : (plan : PlanOf) (s : State) (es : List Event) → IsOfPlan plan s → IsOfPlan plan (state_from plan s es)
of_from plan s [] is = is
of_from plan s (e ∷ es) is = of_from plan (after plan s e) es (step_of plan s e is)

-- so a next place is where the answers lead
walked_row : (tree : TreeOf) (row : HostOf) → IsIn tree row → IsWalked tree row
walked_row tree row is =
    record {
      next = λ e. in_if row.in_batch (place_of (reach row.tree row.answers)) e ∙ ap (λ t. walks_in t row) (is e);
      whose = is;
      away = λ e. out_if row.in_batch (place_of (reach row.tree row.answers)) e;
    }
  where
    in_if : (b : Bool) (next : Option ℕ) → b ≡ true → (if b then next else None) ≡ next
    in_if true next e = refl
    in_if false next e = cc

    out_if : (b : Bool) (next : Option ℕ) → b ≡ false → (if b then next else None) ≡ None
    out_if true next e = cc
    out_if false next e = refl

walked_rows : (tree : TreeOf) (rows : List HostOf) → AllIn tree rows → AreWalked tree rows
walked_rows tree [] all = tt
walked_rows tree (row ∷ rows) all = (walked_row tree row all.0, walked_rows tree rows all.1)

pub first_of : (plan : PlanOf) (forks pool : ℕ) → IsOfPlan plan (first_state plan forks pool)
first_of plan forks pool = λ play none. cc

pub walks_lead : WalksLead
walks_lead plan forks pool trail = λ play o. walked_rows play.tree _ (of_from plan (first_state plan forks pool) trail (first_of plan forks pool) play o)

pub run_walks : (plan : PlanOf) (pool : ℕ) (trail : List Event) (s : State) → IsRun plan pool trail s → IsTracked plan s
run_walks plan pool trail s run = subst (IsTracked plan) run.ends (walks_lead plan plan.forks pool trail)

-- each row keeps its host's number
number_change : (h k : ℕ) (f : HostOf → HostOf) → ((row : HostOf) → (f row).host ≡ row.host) → (rows : List HostOf) → AreNumbered h rows → AreNumbered h (change rows k f)
number_change h k f same [] all = tt
number_change h zero f same (row ∷ rows) all = (same row ∙ all.0, all.1)
number_change h (suc k) f same (row ∷ rows) all = rw (change_on row rows k f (slice_get rows k) refl) (all.0, number_change (h + 1) k f same rows all.1)

number_map : (h : ℕ) (f : HostOf → HostOf) → ((row : HostOf) → (f row).host ≡ row.host) → (rows : List HostOf) → AreNumbered h rows → AreNumbered h (map f rows)
number_map h f same [] all = tt
number_map h f same (row ∷ rows) all = (same row ∙ all.0, number_map (h + 1) f same rows all.1)

number_given : (gifts : List DelegatedFacts) (rows : List HostOf) → AreNumbered 0 rows → AreNumbered 0 (with_delegated gifts rows)
number_given gifts rows all = given_keeps (AreNumbered 0) (λ gift rows all. number_change 0 gift.host.0 (takes gift) (λ row. refl) rows all) gifts rows all

progressed_host : (inventory : InventoryOf) (play : PlayOf) (p : ℕ) (items : List Item) (row : HostOf) → (progressed inventory play p items row).host ≡ row.host
progressed_host inventory play p items row = by_over (is_over items)
  where
    by_over : (over : Bool) → (if over then ended inventory play p items row else record row { running = Some (record { place = p; items = items; out = None }) }).host ≡ row.host
    by_over true = refl
    by_over false = refl

reported_host : (plan : PlanOf) (play : PlayOf) (outcome : Form) (row : HostOf) → (reported plan play outcome row).host ≡ row.host
reported_host plan play outcome row = by_running row.running
  where
    by_running : (running : Option Running) → (option_map_or (reported_running plan play outcome row) running row).host ≡ row.host
    by_running None = refl
    by_running (Some r) = progressed_host plan.inventory play r.place (items_after plan play row.host row.facts outcome r) row

abbrev KeepsNumbers : State → State → Type 0
KeepsNumbers s new = AreNumbered 0 s.rows → AreNumbered 0 new.rows

start_numbers : (plan : PlanOf) (s : State) (h : ℕ) (play : PlayOf) (place : Option ℕ) → KeepsNumbers s (option_map_or (start_at plan s h play) place s)
start_numbers plan s h play None = λ all. all
start_numbers plan s h play (Some p) = λ all.
    number_given (gifts_at plan.inventory play p h (items_at (plan_seen plan s) play h (facts_at s h) p)) (change s.rows h (progressed plan.inventory play p (items_at (plan_seen plan s) play h (facts_at s h) p)))
    (number_change 0 h (progressed plan.inventory play p (items_at (plan_seen plan s) play h (facts_at s h) p)) (λ row. progressed_host plan.inventory play p (items_at (plan_seen plan s) play h (facts_at s h) p) row) s.rows all)

started_numbers : (plan : PlanOf) (s : State) (h : ℕ) (found : Option PlayOf) → KeepsNumbers s (option_map_or (started_in plan s h) found s)
started_numbers plan s h None = λ all. all
started_numbers plan s h (Some play) = start_numbers plan s h play (next_at s h)

sent_numbers : (s : State) (h : ℕ) (ticket : Ticket) (found : Option PlayOf) → KeepsNumbers s (option_map_or (sent_in s h ticket) found s)
sent_numbers s h ticket None = λ all. all
sent_numbers s h ticket (Some play) = λ all. number_change 0 h (sent ticket) (λ row. refl) s.rows all

reported_numbers : (plan : PlanOf) (s : State) (r : Report) (found : Option PlayOf) → KeepsNumbers s (option_map_or (reported_in plan s r) found s)
reported_numbers plan s r None = λ all. all
reported_numbers plan s r (Some play) = λ all.
    number_given (report_gives (plan_seen plan s) play r.outcome r.host.0 s.rows) (change s.rows r.host.0 (reported (plan_seen plan s) play r.outcome))
    (number_change 0 r.host.0 (reported (plan_seen plan s) play r.outcome) (λ row. reported_host (plan_seen plan s) play r.outcome row) s.rows all)

turned_numbers : (inventory : InventoryOf) (s : State) (found : Option PlayOf) → KeepsNumbers s (option_map_or (turned_in inventory s) found s)
turned_numbers inventory s None = λ all. all
turned_numbers inventory s (Some play) = λ all. turned_by_case (AreNumbered 0) (λ f goes rows now. number_map 0 f (goes_host f goes) rows now) inventory play (batch_of s) s.place all

number_joined : (h : ℕ) (tree : TreeOf) (room : ℕ) (rows : List HostOf) → AreNumbered h rows → AreNumbered h (joined_first tree room rows)
number_joined h tree room [] all = tt
number_joined h tree room (row ∷ rows) all = (all.0, number_joined (h + 1) tree (room_behind room row.awaits_batch) rows all.1)

opened_numbers : (plan : PlanOf) (s : State) → AreNumbered 0 s.rows → AreNumbered 0 (after_open plan s).rows
opened_numbers plan s all =
    open_case (λ (new : State). AreNumbered 0 new.rows) plan s (λ none. all)
    (λ n batch sizes rows play size is.
    number_joined 0 play.tree size rows
    (rows_case (λ (calls : List HostOf). AreNumbered 0 calls) plan s n batch sizes rows play size is all (λ hosts. number_map 0 (as_play_begins hosts) (λ row. refl) s.rows all)))

step_numbers : (plan : PlanOf) (s : State) (e : Event) → KeepsNumbers s (after plan s e)
step_numbers plan s Open = opened_numbers plan s
step_numbers plan s (Start h) = started_numbers plan s h.0 (open_play plan s)
step_numbers plan s (Send h item attempt ticket) = sent_numbers s h.0 ticket (open_play plan s)
step_numbers plan s (Reported r) = reported_numbers plan s r (open_play plan s)
step_numbers plan s Turn = turned_numbers plan.inventory s (open_play plan s)
step_numbers plan s Close = λ all. number_map 0 left (λ row. refl) s.rows all
step_numbers plan s Stop = λ all. all
step_numbers plan s (Forks n) = λ all. all

numbers_from : (plan : PlanOf) (s : State) (es : List Event) → AreNumbered 0 s.rows → AreNumbered 0 (state_from plan s es).rows
numbers_from plan s [] all = all
numbers_from plan s (e ∷ es) all = numbers_from plan (after plan s e) es (step_numbers plan s e all)

first_numbers : (h n : ℕ) → AreNumbered h (first_rows h n)
first_numbers h zero = tt
first_numbers h (suc n) = (refl, first_numbers (h + 1) n)

pub rows_stay : RowsStay
rows_stay plan forks pool trail = numbers_from plan (first_state plan forks pool) trail (first_numbers 0 (length plan.inventory.hosts))
