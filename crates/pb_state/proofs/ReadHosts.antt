-- A report of a task that tells the same of its results comes to the same.
use Rattle.std.proofs.Common.{◌≡◌, ℕ, false, List, [], ◌∷◌, ◌++◌, Option, Some, None, IfSome, option_map, slice_get, refl, sym, ap, ◌∙◌, append_assoc}
use Rattle.std.specs.Prelude.{slice_set}
use Rattle.std.specs.Borrow.{Bor}
use Rattle.std.specs.Option.{option_map_or}
use Rattle.std.proofs.lemmas.List.{map-append}
use Rattle.pb_value.specs.Datum.{Datum}
use Rattle.pb_facts.specs.Facts.{FactsOf}
use Rattle.pb_independence.specs.FromConditions.{Back}
use Rattle.pb_outcome.specs.Items.{next_item}
use Rattle.pb_outcome.specs.declared.gather.ItemResult.{ItemResult}
use Rattle.pb_outcome.specs.declared.item.Item.{Item}
use Rattle.pb_outcome.specs.declared.job.Call.{Call}
use Rattle.pb_outcome.specs.declared.job.Report.{Report}
use Rattle.pb_outcome.specs.declared.outcome.Form.{Form}
use Rattle.pb_outcome.specs.Results.{judged}
use Rattle.pb_inventory.specs.InventoryOf.{InventoryOf}
use Rattle.pb_plan.specs.Plan.{PlayOf, PlanOf}
use Rattle.pb_variables.specs.Learnt.{facts_in}
use Rattle.pb_task_vars.specs.Results.{came_at, items_at, place_for}
use Rattle.pb_task_vars.specs.WithHostvars.{with_hosts, seen_with}
use Rattle.pb_task_vars.specs.Unread.{ItemsUnread}
use Rattle.pb_task_vars.proofs.ReadHosts.{items_not_read}
use Rattle.pb_host.specs.declared.step_result.StepResult.{StepResult}
use Rattle.pb_host.specs.declared.host.Running.{Running}
use Rattle.pb_host.specs.Attempts.{attempt_after, back_in}
use Rattle.pb_host.specs.Back.{SameAttempts}
use Rattle.pb_task_vars.specs.declared.gifts.DelegatedFacts.{DelegatedFacts}
use Rattle.pb_host.specs.declared.step_result.Retried.{Retried}
use Rattle.pb_host.specs.StepResults.{report_result, step_result_by, step_result_with, retried_in, retried_after, item_results_in, with_retried}
use Rattle.pb_hosts.specs.Hosts.{change}
use Rattle.pb_hosts.specs.Giving.{with_delegated, gifts_at, gifts_by, gifts_of, report_gives}
use Rattle.pb_state.specs.Machine.{learnt_by, reported_seen}
use Rattle.pb_host.specs.Host.{HostOf, pending, came_back, items_after, progressed, reported, reported_running}
use Rattle.pb_state.specs.State.{State}

-- what one host more has learnt
pub one_more : (learnt : List (Bor FactsOf)) (f : Bor FactsOf) (row : HostOf) (rest all : List HostOf) → f.now ≡ row.facts
    → learnt_by all ≡ facts_in learnt ++ learnt_by (row ∷ rest) → learnt_by all ≡ facts_in (learnt ++ f ∷ []) ++ learnt_by rest
one_more learnt f row rest all is so =
    so ∙ ap (λ (x : FactsOf). facts_in learnt ++ x ∷ learnt_by rest) (sym is) ∙ sym (append_assoc (facts_in learnt) (f.now ∷ []) (learnt_by rest))
    ∙ ap (λ (xs : List FactsOf). xs ++ learnt_by rest) (sym (map-append _ learnt (f ∷ [])))

-- a report of a task that says the same of each attempt comes to the same
abbrev ComesSame : PlanOf → PlanOf → PlayOf → ℕ → FactsOf → ℕ → Type 0
ComesSame one other play h facts p =
    (value : Option Datum) (attempt : ℕ) (item : ItemResult) → came_at one play h facts p value attempt item ≡ came_at other play h facts p value attempt item

judge_same : (one other : PlanOf) (play : PlayOf) (h : ℕ) (facts : FactsOf) (p : ℕ) (outcome : Form) → ComesSame one other play h facts p
    → came_back one play h facts p outcome ≡ came_back other play h facts p outcome
judge_same one other play h facts p outcome same = λ i item call. same item.value (attempt_after item.tried) (judged call outcome) i

after_same : (one other : PlanOf) (play : PlayOf) (h : ℕ) (facts : FactsOf) (outcome : Form) (r : Running) → ComesSame one other play h facts r.place
    → items_after one play h facts outcome r ≡ items_after other play h facts outcome r
after_same one other play h facts outcome r same = ap (λ (judge : Item → Call → Back). back_in judge r.items) (judge_same one other play h facts r.place outcome same)

retried_same : (one other : PlanOf) (play : PlayOf) (h : ℕ) (facts : FactsOf) (outcome : Form) (r : Running) → ComesSame one other play h facts r.place
    → retried_after one play h facts outcome r ≡ retried_after other play h facts outcome r
retried_same one other play h facts outcome r same = ap (λ (judge : Item → Call → Back). retried_in judge r.items) (judge_same one other play h facts r.place outcome same)

reported_same : (one other : PlanOf) → one.inventory ≡ other.inventory → (play : PlayOf) (outcome : Form) (row : HostOf) (running : Option Running) → SameAttempts one other play row running →
    option_map_or (reported_running one play outcome row) running row ≡ option_map_or (reported_running other play outcome row) running row
reported_same one other inv play outcome row None same = refl
reported_same one other inv play outcome row (Some r) same =
    ap (λ (inventory : InventoryOf). progressed inventory play r.place (items_after one play row.host row.facts outcome r) row) inv
    ∙ ap (λ (items : List Item). progressed other.inventory play r.place items row) (after_same one other play row.host row.facts outcome r same)

gifts_same : (one other : PlanOf) → one.inventory ≡ other.inventory → (play : PlayOf) (outcome : Form) (h : ℕ) (row : HostOf) (running : Option Running) → SameAttempts one other play row running →
    option_map_or (gifts_by one play outcome h row) running [] ≡ option_map_or (gifts_by other play outcome h row) running []
gifts_same one other inv play outcome h row None same = refl
gifts_same one other inv play outcome h row (Some r) same =
    ap (λ (inventory : InventoryOf). gifts_at inventory play r.place h (items_after one play row.host row.facts outcome r)) inv
    ∙ ap (λ (items : List Item). gifts_at other.inventory play r.place h items) (after_same one other play row.host row.facts outcome r same)

step_result_same : (one other : PlanOf) (play : PlayOf) (outcome : Form) (row : HostOf) (running : Option Running) → SameAttempts one other play row running →
    option_map (step_result_by one play outcome row) running ≡ option_map (step_result_by other play outcome row) running
step_result_same one other play outcome row None same = refl
step_result_same one other play outcome row (Some r) same =
    ap (λ (items : List Item). Some (with_retried (retried_after one play row.host row.facts outcome r) (step_result_with play r.place (pending row) false (item_results_in items (next_item r.items)) items)))
    (after_same one other play row.host row.facts outcome r same)
    ∙ ap (λ (retried : Option Retried). Some (with_retried retried (step_result_by other play outcome row r))) (retried_same one other play row.host row.facts outcome r same)

-- in all rows, of which this one alone changes
change_same : (rows : List HostOf) (h : ℕ) (f g : HostOf → HostOf) (found : Option HostOf) → slice_get rows h ≡ found → IfSome found (λ row. f row ≡ g row) → change rows h f ≡ change rows h g
change_same rows h f g None e same = ap (λ (o : Option HostOf). option_map_or (λ row. slice_set rows h (f row)) o rows) e ∙ sym (ap (λ (o : Option HostOf). option_map_or (λ row. slice_set rows h (g row)) o rows) e)
change_same rows h f g (Some row) e same =
    ap (λ (o : Option HostOf). option_map_or (λ row. slice_set rows h (f row)) o rows) e ∙ ap (λ (r : HostOf). slice_set rows h r) same
    ∙ sym (ap (λ (o : Option HostOf). option_map_or (λ row. slice_set rows h (g row)) o rows) e)

pub rows_same : (one other : PlanOf) → one.inventory ≡ other.inventory → (play : PlayOf) (outcome : Form) (rows : List HostOf) (h : ℕ) (found : Option HostOf) → slice_get rows h ≡ found →
    IfSome found (λ row. SameAttempts one other play row row.running) → change rows h (reported one play outcome) ≡ change rows h (reported other play outcome)
rows_same one other inv play outcome rows h None e same = change_same rows h (reported one play outcome) (reported other play outcome) None e tt
rows_same one other inv play outcome rows h (Some row) e same = change_same rows h (reported one play outcome) (reported other play outcome) (Some row) e (reported_same one other inv play outcome row row.running same)

gives_same : (one other : PlanOf) → one.inventory ≡ other.inventory → (play : PlayOf) (outcome : Form) (h : ℕ) (found : Option HostOf) → IfSome found (λ row. SameAttempts one other play row row.running) →
    option_map_or (gifts_of one play outcome h) found [] ≡ option_map_or (gifts_of other play outcome h) found []
gives_same one other inv play outcome h None same = refl
gives_same one other inv play outcome h (Some row) same = gifts_same one other inv play outcome h row row.running same

pub report_result_same : (one other : PlanOf) (play : PlayOf) (outcome : Form) (found : Option HostOf) → IfSome found (λ row. SameAttempts one other play row row.running) →
    option_map_or (report_result one play outcome) found None ≡ option_map_or (report_result other play outcome) found None
report_result_same one other play outcome None same = refl
report_result_same one other play outcome (Some row) same = step_result_same one other play outcome row row.running same

pub seen_same : (seen other : PlanOf) (s : State) (r : Report) (play : PlayOf) (one : PlanOf) → seen ≡ one → one.inventory ≡ other.inventory → IfSome (slice_get s.rows r.host.0) (λ row. SameAttempts one other play row row.running) →
    reported_seen seen s r play ≡ reported_seen other s r play
seen_same seen other s r play one is inv same =
    ap (λ (plan : PlanOf). reported_seen plan s r play) is
    ∙ ap (λ (gifts : List DelegatedFacts). record s { rows = with_delegated gifts (change s.rows r.host.0 (reported one play r.outcome)); step_result = option_map_or (report_result one play r.outcome) (slice_get s.rows r.host.0) None })
    (gives_same one other inv play r.outcome r.host.0 (slice_get s.rows r.host.0) same)
    ∙ ap (λ (rows : List HostOf). record s { rows = with_delegated (report_gives other play r.outcome r.host.0 s.rows) rows; step_result = option_map_or (report_result one play r.outcome) (slice_get s.rows r.host.0) None })
    (rows_same one other inv play r.outcome s.rows r.host.0 (slice_get s.rows r.host.0) refl same)
    ∙ ap (λ (d : Option StepResult). record s { rows = with_delegated (report_gives other play r.outcome r.host.0 s.rows) (change s.rows r.host.0 (reported other play r.outcome)); step_result = d })
    (report_result_same one other play r.outcome (slice_get s.rows r.host.0) same)

-- the items of a task that doesn't look `hostvars` up, where these are found
pub found_unread : (plan seen : PlanOf) (play : PlayOf) (h : ℕ) (facts : FactsOf) (p : ℕ) (learnt : List FactsOf) (hosts : List (List ℕ × Datum)) (found : Option (List Item)) → seen ≡ with_hosts plan hosts → hosts ≡ [] →
    IfSome found (λ items. items ≡ items_at seen play h facts p) → IfSome found (λ (items : List Item). ItemsUnread seen play h facts (place_for seen play h p)) →
    IfSome found (λ items. items ≡ items_at (seen_with plan learnt) play h facts p)
found_unread plan seen play h facts p learnt hosts None s m is unread = tt
found_unread plan seen play h facts p learnt hosts (Some items) s m is unread = is ∙ items_not_read plan seen play h facts p learnt hosts s m unread
