-- A report in its parts comes to the same, in one row and in the rows of all hosts.
use Rattle.std.proofs.Common.{◌≡◌, ◌∙◌, ℕ, zero, suc, ◌-◌, ◌^◌, List, [], ◌∷◌, refl, sym, ap, subst}
use Rattle.std.specs.Prelude.{Option, Some, None, IfSome, option_map, slice_get, slice_set}
use Rattle.std.specs.Option.{option_map_or}
use Rattle.pb_inventory.specs.InventoryOf.{InventoryOf}
use Rattle.pb_outcome.specs.declared.outcome.Form.{Form}
use Rattle.pb_host.specs.FromPlan.{PlayOf, PlanOf}
use Rattle.pb_host.specs.FromTaskVars.{DelegatedFacts}
use Rattle.pb_outcome.specs.Items.{next_item}
use Rattle.pb_host.specs.declared.step_result.StepResult.{StepResult}
use Rattle.pb_host.specs.declared.step_result.Retried.{Retried}
use Rattle.pb_host.specs.declared.host.Running.{Running}
use Rattle.pb_host.specs.Back.{back_running, back_row, retried_running, retried_row, went_with, went_on, step_result_back, step_result_now}
use Rattle.pb_hosts.specs.Applied.{learnt_in}
use Rattle.pb_hosts.specs.Giving.{gives_with, gives_on, gives_now, with_delegated, gifts_by, gifts_of, report_gives}
use Rattle.pb_host.specs.Ends.{IsAtMost}
use Rattle.pb_host.specs.Runs.{item_of}
use Rattle.pb_host.specs.StepResults.{step_result_by, report_result}
use Rattle.pb_hosts.specs.Hosts.{change}
use Rattle.pb_host.specs.Host.{HostOf, reported, reported_running}
use Rattle.pb_hosts.proofs.Giving.{change_on, get_changed, map_same, twice, same_change}

-- its item comes back, and its task goes on
pub reported_as : (plan : PlanOf) (play : PlayOf) (outcome : Form) (row : HostOf) → went_on plan.inventory play (back_row plan play outcome row) ≡ reported plan play outcome row
reported_as plan play outcome row = by_running row.running refl
  where
    by_running : (running : Option Running) → row.running ≡ running
        → option_map_or (went_with plan.inventory play (record row { running = back_running plan play row.host row.facts outcome running })) (back_running plan play row.host row.facts outcome running)
        (record row { running = back_running plan play row.host row.facts outcome running })
        ≡ option_map_or (reported_running plan play outcome row) running row
    by_running None e = ap (λ (v : Option Running). record row { running = v }) (sym e)
    by_running (Some r) e = refl

-- and gives the same to other hosts
gives_back : (plan : PlanOf) (play : PlayOf) (outcome : Form) (h : ℕ) (row : HostOf) → gives_on plan.inventory play h (back_row plan play outcome row) ≡ gifts_of plan play outcome h row
gives_back plan play outcome h row = by_running row.running
  where
    by_running : (running : Option Running)
        → option_map_or (gives_with plan.inventory play h) (back_running plan play row.host row.facts outcome running) [] ≡ option_map_or (gifts_by plan play outcome h row) running []
    by_running None = refl
    by_running (Some r) = refl

pub gives_as : (plan : PlanOf) (play : PlayOf) (outcome : Form) (h : ℕ) (rows : List HostOf)
    → gives_now plan.inventory play h (change rows h (back_row plan play outcome)) ≡ report_gives plan play outcome h rows
gives_as plan play outcome h rows =
    ap (λ (found : Option HostOf). option_map_or (gives_on plan.inventory play h) found []) (get_changed rows h (back_row plan play outcome)) ∙ by_found (slice_get rows h)
  where
    by_found : (found : Option HostOf) → option_map_or (gives_on plan.inventory play h) (option_map (back_row plan play outcome) found) [] ≡ option_map_or (gifts_of plan play outcome h) found []
    by_found None = refl
    by_found (Some row) = gives_back plan play outcome h row

-- and comes to the same
pub step_result_as : (plan : PlanOf) (play : PlayOf) (outcome : Form) (row : HostOf)
    → step_result_now play (item_of row) (retried_row plan play outcome row) (back_row plan play outcome row) ≡ report_result plan play outcome row
step_result_as plan play outcome row = by_running row.running
  where
    by_running : (running : Option Running)
        → option_map (step_result_back play (option_map_or (λ (r : Running). next_item r.items) running None) (retried_running plan play row.host row.facts outcome running) row)
        (back_running plan play row.host row.facts outcome running)
        ≡ option_map (step_result_by plan play outcome row) running
    by_running None = refl
    by_running (Some r) = refl

-- an item came back, and its task went on, with its gifts
pub reported_in : (plan : PlanOf) (play : PlayOf) (outcome : Form) (h : ℕ) (rows back new : List HostOf) → back ≡ change rows h (back_row plan play outcome)
    → new ≡ with_delegated (gives_now plan.inventory play h back) (change back h (went_on plan.inventory play)) → new ≡ with_delegated (report_gives plan play outcome h rows) (change rows h (reported plan play outcome))
reported_in plan play outcome h rows back new b n =
    n
    ∙ ap (λ (all : List HostOf). with_delegated (gives_now plan.inventory play h all) (change all h (went_on plan.inventory play))) b
    ∙ ap (λ (gifts : List DelegatedFacts). with_delegated gifts (change (change rows h (back_row plan play outcome)) h (went_on plan.inventory play))) (gives_as plan play outcome h rows)
    ∙ ap (with_delegated (report_gives plan play outcome h rows))
    (twice rows h (back_row plan play outcome) (went_on plan.inventory play) ∙ same_change rows h (λ row. went_on plan.inventory play (back_row plan play outcome row)) (reported plan play outcome) (reported_as plan play outcome))

pub step_result_in : (plan : PlanOf) (play : PlayOf) (outcome : Form) (h : ℕ) (rows back : List HostOf) (number : Option ℕ) (retried : Option Retried) (step_result : Option StepResult)
    → back ≡ change rows h (back_row plan play outcome) → number ≡ option_map_or item_of (slice_get rows h) None → retried ≡ option_map_or (retried_row plan play outcome) (slice_get rows h) None
    → step_result ≡ option_map_or (step_result_now play number retried) (slice_get back h) None → step_result ≡ option_map_or (report_result plan play outcome) (slice_get rows h) None
step_result_in plan play outcome h rows back number retried step_result b n r d =
    d
    ∙ ap (λ (all : List HostOf). option_map_or (step_result_now play number retried) (slice_get all h) None) b
    ∙ ap (λ (found : Option HostOf). option_map_or (step_result_now play number retried) found None) (get_changed rows h (back_row plan play outcome))
    ∙ ap (λ (m : Option ℕ). option_map_or (step_result_now play m retried) (option_map (back_row plan play outcome) (slice_get rows h)) None) n
    ∙ ap (λ (a : Option Retried). option_map_or (step_result_now play (option_map_or item_of (slice_get rows h) None) a) (option_map (back_row plan play outcome) (slice_get rows h)) None) r
    ∙ by_found (slice_get rows h)
  where
    by_found : (found : Option HostOf)
        → option_map_or (step_result_now play (option_map_or item_of found None) (option_map_or (retried_row plan play outcome) found None)) (option_map (back_row plan play outcome) found) None
        ≡ option_map_or (report_result plan play outcome) found None
    by_found None = refl
    by_found (Some row) = step_result_as plan play outcome row

-- nobody learns anything as an item comes back
pub back_learns : (plan : PlanOf) (play : PlayOf) (outcome : Form) (h : ℕ) (rows back : List HostOf) → back ≡ change rows h (back_row plan play outcome) → learnt_in back ≡ learnt_in rows
back_learns plan play outcome h rows back b = ap learnt_in b ∙ map_same (λ (row : HostOf). row.facts) (back_row plan play outcome) (λ row. refl) rows h

-- the counts of a host stay as its item comes back
pub room_back : (plan : PlanOf) (play : PlayOf) (outcome : Form) (h : ℕ) (rows back : List HostOf) → back ≡ change rows h (back_row plan play outcome) → IfSome (slice_get rows h) (λ row. IsAtMost row.counts (2 ^ 64 - 2))
    → IfSome (slice_get back h) (λ row. IsAtMost row.counts (2 ^ 64 - 2))
room_back plan play outcome h rows back b room =
    subst (λ (all : List HostOf). IfSome (slice_get all h) (λ row. IsAtMost row.counts (2 ^ 64 - 2))) (sym b)
    (subst (λ (found : Option HostOf). IfSome found (λ row. IsAtMost row.counts (2 ^ 64 - 2))) (sym (get_changed rows h (back_row plan play outcome))) (by_found (slice_get rows h) room))
  where
    by_found : (found : Option HostOf) → IfSome found (λ row. IsAtMost row.counts (2 ^ 64 - 2)) → IfSome (option_map (back_row plan play outcome) found) (λ row. IsAtMost row.counts (2 ^ 64 - 2))
    by_found None room = tt
    by_found (Some row) room = room

-- a row that is put back as it was
pub put_back : (rows : List HostOf) (h : ℕ) (row new : HostOf) (f : HostOf → HostOf) → slice_get rows h ≡ Some row → f new ≡ row → change (slice_set rows h new) h f ≡ rows
put_back [] h row new f e same = cc
put_back (r ∷ rows) zero row new f e same = let first : row ≡ r = cc in ap (λ x. x ∷ rows) (same ∙ first)
put_back (r ∷ rows) (suc h) row new f e same = change_on r (slice_set rows h new) h f ∙ ap (λ rest. r ∷ rest) (put_back rows h row new f e same)

pub nobody : (rows : List HostOf) (h : ℕ) (f : HostOf → HostOf) → slice_get rows h ≡ None → change rows h f ≡ rows
nobody rows h f e = ap (λ (found : Option HostOf). option_map_or (λ (row : HostOf). slice_set rows h (f row)) found rows) e
