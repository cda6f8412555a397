-- A trail that is legal with a pool is legal with a larger one: nothing but a number of forks that is asked for looks at the pool.
use Rattle.std.proofs.Common.{◌≡◌, ℕ, ◌+◌, ◌≤◌, Bool, true, false, List, [], ◌∷◌, map, refl, sym, ◌∙◌, ap, subst, arith}
use Rattle.std.specs.Prelude.{nat_le, Option, Some, None, slice_get, if◌then◌else◌}
use Rattle.std.specs.Option.{option_map_or}
use Rattle.std.proofs.lemmas.Bool.{leb-true, le-leb}
use Rattle.pb_ids.specs.declared.numbers.Ticket.{Ticket}
use Rattle.pb_inventory.specs.InventoryOf.{InventoryOf}
use Rattle.pb_outcome.specs.declared.job.Report.{Report}
use Rattle.pb_batches.specs.Sizes.{batch_sizes}
use Rattle.pb_state.specs.FromHosts.{has_batch_left, play_host_count}
use Rattle.pb_state.specs.FromHost.{HostOf, as_play_begins}
use Rattle.pb_plan.specs.Plan.{PlayOf, PlanOf}
use Rattle.pb_state.specs.declared.event.Event.{Event}
use Rattle.pb_state.specs.declared.event.Event.TheVariants.{Open, Start, Send, Report as Reported, Turn, Close, Stop, Forks}
use Rattle.pb_state.specs.Machine.{possible, after, first_state, open_play, next_play, next_at, opened_by, goes_on, begins, begins_at, start_at, started_in, sent_in, reported_in, turned_in}
use Rattle.pb_state.specs.Run.{legal_from, state_from, IsLegalUnder}
use Rattle.pb_state.specs.State.{State}
use Rattle.pb_state.proofs.StepNumbers.{and_left, and_right}
use Rattle.pb_state.proofs.Stands.{both}
use Rattle.pb_state.proofs.Steps.{pool_stays}
use Rattle.pb_audit.specs.Larger.{in_pool, LargerPoolsAllow}

opened_in : (n : ℕ) (s : State) (k batch : ℕ) (sizes : List ℕ) (rows : List HostOf) (play : PlayOf) (found : Option ℕ)
    → option_map_or (opened_by (in_pool n s) k batch sizes rows play) found (in_pool n s) ≡ in_pool n (option_map_or (opened_by s k batch sizes rows play) found s)
opened_in n s k batch sizes rows play None = refl
opened_in n s k batch sizes rows play (Some size) = refl

goes_in : (n : ℕ) (s : State) (found : Option PlayOf) → option_map_or (goes_on (in_pool n s)) found (in_pool n s) ≡ in_pool n (option_map_or (goes_on s) found s)
goes_in n s None = refl
goes_in n s (Some play) = opened_in n s s.play (s.batch + 1) s.sizes_left s.rows play (slice_get s.sizes_left 0)

begins_in : (n : ℕ) (s : State) (k : ℕ) (found : Option PlayOf) → option_map_or (begins (in_pool n s) k) found (in_pool n s) ≡ in_pool n (option_map_or (begins s k) found s)
begins_in n s k None = refl
begins_in n s k (Some play) =
    let sizes = batch_sizes play.serial (play_host_count play.hosts s.rows) in
    opened_in n s k 0 sizes (map (as_play_begins play.hosts) s.rows) play (slice_get sizes 0)

first_in : (plan : PlanOf) (n : ℕ) (s : State) (found : Option ℕ) → option_map_or (begins_at plan (in_pool n s)) found (in_pool n s) ≡ in_pool n (option_map_or (begins_at plan s) found s)
first_in plan n s None = refl
first_in plan n s (Some k) = begins_in n s k (slice_get plan.plays k)

open_in : (plan : PlanOf) (n : ℕ) (s : State) (b : Bool)
    → (if b then option_map_or (goes_on (in_pool n s)) (slice_get plan.plays s.play) (in_pool n s) else option_map_or (begins_at plan (in_pool n s)) (next_play plan s) (in_pool n s))
    ≡ in_pool n (if b then option_map_or (goes_on s) (slice_get plan.plays s.play) s else option_map_or (begins_at plan s) (next_play plan s) s)
open_in plan n s true = goes_in n s (slice_get plan.plays s.play)
open_in plan n s false = first_in plan n s (next_play plan s)

start_in : (plan : PlanOf) (n : ℕ) (s : State) (h : ℕ) (play : PlayOf) (place : Option ℕ) → option_map_or (start_at plan (in_pool n s) h play) place (in_pool n s) ≡ in_pool n (option_map_or (start_at plan s h play) place s)
start_in plan n s h play None = refl
start_in plan n s h play (Some p) = refl

started_in_pool : (plan : PlanOf) (n : ℕ) (s : State) (h : ℕ) (found : Option PlayOf) → option_map_or (started_in plan (in_pool n s) h) found (in_pool n s) ≡ in_pool n (option_map_or (started_in plan s h) found s)
started_in_pool plan n s h None = refl
started_in_pool plan n s h (Some play) = start_in plan n s h play (next_at s h)

sent_in_pool : (n : ℕ) (s : State) (h : ℕ) (t : Ticket) (found : Option PlayOf) → option_map_or (sent_in (in_pool n s) h t) found (in_pool n s) ≡ in_pool n (option_map_or (sent_in s h t) found s)
sent_in_pool n s h t None = refl
sent_in_pool n s h t (Some play) = refl

reported_in_pool : (plan : PlanOf) (n : ℕ) (s : State) (r : Report) (found : Option PlayOf) → option_map_or (reported_in plan (in_pool n s) r) found (in_pool n s) ≡ in_pool n (option_map_or (reported_in plan s r) found s)
reported_in_pool plan n s r None = refl
reported_in_pool plan n s r (Some play) = refl

turned_in_pool : (inventory : InventoryOf) (n : ℕ) (s : State) (found : Option PlayOf) → option_map_or (turned_in inventory (in_pool n s)) found (in_pool n s) ≡ in_pool n (option_map_or (turned_in inventory s) found s)
turned_in_pool inventory n s None = refl
turned_in_pool inventory n s (Some play) = refl

after_in : (plan : PlanOf) (n : ℕ) (s : State) (e : Event) → after plan (in_pool n s) e ≡ in_pool n (after plan s e)
after_in plan n s Open = open_in plan n s (has_batch_left s.sizes_left)
after_in plan n s (Start h) = started_in_pool plan n s h.0 (open_play plan s)
after_in plan n s (Send h item attempt t) = sent_in_pool n s h.0 t (open_play plan s)
after_in plan n s (Reported r) = reported_in_pool plan n s r (open_play plan s)
after_in plan n s Turn = turned_in_pool plan.inventory n s (open_play plan s)
after_in plan n s Close = refl
after_in plan n s Stop = refl
after_in plan n s (Forks m) = refl

possible_in : (plan : PlanOf) (n : ℕ) (s : State) (e : Event) → s.pool ≤ n → possible plan s e ≡ true → possible plan (in_pool n s) e ≡ true
possible_in plan n s Open le may = may
possible_in plan n s (Start h) le may = may
possible_in plan n s (Send h item attempt t) le may = may
possible_in plan n s (Reported r) le may = may
possible_in plan n s Turn le may = may
possible_in plan n s Close le may = may
possible_in plan n s Stop le may = may
possible_in plan n s (Forks m) le may =
    let low = leb-true m s.pool (and_right (nat_le 1 m) _ may) in
    both (nat_le 1 m) (nat_le m n) (and_left (nat_le 1 m) _ may) (le-leb m n (omega (arith, low, le)))

legal_in : (plan : PlanOf) (n : ℕ) (s : State) (es : List Event) → s.pool ≤ n → legal_from plan s es ≡ true → legal_from plan (in_pool n s) es ≡ true
legal_in plan n s [] le legal = refl
legal_in plan n s (e ∷ es) le legal =
    let may = and_left (possible plan s e) _ legal in
    let rest = legal_in plan n (after plan s e) es (omega (arith, le, pool_stays plan s e)) (and_right (possible plan s e) _ legal) in
    both (possible plan (in_pool n s) e) (legal_from plan (after plan (in_pool n s) e) es) (possible_in plan n s e le may) (subst (λ (t : State). legal_from plan t es ≡ true) (sym (after_in plan n s e)) rest)

pub legal_in_larger : (plan : PlanOf) (forks k n : ℕ) (trail : List Event) → k ≤ n → IsLegalUnder plan forks k trail → IsLegalUnder plan forks n trail
legal_in_larger plan forks k n trail le legal = legal_in plan n (first_state plan forks k) trail le legal

-- and leads to the same state, but for the pool
states_in : (plan : PlanOf) (n : ℕ) (s : State) (es : List Event) → state_from plan (in_pool n s) es ≡ in_pool n (state_from plan s es)
states_in plan n s [] = refl
states_in plan n s (e ∷ es) = ap (λ (t : State). state_from plan t es) (after_in plan n s e) ∙ states_in plan n (after plan s e) es

pub larger_allows : LargerPoolsAllow
larger_allows plan forks k n trail le legal = (legal_in_larger plan forks k n trail le legal, states_in plan n (first_state plan forks k) trail)
