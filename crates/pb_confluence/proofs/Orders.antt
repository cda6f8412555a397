-- What a host reaches alone hangs neither on strategies nor on the sizes of batches.
use Rattle.std.proofs.Common.{◌≡◌, ℕ, zero, suc, ◌+◌, true, List, [], ◌∷◌, map, refl, sym, ◌∙◌, ap}
use Rattle.std.specs.Prelude.{Option, Some, None, if◌then◌else◌}
use Rattle.std.specs.Option.{option_map_or}
use Rattle.pb_tree.specs.Tree.{size_of}
use Rattle.pb_plan.specs.Plan.{PlayOf, PlanOf}
use Rattle.pb_task_vars.specs.Results.{items_at, came_at}
use Rattle.pb_task_vars.specs.Learning.{facts_after_end}
use Rattle.pb_host.specs.declared.host.Running.{Running}
use Rattle.pb_host.specs.Host.{HostOf, first_row, next_place, is_play_host, joined}
use Rattle.pb_confluence.specs.Fixed.{Fixed}
use Rattle.pb_confluence.specs.Effect.{attempts_left, item_back, items_back, played_out, started, whole}
use Rattle.pb_confluence.specs.Alone.{goes_at, goes, walks, between, alone_in, alone_from, alone, without_order, without_orders, StrategiesAgree}
use Rattle.pb_confluence.proofs.AloneEnds.{ends_alone}

module _ (plan : PlanOf) (f : Fixed) (n : ℕ) (play : PlayOf) where
  item_same : (row : HostOf) → item_back plan f n play row ≡ item_back (without_orders plan) f n (without_order play) row
  unfolding came_at facts_after_end
  item_same row = refl

  items_same : (k : ℕ) (row : HostOf) → items_back plan f n play k row ≡ items_back (without_orders plan) f n (without_order play) k row
  items_same zero row = refl
  items_same (suc k) row =
      ap (λ (new : HostOf). option_map_or (λ (r : Running). new) row.running row)
      (ap (items_back plan f n play k) (item_same row) ∙ items_same k (item_back (without_orders plan) f n (without_order play) row))

  played_out_same : (x : Option Running) (row : HostOf) → played_out plan f n play x row ≡ played_out (without_orders plan) f n (without_order play) x row
  played_out_same None row = refl
  played_out_same (Some r) row = items_same (attempts_left r.items) row

  started_same : (p : ℕ) (row : HostOf) → started plan play p row ≡ started (without_orders plan) (without_order play) p row
  unfolding items_at facts_after_end
  started_same p row = refl

  whole_same : (p : ℕ) (row : HostOf) → whole plan f n play p row ≡ whole (without_orders plan) f n (without_order play) p row
  whole_same p row =
      ap (λ (r : HostOf). played_out plan f n play r.running r) (started_same p row)
      ∙ played_out_same (started (without_orders plan) (without_order play) p row).running (started (without_orders plan) (without_order play) p row)

  at_same : (next : Option ℕ) (row : HostOf) → goes_at plan f n play next row ≡ goes_at (without_orders plan) f n (without_order play) next row
  at_same None row = refl
  at_same (Some p) row = whole_same p row

  goes_same : (x : Option Running) (row : HostOf) → goes plan f n play x row ≡ goes (without_orders plan) f n (without_order play) x row
  goes_same None row = at_same (next_place row) row
  goes_same (Some r) row = played_out_same (Some r) row

  walks_same : (k : ℕ) (row : HostOf) → walks plan f n play k row ≡ walks (without_orders plan) f n (without_order play) k row
  walks_same zero row = refl
  walks_same (suc k) row = ap (walks plan f n play k) (goes_same row.running row) ∙ walks_same k (goes (without_orders plan) f n (without_order play) row.running row)

  alone_same : (row : HostOf) → alone_in plan f n play row ≡ alone_in (without_orders plan) f n (without_order play) row
  alone_same row = ap (λ (r : HostOf). if is_play_host play.hosts row then between r else row) (walks_same (size_of play.tree) (joined play.tree true (between row)))

plays_same : (plan : PlanOf) (f : Fixed) (n : ℕ) (plays : List PlayOf) (row : HostOf) → alone_from plan f n plays row ≡ alone_from (without_orders plan) f n (map without_order plays) row
plays_same plan f n [] row = refl
plays_same plan f n (play ∷ plays) row =
    ap (alone_from plan f (n + 1) plays) (alone_same plan f n play row) ∙ plays_same plan f (n + 1) plays (alone_in (without_orders plan) f n (without_order play) row)

order_is_nothing : (plan : PlanOf) (f : Fixed) (h : ℕ) → alone plan f h ≡ alone (without_orders plan) f h
order_is_nothing plan f h = plays_same plan f 0 plan.plays (first_row h)

pub strategies_agree : StrategiesAgree
strategies_agree one two f pool other_pool trail other s t same free apart free_too apart_too run also early early_too h row new found there =
    let first = ends_alone one f pool trail s free apart run early h row found in
    let second = ends_alone two f other_pool other t free_too apart_too also early_too h new there in
    let alike : alone one f h ≡ alone two f h = order_is_nothing one f h ∙ ap (λ (plan : PlanOf). alone plan f h) same ∙ sym (order_is_nothing two f h) in
    (first.0 ∙ ap (λ (r : HostOf). r.facts) alike ∙ sym second.0, first.1 ∙ ap (λ (r : HostOf). r.counts) alike ∙ sym second.1)
