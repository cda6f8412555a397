-- A host by itself: what a start, a send and a report leave of its walk.
use Rattle.std.proofs.Common.{◌≡◌, ℕ, zero, suc, ◌+◌, ◌<◌, ◌≤◌, Bool, true, false, List, refl, sym, ◌∙◌, ap, subst, arith}
use Rattle.std.specs.Prelude.{Option, Some, None, if◌then◌else◌}
use Rattle.std.specs.Option.{option_map_or}
use Rattle.pb_ids.specs.declared.numbers.Ticket.{Ticket}
use Rattle.pb_tree.specs.Tree.{TreeOf, size_of}
use Rattle.pb_outcome.specs.declared.item.Item.{Item}
use Rattle.pb_outcome.specs.declared.outcome.Form.{Form}
use Rattle.pb_outcome.specs.Items.{is_over}
use Rattle.pb_plan.specs.Plan.{PlayOf, PlanOf}
use Rattle.pb_task_vars.specs.Results.{items_at}
use Rattle.pb_host.specs.declared.host.Running.{Running}
use Rattle.pb_host.specs.Host.{HostOf, next_place, ended, came_back, items_after, sent, reported, reported_running}
use Rattle.pb_state.proofs.Walks.{IsIn}
use Rattle.pb_confluence.specs.Fixed.{Fixed}
use Rattle.pb_confluence.specs.Effect.{attempts_left, outcome_for, item_back, items_back, played_out, started, whole}
use Rattle.pb_confluence.specs.Alone.{goes_at, goes, walks}
use Rattle.pb_confluence.proofs.Once.{IsIdle}
use Rattle.pb_confluence.proofs.Rows.{IsAfter, ended_after, running, attempts_some, attempts_back, none_back, enough_back, sent_items}
use Rattle.pb_confluence.proofs.Turns.{place_below}

-- ---- a row stays in its batch, and in its tree
in_progress : (tree : TreeOf) (plan : PlanOf) (play : PlayOf) (p : ℕ) (items : List Item) (row : HostOf) (over : Bool) → IsIn tree row
    → IsIn tree (if over then ended plan.inventory play p items row else running (Some (record { place = p; items = items; out = None })) row)
in_progress tree plan play p items row true is = is
in_progress tree plan play p items row false is = is

in_report : (tree : TreeOf) (plan : PlanOf) (play : PlayOf) (o : Form) (row : HostOf) (x : Option Running) → IsIn tree row → IsIn tree (option_map_or (reported_running plan play o row) x row)
in_report tree plan play o row None is = is
in_report tree plan play o row (Some r) is = in_progress tree plan play r.place (items_after plan play row.host row.facts o r) row (is_over (items_after plan play row.host row.facts o r)) is

in_either : (tree : TreeOf) (x : Option Running) (new row : HostOf) → IsIn tree new → IsIn tree row → IsIn tree (option_map_or (λ (r : Running). new) x row)
in_either tree None new row is was = was
in_either tree (Some r) new row is was = is

-- a task that a host ended: nothing runs then, and the host is behind the place
abbrev Ends : ℕ → HostOf → Type 0
Ends p row = IsIdle row × IsAfter p (next_place row)

-- a host is at its end, or has at least as many goes as there are places left
abbrev Enough : ℕ → ℕ → Option ℕ → Type 0
Enough size m None = Unit {0}
Enough size m (Some q) = size ≤ q + m

module _ (plan : PlanOf) (f : Fixed) (number : ℕ) (play : PlayOf) where
  in_items : (tree : TreeOf) (n : ℕ) (row : HostOf) → IsIn tree row → IsIn tree (items_back plan f number play n row)
  in_items tree zero row is = is
  in_items tree (suc n) row is =
      in_either tree row.running (items_back plan f number play n (item_back plan f number play row)) row
      (in_items tree n (item_back plan f number play row) (in_report tree plan play (outcome_for plan f number play row) row row.running is)) is

  in_played_out : (tree : TreeOf) (x : Option Running) (row : HostOf) → IsIn tree row → IsIn tree (played_out plan f number play x row)
  in_played_out tree None row is = is
  in_played_out tree (Some r) row is = in_items tree (attempts_left r.items) row is

  in_whole : (tree : TreeOf) (p : ℕ) (row : HostOf) → IsIn tree row → IsIn tree (whole plan f number play p row)
  in_whole tree p row is =
      in_played_out tree (started plan play p row).running (started plan play p row)
      (in_progress tree plan play p (items_at plan play row.host row.facts p) row (is_over (items_at plan play row.host row.facts p)) is)

  by_over : (m p : ℕ) (items : List Item) (row : HostOf) (over : Bool) → is_over items ≡ over → next_place row ≡ Some p
      → (is_over items ≡ false → Ends p (items_back plan f number play m (running (Some (record { place = p; items = items; out = None })) row)))
      → Ends p (items_back plan f number play m (if over then ended plan.inventory play p items row else running (Some (record { place = p; items = items; out = None })) row))
  by_over m p items row true o at on =
      subst (Ends p) (sym (none_back plan f number play m (ended plan.inventory play p items row) refl)) (refl, ended_after plan.inventory play p p items row at)
  by_over m p items row false o at on = on o

  ends_in : (m : ℕ) (r : Running) (row : HostOf) → attempts_left r.items ≤ m → is_over r.items ≡ false → next_place row ≡ Some r.place → Ends r.place (items_back plan f number play m (running (Some r) row))
  ends_in zero r row count over at = let some = attempts_some r.items over in let left = some.1 in absurd (omega (arith, left, count))
  ends_in (suc m) r row count over at =
      by_over m r.place (items_after plan play row.host row.facts (outcome_for plan f number play (running (Some r) row)) r) (running (Some r) row)
      (is_over (items_after plan play row.host row.facts (outcome_for plan f number play (running (Some r) row)) r)) refl at
      (λ going.
      ends_in m (record { place = r.place; items = items_after plan play row.host row.facts (outcome_for plan f number play (running (Some r) row)) r; out = None }) row
      (attempts_back (came_back plan play row.host row.facts r.place (outcome_for plan f number play (running (Some r) row))) r.items m over count) going at)

  played_out_by : (p : ℕ) (items : List Item) (row : HostOf) (over : Bool) → is_over items ≡ over → next_place row ≡ Some p
      → Ends p (played_out plan f number play (if over then ended plan.inventory play p items row else running (Some (record { place = p; items = items; out = None })) row).running
      (if over then ended plan.inventory play p items row else running (Some (record { place = p; items = items; out = None })) row))
  played_out_by p items row true o at = (refl, ended_after plan.inventory play p p items row at)
  played_out_by p items row false o at = ends_in (attempts_left items) (record { place = p; items = items; out = None }) row (omega arith) o at

  whole_ends : (p : ℕ) (row : HostOf) → next_place row ≡ Some p → Ends p (whole plan f number play p row)
  whole_ends p row at = played_out_by p (items_at plan play row.host row.facts p) row (is_over (items_at plan play row.host row.facts p)) refl at

  -- ---- where a host is at its end, or has at least as many goes as there are places left, one more changes nothing
  goes_idle : (row : HostOf) (next : Option ℕ) → IsIdle row → next_place row ≡ next → goes plan f number play row.running row ≡ goes_at plan f number play next row
  goes_idle row next idle at = ap (λ (x : Option Running). goes plan f number play x row) idle ∙ ap (λ (q : Option ℕ). goes_at plan f number play q row) at

  more_room : (p m : ℕ) (next : Option ℕ) → size_of play.tree ≤ p + suc m → IsAfter p next → Enough (size_of play.tree) m next
  more_room p m None h i = tt
  more_room p m (Some q) h i = omega (arith, h, i)

  walks_more : (m : ℕ) (row : HostOf) (next : Option ℕ) → IsIdle row → IsIn play.tree row → next_place row ≡ next → Enough (size_of play.tree) m next → walks plan f number play (suc m) row ≡ walks plan f number play m row
  walks_more zero row None idle is at room = goes_idle row None idle at
  walks_more zero row (Some q) idle is at room = absurd (let below = place_below play.tree q row is at in omega (arith, below, room))
  walks_more (suc m) row None idle is at room =
      ap (walks plan f number play (suc m)) (goes_idle row None idle at) ∙ walks_more m row None idle is at tt ∙ sym (ap (walks plan f number play m) (goes_idle row None idle at))
  walks_more (suc m) row (Some q) idle is at room =
      let over = whole_ends q row at in
      ap (walks plan f number play (suc m)) (goes_idle row (Some q) idle at)
      ∙ walks_more m (whole plan f number play q row) (next_place (whole plan f number play q row)) over.0 (in_whole play.tree q row is) refl (more_room q m (next_place (whole plan f number play q row)) room over.1)
      ∙ sym (ap (walks plan f number play m) (goes_idle row (Some q) idle at))

  -- ---- a start
  some_size : (n p : ℕ) → p < n → (m : ℕ) × (n ≡ suc m)
  some_size zero p h = absurd (omega (arith, h))
  some_size (suc m) p h = (m, refl)

  begun : (m p : ℕ) (items : List Item) (row : HostOf) (over : Bool) → size_of play.tree ≡ suc m → IsIn play.tree row → next_place row ≡ Some p
      → walks plan f number play (suc m) (if over then ended plan.inventory play p items row else running (Some (record { place = p; items = items; out = None })) row)
      ≡ walks plan f number play m
      (played_out plan f number play (if over then ended plan.inventory play p items row else running (Some (record { place = p; items = items; out = None })) row).running
      (if over then ended plan.inventory play p items row else running (Some (record { place = p; items = items; out = None })) row))
  begun m p items row true size is at =
      walks_more m (ended plan.inventory play p items row) (next_place (ended plan.inventory play p items row)) refl is refl
      (more_room p m (next_place (ended plan.inventory play p items row)) (omega (arith, size)) (ended_after plan.inventory play p p items row at))
  begun m p items row false size is at = refl

  pub start_walks : (p : ℕ) (row : HostOf) → IsIdle row → IsIn play.tree row → next_place row ≡ Some p
      → walks plan f number play (size_of play.tree) (started plan play p row) ≡ walks plan f number play (size_of play.tree) row
  start_walks p row idle is at =
      let size = some_size (size_of play.tree) p (place_below play.tree p row is at) in
      ap (λ (n : ℕ). walks plan f number play n (started plan play p row)) size.1
      ∙ begun size.0 p (items_at plan play row.host row.facts p) row (is_over (items_at plan play row.host row.facts p)) size.1 is at
      ∙ sym (ap (walks plan f number play size.0) (goes_idle row (Some p) idle at))
      ∙ sym (ap (λ (n : ℕ). walks plan f number play n row) size.1)

  -- ---- a send
  pub send_walks : (ticket : Ticket) (row : HostOf) (r : Running) → row.running ≡ Some r → is_over r.items ≡ false → IsIn play.tree row → next_place row ≡ Some r.place
      → walks plan f number play (size_of play.tree) (sent ticket row) ≡ walks plan f number play (size_of play.tree) row
  send_walks ticket row r runs over is at =
      let size = some_size (size_of play.tree) r.place (place_below play.tree r.place row is at) in
      let some = attempts_some r.items over in
      ap (λ (n : ℕ). walks plan f number play n (sent ticket row)) size.1
      ∙ subst (λ (x : Option Running). walks plan f number play (suc size.0) (sent ticket (running x row)) ≡ walks plan f number play (suc size.0) (running x row)) (sym runs)
      (ap (walks plan f number play size.0)
      (ap (λ (n : ℕ). items_back plan f number play n (sent ticket (running (Some r) row))) some.1 ∙ sent_items plan f number play some.0 ticket r row
      ∙ sym (ap (λ (n : ℕ). items_back plan f number play n (running (Some r) row)) some.1)))
      ∙ sym (ap (λ (n : ℕ). walks plan f number play n row) size.1)

  -- ---- a report
  came : (m k p : ℕ) (items : List Item) (row : HostOf) (over : Bool) → is_over items ≡ over → size_of play.tree ≡ suc m → IsIn play.tree row → next_place row ≡ Some p → attempts_left items ≤ k
      → walks plan f number play (suc m) (if over then ended plan.inventory play p items row else running (Some (record { place = p; items = items; out = None })) row)
      ≡ walks plan f number play m (items_back plan f number play k (if over then ended plan.inventory play p items row else running (Some (record { place = p; items = items; out = None })) row))
  came m k p items row true o size is at count =
      walks_more m (ended plan.inventory play p items row) (next_place (ended plan.inventory play p items row)) refl is refl
      (more_room p m (next_place (ended plan.inventory play p items row)) (omega (arith, size)) (ended_after plan.inventory play p p items row at))
      ∙ sym (ap (walks plan f number play m) (none_back plan f number play k (ended plan.inventory play p items row) refl))
  came m k p items row false o size is at count =
      ap (walks plan f number play m) (enough_back plan f number play (attempts_left items) k (record { place = p; items = items; out = None }) row o (omega arith) count)

  reports : (m : ℕ) (o : Form) (r : Running) (row : HostOf) → size_of play.tree ≡ suc m → IsIn play.tree row → next_place row ≡ Some r.place → is_over r.items ≡ false → o ≡ outcome_for plan f number play (running (Some r) row)
      → walks plan f number play (suc m) (reported plan play o (running (Some r) row)) ≡ walks plan f number play (suc m) (running (Some r) row)
  reports m o r row size is at over fixed =
      let some = attempts_some r.items over in
      let left = some.1 in
      came m some.0 r.place (items_after plan play row.host row.facts o r) (running (Some r) row) (is_over (items_after plan play row.host row.facts o r)) refl size is at
      (attempts_back (came_back plan play row.host row.facts r.place o) r.items some.0 over (omega (arith, left)))
      ∙ ap (λ (v : Form). walks plan f number play m (items_back plan f number play some.0 (reported plan play v (running (Some r) row)))) fixed
      ∙ sym (ap (λ (n : ℕ). walks plan f number play m (items_back plan f number play n (running (Some r) row))) some.1)

  pub report_walks : (o : Form) (row : HostOf) (r : Running) → row.running ≡ Some r → is_over r.items ≡ false → IsIn play.tree row → next_place row ≡ Some r.place → o ≡ outcome_for plan f number play row
      → walks plan f number play (size_of play.tree) (reported plan play o row) ≡ walks plan f number play (size_of play.tree) row
  report_walks o row r runs over is at fixed =
      let size = some_size (size_of play.tree) r.place (place_below play.tree r.place row is at) in
      ap (λ (n : ℕ). walks plan f number play n (reported plan play o row)) size.1
      ∙ subst
      (λ (x : Option Running). IsIn play.tree (running x row) → next_place (running x row) ≡ Some r.place → o ≡ outcome_for plan f number play (running x row)
      → walks plan f number play (suc size.0) (reported plan play o (running x row)) ≡ walks plan f number play (suc size.0) (running x row))
      (sym runs) (λ i a g. reports size.0 o r row size.1 i a over g) is at fixed
      ∙ sym (ap (λ (n : ℕ). walks plan f number play n row) size.1)

  -- a host at its end stays so
  pub end_walks : (n : ℕ) (row : HostOf) → IsIdle row → next_place row ≡ None → walks plan f number play n row ≡ row
  end_walks zero row idle at = refl
  end_walks (suc n) row idle at = ap (walks plan f number play n) (goes_idle row None idle at) ∙ end_walks n row idle at
