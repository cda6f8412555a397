-- A turn, an open and a close: an event of all hosts.
use Rattle.std.proofs.Common.{◌≡◌, ◌⊎◌, inl, inr, ℕ, zero, suc, ◌+◌, ◌-◌, ◌<◌, ◌≤◌, Bool, true, false, ◌&&◌, ◌||◌, not, List, [], ◌∷◌, map, drop, refl, sym, ◌∙◌, ap, subst, arith}
use Rattle.std.proofs.lemmas.Bool.{eqb-true}
use Rattle.std.specs.Prelude.{◌==◌, Option, Some, None, is_some, is_none, slice_get, if◌then◌else◌}
use Rattle.std.specs.List.{list_any}
use Rattle.std.specs.Option.{option_map_or}
use Rattle.pb_batches.specs.Sizes.{batch_sizes}
use Rattle.pb_tree.specs.Tree.{TreeOf, size_of}
use Rattle.pb_plan.specs.Plan.{PlayOf, PlanOf}
use Rattle.pb_strategies.specs.declared.strategy.Strategy.{Strategy}
use Rattle.pb_strategies.specs.MayStart.{is_linear}
use Rattle.pb_host.specs.declared.host.LastTask.{LastTask}
use Rattle.pb_host.specs.Ends.{ends_run_once}
use Rattle.pb_host.specs.Host.{HostOf, no_tree, next_place, is_at, as_play_begins, left, runs_once_at}
use Rattle.pb_host.specs.Runs.{is_in, is_running}
use Rattle.pb_hosts.specs.Batches.{has_batch_left, play_host_count, joins, room_behind, joined_first}
use Rattle.pb_hosts.specs.Hosts.{has_hosts, first_play, least_place}
use Rattle.pb_hosts.specs.Turn.{BatchOf, ends_run_once_at, has_done_run_once, run_once_host, source, turned, turned_by}
use Rattle.pb_hosts.proofs.Batching.{some_play_host}
use Rattle.pb_hosts.proofs.Turning.{Goes, goes_tree, goes_inside, turned_case}
use Rattle.pb_state.specs.Machine.{open_play, is_left, next_play, may_open, may_turn_in, may_close_in, first_by, opened as opened_from, goes_on, begins, begins_at, after_open, batch_of, turned_in, closed}
use Rattle.pb_state.specs.State.{State}
use Rattle.pb_state.proofs.FewBatches.{some_batch}
use Rattle.pb_state.proofs.Idle.{turn_place, turn_idle, turn_does_run_once}
use Rattle.pb_state.proofs.Opening.{next_is}
use Rattle.pb_state.proofs.Walks.{AllIn}
use Rattle.pb_confluence.specs.Fixed.{Fixed}
use Rattle.pb_confluence.specs.Effect.{complete}
use Rattle.pb_confluence.specs.Together.{by_each, at_place, at_places, in_batch, in_play, at_plays}
use Rattle.pb_independence.proofs.Tests.{and_left, and_right, or_false}
use Rattle.pb_confluence.proofs.Lists.{Every, every_other, every_both, map_left}
use Rattle.pb_confluence.proofs.Once.{IsIdle, Fresh, Solo, IfOnce, solo_fresh, none_runs, until_left, until_stays}
use Rattle.pb_confluence.proofs.Rows.{IsAfter, AtLeast, RunsAt, LastIn, LastBefore, KnownAt, IsWell, passed, not_at}
use Rattle.pb_confluence.proofs.Turns.{IsThere, IsTurned, IsAway, after_over, turn_turned, places_later, turned_fresh, least_below, least_after, least_is, jump}
use Rattle.pb_confluence.proofs.Values.{later_plays, batches_left, closing, in_open, in_closed, rest, value, SoloAt, Holds, HoldsIn, batch_closes}
use Rattle.pb_state.proofs.Local.{opened}
use Rattle.pb_confluence.proofs.Starting.{Keeps, open_value}

-- ---- a turn
-- where some host is at the place, one has done the task there for all
run_once_source : (p : ℕ) (rows : List HostOf) (from : HostOf) → run_once_host p rows ≡ Some from → list_any (has_done_run_once p) rows ≡ true
run_once_source p [] from e = cc
run_once_source p (row ∷ rows) from e = by_row (has_done_run_once p row) (λ f. run_once_source p rows from f) e
  where
    by_row : (b : Bool) → (run_once_host p rows ≡ Some from → list_any (has_done_run_once p) rows ≡ true) → (if b then Some row else run_once_host p rows) ≡ Some from → (b || list_any (has_done_run_once p) rows) ≡ true
    by_row true on f = refl
    by_row false on f = on f

once_source : (once : Bool) (p : ℕ) (rows : List HostOf) (from : HostOf) → (if once then run_once_host p rows else None) ≡ Some from → (once ≡ true) × (list_any (has_done_run_once p) rows ≡ true)
once_source true p rows from e = (refl, run_once_source p rows from e)
once_source false p rows from e = cc

abbrev Rested : PlayOf → ℕ → List HostOf → Type 0
Rested play p rows = Every (IsAway p) rows ⊎ ((from : HostOf) × (source play p rows ≡ Some from) × (has_done_run_once p from ≡ true))

all_away : (p : ℕ) (rows : List HostOf) → Every IsIdle rows → list_any (is_at p) rows ≡ false → Every (IsAway p) rows
all_away p [] idle e = tt
all_away p (row ∷ rows) idle e = let two = or_false (is_at p row) (list_any (is_at p) rows) e in ((idle.0, two.0), all_away p rows idle.1 two.1)

rested : (s : State) (play : PlayOf) (p : ℕ) → 0 < s.forks → may_turn_in s play ≡ true → s.place ≡ Some p → Every IsIdle s.rows → Every (λ row. AtLeast (Some p) (next_place row)) s.rows → Rested play p s.rows
rested s play p some may current idle low = by_any (list_any (is_at p) s.rows) refl
  where
    by_any : (b : Bool) → list_any (is_at p) s.rows ≡ b → Rested play p s.rows
    by_any true e = inr (turn_does_run_once s play p some may current (least_is p s.rows low e))
    by_any false e = inl (all_away p s.rows idle e)

-- nothing is left of the place's whole effect
last_away : (p : ℕ) (last : Option LastTask) (next : Option ℕ) → LastBefore last next → option_map_or (ends_run_once_at p) last false ≡ true → option_map_or (λ q. q == p) next false ≡ false
last_away p None next h e = cc
last_away p (Some e) next h t =
    let same : e.place ≡ p = eqb-true e.place p (and_left (e.place == p) (ends_run_once e.kind) t) in
    not_at p next (subst (λ (q : ℕ). IsAfter q next) same h)

nothing_left : (once : Bool) (p : ℕ) (F : HostOf → HostOf) → ((row : HostOf) → IsIdle row → is_at p row ≡ false → F row ≡ row) → (rows : List HostOf)
    → Every (IsAway p) rows ⊎ ((once ≡ true) × (list_any (has_done_run_once p) rows ≡ true)) → IfOnce once (Solo p rows) → Every (λ row. IsIdle row × LastBefore row.last (next_place row)) rows → by_each once p F rows ≡ rows
nothing_left true p F leaves rows (inl away) solo all = until_left p F leaves rows away
nothing_left true p F leaves rows (inr done) solo all =
    until_stays p F leaves rows solo
    (every_other (λ row. IsIdle row × LastBefore row.last (next_place row)) (λ row. IsIdle row × (has_done_run_once p row ≡ true → is_at p row ≡ false)) (λ row h. (h.0, λ d. last_away p row.last (next_place row) h.1 d)) rows all) done.1
nothing_left false p F leaves rows (inl away) solo all = map_left F (IsAway p) (λ row h. leaves row h.0 h.1) rows away
nothing_left false p F leaves rows (inr done) solo all = cc

-- rows that are well, where nobody runs
pub well_idle : (place : Option ℕ) (row : HostOf) → IsIdle row → IsWell place row → AtLeast place (next_place row) × LastIn place row.last × LastBefore row.last (next_place row)
well_idle place row idle h =
    let known = subst (KnownAt place row) idle h.1 in
    (subst (RunsAt place row) idle h.0, known.0, known.1)

idle_well : (place : Option ℕ) (row : HostOf) → IsIdle row → AtLeast place (next_place row) → LastIn place row.last → LastBefore row.last (next_place row) → IsWell place row
idle_well place row idle at last before = (subst (RunsAt place row) (sym idle) at, subst (KnownAt place row) (sym idle) (last, before))

last_later : (p : ℕ) (m : Option ℕ) (last : Option LastTask) → IsAfter p m → LastIn (Some p) last → LastIn m last
last_later p m None h i = tt
last_later p None (Some e) h i = tt
last_later p (Some q) (Some e) h i = omega (arith, h, i)

last_before : (p : ℕ) (last : Option LastTask) (next : Option ℕ) → LastIn (Some p) last → IsAfter p next → LastBefore last next
last_before p None next h i = tt
last_before p (Some e) next h i = after_over e.place p next h i

solo_once : (p : ℕ) (rows : List HostOf) (b : Bool) → Every (Fresh p) rows → IfOnce b (Solo p rows)
solo_once p rows true all = solo_fresh p rows all
solo_once p rows false all = tt

turned_solo : (play : PlayOf) (p : ℕ) (m : Option ℕ) (rows : List HostOf) → IsAfter p m → Every (IsTurned p) rows → SoloAt play m rows
turned_solo play p None rows less all = tt
turned_solo play p (Some q) rows less all = solo_once q rows (runs_once_at play q) (every_other (IsTurned p) (Fresh q) (λ row h. turned_fresh p q row less h) rows all)

turned_holds : (play : PlayOf) (p : ℕ) (rows : List HostOf) → Every (IsTurned p) rows → Holds play (least_place rows) rows
turned_holds play p rows all =
    let less : IsAfter p (least_place rows) = least_after p rows (every_other (IsTurned p) (λ row. IsAfter p (next_place row)) (λ row h. h.1) rows all) in (
      every_other (λ row. IsTurned p row × AtLeast (least_place rows) (next_place row)) (IsWell (least_place rows))
          (λ row h. idle_well (least_place rows) row h.0.0 h.1 (last_later p (least_place rows) row.last less h.0.2) (last_before p row.last (next_place row) h.0.2 h.0.1))
          rows (every_both (IsTurned p) (λ row. AtLeast (least_place rows) (next_place row)) rows all (least_below rows)),
      turned_solo play p (least_place rows) rows less all,
    )

above : (p q : ℕ) (m : Option ℕ) → IsAfter p m → m ≡ Some q → p + 1 ≤ q
above p q None h e = cc
above p q (Some n) h e = let same : n ≡ q = cc in omega (arith, h, same)

pub in_map : (tree : TreeOf) (f : HostOf → HostOf) → Goes f → (rows : List HostOf) → AllIn tree rows → AllIn tree (map f rows)
in_map tree f goes [] all = tt
in_map tree f goes (row ∷ rows) all = (λ e. goes_tree f goes row ∙ all.0 (sym (goes_inside f goes row) ∙ e), in_map tree f goes rows all.1)

-- at a place that has come to its end
turn_core : (plan : PlanOf) (f : Fixed) (number p : ℕ) (play : PlayOf) (batch : BatchOf) → Rested play p batch.rows → Every IsIdle batch.rows → Holds play (Some p) batch.rows → AllIn play.tree batch.rows
    → Holds play (least_place (turned plan.inventory play p batch).rows) (turned plan.inventory play p batch).rows
    × (in_open plan f number (least_place (turned plan.inventory play p batch).rows) (turned plan.inventory play p batch) play ≡ in_open plan f number (Some p) batch play)
turn_core plan f number p play batch still idle holds inside =
    let known = every_both IsIdle (IsWell (Some p)) batch.rows idle holds.0 in
    let there : Every (IsThere p) batch.rows = every_other (λ row. IsIdle row × IsWell (Some p) row) (IsThere p)
    (λ row h. (h.0, (well_idle (Some p) row h.0 h.1).0, (well_idle (Some p) row h.0 h.1).1)) batch.rows known in
    let lasts : Every (λ row. IsIdle row × LastBefore row.last (next_place row)) batch.rows = every_other (λ row. IsIdle row × IsWell (Some p) row) (λ row. IsIdle row × LastBefore row.last (next_place row))
    (λ row h. (h.0, (well_idle (Some p) row h.0 h.1).2)) batch.rows known in
    let all : Every (IsTurned p) (turned plan.inventory play p batch).rows = turn_turned plan.inventory play p batch there still in
    let less : IsAfter p (least_place (turned plan.inventory play p batch).rows) = least_after p (turned plan.inventory play p batch).rows
    (every_other (IsTurned p) (λ row. IsAfter p (next_place row)) (λ row h. h.1) (turned plan.inventory play p batch).rows all) in
    let done : Every (IsAway p) batch.rows ⊎ ((runs_once_at play p ≡ true) × (list_any (has_done_run_once p) batch.rows ≡ true)) =
    elim still [ inl away ↦ inl away | inr from ↦ inr (once_source (runs_once_at play p) p batch.rows from.0 from.1) ] in
    let same : at_place plan f number play p batch.rows ≡ batch.rows = nothing_left (runs_once_at play p) p (complete plan f number play p) (λ row i away. passed plan f number play p row i away) batch.rows done holds.1 lasts in
    let tree : AllIn play.tree (turned plan.inventory play p batch).rows = turned_case (AllIn play.tree) (λ g goes rows now. in_map play.tree g goes rows now) plan.inventory play p batch inside in (
      turned_holds play p (turned plan.inventory play p batch).rows all,
      ap (closing plan f number play)
          (sym (jump plan f number play (p + 1) (turned plan.inventory play p batch) tree (λ q at. above p q (least_place (turned plan.inventory play p batch).rows) less at))
          ∙ ap (λ (rows : List HostOf). at_places plan f number play (size_of play.tree - (p + 1)) (p + 1) (turned plan.inventory play p (record { rows = rows; sizes_left = batch.sizes_left }))) (sym same)),
    )

some_is : (place : Option ℕ) → is_some place ≡ true → (p : ℕ) × (place ≡ Some p)
some_is None e = cc
some_is (Some p) e = (p, refl)

turn_at : (plan : PlanOf) (f : Fixed) (s : State) (play : PlayOf) (p : ℕ) → 0 < s.forks → may_turn_in s play ≡ true → open_play plan s ≡ Some play → s.place ≡ Some p → Holds play (Some p) s.rows → AllIn play.tree s.rows
    → Holds play (least_place (turned plan.inventory play p (batch_of s)).rows) (turned plan.inventory play p (batch_of s)).rows
    × (in_open plan f s.play (least_place (turned plan.inventory play p (batch_of s)).rows) (turned plan.inventory play p (batch_of s)) play ≡ in_open plan f s.play (Some p) (batch_of s) play)
turn_at plan f s play p some may o current holds inside =
    let idle = none_runs s.rows (turn_idle s play may) in
    let low : Every (λ row. AtLeast (Some p) (next_place row)) s.rows = every_other (λ row. IsIdle row × IsWell (Some p) row) (λ row. AtLeast (Some p) (next_place row))
    (λ row h. (well_idle (Some p) row h.0 h.1).0) s.rows (every_both IsIdle (IsWell (Some p)) s.rows idle holds.0) in
    turn_core plan f s.play p play (batch_of s) (rested s play p some may current idle low) idle holds inside

-- a state that is still in the play, with another batch and place
moved_keeps : (plan : PlanOf) (f : Fixed) (s t : State) (play : PlayOf) → open_play plan s ≡ Some play → t.is_open ≡ s.is_open → t.play ≡ s.play → Holds play t.place t.rows
    → in_open plan f s.play t.place (batch_of t) play ≡ in_open plan f s.play s.place (batch_of s) play → Keeps plan f s t
moved_keeps plan f s t play o b n holds same =
    let here : open_play plan t ≡ Some play = ap (λ (is_open : Bool). if is_open then slice_get plan.plays t.play else None) b ∙ ap (λ (k : ℕ). if s.is_open then slice_get plan.plays k else None) n ∙ o in (
      subst (λ (found : Option PlayOf). HoldsIn t.place t.rows found) (sym here) holds,
      open_value plan f t play t.rows here ∙ ap (λ (k : ℕ). in_open plan f k t.place (batch_of t) play) n ∙ same ∙ sym (open_value plan f s play s.rows o),
    )

pub turn_keeps : (plan : PlanOf) (f : Fixed) (s : State) (play : PlayOf) → 0 < s.forks → may_turn_in s play ≡ true → open_play plan s ≡ Some play → Holds play s.place s.rows → AllIn play.tree s.rows → Keeps plan f s (turned_in plan.inventory s play)
turn_keeps plan f s play some may o holds inside =
    let at = some_is s.place (turn_place s play may) in
    let core = turn_at plan f s play at.0 some may o at.1 (subst (λ (q : Option ℕ). Holds play q s.rows) at.1 holds) inside in
    moved_keeps plan f s (turned_in plan.inventory s play) play o refl refl
    (subst (λ (q : Option ℕ). Holds play (least_place (turned_by plan.inventory play (batch_of s) q).rows) (turned_by plan.inventory play (batch_of s) q).rows) (sym at.1) core.0)
    (subst
    (λ (q : Option ℕ). in_open plan f s.play (least_place (turned_by plan.inventory play (batch_of s) q).rows) (turned_by plan.inventory play (batch_of s) q) play ≡ in_open plan f s.play q (batch_of s) play)
    (sym at.1) core.1)

-- ---- a close
left_idle : (rows : List HostOf) → Every IsIdle (map left rows)
left_idle [] = tt
left_idle (row ∷ rows) = (refl, left_idle rows)

none_later : (sizes_left : List ℕ) → has_batch_left sizes_left ≡ false → sizes_left ≡ []
none_later [] e = refl
none_later (size ∷ sizes_left) e = cc

close_more : (plan : PlanOf) (f : Fixed) (s : State) (play : PlayOf) (rows : List HostOf) (more : Bool) → slice_get plan.plays s.play ≡ Some play → has_batch_left s.sizes_left ≡ more
    → in_closed plan f (if more then s.play else s.play + 1) s.sizes_left rows more ≡ batches_left plan f s.play play s.sizes_left rows
close_more plan f s play rows true there m = ap (λ (found : Option PlayOf). option_map_or (λ (p : PlayOf). batches_left plan f s.play p s.sizes_left rows) found rows) there
close_more plan f s play rows false there m = sym (ap (λ (sizes_left : List ℕ). batches_left plan f s.play play sizes_left rows) (none_later s.sizes_left m))

close_some : (plan : PlanOf) (f : Fixed) (s : State) (play : PlayOf) (some : Bool) → slice_get plan.plays s.play ≡ Some play
    → rest plan f false (not some) s.place (if has_batch_left s.sizes_left then s.play else s.play + 1) (record { rows = map left s.rows; sizes_left = s.sizes_left })
    ≡ (if some then batches_left plan f s.play play s.sizes_left (map left s.rows) else map left s.rows)
close_some plan f s play true there = close_more plan f s play (map left s.rows) (has_batch_left s.sizes_left) there refl
close_some plan f s play false there = refl

pub none_is : (place : Option ℕ) → is_none place ≡ true → place ≡ None
none_is None e = refl
none_is (Some p) e = cc

pub close_keeps : (plan : PlanOf) (f : Fixed) (s : State) (play : PlayOf) → may_close_in s play ≡ true → open_play plan s ≡ Some play → Keeps plan f s (closed s)
close_keeps plan f s play may o =
    let two = and_left (not s.stopped && is_none s.place && not (list_any is_running s.rows)) (is_none (least_place s.rows)) may in
    let one = and_left (not s.stopped && is_none s.place) (not (list_any is_running s.rows)) two in
    let none : s.place ≡ None = none_is s.place (and_right (not s.stopped) (is_none s.place) one) in
    let there = opened s.is_open (slice_get plan.plays s.play) play o in (
      left_idle s.rows,
      close_some plan f s play (list_any is_in s.rows) there.1
          ∙ sym (ap (λ (q : Option ℕ). in_open plan f s.play q (batch_of s) play) none)
          ∙ sym (open_value plan f s play s.rows o),
    )

-- ---- an open
joined_well : (m : Option ℕ) (tree : TreeOf) (room : ℕ) (rows : List HostOf) → Every (λ row. AtLeast m (next_place row)) (joined_first tree room rows) → Every (IsWell m) (joined_first tree room rows)
joined_well m tree room [] all = tt
joined_well m tree room (row ∷ rows) all = ((all.0, (tt, tt)), joined_well m tree (room_behind room row.awaits_batch) rows all.1)

joined_fresh : (p : ℕ) (tree : TreeOf) (room : ℕ) (rows : List HostOf) → Every (Fresh p) (joined_first tree room rows)
joined_fresh p tree room [] = tt
joined_fresh p tree room (row ∷ rows) = ((refl, refl), joined_fresh p tree (room_behind room row.awaits_batch) rows)

joined_solo : (play : PlayOf) (m : Option ℕ) (tree : TreeOf) (room : ℕ) (rows : List HostOf) → SoloAt play m (joined_first tree room rows)
joined_solo play None tree room rows = tt
joined_solo play (Some q) tree room rows = solo_once q (joined_first tree room rows) (runs_once_at play q) (joined_fresh q tree room rows)

joined_in : (tree : TreeOf) (room : ℕ) (rows : List HostOf) → AllIn tree (joined_first tree room rows)
joined_in tree room [] = tt
joined_in tree room (row ∷ rows) = (λ e. chosen (joins room row.awaits_batch) e, joined_in tree (room_behind room row.awaits_batch) rows)
  where
    chosen : (b : Bool) → b ≡ true → (if b then tree else no_tree) ≡ tree
    chosen true e = refl
    chosen false e = cc

joined_holds : (play : PlayOf) (room : ℕ) (rows : List HostOf) → Holds play (least_place (joined_first play.tree room rows)) (joined_first play.tree room rows)
joined_holds play room rows = (
  joined_well (least_place (joined_first play.tree room rows)) play.tree room rows (least_below (joined_first play.tree room rows)),
  joined_solo play (least_place (joined_first play.tree room rows)) play.tree room rows,
)

-- the batch that opens goes through all places
open_value_of : (plan : PlanOf) (f : Fixed) (number size : ℕ) (play : PlayOf) (sizes_left : List ℕ) (rows : List HostOf)
    → in_open plan f number (least_place (joined_first play.tree size rows)) (record { rows = joined_first play.tree size rows; sizes_left = sizes_left }) play ≡ batches_left plan f number play (size ∷ sizes_left) rows
open_value_of plan f number size play sizes_left rows =
    ap (closing plan f number play)
    (sym (jump plan f number play 0 (record { rows = joined_first play.tree size rows; sizes_left = sizes_left }) (joined_in play.tree size rows) (λ q at. omega arith))
    ∙ ap (λ (n : ℕ). at_places plan f number play n 0 (record { rows = joined_first play.tree size rows; sizes_left = sizes_left })) (let whole : size_of play.tree - 0 ≡ size_of play.tree = omega arith in whole))
    ∙ sym
    (batch_closes plan f number play sizes_left (record { rows = joined_first play.tree size rows; sizes_left = sizes_left }) (in_batch plan f number play size sizes_left rows) refl
    (places_later plan f number play (size_of play.tree) 0 (record { rows = joined_first play.tree size rows; sizes_left = sizes_left })))

first_linear : (strategy : Strategy) (rows : List HostOf) → is_linear strategy ≡ true → first_by strategy rows ≡ least_place rows
first_linear strategy rows e = ap (λ (b : Bool). if b then least_place rows else None) e

-- a batch of a play opens that the value says is next
opened_keeps : (plan : PlanOf) (f : Fixed) (s : State) (n batch : ℕ) (sizes : List ℕ) (rows : List HostOf) (play : PlayOf) → slice_get plan.plays n ≡ Some play → is_linear play.strategy ≡ true → has_batch_left sizes ≡ true
    → batches_left plan f n play sizes rows ≡ value plan f s → Keeps plan f s (opened_from s n batch sizes rows play)
opened_keeps plan f s n batch [] rows play there l some is = cc
opened_keeps plan f s n batch (size ∷ sizes_left) rows play there l some is =
    let first : first_by play.strategy (joined_first play.tree size rows) ≡ least_place (joined_first play.tree size rows) = first_linear play.strategy (joined_first play.tree size rows) l in (
      subst (λ (found : Option PlayOf). HoldsIn (first_by play.strategy (joined_first play.tree size rows)) (joined_first play.tree size rows) found) (sym there)
          (subst (λ (q : Option ℕ). Holds play q (joined_first play.tree size rows)) (sym first) (joined_holds play size rows)),
      ap (λ (found : Option PlayOf). option_map_or (in_open plan f n (first_by play.strategy (joined_first play.tree size rows)) (record { rows = joined_first play.tree size rows; sizes_left = sizes_left })) found (joined_first play.tree size rows)) there
          ∙ ap (λ (q : Option ℕ). in_open plan f n q (record { rows = joined_first play.tree size rows; sizes_left = sizes_left }) play) first
          ∙ open_value_of plan f n size play sizes_left rows ∙ is,
    )

-- the plays that have no hosts are passed over
pub drop_parts : (plays : List PlayOf) (m : ℕ) (first : PlayOf) (behind : List PlayOf) → first ∷ behind ≡ drop m plays → (slice_get plays m ≡ Some first) × (behind ≡ drop (m + 1) plays)
drop_parts [] zero first behind e = cc
drop_parts [] (suc m) first behind e = cc
drop_parts (play ∷ plays) zero first behind e = (let same : play ≡ first = cc in ap Some same, let same : behind ≡ plays = cc in same)
drop_parts (play ∷ plays) (suc m) first behind e =
    let on = drop_parts plays m first behind e in
    (on.0, on.1 ∙ ap (λ (k : ℕ). drop k (play ∷ plays)) (let next : suc (m + 1) ≡ suc m + 1 = omega arith in next))

skipped : (plan : PlanOf) (f : Fixed) (rows : List HostOf) (n : ℕ) (play : PlayOf) (m : ℕ) (plays : List PlayOf) → plays ≡ drop m plan.plays → first_play rows m plays ≡ Some n → slice_get plan.plays n ≡ Some play
    → at_plays plan f m plays rows ≡ in_play plan f n play (later_plays plan f n) rows
skipped plan f rows n play m [] is e there = cc
skipped plan f rows n play m (first ∷ behind) is e there =
    by_hosts (has_hosts rows first) e (λ g. skipped plan f rows n play (m + 1) behind parts.1 g there)
  where
    parts : (slice_get plan.plays m ≡ Some first) × (behind ≡ drop (m + 1) plan.plays)
    parts = drop_parts plan.plays m first behind is

    same_play : m ≡ n → first ≡ play
    same_play same = (let both : Some first ≡ Some play = sym parts.0 ∙ ap (slice_get plan.plays) same ∙ there in cc)

    begins_now : m ≡ n → in_play plan f m first (λ more. at_plays plan f (m + 1) behind more) rows ≡ in_play plan f n play (later_plays plan f n) rows
    begins_now same =
        ap (λ (xs : List PlayOf). in_play plan f m first (λ more. at_plays plan f (m + 1) xs more) rows) parts.1
        ∙ ap (λ (p : PlayOf). in_play plan f m p (later_plays plan f m) rows) (same_play same) ∙ ap (λ (k : ℕ). in_play plan f k play (later_plays plan f k) rows) same

    by_hosts : (b : Bool) → (if b then Some m else first_play rows (m + 1) behind) ≡ Some n
        → (first_play rows (m + 1) behind ≡ Some n → at_plays plan f (m + 1) behind rows ≡ in_play plan f n play (later_plays plan f n) rows)
        → (if b then in_play plan f m first (λ more. at_plays plan f (m + 1) behind more) rows else at_plays plan f (m + 1) behind rows) ≡ in_play plan f n play (later_plays plan f n) rows
    by_hosts true g on = begins_now (let same : m ≡ n = cc in same)
    by_hosts false g on = on g

pub sizes_some : (sizes : List ℕ) → (slice_get sizes 0 ≡ None → ⊥) → has_batch_left sizes ≡ true
sizes_some [] some = absurd (some refl)
sizes_some (size ∷ sizes) some = refl

-- each play of the plan is linear
abbrev pub AreLinear : PlanOf → Type 0
AreLinear plan = (n : ℕ) (play : PlayOf) → slice_get plan.plays n ≡ Some play → is_linear play.strategy ≡ true

closed_value : (plan : PlanOf) (f : Fixed) (s : State) → s.is_open ≡ false → s.ended ≡ false → value plan f s ≡ in_closed plan f s.play s.sizes_left s.rows (has_batch_left s.sizes_left)
closed_value plan f s o e =
    ap (λ (b : Bool). rest plan f b s.ended s.place s.play (batch_of s)) o ∙ ap (λ (b : Bool). rest plan f false b s.place s.play (batch_of s)) e

pub left_some : (plan : PlanOf) (s : State) (sizes_left : Bool) → has_batch_left s.sizes_left ≡ sizes_left → is_left plan s ≡ true → (if sizes_left then is_some (slice_get plan.plays s.play) else is_some (next_play plan s)) ≡ true
left_some plan s sizes_left l e = sym (ap (λ (b : Bool). if b then is_some (slice_get plan.plays s.play) else is_some (next_play plan s)) l) ∙ e

not_is : (b : Bool) → not b ≡ true → b ≡ false
not_is true e = cc
not_is false e = refl

goes_keeps : (plan : PlanOf) (f : Fixed) (s : State) (found : Option PlayOf) → AreLinear plan → slice_get plan.plays s.play ≡ found → has_batch_left s.sizes_left ≡ true → is_some found ≡ true
    → value plan f s ≡ in_closed plan f s.play s.sizes_left s.rows (has_batch_left s.sizes_left) → Keeps plan f s (option_map_or (goes_on s) found s)
goes_keeps plan f s None linear there l e is = cc
goes_keeps plan f s (Some play) linear there l e is =
    opened_keeps plan f s s.play (s.batch + 1) s.sizes_left s.rows play there (linear s.play play there) l
    (sym (is ∙ ap (in_closed plan f s.play s.sizes_left s.rows) l ∙ ap (λ (o : Option PlayOf). option_map_or (λ (p : PlayOf). batches_left plan f s.play p s.sizes_left s.rows) o s.rows) there))

begins_keeps : (plan : PlanOf) (f : Fixed) (s : State) (n : ℕ) (play : PlayOf) → AreLinear plan → slice_get plan.plays n ≡ Some play → has_hosts s.rows play ≡ true → has_batch_left s.sizes_left ≡ false → next_play plan s ≡ Some n
    → value plan f s ≡ in_closed plan f s.play s.sizes_left s.rows (has_batch_left s.sizes_left) → Keeps plan f s (option_map_or (begins s n) (slice_get plan.plays n) s)
begins_keeps plan f s n play linear there hosts l next is =
    subst (λ (found : Option PlayOf). Keeps plan f s (option_map_or (begins s n) found s)) (sym there)
    (opened_keeps plan f s n 0 (batch_sizes play.serial (play_host_count play.hosts s.rows)) (map (as_play_begins play.hosts) s.rows) play there (linear n play there)
    (sizes_some (batch_sizes play.serial (play_host_count play.hosts s.rows)) (some_batch play.serial (play_host_count play.hosts s.rows) (some_play_host play.hosts s.rows hosts)))
    (sym (is ∙ ap (in_closed plan f s.play s.sizes_left s.rows) l ∙ skipped plan f s.rows n play s.play (drop s.play plan.plays) refl next there)))

next_keeps : (plan : PlanOf) (f : Fixed) (s : State) (next : Option ℕ) → AreLinear plan → next_play plan s ≡ next → has_batch_left s.sizes_left ≡ false → is_some next ≡ true
    → value plan f s ≡ in_closed plan f s.play s.sizes_left s.rows (has_batch_left s.sizes_left) → Keeps plan f s (option_map_or (begins_at plan s) next s)
next_keeps plan f s None linear n l e is = cc
next_keeps plan f s (Some n) linear next l e is = let first = next_is plan s n next in begins_keeps plan f s n first.play linear first.there first.some l next is

after_keeps : (plan : PlanOf) (f : Fixed) (s : State) (sizes_left : Bool) → AreLinear plan → has_batch_left s.sizes_left ≡ sizes_left → is_left plan s ≡ true → value plan f s ≡ in_closed plan f s.play s.sizes_left s.rows (has_batch_left s.sizes_left)
    → Keeps plan f s (if sizes_left then option_map_or (goes_on s) (slice_get plan.plays s.play) s else option_map_or (begins_at plan s) (next_play plan s) s)
after_keeps plan f s true linear l e is = goes_keeps plan f s (slice_get plan.plays s.play) linear refl l (left_some plan s true l e) is
after_keeps plan f s false linear l e is = next_keeps plan f s (next_play plan s) linear refl l (left_some plan s false l e) is

pub open_keeps : (plan : PlanOf) (f : Fixed) (s : State) → AreLinear plan → may_open plan s ≡ true → Keeps plan f s (after_open plan s)
open_keeps plan f s linear may =
    let three = and_left (not s.stopped && not s.is_open && not s.ended) (is_left plan s) may in
    let two = and_left (not s.stopped && not s.is_open) (not s.ended) three in
    let shut : s.is_open ≡ false = not_is s.is_open (and_right (not s.stopped) (not s.is_open) two) in
    let going : s.ended ≡ false = not_is s.ended (and_right (not s.stopped && not s.is_open) (not s.ended) three) in
    after_keeps plan f s (has_batch_left s.sizes_left) linear refl (and_right (not s.stopped && not s.is_open && not s.ended) (is_left plan s) may) (closed_value plan f s shut going)
