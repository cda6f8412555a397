-- The hosts that are ready are exactly those that may act; so something can be done, or nothing but reports and commands is possible.
use Rattle.std.proofs.Common.{◌≡◌, ◌<◌, ◌⊎◌, ◌+◌, ℕ, zero, suc, Bool, true, false, ◌&&◌, ◌||◌, not, List, [], ◌∷◌, length, map, replicate, refl, sym, ◌∙◌, ap, inl, inr, arith}
use Rattle.std.specs.Prelude.{◌==◌, Option, Some, None, slice_get, is_none}
use Rattle.std.specs.List.{range_with_len}
use Rattle.std.specs.Option.{option_map_or}
use Rattle.std.specs.Simd.Lanes.{zip2}
use Rattle.std.proofs.lemmas.Option.{slice_get_within}
use Rattle.pb_ids.specs.declared.numbers.HostNo.{HostNo}
use Rattle.pb_ids.specs.declared.numbers.Ticket.{Ticket}
use Rattle.pb_planes.specs.Set.{has_some}
use Rattle.pb_plan.specs.Plan.{PlayOf, PlanOf}
use Rattle.pb_strategies.specs.MayStart.{may_start, may_start_from, has_room, ready as starting}
use Rattle.pb_strategies.specs.declared.standings.Standing.{Standing}
use Rattle.pb_host.specs.declared.host.Running.{Running}
use Rattle.pb_host.specs.Host.{HostOf}
use Rattle.pb_host.specs.Runs.{has_send, is_next, may_send_item, sends_running}
use Rattle.pb_host.specs.Standing.{standing}
use Rattle.pb_hosts.specs.Hosts.{at_row}
use Rattle.pb_state.specs.declared.event.Event.{Event}
use Rattle.pb_state.specs.declared.event.Event.TheVariants.{Open, Start, Send, Turn, Close}
use Rattle.pb_state.specs.Machine.{possible, ready, ready_in, with_sends, may_open, may_start_in, may_send_in, item_at, attempt_at, open_play}
use Rattle.pb_state.specs.Over.{IsGoing, IsOver, IsPlaced}
use Rattle.pb_state.specs.Run.{IsFinished, IsQuiet, is_move}
use Rattle.pb_state.specs.State.{State}
use Rattle.pb_state.specs.Strategies.{view_of}
use Rattle.pb_state.proofs.StepNumbers.{and_left, and_right}
use Rattle.pb_state.proofs.Quiet.{no_item_at, quiet, sends_now}
use Rattle.pb_state.proofs.Readies.{ready_either, widths}
use Rattle.pb_state.proofs.Stuck.{over_now}
use Rattle.pb_laws.specs.States.{MayAct}

-- ---- a host that is ready may act
nobody : (n h : ℕ) → slice_get (replicate n false) h ≡ Some true → ⊥
nobody zero h e = cc
nobody (suc n) zero e = cc
nobody (suc n) (suc h) e = nobody n h e

-- what a host may do where this play is open, or none
abbrev Acts : State → HostNo → Option PlayOf → Type 0
Acts s h found = (option_map_or (may_start_in s h.0) found false ≡ true) ⊎ ((item : ℕ) × (attempt : ℕ) × (ticket : Ticket) × (option_map_or (may_send_in s h.0 item attempt ticket) found false ≡ true))

sends_next : (s : State) (h : HostNo) (play : PlayOf) (next : Option ℕ) → item_at s h.0 ≡ next → IsGoing s → s.stopped ≡ false → at_row has_send s.rows h.0 ≡ true → Acts s h (Some play)
sends_next s h play None is going st send = absurd (let both_ways : true ≡ false = sym send ∙ no_item_at s.rows h.0 going.tasks is in cc)
sends_next s h play (Some item) is going st send =
    inr (item, attempt_at s h.0, record { 0 = s.sends }, sends_now s play h.0 item (attempt_at s h.0) (record { 0 = s.sends }) refl is refl st send)

acts_in : (s : State) (h : HostNo) (found : Option PlayOf) → IsGoing s → slice_get (option_map_or (ready_in s) found (replicate (length s.rows) false)) h.0 ≡ Some true → Acts s h found
acts_in s h None going e = absurd (nobody (length s.rows) h.0 e)
acts_in s h (Some play) going e =
    elim (ready_either s play h.0 e) [
      | inl may ↦ inl may
      | inr send ↦ sends_next s h play (item_at s h.0) refl going send.0 send.1
    ]

pub ready_acts : (plan : PlanOf) (s : State) (h : HostNo) → IsGoing s → slice_get (ready plan s) h.0 ≡ Some true → MayAct plan s h
ready_acts plan s h going e = acts_in s h (open_play plan s) going e

-- ---- and a host that may act is ready
there_in : (f : ℕ → Bool) (a n h : ℕ) → h < n → f (a + h) ≡ true → slice_get (map f (range_with_len a n)) h ≡ Some true
there_in f a zero h l e = absurd (omega (arith, l))
there_in f a (suc n) zero l e = ap Some (ap f (let same : a ≡ a + 0 = omega arith in same) ∙ e)
there_in f a (suc n) (suc h) l e = there_in f (a + 1) n h (omega (arith, l)) (ap f (let same : (a + 1) + h ≡ a + suc h = omega arith in same) ∙ e)

none_starts : (room : Bool) (starts : Standing → Bool) (found : Option Standing) → found ≡ None → (room && option_map_or starts found false) ≡ true → ⊥
none_starts true starts None e may = cc
none_starts false starts found e may = cc
none_starts true starts (Some host) e may = cc

starts_there : (s : State) (play : PlayOf) (h : ℕ) → may_start_in s h play ≡ true → slice_get (starting (view_of s play)) h ≡ Some true
starts_there s play h may = by_found (slice_get (map standing s.rows) h) refl
  where
    by_found : (found : Option Standing) → slice_get (map standing s.rows) h ≡ found → slice_get (starting (view_of s play)) h ≡ Some true
    by_found None e = absurd (none_starts (has_room (view_of s play)) (may_start_from (view_of s play) h) (slice_get (map standing s.rows) h) e may)
    by_found (Some host) e =
        there_in (may_start (view_of s play)) 0 (length (map standing s.rows)) h (slice_get_within (map standing s.rows) h host e)
        (ap (may_start (view_of s play)) (let same : 0 + h ≡ h = omega arith in same) ∙ may)

held : (b : Bool) → Some b ≡ Some true → b ≡ true
held true e = refl
held false e = cc

or_first : (a b : Bool) → a ≡ true → (a || b) ≡ true
or_first true b e = refl
or_first false b e = cc

or_last : (a b : Bool) → b ≡ true → (a || b) ≡ true
or_last true b e = refl
or_last false b e = e

one_of : (starts sends : List Bool) (h : ℕ) → length starts ≡ length sends → (slice_get starts h ≡ Some true) ⊎ (slice_get sends h ≡ Some true) → slice_get (zip2 (λ (a b : Bool). a || b) starts sends) h ≡ Some true
one_of [] [] h l e = elim e [ inl x ↦ cc | inr x ↦ cc ]
one_of [] (b ∷ sends) h l e = absurd (omega (arith, l))
one_of (a ∷ starts) [] h l e = absurd (omega (arith, l))
one_of (a ∷ starts) (b ∷ sends) zero l e = elim e [ inl x ↦ ap Some (or_first a b (held a x)) | inr x ↦ ap Some (or_last a b (held b x)) ]
one_of (a ∷ starts) (b ∷ sends) (suc h) l e = one_of starts sends h (omega (arith, l)) e

sends_there : (rows : List HostOf) (h : ℕ) → at_row has_send rows h ≡ true → slice_get (map has_send rows) h ≡ Some true
sends_there [] h e = cc
sends_there (row ∷ rows) zero e = ap Some e
sends_there (row ∷ rows) (suc h) e = sends_there rows h e

ready_there : (s : State) (play : PlayOf) (h : ℕ) → (may_start_in s h play ≡ true) ⊎ ((s.stopped ≡ false) × (at_row has_send s.rows h ≡ true)) → slice_get (ready_in s play) h ≡ Some true
ready_there s play h either = by_stopped s.stopped refl
  where
    by_stopped : (stopped : Bool) → s.stopped ≡ stopped → slice_get (with_sends stopped s.rows (starting (view_of s play))) h ≡ Some true
    by_stopped true st = elim either [ inl may ↦ starts_there s play h may | inr send ↦ absurd (let both_ways : true ≡ false = sym st ∙ send.0 in cc) ]
    by_stopped false st =
        one_of (starting (view_of s play)) (map has_send s.rows) h (widths s play)
        (elim either [ inl may ↦ inl (starts_there s play h may) | inr send ↦ inr (sends_there s.rows h send.1) ])

-- a host whose next job may go out has a send
unsent : (item attempt : ℕ) (running : Option Running) → option_map_or (sends_running item attempt) running false ≡ true → option_map_or (λ (r : Running). is_none r.out) running false ≡ true
unsent item attempt None e = cc
unsent item attempt (Some r) e = and_left (is_none r.out) (is_next item attempt r) e

has_send_at : (item attempt : ℕ) (rows : List HostOf) (h : ℕ) → at_row (may_send_item item attempt) rows h ≡ true → at_row has_send rows h ≡ true
has_send_at item attempt [] h e = cc
has_send_at item attempt (row ∷ rows) zero e = unsent item attempt row.running e
has_send_at item attempt (row ∷ rows) (suc h) e = has_send_at item attempt rows h e

not_stopped : (stopped : Bool) → not stopped ≡ true → stopped ≡ false
not_stopped true e = cc
not_stopped false e = refl

seen_in : (s : State) (h : HostNo) (found : Option PlayOf) → Acts s h found → slice_get (option_map_or (ready_in s) found (replicate (length s.rows) false)) h.0 ≡ Some true
seen_in s h None acts = elim acts [ inl may ↦ cc | inr send ↦ let none = send.3 in cc ]
seen_in s h (Some play) acts =
    elim acts [
      | inl may ↦ ready_there s play h.0 (inl may)
      | inr send ↦ sent send.0 send.1 send.2 send.3
    ]
  where
    sent : (item attempt : ℕ) (ticket : Ticket) → may_send_in s h.0 item attempt ticket play ≡ true → slice_get (ready_in s play) h.0 ≡ Some true
    sent item attempt ticket may =
        ready_there s play h.0
        (inr (
          not_stopped s.stopped (and_left (not s.stopped) _ (and_left (not s.stopped && (ticket.0 == s.sends)) _ may)),
          has_send_at item attempt s.rows h.0 (and_right (not s.stopped && (ticket.0 == s.sends)) _ may),
        ))

pub acts_ready : (plan : PlanOf) (s : State) (h : HostNo) → MayAct plan s h → slice_get (ready plan s) h.0 ≡ Some true
acts_ready plan s h acts = seen_in s h (open_play plan s) acts

-- ---- so something can be done, or nothing but reports and commands is possible
some_there : (bs : List Bool) → has_some bs ≡ true → (h : ℕ) × (slice_get bs h ≡ Some true)
some_there [] e = cc
some_there (true ∷ bs) e = (0, refl)
some_there (false ∷ bs) e = let there = some_there bs e in (suc there.0, there.1)

abbrev pub Moves : PlanOf → State → Type 0
Moves plan s = (e : Event) × (is_move e ≡ true) × (possible plan s e ≡ true)

acts_moves : (plan : PlanOf) (s : State) (h : HostNo) → MayAct plan s h → Moves plan s
acts_moves plan s h acts =
    elim acts [
      | inl may ↦ (Start h, refl, may)
      | inr send ↦ (Send h send.0 send.1 send.2, refl, send.3)
    ]

pub moves_or_quiet : (plan : PlanOf) (s : State) → IsGoing s → Moves plan s ⊎ IsQuiet plan s
moves_or_quiet plan s going = by_tests (has_some (ready plan s)) (possible plan s Turn) (possible plan s Close) (may_open plan s) refl refl refl refl
  where
    by_tests : (r t c o : Bool) → has_some (ready plan s) ≡ r → possible plan s Turn ≡ t → possible plan s Close ≡ c → may_open plan s ≡ o → Moves plan s ⊎ IsQuiet plan s
    by_tests true t c o is turn close opens = let there = some_there (ready plan s) is in inl (acts_moves plan s (record { 0 = there.0 }) (ready_acts plan s (record { 0 = there.0 }) going there.1))
    by_tests false true c o is turn close opens = inl (Turn, refl, turn)
    by_tests false false true o is turn close opens = inl (Close, refl, close)
    by_tests false false false true is turn close opens = inl (Open, refl, opens)
    by_tests false false false false is turn close opens = inr (quiet plan s is turn close opens)

-- ---- no run is stuck
none_ready : (plan : PlanOf) (s : State) (r : Bool) → has_some (ready plan s) ≡ r → IsGoing s → IsFinished plan s → r ≡ false
none_ready plan s true is going finished =
    let there = some_there (ready plan s) is in
    elim (ready_acts plan s (record { 0 = there.0 }) going there.1) [
      | inl may ↦ sym may ∙ finished.over (Start (record { 0 = there.0 })) refl
      | inr send ↦ sym send.3 ∙ finished.over (Send (record { 0 = there.0 }) send.0 send.1 send.2) refl
    ]
none_ready plan s false is going finished = refl

pub never_stuck : (plan : PlanOf) (s : State) → 0 < s.forks → IsGoing s → IsPlaced plan s → IsFinished plan s → IsOver plan s
never_stuck plan s some going placed finished =
    over_now plan s some placed (none_ready plan s (has_some (ready plan s)) refl going finished) (finished.over Turn refl) (finished.over Close refl) (finished.over Open refl) finished.none_out
