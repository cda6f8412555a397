-- Who is ready: a host that has a send, or one that may start.
use Rattle.std.proofs.Common.{◌≡◌, ℕ, zero, suc, Bool, true, false, ◌||◌, not, List, [], ◌∷◌, length, map, refl, sym, ◌∙◌, ap, arith, ◌⊎◌, inl, inr}
use Rattle.std.specs.Prelude.{Option, Some, None, IfSome, slice_get, replicate}
use Rattle.std.specs.Simd.Lanes.{zip2}
use Rattle.std.proofs.lemmas.List.{length-map}
use Rattle.std.proofs.lemmas.List.FromFn.{length-map-range_with_len}
use Rattle.std.proofs.lemmas.Simd.{length-zip2}
use Rattle.pb_planes.specs.Set.{has_some}
use Rattle.pb_plan.specs.Plan.{PlayOf}
use Rattle.pb_strategies.specs.MayStart.{may_start, ready as starting}
use Rattle.pb_host.specs.Host.{HostOf}
use Rattle.pb_state.specs.State.{State}
use Rattle.pb_host.specs.Standing.{standing}
use Rattle.pb_state.specs.Strategies.{view_of}
use Rattle.pb_host.specs.Runs.{has_send}
use Rattle.pb_hosts.specs.Hosts.{at_row}
use Rattle.pb_state.specs.Machine.{with_sends, ready_in, may_start_in}
use Rattle.pb_state.proofs.Stands.{some_starts}

or_left : (a b : Bool) → (a || b) ≡ false → a ≡ false
or_left true b e = e
or_left false b e = refl

or_right : (a b : Bool) → (a || b) ≡ false → b ≡ false
or_right true b e = cc
or_right false b e = e

none_false : (a b : Bool) → a ≡ false → b ≡ false → (a || b) ≡ false
none_false true b e f = e
none_false false b e f = f

pub length_starting : (s : State) (play : PlayOf) → length (starting (view_of s play)) ≡ length s.rows
length_starting s play = length-map-range_with_len (may_start (view_of s play)) 0 (length (map standing s.rows)) ∙ length-map s.rows standing

none_left : (starts sends : List Bool) → length starts ≡ length sends → has_some (zip2 (λ (a b : Bool). a || b) starts sends) ≡ false → has_some starts ≡ false
none_left [] sends e n = refl
none_left (a ∷ starts) [] e n = absurd (omega (arith, e))
none_left (a ∷ starts) (b ∷ sends) e n =
    none_false a (has_some starts) (or_left a b (or_left (a || b) _ n)) (none_left starts sends (omega (arith, e)) (or_right (a || b) _ n))

none_right : (starts sends : List Bool) → length starts ≡ length sends → has_some (zip2 (λ (a b : Bool). a || b) starts sends) ≡ false → has_some sends ≡ false
none_right [] [] e n = refl
none_right [] (b ∷ sends) e n = absurd (omega (arith, e))
none_right (a ∷ starts) [] e n = refl
none_right (a ∷ starts) (b ∷ sends) e n =
    none_false b (has_some sends) (or_right a b (or_left (a || b) _ n)) (none_right starts sends (omega (arith, e)) (or_right (a || b) _ n))

pub widths : (s : State) (play : PlayOf) → length (starting (view_of s play)) ≡ length (map has_send s.rows)
widths s play = length_starting s play ∙ sym (length-map s.rows has_send)

-- where nobody is ready, nobody may start
pub none_start : (s : State) (play : PlayOf) → has_some (ready_in s play) ≡ false → has_some (starting (view_of s play)) ≡ false
none_start s play e = by_stopped s.stopped e
  where
    by_stopped : (stopped : Bool) → has_some (with_sends stopped s.rows (starting (view_of s play))) ≡ false → has_some (starting (view_of s play)) ≡ false
    by_stopped true n = n
    by_stopped false n = none_left (starting (view_of s play)) (map has_send s.rows) (widths s play) n

-- and in a run that isn't stopped nobody has a send
none_of : (rows : List HostOf) (h : ℕ) → has_some (map has_send rows) ≡ false → at_row has_send rows h ≡ false
none_of [] h e = refl
none_of (row ∷ rows) zero e = or_left (has_send row) _ e
none_of (row ∷ rows) (suc h) e = none_of rows h (or_right (has_send row) _ e)

pub none_sends : (s : State) (play : PlayOf) → s.stopped ≡ false → has_some (ready_in s play) ≡ false → has_some (map has_send s.rows) ≡ false
none_sends s play st e =
    none_right (starting (view_of s play)) (map has_send s.rows) (widths s play)
    (ap (λ (stopped : Bool). has_some (with_sends stopped s.rows (starting (view_of s play)))) (sym st) ∙ e)

pub none_sends_at : (s : State) (play : PlayOf) (h : ℕ) → s.stopped ≡ false → has_some (ready_in s play) ≡ false → at_row has_send s.rows h ≡ false
none_sends_at s play h st e = none_of s.rows h (none_sends s play st e)

-- a host that is ready has a send, or may start
held : (b : Bool) → Some b ≡ Some true → b ≡ true
held true e = refl
held false e = cc

either : (a b : Bool) → (a || b) ≡ true → (a ≡ true) ⊎ (b ≡ true)
either true b e = inl refl
either false b e = inr e

some_either : (starts : List Bool) (rows : List HostOf) (h : ℕ) → slice_get (zip2 (λ (a b : Bool). a || b) starts (map has_send rows)) h ≡ Some true → (slice_get starts h ≡ Some true) ⊎ (at_row has_send rows h ≡ true)
some_either [] rows h e = cc
some_either (a ∷ starts) [] h e = cc
some_either (a ∷ starts) (row ∷ rows) zero e = elim (either a (has_send row) (held (a || has_send row) e)) [ inl x ↦ inl (ap Some x) | inr x ↦ inr x ]
some_either (a ∷ starts) (row ∷ rows) (suc h) e = some_either starts rows h e

pub ready_either : (s : State) (play : PlayOf) (h : ℕ) → slice_get (ready_in s play) h ≡ Some true → (may_start_in s h play ≡ true) ⊎ ((s.stopped ≡ false) × (at_row has_send s.rows h ≡ true))
ready_either s play h e = by_stopped s.stopped refl e
  where
    by_stopped : (stopped : Bool) → s.stopped ≡ stopped → slice_get (with_sends stopped s.rows (starting (view_of s play))) h ≡ Some true → (may_start_in s h play ≡ true) ⊎ ((s.stopped ≡ false) × (at_row has_send s.rows h ≡ true))
    by_stopped true st n = inl (some_starts s play h n)
    by_stopped false st n = elim (some_either (starting (view_of s play)) s.rows h n) [ inl x ↦ inl (some_starts s play h x) | inr x ↦ inr (st, x) ]

pub length_ready_in : (s : State) (play : PlayOf) → length (ready_in s play) ≡ length s.rows
length_ready_in s play = by_stopped s.stopped
  where
    by_stopped : (stopped : Bool) → length (with_sends stopped s.rows (starting (view_of s play))) ≡ length s.rows
    by_stopped true = length_starting s play
    by_stopped false = length-zip2 (λ (a b : Bool). a || b) (starting (view_of s play)) (map has_send s.rows) (widths s play) ∙ length_starting s play

-- where nobody has a send, those are ready that may start; and where nobody may start, those that have a send
or_no : (a : Bool) → (a || false) ≡ a
or_no true = refl
or_no false = refl

starts_alone : (starts sends : List Bool) → length starts ≡ length sends → has_some sends ≡ false → zip2 (λ (a b : Bool). a || b) starts sends ≡ starts
starts_alone [] sends e n = refl
starts_alone (a ∷ starts) [] e n = absurd (omega (arith, e))
starts_alone (a ∷ starts) (b ∷ sends) e n =
    ap (λ x. (a || x) ∷ zip2 (λ (p q : Bool). p || q) starts sends) (or_left b (has_some sends) n)
    ∙ ap (λ x. x ∷ zip2 (λ (p q : Bool). p || q) starts sends) (or_no a)
    ∙ ap (λ rest. a ∷ rest) (starts_alone starts sends (omega (arith, e)) (or_right b (has_some sends) n))

none_or : (n : ℕ) (sends : List Bool) → n ≡ length sends → zip2 (λ (a b : Bool). a || b) (replicate n false) sends ≡ sends
none_or zero [] e = refl
none_or zero (b ∷ sends) e = absurd (omega (arith, e))
none_or (suc n) [] e = absurd (omega (arith, e))
none_or (suc n) (b ∷ sends) e = ap (λ rest. b ∷ rest) (none_or n sends (omega (arith, e)))

pub ready_to_start : (s : State) (play : PlayOf) (sends : List Bool) → s.stopped ≡ false → sends ≡ map has_send s.rows → has_some sends ≡ false → starting (view_of s play) ≡ ready_in s play
ready_to_start s play sends st are none =
    sym (ap (λ stopped. with_sends stopped s.rows (starting (view_of s play))) st ∙ starts_alone (starting (view_of s play)) (map has_send s.rows) (widths s play) (ap has_some (sym are) ∙ none))

pub ready_to_send : (s : State) (play : PlayOf) (sends : List Bool) → s.stopped ≡ false → sends ≡ map has_send s.rows → starting (view_of s play) ≡ replicate (length (view_of s play).hosts) false → sends ≡ ready_in s play
ready_to_send s play sends st are none =
    let wide : length (view_of s play).hosts ≡ length (map has_send s.rows) = length-map s.rows standing ∙ sym (length-map s.rows has_send) in
    are ∙ sym (ap (λ stopped. with_sends stopped s.rows (starting (view_of s play))) st
    ∙ ap (λ starts. zip2 (λ (a b : Bool). a || b) starts (map has_send s.rows)) none
    ∙ none_or (length (view_of s play).hosts) (map has_send s.rows) wide)

-- what holds of a set that may be there
pub if_kept : {A : Type 0} (P Q : A → Type 0) (kept : Option A) → ((x : A) → P x → Q x) → IfSome kept P → IfSome kept Q
if_kept P Q None step p = p
if_kept P Q (Some x) step p = step x p

pub has_none : (some : Bool) → not some ≡ true → some ≡ false
has_none true e = cc
has_none false e = refl
