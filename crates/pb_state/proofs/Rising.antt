-- The places at which a host starts in a play rise: what it has yet to start there lies behind what it started.
use Rattle.std.proofs.Common.{◌≡◌, ℕ, ◌+◌, ◌*◌, ◌<◌, true, List, [], ◌∷◌, refl, ap, arith, subst, inl, inr}
use Rattle.std.specs.Prelude.{Option, Some, None, slice_get}
use Rattle.pb_ids.specs.declared.numbers.HostNo.{HostNo}
use Rattle.pb_state.specs.declared.event.Event.{Event}
use Rattle.pb_state.specs.declared.event.Event.TheVariants.{Start}
use Rattle.pb_plan.specs.Plan.{PlanOf}
use Rattle.pb_state.specs.State.{State}
use Rattle.pb_state.specs.Machine.{possible, after, open_play, may_start_in, next_at, first_state}
use Rattle.pb_state.specs.Run.{legal_from}
use Rattle.pb_state.specs.Once.{StartOf, starts_from}
use Rattle.pb_state.specs.Rising.{IsBefore, IsRise, IsBeforeAll, DoRise, StartsRise}
use Rattle.pb_state.proofs.StepNumbers.{and_left, and_right, FoundFrom}
use Rattle.pb_state.proofs.Moves.{IsSound, IsPast, open_of, past_kept, sound_kept, moves}
use Rattle.pb_state.proofs.Once.{start_place, start_raises, start_least, first_sound}

before : (a b : Option ℕ) (p q : ℕ) → a ≡ Some p → b ≡ Some q → p < q → IsBefore a b
before (Some a) (Some b) p q e f l = let one : a ≡ p = cc in let two : b ≡ q = cc in omega (arith, one, two, l)
before (Some a) None p q e f l = cc
before None b p q e f l = cc

-- a host that is past a start starts behind it
start_behind : (plan : PlanOf) (s : State) (h play p q : ℕ) (k : HostNo) → h ≡ k.0 → play ≡ s.play → next_at s k.0 ≡ Some q → possible plan s (Start k) ≡ true → IsPast s h play (1010002 * p + 1) → p < q
start_behind plan s h play p q k same now here e (inl l) = absurd (omega (arith, l, now))
start_behind plan s h play p q k same now here e (inr (inr w)) = absurd (let opened = open_of plan s (may_start_in s k.0) (open_play plan s) refl e in let shut = w.1 in cc)
start_behind plan s h play p q k same now here e (inr (inl w)) =
    let least = start_least s k.0 (1010002 * p + 1) q (open_play plan s) here e (subst (λ (j : ℕ). FoundFrom (1010002 * p + 1) (slice_get s.rows j)) same w.2) in
    omega (arith, least)

rises : (plan : PlanOf) (s : State) (x : StartOf) (p : ℕ) (k : HostNo) → x.place ≡ Some p → possible plan s (Start k) ≡ true → IsPast s x.host.0 x.play (1010002 * p + 1) → IsRise x (record { host = k; play = s.play; place = next_at s k.0 })
rises plan s x p k at e w = λ same now.
    let here = start_place plan s k.0 (open_play plan s) e in
    before x.place (next_at s k.0) p here.0 at here.1 (start_behind plan s x.host.0 x.play p here.0 k (ap (λ (h : HostNo). h.0) same) now here.1 e w)

later_rise : (plan : PlanOf) (s : State) (x : StartOf) (p : ℕ) (es : List Event) → x.place ≡ Some p → legal_from plan s es ≡ true → IsPast s x.host.0 x.play (1010002 * p + 1) → IsBeforeAll x (starts_from plan s es)
later_rise plan s x p [] at l w = tt
later_rise plan s x p (Start k ∷ es) at l w =
    let now = and_left (possible plan s (Start k)) _ l in (
      rises plan s x p k at now w,
      later_rise plan (after plan s (Start k)) x p es at (and_right (possible plan s (Start k)) _ l) (past_kept s (after plan s (Start k)) x.host.0 x.play (1010002 * p + 1) (moves plan s (Start k) now) w),
    )
later_rise plan s x p (e ∷ es) at l w =
    later_rise plan (after plan s e) x p es at (and_right (possible plan s e) _ l) (past_kept s (after plan s e) x.host.0 x.play (1010002 * p + 1) (moves plan s e (and_left (possible plan s e) _ l)) w)

rise_from : (plan : PlanOf) (s : State) (es : List Event) → IsSound s → legal_from plan s es ≡ true → DoRise (starts_from plan s es)
rise_from plan s [] w l = tt
rise_from plan s (Start k ∷ es) w l =
    let now = and_left (possible plan s (Start k)) _ l in
    let rest = and_right (possible plan s (Start k)) _ l in
    let at = start_place plan s k.0 (open_play plan s) now in (
      later_rise plan (after plan s (Start k)) (record { host = k; play = s.play; place = next_at s k.0 }) at.0 es at.1 rest (start_raises plan s k.0 at.0 (open_play plan s) w refl at.1 now),
      rise_from plan (after plan s (Start k)) es (sound_kept s (after plan s (Start k)) (moves plan s (Start k) now) w) rest,
    )
rise_from plan s (e ∷ es) w l =
    rise_from plan (after plan s e) es (sound_kept s (after plan s e) (moves plan s e (and_left (possible plan s e) _ l)) w) (and_right (possible plan s e) _ l)

pub starts_rise : StartsRise
starts_rise plan forks pool trail l = rise_from plan (first_state plan forks pool) trail (first_sound plan forks pool) l
