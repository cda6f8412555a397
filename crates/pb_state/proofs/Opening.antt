-- The batch that opens next.
use Rattle.std.proofs.Common.{◌≡◌, ℕ, zero, suc, ◌+◌, ◌<◌, ◌≤◌, Bool, true, false, List, [], ◌∷◌, map, drop, refl, sym, ◌∙◌, ap, arith, ◌⊎◌, inl, inr}
use Rattle.std.specs.Prelude.{Option, Some, None, slice_get, is_some, if◌then◌else◌}
use Rattle.std.specs.Option.{option_map_or}
use Rattle.pb_batches.specs.Sizes.{batch_sizes}
use Rattle.pb_plan.specs.Plan.{PlayOf, PlanOf}
use Rattle.pb_hosts.specs.Batches.{has_batch_left, play_host_count}
use Rattle.pb_host.specs.Host.{HostOf, as_play_begins}
use Rattle.pb_state.specs.State.{State}
use Rattle.pb_hosts.specs.Hosts.{has_hosts, first_play}
use Rattle.pb_state.specs.Machine.{next_play, is_left, opened_by, goes_on, begins, begins_at, after_open}
use Rattle.pb_hosts.proofs.Batching.{some_play_host}
use Rattle.pb_state.proofs.FewBatches.{some_batch}
use Rattle.pb_state.proofs.SizesLeft.{later_some}

-- one of the plays from the number m on, and the first of them that has hosts
pub record IsNext (rows : List HostOf) (plays : List PlayOf) (m n : ℕ) : Type 0 where
  pub play : PlayOf
  pub there : slice_get plays n ≡ Some play
  pub least : m ≤ n
  pub some : has_hosts rows play ≡ true

record IsFirst (rows : List HostOf) (plays : List PlayOf) (m n : ℕ) : Type 0 where
  behind : ℕ
  at : n ≡ m + behind
  play : PlayOf
  there : slice_get plays behind ≡ Some play
  some : has_hosts rows play ≡ true

first_is : (rows : List HostOf) (m n : ℕ) (plays : List PlayOf) → first_play rows m plays ≡ Some n → IsFirst rows plays m n
first_is rows m n [] e = cc
first_is rows m n (play ∷ plays) e = by_hosts (has_hosts rows play) (λ f. first_is rows (m + 1) n plays f) refl e
  where
    by_hosts : (b : Bool) → (first_play rows (m + 1) plays ≡ Some n → IsFirst rows plays (m + 1) n) → has_hosts rows play ≡ b → (if b then Some m else first_play rows (m + 1) plays) ≡ Some n → IsFirst rows (play ∷ plays) m n
    by_hosts true rest h f = let same : m ≡ n = cc in record { behind = 0; at = omega (arith, same); play = play; there = refl; some = h }
    by_hosts false rest h f =
        let sizes_left = rest f in
        record { behind = suc sizes_left.behind; at = let a = sizes_left.at in omega (arith, a); play = sizes_left.play; there = sizes_left.there; some = sizes_left.some }

get_drop : (plays : List PlayOf) (m k : ℕ) → slice_get (drop m plays) k ≡ slice_get plays (m + k)
get_drop plays zero k = ap (slice_get plays) (let same : k ≡ 0 + k = omega arith in same)
get_drop [] (suc m) k = refl
get_drop (play ∷ plays) (suc m) k = get_drop plays m k ∙ ap (slice_get (play ∷ plays)) (let same : suc (m + k) ≡ suc m + k = omega arith in same)

pub next_is : (plan : PlanOf) (s : State) (n : ℕ) → next_play plan s ≡ Some n → IsNext s.rows plan.plays s.play n
next_is plan s n e =
    let first = first_is s.rows s.play n (drop s.play plan.plays) e in
    record {
      play = first.play;
      there = ap (slice_get plan.plays) first.at ∙ sym (get_drop plan.plays s.play first.behind) ∙ first.there;
      least = let a = first.at in omega (arith, a);
      some = first.some;
    }

-- how a batch opens: the play goes on with its next one, or a play begins with its first
abbrev pub GoesOn : State → (n batch : ℕ) → List ℕ → List HostOf → Type 0
GoesOn s n batch sizes rows = (has_batch_left s.sizes_left ≡ true) × (n ≡ s.play) × (batch ≡ s.batch + 1) × (sizes ≡ s.sizes_left) × (rows ≡ s.rows)

abbrev pub Begins : State → (n batch : ℕ) → List ℕ → List HostOf → PlayOf → Type 0
Begins s n batch sizes rows play =
    (has_batch_left s.sizes_left ≡ false) × (s.play ≤ n) × (batch ≡ 0) × (sizes ≡ batch_sizes play.serial (play_host_count play.hosts s.rows)) × (rows ≡ map (as_play_begins play.hosts) s.rows)

pub record IsOpening (plan : PlanOf) (s : State) (n batch : ℕ) (sizes : List ℕ) (rows : List HostOf) (play : PlayOf) (size : ℕ) : Type 0 where
  pub there : slice_get plan.plays n ≡ Some play
  pub first : slice_get sizes 0 ≡ Some size
  pub how : GoesOn s n batch sizes rows ⊎ Begins s n batch sizes rows play

none_here : {X : Type 0} (x : X) (found : Option X) → found ≡ Some x → found ≡ None → ⊥
none_here x None e f = cc
none_here x (Some y) e f = cc

not_left : (plan : PlanOf) (s : State) (sizes_left : Bool) → has_batch_left s.sizes_left ≡ sizes_left → (if sizes_left then is_some (slice_get plan.plays s.play) else is_some (next_play plan s)) ≡ false → is_left plan s ≡ true → ⊥
not_left plan s sizes_left l n e =
    let here : is_left plan s ≡ (if sizes_left then is_some (slice_get plan.plays s.play) else is_some (next_play plan s)) =
    ap (λ (b : Bool). if b then is_some (slice_get plan.plays s.play) else is_some (next_play plan s)) l in
    let both : true ≡ false = sym e ∙ (here ∙ n) in
    cc

-- what holds where no batch is left, and of each batch that opens, holds of every opening
pub open_case : (P : State → Type 0) (plan : PlanOf) (s : State) → ((is_left plan s ≡ true → ⊥) → P s)
    → ((n batch : ℕ) (sizes : List ℕ) (rows : List HostOf) (play : PlayOf) (size : ℕ) → IsOpening plan s n batch sizes rows play size → P (opened_by s n batch sizes rows play size))
    → P (after_open plan s)
open_case P plan s same opens = by_later (has_batch_left s.sizes_left) refl
  where
    by_size : (n batch : ℕ) (sizes : List ℕ) (rows : List HostOf) (play : PlayOf) (size : Option ℕ) → slice_get sizes 0 ≡ size → (slice_get sizes 0 ≡ None → ⊥) → slice_get plan.plays n ≡ Some play
        → GoesOn s n batch sizes rows ⊎ Begins s n batch sizes rows play → P (option_map_or (opened_by s n batch sizes rows play) size s)
    by_size n batch sizes rows play None e some there how = absurd (some e)
    by_size n batch sizes rows play (Some size) e some there how = opens n batch sizes rows play size (record { there = there; first = e; how = how })

    on_goes : (found : Option PlayOf) → slice_get plan.plays s.play ≡ found → has_batch_left s.sizes_left ≡ true → P (option_map_or (goes_on s) found s)
    on_goes None e l = same (not_left plan s true l (let none : is_some (slice_get plan.plays s.play) ≡ false = ap is_some e in none))
    on_goes (Some play) e l = by_size s.play (s.batch + 1) s.sizes_left s.rows play (slice_get s.sizes_left 0) refl (later_some s.sizes_left l) e (inl (l, refl, refl, refl, refl))

    begin_at : (n : ℕ) (found : Option PlayOf) → slice_get plan.plays n ≡ found → next_play plan s ≡ Some n → has_batch_left s.sizes_left ≡ false → P (option_map_or (begins s n) found s)
    begin_at n None e f l = let is = next_is plan s n f in absurd (none_here is.play (slice_get plan.plays n) is.there e)
    begin_at n (Some play) e f l =
        let is = next_is plan s n f in
        let same_play : is.play ≡ play = (let both : Some is.play ≡ Some play = sym is.there ∙ e in cc) in
        let some : 0 < play_host_count play.hosts s.rows = some_play_host play.hosts s.rows (ap (λ (p : PlayOf). has_hosts s.rows p) (sym same_play) ∙ is.some) in
        by_size n 0 (batch_sizes play.serial (play_host_count play.hosts s.rows)) (map (as_play_begins play.hosts) s.rows) play (slice_get (batch_sizes play.serial (play_host_count play.hosts s.rows)) 0) refl
        (some_batch play.serial (play_host_count play.hosts s.rows) some) e (inr (l, is.least, refl, refl, refl))

    by_next : (next : Option ℕ) → next_play plan s ≡ next → has_batch_left s.sizes_left ≡ false → P (option_map_or (begins_at plan s) next s)
    by_next None f l = same (not_left plan s false l (let none : is_some (next_play plan s) ≡ false = ap is_some f in none))
    by_next (Some n) f l = begin_at n (slice_get plan.plays n) refl f l

    by_later : (sizes_left : Bool) → has_batch_left s.sizes_left ≡ sizes_left → P (if sizes_left then option_map_or (goes_on s) (slice_get plan.plays s.play) s else option_map_or (begins_at plan s) (next_play plan s) s)
    by_later true l = on_goes (slice_get plan.plays s.play) refl l
    by_later false l = by_next (next_play plan s) refl l

-- the rows of which the first join are those before, but for who waits
pub rows_case : (P : List HostOf → Type 0) (plan : PlanOf) (s : State) (n batch : ℕ) (sizes : List ℕ) (rows : List HostOf) (play : PlayOf) (size : ℕ) → IsOpening plan s n batch sizes rows play size
    → P s.rows → ((hosts : List Bool) → P (map (as_play_begins hosts) s.rows)) → P rows
rows_case P plan s n batch sizes rows play size is same calls = by_how is.how
  where
    by_how : GoesOn s n batch sizes rows ⊎ Begins s n batch sizes rows play → P rows
    by_how (inl on) = rw on.4 same
    by_how (inr begun) = rw begun.4 (calls play.hosts)
