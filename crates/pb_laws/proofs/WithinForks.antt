-- Where a host starts there is room: the hosts that run, by what has happened, are those that the machine counts.
use Rattle.std.proofs.Common.{◌≡◌, ℕ, zero, suc, ◌+◌, Bool, true, false, ◌&&◌, cond, List, [], ◌∷◌, length, refl, sym, ◌∙◌, ap, arith}
use Rattle.std.specs.Prelude.{◌==◌, nat_lt, Option, Some, None, option_map, is_some, slice_get, slice_index_or, count_by}
use Rattle.std.specs.List.{list_any}
use Rattle.std.specs.Option.{option_map_or}
use Rattle.std.proofs.lemmas.Bool.{eq-eqb}
use Rattle.std.proofs.lemmas.List.Sums.{sum_by-cons}
use Rattle.pb_limits.specs.Counts.{runs_at, has_room_for, running as count_running, running_at as count_running_at}
use Rattle.pb_plan.specs.Plan.{PlayOf, PlanOf, throttles_of}
use Rattle.pb_host.specs.declared.host.Running.{Running}
use Rattle.pb_hosts.specs.Hosts.{one_if}
use Rattle.pb_state.specs.Machine.{first_state}
use Rattle.pb_host.specs.Host.{first_rows}
use Rattle.pb_state.proofs.Stands.{both}
use Rattle.pb_laws.specs.History.{HostTask, Happening, Starts}
use Rattle.pb_laws.specs.Laws.{Always, holds_from, so_far, may_run, running, any_task, task_at, throttle_at, within_forks}
use Rattle.pb_laws.proofs.Telling.{Seen, Tells, Opening, Starting, Sending, Reporting, Turning, Closing, Stopping, Forking, IsStarting, places, put, tasks_of, task_on}
use Rattle.pb_laws.proofs.Holding.{Keeps, given_holds, given_same, always}

-- ---- how many entries of a list of places pass
tally : (Option ℕ → Bool) → List (Option ℕ) → ℕ
tally of [] = 0
tally of (x ∷ xs) = one_if (of x) + tally of xs

one_cond : (b : Bool) → one_if b ≡ cond b 1 0
one_cond true = refl
one_cond false = refl

tally_is : (of : Option ℕ → Bool) (xs : List (Option ℕ)) → tally of xs ≡ count_by of xs
unfolding tally
tally_is of [] = refl
tally_is of (x ∷ xs) = omega (arith, tally_is of xs, one_cond (of x), sum_by-cons (λ (y : Option ℕ). cond (of y) 1 0) x xs)

tally_same : (of as_of : Option ℕ → Bool) → ((x : Option ℕ) → of x ≡ as_of x) → (xs : List (Option ℕ)) → tally of xs ≡ tally as_of xs
unfolding tally
tally_same of as_of same [] = refl
tally_same of as_of same (x ∷ xs) = omega (arith, tally_same of as_of same xs, ap one_if (same x))

tally_none : (of : Option ℕ → Bool) → of None ≡ false → (tasks : List (Option Running)) → list_any is_some tasks ≡ false → tally of (places tasks) ≡ 0
unfolding tally
tally_none of none [] e = refl
tally_none of none (None ∷ tasks) e = omega (arith, tally_none of none tasks e, ap one_if none)
tally_none of none (Some r ∷ tasks) e = cc

place_in : Option Running → Option ℕ
place_in running = option_map (λ (r : Running). r.place) running

tally_put : (of : Option ℕ → Bool) (tasks : List (Option Running)) (h : ℕ) (old new : Option Running) → slice_get tasks h ≡ Some old
    → tally of (places (put tasks h new)) + one_if (of (place_in old)) ≡ tally of (places tasks) + one_if (of (place_in new))
unfolding tally place_in
tally_put of [] h old new e = cc
tally_put of (task ∷ tasks) zero old new e = let same : task ≡ old = cc in rw (← same) (omega arith)
tally_put of (task ∷ tasks) (suc h) old new e = omega (arith, tally_put of tasks h old new e)

-- ---- what happens, beside what runs
Count : (HostTask → Bool) → (ℕ → Option ℕ → Bool) → List Happening → Seen → Type 0
Count kind of past v = running kind past ≡ tally (of v.play) (places v.tasks)

module _ (kind : HostTask → Bool) (of : ℕ → Option ℕ → Bool) (same : (task : HostTask) → kind task ≡ of task.play (Some task.place)) (none : (k : ℕ) → of k None ≡ false) where
  -- while no batch is open nobody runs
  counted : (plan : PlanOf) (past : List Happening) (v new : Seen) (happens : List Happening) → Tells plan v happens new → (v.is_open ≡ false → list_any is_some v.tasks ≡ false)
      → Count kind of past v → Count kind of (so_far past happens) new
  unfolding Count place_in
  counted plan past v new happens (Opening n more tasks inside waiting is) idle c = c ∙ tally_none (of v.play) (none v.play) v.tasks (idle is.shut) ∙ sym (tally_none (of n) (none n) tasks is.idle)
  counted plan past v new happens (Starting true host place items end notified is so) idle c = omega (arith, c, tally_put (of v.play) v.tasks host None None is.idle)
  counted plan past v new happens (Starting false host place items end notified is so) idle c =
      omega (
        arith,
        c,
        tally_put (of v.play) v.tasks host None (Some (record { place = place; items = items; out = None })) is.idle,
        ap one_if (none v.play),
        ap one_if (same (task_on v host place)),
      )
  counted plan past v new happens (Sending host item attempt ticket r is) idle c = omega (arith, c, tally_put (of v.play) v.tasks host (Some r) (Some (record r { out = Some ticket })) is.there)
  counted plan past v new happens (Reporting true host item ticket r items end notified is so) idle c =
      omega (arith, c, tally_put (of v.play) v.tasks host (Some r) None is.there, ap one_if (none v.play), ap one_if (same (task_on v host r.place)))
  counted plan past v new happens (Reporting false host item ticket r items end notified is so) idle c =
      omega (arith, c, tally_put (of v.play) v.tasks host (Some r) (Some (record { place = r.place; items = items; out = None })) is.there)
  counted plan past v new happens (Turning more happenings opened given is) idle c = given_same (running kind) (λ before task how. refl) past happens given ∙ c
  counted plan past v new happens (Closing tasks inside waiting is) idle c =
      c ∙ tally_none (of v.play) (none v.play) v.tasks is.before ∙ sym (tally_none (of new.play) (none new.play) tasks is.idle)
  counted plan past v new happens Stopping idle c = c
  counted plan past v new happens (Forking n) idle c = c

-- a task at a place of a play
at_in : ℕ → ℕ → ℕ → Option ℕ → Bool
at_in play place k (Some p) = (play == k) && (place == p)
at_in play place k None = false

any_in : ℕ → Option ℕ → Bool
any_in k x = is_some x

record Counted (plan : PlanOf) (past : List Happening) (v : Seen) : Type 0 where
  forks : may_run past ≡ v.forks
  all : Count any_task any_in past v
  each : (play place : ℕ) → Count (task_at play place) (at_in play place) past v
  idle : v.is_open ≡ false → list_any is_some v.tasks ≡ false

pub forks_next : (plan : PlanOf) (past : List Happening) (v new : Seen) (happens : List Happening) → Tells plan v happens new → may_run past ≡ v.forks → may_run (so_far past happens) ≡ new.forks
forks_next plan past v new happens (Opening n more tasks inside waiting is) e = e
forks_next plan past v new happens (Starting true host place items end notified is so) e = e
forks_next plan past v new happens (Starting false host place items end notified is so) e = e
forks_next plan past v new happens (Sending host item attempt ticket r is) e = e
forks_next plan past v new happens (Reporting true host item ticket r items end notified is so) e = e
forks_next plan past v new happens (Reporting false host item ticket r items end notified is so) e = e
forks_next plan past v new happens (Turning more happenings opened given is) e = given_same may_run (λ before task how. refl) past happens given ∙ e
forks_next plan past v new happens (Closing tasks inside waiting is) e = e
forks_next plan past v new happens Stopping e = e
forks_next plan past v new happens (Forking n) e = refl

-- nobody runs while no batch is open
pub IdleShut : Seen → Type 0
IdleShut v = v.is_open ≡ false → list_any is_some v.tasks ≡ false

pub opened_shut : (v : Seen) → v.is_open ≡ true → v.is_open ≡ false → ⊥
opened_shut v o s = let both_ways : true ≡ false = sym o ∙ s in cc

pub idle_next : (plan : PlanOf) (v new : Seen) (happens : List Happening) → Tells plan v happens new → (v.is_open ≡ false → list_any is_some v.tasks ≡ false) → new.is_open ≡ false → list_any is_some new.tasks ≡ false
idle_next plan v new happens (Opening n more tasks inside waiting is) idle s = cc
idle_next plan v new happens (Starting over host place items end notified is so) idle s = absurd (opened_shut v is.opened s)
idle_next plan v new happens (Sending host item attempt ticket r is) idle s = absurd (opened_shut v is.opened s)
idle_next plan v new happens (Reporting over host item ticket r items end notified is so) idle s = absurd (opened_shut v is.opened s)
idle_next plan v new happens (Turning more happenings opened given is) idle s = absurd (opened_shut v opened s)
idle_next plan v new happens (Closing tasks inside waiting is) idle s = is.idle
idle_next plan v new happens Stopping idle s = idle s
idle_next plan v new happens (Forking n) idle s = idle s

pub first_idle : (h n : ℕ) → list_any is_some (tasks_of (first_rows h n)) ≡ false
first_idle h zero = refl
first_idle h (suc n) = first_idle (h + 1) n

-- ---- so there is room
started_holds : (plan : PlanOf) (past : List Happening) (v : Seen) (host place : ℕ) → IsStarting plan v host place → Counted plan past v → within_forks plan past (Starts (task_on v host place)) ≡ true
unfolding Count tally at_in any_in
started_holds plan past v host place is c =
    both (nat_lt (running any_task past) (may_run past)) (has_room_for (running (task_at v.play place) past) (throttle_at plan v.play place))
    (ap (λ (n : ℕ). nat_lt n (may_run past)) (c.all ∙ tally_is is_some (places v.tasks)) ∙ ap (λ (n : ℕ). nat_lt (count_running (places v.tasks)) n) c.forks ∙ is.room)
    (ap (λ (n : ℕ). has_room_for n (throttle_at plan v.play place)) (c.each v.play place ∙ tally_same (at_in v.play place v.play) (runs_at place) here (places v.tasks) ∙ tally_is (runs_at place) (places v.tasks))
    ∙ ap (λ (found : Option PlayOf). has_room_for (count_running_at (places v.tasks) place) (option_map_or (λ (p : PlayOf). slice_index_or (throttles_of p.places) place 0) found 0)) is.there
    ∙ is.throttle)
  where
    here : (x : Option ℕ) → at_in v.play place v.play x ≡ runs_at place x
    here None = refl
    here (Some p) = ap (λ (b : Bool). b && (place == p)) (eq-eqb v.play v.play refl)

forks_hold : (plan : PlanOf) (past : List Happening) (v new : Seen) (happens : List Happening) → Tells plan v happens new → Counted plan past v → holds_from (within_forks plan) past happens ≡ true
forks_hold plan past v new happens (Opening n more tasks inside waiting is) c = refl
forks_hold plan past v new happens (Starting true host place items end notified is so) c = both (within_forks plan past (Starts (task_on v host place))) true (started_holds plan past v host place is c) refl
forks_hold plan past v new happens (Starting false host place items end notified is so) c = both (within_forks plan past (Starts (task_on v host place))) true (started_holds plan past v host place is c) refl
forks_hold plan past v new happens (Sending host item attempt ticket r is) c = refl
forks_hold plan past v new happens (Reporting true host item ticket r items end notified is so) c = refl
forks_hold plan past v new happens (Reporting false host item ticket r items end notified is so) c = refl
forks_hold plan past v new happens (Turning more happenings opened given is) c = given_holds (within_forks plan) (λ before task how. refl) past happens given
forks_hold plan past v new happens (Closing tasks inside waiting is) c = refl
forks_hold plan past v new happens Stopping c = refl
forks_hold plan past v new happens (Forking n) c = refl

keeps_counted : Keeps within_forks Counted
unfolding Count tally at_in any_in
keeps_counted =
    record {
      begins = λ plan n. refl;
      first = λ plan forks pool.
          record {
            forks = refl;
            all = sym (tally_none (any_in 0) refl (tasks_of (first_state plan forks pool).rows) (first_idle 0 (length plan.inventory.hosts)));
            each = λ play place. sym (tally_none (at_in play place 0) refl (tasks_of (first_state plan forks pool).rows) (first_idle 0 (length plan.inventory.hosts)));
            idle = λ shut. first_idle 0 (length plan.inventory.hosts);
          };
      now = λ plan past v new happens tells c. forks_hold plan past v new happens tells c;
      next = λ plan past v new happens tells c.
          record {
            forks = forks_next plan past v new happens tells c.forks;
            all = counted any_task any_in (λ task. refl) (λ k. refl) plan past v new happens tells c.idle c.all;
            each = λ play place. counted (task_at play place) (at_in play place) (λ task. refl) (λ k. refl) plan past v new happens tells c.idle (c.each play place);
            idle = idle_next plan v new happens tells c.idle;
          };
    }

pub forks_kept : Always within_forks
forks_kept = always within_forks Counted keeps_counted
