-- Who starts is in the batch, who is in the batch is one of the play's own hosts, and who was in an earlier batch of the play waits for none.
use Rattle.std.proofs.Common.{◌≡◌, ℕ, suc, ◌<◌, ◌≤◌, Bool, true, false, ◌&&◌, ◌||◌, not, List, [], ◌∷◌, refl, sym, ◌∙◌, ap, arith, ◌⊎◌, inl, inr}
use Rattle.std.specs.Prelude.{◌==◌, if◌then◌else◌}
use Rattle.std.proofs.lemmas.Bool.{eq-eqb, eqb-true}
use Rattle.pb_planes.specs.Set.{is_in as is_member}
use Rattle.pb_plan.specs.Plan.{PlanOf}
use Rattle.pb_state.specs.Machine.{play_behind}
use Rattle.pb_state.proofs.Stands.{both}
use Rattle.pb_laws.specs.History.{Happening, Opens, Starts, Given}
use Rattle.pb_laws.specs.Laws.{Always, holds_from, so_far, selects, batch_of, share, some_were_in, own_hosts}
use Rattle.pb_laws.proofs.Telling.{Seen, AreGiven, one_given, Tells, Opening, Starting, Sending, Reporting, Turning, Closing, Stopping, Forking, IsStarting, task_on}
use Rattle.pb_laws.proofs.Holding.{Keeps, given_holds, given_same, always}

-- ---- two batches
-- the hosts of a batch that opened: those of them that still wait for a batch of the play are in the one that is open
IsBehind : ℕ → List Bool → Seen → Type 0
IsBehind play hosts v =
    (play < v.play)
    ⊎ ((play ≡ v.play) × (v.is_open ≡ false → v.has_more ≡ true) × ((h : ℕ) → is_member hosts h ≡ true → is_member v.waiting h ≡ true → (v.is_open ≡ true) × (is_member v.inside h ≡ true)))

AreBehind : List Happening → Seen → Type 0
AreBehind [] v = Unit {0}
AreBehind (Opens play hosts ∷ past) v = IsBehind play hosts v × AreBehind past v
AreBehind (now ∷ past) v = AreBehind past v

opened_shut : (v : Seen) → v.is_open ≡ true → v.is_open ≡ false → ⊥
opened_shut v o s = let both_ways : true ≡ false = sym o ∙ s in cc

true_false : (b : Bool) → b ≡ true → b ≡ false → ⊥
true_false true t f = cc
true_false false t f = cc

-- where a play goes on, and where another one begins
OpensSo : PlanOf → Seen → ℕ → List Bool → Type 0
OpensSo plan v n waiting =
    ((v.has_more ≡ true) × (n ≡ v.play) × (waiting ≡ v.waiting)) ⊎ ((v.has_more ≡ false) × (v.play ≤ n) × ((h : ℕ) → is_member waiting h ≡ true → selects plan n h ≡ true))

later_opens : (plan : PlanOf) (v : Seen) (play n : ℕ) (waiting : List Bool) → OpensSo plan v n waiting → play < v.play → play < n
unfolding OpensSo
later_opens plan v play n waiting (inl on) l = omega (arith, l, on.1)
later_opens plan v play n waiting (inr begins) l = omega (arith, l, begins.1)

-- so none of the hosts of an earlier batch joins
behind_shut : (plan : PlanOf) (v : Seen) (play n h : ℕ) (hosts waiting : List Bool) → v.is_open ≡ false → OpensSo plan v n waiting → play ≡ v.play → (v.is_open ≡ false → v.has_more ≡ true)
    → ((k : ℕ) → is_member hosts k ≡ true → is_member v.waiting k ≡ true → (v.is_open ≡ true) × (is_member v.inside k ≡ true)) → is_member hosts h ≡ true → is_member waiting h ≡ true → ⊥
unfolding OpensSo
behind_shut plan v play n h hosts waiting shut (inl on) e goes_on still was awaits_batch =
    opened_shut v (still h was (ap (λ (all : List Bool). is_member all h) (sym on.2) ∙ awaits_batch)).0 shut
behind_shut plan v play n h hosts waiting shut (inr begins) e goes_on still was awaits_batch = true_false v.has_more (goes_on shut) begins.0

play_stays : (v : Seen) (play n : ℕ) (plan : PlanOf) (waiting : List Bool) → v.is_open ≡ false → OpensSo plan v n waiting → play ≡ v.play → (v.is_open ≡ false → v.has_more ≡ true) → play ≡ n
unfolding OpensSo
play_stays v play n plan waiting shut (inl on) e goes_on = e ∙ sym on.1
play_stays v play n plan waiting shut (inr begins) e goes_on = absurd (true_false v.has_more (goes_on shut) begins.0)

behind_opens : (plan : PlanOf) (v : Seen) (n : ℕ) (more : Bool) (new : Seen) (play : ℕ) (hosts : List Bool) → v.is_open ≡ false → OpensSo plan v n new.waiting → new.play ≡ n → new.is_open ≡ true → IsBehind play hosts v → IsBehind play hosts new
unfolding IsBehind
behind_opens plan v n more new play hosts shut how at open_now (inl l) = inl (let least = later_opens plan v play n new.waiting how l in omega (arith, least, at))
behind_opens plan v n more new play hosts shut how at open_now (inr w) =
    inr (
      play_stays v play n plan new.waiting shut how w.0 w.1 ∙ sym at,
      λ s. absurd (opened_shut new open_now s),
      λ h was awaits_batch. absurd (behind_shut plan v play n h hosts new.waiting shut how w.0 w.1 w.2 was awaits_batch),
    )

behind_closes : (v : Seen) (more : Bool) (play : ℕ) (hosts inside waiting : List Bool) (new : Seen) → v.has_more ≡ more → v.is_open ≡ true
    → ((h : ℕ) → is_member waiting h ≡ true → (is_member v.waiting h ≡ true) × (is_member v.inside h ≡ false))
    → new.play ≡ play_behind more v.play → new.is_open ≡ false → new.has_more ≡ more → new.waiting ≡ waiting → IsBehind play hosts v → IsBehind play hosts new
unfolding IsBehind
behind_closes v true play hosts inside waiting new m o still at shut more_too awaits_batch (inl l) = inl (omega (arith, l, at))
behind_closes v false play hosts inside waiting new m o still at shut more_too awaits_batch (inl l) = inl (omega (arith, l, at))
behind_closes v true play hosts inside waiting new m o still at shut more_too awaits_batch (inr w) =
    inr (
      w.0 ∙ sym at,
      λ s. more_too,
      λ h was wait.
          let left = still h (ap (λ (all : List Bool). is_member all h) (sym awaits_batch) ∙ wait) in
          absurd (true_false (is_member v.inside h) (w.2 h was left.0).1 left.1),
    )
behind_closes v false play hosts inside waiting new m o still at shut more_too awaits_batch (inr w) = inl (let same = w.0 in omega (arith, same, at))

behind_next : (plan : PlanOf) (v new : Seen) (happens : List Happening) (play : ℕ) (hosts : List Bool) → Tells plan v happens new → IsBehind play hosts v → IsBehind play hosts new
unfolding IsBehind OpensSo
behind_next plan v new happens play hosts (Opening n more tasks inside waiting is) w = behind_opens plan v n more new play hosts is.shut is.how refl refl w
behind_next plan v new happens play hosts (Starting over host place items end notified is so) w = w
behind_next plan v new happens play hosts (Sending host item attempt ticket r is) w = w
behind_next plan v new happens play hosts (Reporting over host item ticket r items end notified is so) w = w
behind_next plan v new happens play hosts (Turning more happenings opened given is) (inl l) = inl l
behind_next plan v new happens play hosts (Turning more happenings opened given is) (inr w) = inr (w.0, λ s. absurd (opened_shut v opened s), w.2)
behind_next plan v new happens play hosts (Closing tasks inside waiting is) w = behind_closes v v.has_more play hosts inside waiting new refl is.opened is.still refl refl refl refl w
behind_next plan v new happens play hosts Stopping w = w
behind_next plan v new happens play hosts (Forking n) w = w

all_next : (v new : Seen) → ((play : ℕ) (hosts : List Bool) → IsBehind play hosts v → IsBehind play hosts new) → (past : List Happening) → AreBehind past v → AreBehind past new
unfolding AreBehind
all_next v new each [] w = tt
all_next v new each (Opens play hosts ∷ past) w = (each play hosts w.0, all_next v new each past w.1)
all_next v new each (now ∷ past) w = all_next v new each past w

given_behind : (v : Seen) (past happens : List Happening) → AreGiven happens → AreBehind past v → AreBehind (so_far past happens) v
unfolding AreBehind
given_behind v past [] given w = w
given_behind v past (x ∷ xs) (one_given task kind given) w = given_behind v (Given task kind ∷ past) xs given w

all_behind : (plan : PlanOf) (past : List Happening) (v new : Seen) (happens : List Happening) → Tells plan v happens new → AreBehind past new → AreBehind (so_far past happens) new
unfolding AreBehind IsBehind
all_behind plan past v new happens (Opening n more tasks inside waiting is) w = (inr (refl, λ s. cc, λ h was awaits_batch. (refl, was)), w)
all_behind plan past v new happens (Starting true host place items end notified is so) w = w
all_behind plan past v new happens (Starting false host place items end notified is so) w = w
all_behind plan past v new happens (Sending host item attempt ticket r is) w = w
all_behind plan past v new happens (Reporting true host item ticket r items end notified is so) w = w
all_behind plan past v new happens (Reporting false host item ticket r items end notified is so) w = w
all_behind plan past v new happens (Turning more happenings opened given is) w = given_behind new past happens given w
all_behind plan past v new happens (Closing tasks inside waiting is) w = w
all_behind plan past v new happens Stopping w = w
all_behind plan past v new happens (Forking n) w = w

-- ---- lists that share no host
none_shared : (hosts others : List Bool) → ((h : ℕ) → is_member hosts h ≡ true → is_member others h ≡ true → ⊥) → share hosts others ≡ false
none_shared [] others apart = refl
none_shared (a ∷ hosts) [] apart = refl
none_shared (a ∷ hosts) (b ∷ others) apart = by_first a b (apart 0) (none_shared hosts others (λ h m n. apart (suc h) m n))
  where
    by_first : (x y : Bool) → (x ≡ true → y ≡ true → ⊥) → share hosts others ≡ false → ((x && y) || share hosts others) ≡ false
    by_first true true none rest = absurd (none refl refl)
    by_first true false none rest = rest
    by_first false y none rest = rest

apart_or : (a b rest : Bool) → (a ≡ true → b ≡ false) → rest ≡ false → ((a && b) || rest) ≡ false
apart_or true b rest e f = let none = e refl in rw (none, f) refl
apart_or false b rest e f = f

none_were : (plan : PlanOf) (v : Seen) (n : ℕ) (inside waiting : List Bool) → v.is_open ≡ false → OpensSo plan v n waiting → ((h : ℕ) → is_member inside h ≡ true → is_member waiting h ≡ true)
    → (past : List Happening) → AreBehind past v → some_were_in n inside past ≡ false
unfolding AreBehind IsBehind
none_were plan v n inside waiting shut how joins [] w = refl
none_were plan v n inside waiting shut how joins (Opens play hosts ∷ past) w =
    apart_or (play == n) (share hosts inside) (some_were_in n inside past) (λ same. by_behind (eqb-true play n same) w.0) (none_were plan v n inside waiting shut how joins past w.1)
  where
    by_behind : play ≡ n
        → (play < v.play) ⊎ ((play ≡ v.play) × (v.is_open ≡ false → v.has_more ≡ true) × ((h : ℕ) → is_member hosts h ≡ true → is_member v.waiting h ≡ true → (v.is_open ≡ true) × (is_member v.inside h ≡ true)))
        → share hosts inside ≡ false
    by_behind same (inl l) = absurd (let least = later_opens plan v play n waiting how l in omega (arith, least, same))
    by_behind same (inr b) = none_shared hosts inside (λ h was is. behind_shut plan v play n h hosts waiting shut how b.0 b.1 b.2 was (joins h is))
none_were plan v n inside waiting shut how joins (now ∷ past) w = none_were plan v n inside waiting shut how joins past w

-- ---- own hosts
record Own (plan : PlanOf) (past : List Happening) (v : Seen) : Type 0 where
  behind : AreBehind past v
  batch : v.is_open ≡ true → batch_of v.play past ≡ v.inside
  joined : v.is_open ≡ true → (h : ℕ) → is_member v.inside h ≡ true → is_member v.waiting h ≡ true
  own : (v.is_open || v.has_more) ≡ true → (h : ℕ) → is_member v.waiting h ≡ true → selects plan v.play h ≡ true

or_first : (a b : Bool) → a ≡ true → (a || b) ≡ true
or_first true b e = refl
or_first false b e = cc

pub batch_next : (plan : PlanOf) (past : List Happening) (v new : Seen) (happens : List Happening) → Tells plan v happens new → (v.is_open ≡ true → batch_of v.play past ≡ v.inside) → new.is_open ≡ true → batch_of new.play (so_far past happens) ≡ new.inside
batch_next plan past v new happens (Opening n more tasks inside waiting is) b o = ap (λ (same : Bool). if same then inside else []) (eq-eqb n n refl)
batch_next plan past v new happens (Starting true host place items end notified is so) b o = b o
batch_next plan past v new happens (Starting false host place items end notified is so) b o = b o
batch_next plan past v new happens (Sending host item attempt ticket r is) b o = b o
batch_next plan past v new happens (Reporting true host item ticket r items end notified is so) b o = b o
batch_next plan past v new happens (Reporting false host item ticket r items end notified is so) b o = b o
batch_next plan past v new happens (Turning more happenings opened given is) b o = given_same (batch_of v.play) (λ before task how. refl) past happens given ∙ b o
batch_next plan past v new happens (Closing tasks inside waiting is) b o = cc
batch_next plan past v new happens Stopping b o = b o
batch_next plan past v new happens (Forking n) b o = b o

joined_next : (plan : PlanOf) (v new : Seen) (happens : List Happening) → Tells plan v happens new → (v.is_open ≡ true → (h : ℕ) → is_member v.inside h ≡ true → is_member v.waiting h ≡ true)
    → new.is_open ≡ true → (h : ℕ) → is_member new.inside h ≡ true → is_member new.waiting h ≡ true
joined_next plan v new happens (Opening n more tasks inside waiting is) j o = is.joins
joined_next plan v new happens (Starting over host place items end notified is so) j o = j o
joined_next plan v new happens (Sending host item attempt ticket r is) j o = j o
joined_next plan v new happens (Reporting over host item ticket r items end notified is so) j o = j o
joined_next plan v new happens (Turning more happenings opened given is) j o = j o
joined_next plan v new happens (Closing tasks inside waiting is) j o = absurd (let shut : false ≡ true = o in cc)
joined_next plan v new happens Stopping j o = j o
joined_next plan v new happens (Forking n) j o = j o

own_opens : (plan : PlanOf) (v : Seen) (n : ℕ) (waiting : List Bool) → OpensSo plan v n waiting → ((v.is_open || v.has_more) ≡ true → (h : ℕ) → is_member v.waiting h ≡ true → selects plan v.play h ≡ true)
    → (h : ℕ) → is_member waiting h ≡ true → selects plan n h ≡ true
unfolding OpensSo
own_opens plan v n waiting (inl on) own h w =
    ap (λ (play : ℕ). selects plan play h) on.1 ∙ own (or_last v.is_open v.has_more on.0) h (ap (λ (all : List Bool). is_member all h) (sym on.2) ∙ w)
  where
    or_last : (a b : Bool) → b ≡ true → (a || b) ≡ true
    or_last true b e = refl
    or_last false b e = e
own_opens plan v n waiting (inr begins) own h w = begins.2 h w

own_closes : (plan : PlanOf) (v : Seen) (more : Bool) (waiting : List Bool) → more ≡ true → v.is_open ≡ true
    → ((h : ℕ) → is_member waiting h ≡ true → (is_member v.waiting h ≡ true) × (is_member v.inside h ≡ false))
    → ((v.is_open || v.has_more) ≡ true → (h : ℕ) → is_member v.waiting h ≡ true → selects plan v.play h ≡ true) → (h : ℕ) → is_member waiting h ≡ true → selects plan (play_behind more v.play) h ≡ true
own_closes plan v true waiting m o still own h w = own (or_first v.is_open v.has_more o) h (still h w).0
own_closes plan v false waiting m o still own h w = cc

own_next : (plan : PlanOf) (v new : Seen) (happens : List Happening) → Tells plan v happens new → ((v.is_open || v.has_more) ≡ true → (h : ℕ) → is_member v.waiting h ≡ true → selects plan v.play h ≡ true)
    → (new.is_open || new.has_more) ≡ true → (h : ℕ) → is_member new.waiting h ≡ true → selects plan new.play h ≡ true
unfolding OpensSo
own_next plan v new happens (Opening n more tasks inside waiting is) own o = own_opens plan v n waiting is.how own
own_next plan v new happens (Starting over host place items end notified is so) own o = own o
own_next plan v new happens (Sending host item attempt ticket r is) own o = own o
own_next plan v new happens (Reporting over host item ticket r items end notified is so) own o = own o
own_next plan v new happens (Turning more happenings opened given is) own o = own (or_first v.is_open v.has_more opened)
own_next plan v new happens (Closing tasks inside waiting is) own o = own_closes plan v v.has_more waiting o is.opened is.still own
own_next plan v new happens Stopping own o = own o
own_next plan v new happens (Forking n) own o = own o

-- ---- the law
start_is_own : (plan : PlanOf) (past : List Happening) (v : Seen) (host place : ℕ) → IsStarting plan v host place → Own plan past v → own_hosts plan past (Starts (task_on v host place)) ≡ true
start_is_own plan past v host place is own =
    both (selects plan v.play host) (is_member (batch_of v.play past) host)
    (own.own (or_first v.is_open v.has_more is.opened) host (own.joined is.opened host is.inside))
    (ap (λ (all : List Bool). is_member all host) (own.batch is.opened) ∙ is.inside)

own_hold : (plan : PlanOf) (past : List Happening) (v new : Seen) (happens : List Happening) → Tells plan v happens new → Own plan past v → holds_from (own_hosts plan) past happens ≡ true
unfolding OpensSo
own_hold plan past v new happens (Opening n more tasks inside waiting is) own =
    both (own_hosts plan past (Opens n inside)) true (ap not (none_were plan v n inside waiting is.shut is.how is.joins past own.behind)) refl
own_hold plan past v new happens (Starting true host place items end notified is so) own = both (own_hosts plan past (Starts (task_on v host place))) true (start_is_own plan past v host place is own) refl
own_hold plan past v new happens (Starting false host place items end notified is so) own = both (own_hosts plan past (Starts (task_on v host place))) true (start_is_own plan past v host place is own) refl
own_hold plan past v new happens (Sending host item attempt ticket r is) own = refl
own_hold plan past v new happens (Reporting true host item ticket r items end notified is so) own = refl
own_hold plan past v new happens (Reporting false host item ticket r items end notified is so) own = refl
own_hold plan past v new happens (Turning more happenings opened given is) own = given_holds (own_hosts plan) (λ before task how. refl) past happens given
own_hold plan past v new happens (Closing tasks inside waiting is) own = refl
own_hold plan past v new happens Stopping own = refl
own_hold plan past v new happens (Forking n) own = refl

keeps_own : Keeps own_hosts Own
unfolding AreBehind
keeps_own =
    record {
      begins = λ plan n. refl;
      first = λ plan forks pool. record { behind = tt; batch = λ o. cc; joined = λ o. absurd (let shut : false ≡ true = o in cc); own = λ o. absurd (let shut : false ≡ true = o in cc) };
      now = λ plan past v new happens tells own. own_hold plan past v new happens tells own;
      next = λ plan past v new happens tells own.
          record {
            behind = all_behind plan past v new happens tells (all_next v new (λ play hosts w. behind_next plan v new happens play hosts tells w) past own.behind);
            batch = batch_next plan past v new happens tells own.batch;
            joined = joined_next plan v new happens tells own.joined;
            own = own_next plan v new happens tells own.own;
          };
    }

pub hosts_are_own : Always own_hosts
hosts_are_own = always own_hosts Own keeps_own
