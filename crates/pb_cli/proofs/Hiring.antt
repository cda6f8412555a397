-- Launchers that are hired out to runners, and what they started.
use Rattle.std.proofs.Common.{◌≡◌, ◌+◌, ℕ, zero, suc, List, [], ◌∷◌, ◌++◌, All, map, reverse, length, slice_get, Option, Some, Result, Ok, Err, IfOk, IfErr, refl, sym, ◌∙◌, ap, subst, arith, append_assoc, length-append}
use Rattle.std.proofs.lemmas.List.Elements.{All-append, All-cons, All-head, All-nil, All-tail}
use Rattle.std.proofs.lemmas.List.{map-append, length-map, length-reverse, reverse-append, reverse-reverse}
use Rattle.pb_outcome.specs.declared.job.Job.{Job}
use Rattle.pb_outcome.specs.declared.job.Report.{Report}
use Rattle.pb_outcome.specs.declared.outcome.Form.{Form}
use Rattle.pb_forks.specs.declared.views.Entry.{Entry}
use Rattle.pb_plan.specs.Plan.{PlanOf}
use Rattle.pb_state.specs.declared.event.Event.{Event}
use Rattle.pb_runner.specs.History.{none_more, with_more}
use Rattle.pb_runner.specs.Launch.{Launch}
use Rattle.pb_runner.specs.Local.{LocalAllows}
use Rattle.pb_runner.specs.LocalRan.{HasStarted, LocalRan, AreLaunched}
use Rattle.pb_runner.specs.Served.{job_run}
use Rattle.pb_runner.specs.declared.local.LocalRunner.{LocalRunner}
use Rattle.pb_driver.specs.declared.driver.RunFault.{RunFault}
use Rattle.pb_driver.specs.declared.driver.RunFault.TheVariants.{Closed}
use Rattle.pb_driver.specs.Driven.{IsWorkersAnswer}
use Rattle.pb_driver.specs.Mails.{AreMails, AreWithin}
use Rattle.pb_driver.specs.Workers.{HasItsShare, HaveShares, IsSpread}
use Rattle.pb_cli.specs.Hired.{launcher_of, facts_of}
use Rattle.pb_cli.specs.Played.{IsRunBy, IsCutBy, IsLocalRun, IsLocalCut, AreStartedFor, commands_for}
use Rattle.pb_cli.specs.World.{Stream}

-- ---- lists
reverse_snoc : {X : Type 0} (xs : List X) (x : X) → reverse (xs ++ x ∷ []) ≡ x ∷ reverse xs
reverse_snoc xs x = reverse-append xs (x ∷ [])

-- one that is moved from the end of a list to the end of another one
pub moved_one : {X Y : Type 0} (f : X → Y) (rest : List X) (x : X) (done : List Y) (whole : List Y) → done ++ reverse (map f (rest ++ x ∷ [])) ≡ whole → (done ++ f x ∷ []) ++ reverse (map f rest) ≡ whole
moved_one f rest x done whole was =
    append_assoc done (f x ∷ []) (reverse (map f rest)) ∙ ap (λ l. done ++ l) (sym (reverse_snoc (map f rest) (f x)) ∙ ap reverse (sym (map-append f rest (x ∷ [])))) ∙ was

pub poured_one : {X : Type 0} (rest : List X) (x : X) (done whole : List X) → done ++ reverse (rest ++ x ∷ []) ≡ whole → (done ++ x ∷ []) ++ reverse rest ≡ whole
poured_one rest x done whole was = append_assoc done (x ∷ []) (reverse rest) ∙ ap (λ l. done ++ l) (sym (reverse_snoc rest x)) ∙ was

-- one that is taken from a queue's end, and goes to the end of a list
pub taken_one : {X Y : Type 0} (f : Y → X) (rest : List X) (x : X) (done : List Y) (y : Y) (whole : List X) → f y ≡ x → (rest ++ x ∷ []) ++ reverse (map f done) ≡ whole → rest ++ reverse (map f (done ++ y ∷ [])) ≡ whole
taken_one f rest x done y whole is was =
    ap (λ l. rest ++ reverse l) (map-append f done (y ∷ []) ∙ ap (λ z. map f done ++ z ∷ []) is) ∙ ap (λ l. rest ++ l) (reverse_snoc (map f done) x) ∙ sym (append_assoc rest (x ∷ []) (reverse (map f done))) ∙ was

-- a copy that is used, of some that are left
pub used_one : {X Y : Type 0} (f : Y → X) (rest : List X) (x : X) (done : List Y) (y : Y) (whole : List X) → f y ≡ x → map f done ++ reverse (rest ++ x ∷ []) ≡ whole → map f (done ++ y ∷ []) ++ reverse rest ≡ whole
used_one f rest x done y whole is was =
    ap (λ l. l ++ reverse rest) (map-append f done (y ∷ []) ∙ ap (λ z. map f done ++ z ∷ []) is) ∙ poured_one rest x (map f done) whole was

-- a list that was turned round, of which some were taken from the end, is these and what is left, turned back
pub hired_of : {X : Type 0} (all queue hired : List X) → queue ++ reverse hired ≡ reverse all → all ≡ hired ++ reverse queue
hired_of all queue hired e = sym (reverse-reverse all) ∙ ap reverse (sym e) ∙ reverse-append queue (reverse hired) ∙ ap (λ l. l ++ reverse queue) (reverse-reverse hired)

pub back_of : {X : Type 0} (all queue hired : List X) → all ≡ reverse (queue ++ reverse hired) → all ≡ hired ++ reverse queue
back_of all queue hired e = e ∙ reverse-append queue (reverse hired) ∙ ap (λ l. l ++ reverse queue) (reverse-reverse hired)

map_both : {X Y Z : Type 0} (f : X → Y) (h : Y → Z) (xs : List X) → map h (map f xs) ≡ map (λ x. h (f x)) xs
map_both f h [] = refl
map_both f h (x ∷ xs) = ap (λ l. h (f x) ∷ l) (map_both f h xs)

-- the element that stands there before the map
record Behind {X Y : Type 0} (f : X → Y) (xs : List X) (j : ℕ) (y : Y) : Type 0 where
  pub one : X
  pub at : slice_get xs j ≡ Some one
  pub is : f one ≡ y

behind : {X Y : Type 0} (f : X → Y) (xs : List X) (j : ℕ) (y : Y) → slice_get (map f xs) j ≡ Some y → Behind f xs j y
behind f [] j y e = cc
behind f (x ∷ xs) zero y e = record { one = x; at = refl; is = let same : f x ≡ y = cc in same }
behind f (x ∷ xs) (suc j) y e = let rest = behind f xs j y e in record { one = rest.one; at = rest.at; is = rest.is }

all_at : {X Y : Type 0} (f : X → Y) (P : Y → Type 0) (xs : List X) (j : ℕ) (x : X) → All P (map f xs) → slice_get xs j ≡ Some x → P (f x)
all_at f P [] j x all e = cc
all_at f P (y ∷ xs) zero x all e = let same : y ≡ x = cc in subst (λ z. P (f z)) same (All-head P (f y) (map f xs) all)
all_at f P (y ∷ xs) (suc j) x all e = all_at f P xs j x (All-tail P (f y) (map f xs) all) e

pub all_back : {X : Type 0} (P : X → Type 0) (xs : List X) → All P xs → All P (reverse xs)
all_back P [] all = All-nil P
all_back P (x ∷ xs) all =
    subst (All P) (sym (reverse-append (x ∷ []) xs)) (All-append P (reverse xs) (x ∷ []) (all_back P xs (All-tail P x xs all)) (All-cons P x [] (All-head P x xs all) (All-nil P)))

-- lists whose elements are the same
all_same : {X : Type 0} (xs ys : List X) → length ys ≡ length xs → ((j : ℕ) (x y : X) → slice_get xs j ≡ Some x → slice_get ys j ≡ Some y → y ≡ x) → ys ≡ xs
all_same [] [] long each = refl
all_same [] (y ∷ ys) long each = let none : ⊥ = omega (arith, long) in absurd none
all_same (x ∷ xs) [] long each = let none : ⊥ = omega (arith, long) in absurd none
all_same (x ∷ xs) (y ∷ ys) long each =
    ap (λ z. z ∷ ys) (each zero x y refl refl) ∙ ap (λ l. x ∷ l) (all_same xs ys (let is : length (y ∷ ys) ≡ length (x ∷ xs) = long in omega (arith, is)) (λ j a b e f. each (suc j) a b e f))

no_runs : {X Y : Type 0} (f : X → Y) (xs : List X) → map f xs ≡ [] → xs ≡ []
no_runs f [] e = refl
no_runs f (x ∷ xs) e = cc

-- ---- how many there are
pub runners_many : {L : Type 0} (runners : List (LocalRunner L)) (facts : List (Option (List ℕ))) → map facts_of runners ≡ reverse facts → length runners ≡ length facts
runners_many runners facts e = sym (length-map runners facts_of) ∙ ap length e ∙ length-reverse facts

pub queue_many : {L : Type 0} (queue all : List L) (runners : List (LocalRunner L)) → queue ++ reverse (map launcher_of runners) ≡ all → length queue + length runners ≡ length all
queue_many queue all runners e =
    let both = length-append queue (reverse (map launcher_of runners)) in
    let turned = length-reverse (map launcher_of runners) in
    let mapped = length-map runners launcher_of in
    let same = ap length e in
    omega (arith, both, turned, mapped, same)

pub still_many : {N : Type 0} (ran : N → List (Job × Form) → N → Type 0) (result : Result (ℕ × List Event) (RunFault × List Event)) (olds news : List N) (plan : PlanOf)
    → IfOk result (λ ended. IsSpread ran olds news plan ended.1 []) → IfErr result (λ cut. (later : List Report) × IsSpread ran olds news plan cut.1 later) → length news ≡ length olds
still_many ran (Ok ended) olds news plan ok err = ok.many
still_many ran (Err cut) olds news plan ok err = err.1.many

-- ---- launchers
module _ {L : Type 0} (launched : L → Option (List Launch)) where
  abbrev launches_of : LocalRunner L → Option (List Launch)
  launches_of runner = launched runner.launcher

  abbrev pub RanBy : LocalRunner L → List (Job × Form) → LocalRunner L → Type 0
  RanBy old jobs new = LocalRan old.facts (launched old.launcher) jobs new.facts (launched new.launcher)

  -- what a runner ran is what its launcher started
  started_as : (facts : Option (List ℕ)) (old new : LocalRunner L) (known known_after : Option (List Launch)) (jobs : List (Job × Form)) → old.facts ≡ facts → launches_of old ≡ known → launches_of new ≡ known_after → RanBy old jobs new → HasStarted facts known jobs known_after
  started_as facts old new known known_after jobs same was is ran =
      subst (λ (a : Option (List Launch)). HasStarted facts known jobs a) is
      (subst (λ (b : Option (List Launch)). HasStarted facts b jobs (launches_of new)) was (subst (λ (f : Option (List ℕ)). HasStarted f (launches_of old) jobs (launches_of new)) same ran.1))

  shares_as : (facts : Option (List ℕ)) (olds news : List (LocalRunner L)) (log : List Entry) → All (λ (f : Option (List ℕ)). f ≡ facts) (map facts_of olds) → HaveShares RanBy olds news log
      → HaveShares (λ (old : Option (List Launch)) jobs new. HasStarted facts old jobs new) (map launches_of olds) (map launches_of news) log
  shares_as facts olds news log all each = λ j known known_after e f.
      let old = behind launches_of olds j known e in
      let new = behind launches_of news j known_after f in
      let share = each j old.one new.one old.at new.at in
      (share.0, started_as facts old.one new.one known known_after share.0 (all_at facts_of (λ (p : Option (List ℕ)). p ≡ facts) olds j old.one all old.at) old.is new.is share.1, share.2, share.3)

  spread_as : (facts : Option (List ℕ)) (olds news : List (LocalRunner L)) (plan : PlanOf) (trail : List Event) (later : List Report) → All (λ (f : Option (List ℕ)). f ≡ facts) (map facts_of olds) → IsSpread RanBy olds news plan trail later
      → IsSpread (λ (old : Option (List Launch)) jobs new. HasStarted facts old jobs new) (map launches_of olds) (map launches_of news) plan trail later
  spread_as facts olds news plan trail later all spread = record {
    log = spread.log;
    mails = subst (λ (k : ℕ). AreMails plan k trail later spread.log) (sym (length-map olds launches_of)) spread.mails;
    within = subst (λ (k : ℕ). AreWithin k spread.log) (sym (length-map olds launches_of)) spread.within;
    many = length-map news launches_of ∙ spread.many ∙ sym (length-map olds launches_of);
    each = shares_as facts olds news spread.log all spread.each;
  }

  -- what launchers tell of which some are hired
  launches_split : (all : List L) (runners : List (LocalRunner L)) (others : List L) → all ≡ map launcher_of runners ++ others → map launched all ≡ map launches_of runners ++ map launched others
  launches_split all runners others e = ap (map launched) e ∙ map-append launched (map launcher_of runners) others ∙ ap (λ l. l ++ map launched others) (map_both launcher_of launched runners)

  started_for : (facts : Option (List ℕ)) (olds news : List (LocalRunner L)) (others all all_after : List L) (plan : PlanOf) (trail : List Event) (later : List Report)
      → all ≡ map launcher_of olds ++ others → all_after ≡ map launcher_of news ++ others → length olds ≡ plan.forks → All (λ (f : Option (List ℕ)). f ≡ facts) (map facts_of olds) → IsSpread RanBy olds news plan trail later
      → AreStartedFor facts (map launched all) (map launched all_after) plan trail later
  started_for facts olds news others all all_after plan trail later before after many same spread = record {
    hired = map launches_of olds;
    hired_after = map launches_of news;
    others = map launched others;
    before = launches_split all olds others before;
    after = launches_split all_after news others after;
    many = length-map olds launches_of ∙ many;
    spread = spread_as facts olds news plan trail later same spread;
  }

  -- where nothing went to the runners, their launchers started nothing
  none_started : (facts : Option (List ℕ)) (old new : Option (List Launch)) (jobs : List (Job × Form)) → jobs ≡ [] → HasStarted facts old jobs new → new ≡ old
  none_started facts old new jobs none started =
      let empty : started.launches ≡ [] = subst (λ (l : List (Job × Form)). AreLaunched facts l started.launches) none started.each in
      started.launched ∙ ap (λ (l : List Launch). with_more old l) empty ∙ sym (none_more old)

  nothing_launched : (facts : Option (List ℕ)) (olds news : List (LocalRunner L)) (plan : PlanOf) → All (λ (f : Option (List ℕ)). f ≡ facts) (map facts_of olds) → IsSpread RanBy olds news plan [] [] → map launches_of news ≡ map launches_of olds
  nothing_launched facts olds news plan same spread =
      let is = spread_as facts olds news plan [] [] same spread in
      let no_log : is.log ≡ [] = no_runs _ is.log is.mails in
      all_same (map launches_of olds) (map launches_of news) is.many
      (λ j old new e f.
      let share = subst (λ (l : List Entry). HasItsShare (λ (o : Option (List Launch)) jobs n. HasStarted facts o jobs n) old new l j) no_log (is.each j old new e f) in
      none_started facts old new share.0 (no_runs job_run share.0 share.2) share.1)

  unstarted : (facts : Option (List ℕ)) (olds news : List (LocalRunner L)) (others all all_after : List L) (plan : PlanOf)
      → all ≡ map launcher_of olds ++ others → all_after ≡ map launcher_of news ++ others → All (λ (f : Option (List ℕ)). f ≡ facts) (map facts_of olds) → IsSpread RanBy olds news plan [] [] → map launched all_after ≡ map launched all
  unstarted facts olds news others all all_after plan before after same spread =
      launches_split all_after news others after ∙ ap (λ l. l ++ map launched others) (nothing_launched facts olds news plan same spread) ∙ sym (launches_split all olds others before)

  -- ---- a run by such runners, as it is handed out
  pub hired_run : (result : Result (ℕ × List Event) (RunFault × List Event)) (plan : PlanOf) (stop_after : Option ℕ) (facts : Option (List ℕ)) (olds news : List (LocalRunner L)) (others all all_after : List L) (before after : Stream)
      → all ≡ map launcher_of olds ++ others → all_after ≡ map launcher_of news ++ others → length olds ≡ plan.forks → All (λ (f : Option (List ℕ)). f ≡ facts) (map facts_of olds)
      → IfOk result (λ ran. IsRunBy (IsWorkersAnswer LocalAllows) plan (length olds) (commands_for stop_after) ran.1 before.taken after.taken ran.0)
      → IfOk result (λ ran. IsSpread RanBy olds news plan ran.1 [])
      → IfOk result (λ ran. IsLocalRun plan stop_after facts ran.1 (record { started = map launched all; out = before }) (record { started = map launched all_after; out = after }) ran.0)
  hired_run (Ok ran) plan stop_after facts olds news others all all_after before after old new many same run spread = record {
    run = subst (λ (k : ℕ). IsRunBy (IsWorkersAnswer LocalAllows) plan k (commands_for stop_after) ran.1 before.taken after.taken ran.0) many run;
    programs = started_for facts olds news others all all_after plan ran.1 [] old new many same spread;
  }
  hired_run (Err cut) plan stop_after facts olds news others all all_after before after old new many same run spread = tt

  pub hired_cut : (result : Result (ℕ × List Event) (RunFault × List Event)) (plan : PlanOf) (stop_after : Option ℕ) (facts : Option (List ℕ)) (olds news : List (LocalRunner L)) (others all all_after : List L) (before after : Stream)
      → all ≡ map launcher_of olds ++ others → all_after ≡ map launcher_of news ++ others → length olds ≡ plan.forks → All (λ (f : Option (List ℕ)). f ≡ facts) (map facts_of olds)
      → IfErr result (λ cut. IsCutBy (IsWorkersAnswer LocalAllows) plan (length olds) (commands_for stop_after) cut.1 before.taken after.taken)
      → IfErr result (λ cut. (later : List Report) × IsSpread RanBy olds news plan cut.1 later)
      → IfErr result (λ cut. cut.0 ≡ Closed → (cut.1 ≡ []) × (after.taken ≡ before.taken) × IsSpread RanBy olds news plan [] [])
      → IfErr result (λ cut. IsLocalCut plan stop_after facts cut.1 cut.0 (record { started = map launched all; out = before }) (record { started = map launched all_after; out = after }))
  hired_cut (Ok ran) plan stop_after facts olds news others all all_after before after old new many same cut later closed = tt
  hired_cut (Err fault) plan stop_after facts olds news others all all_after before after old new many same cut later closed = record {
    cut = subst (λ (k : ℕ). IsCutBy (IsWorkersAnswer LocalAllows) plan k (commands_for stop_after) fault.1 before.taken after.taken) many cut;
    programs = (later.0, started_for facts olds news others all all_after plan fault.1 later.0 old new many same later.1);
    closed = λ is. let none = closed is in (none.0, (unstarted facts olds news others all all_after plan old new same none.2, none.1));
  }
