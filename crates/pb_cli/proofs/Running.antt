-- A run, said of what a caller sees.
use Rattle.std.proofs.Common.{◌≡◌, ◌⊎◌, ◌≤◌, ℕ, Bool, true, false, List, Option, Some, None, Ok, inl, inr, arith, sym, subst}
use Rattle.std.specs.List.{list_any}
use Rattle.std.specs.Prelude.{◌≢◌, if◌then◌else◌}
use Rattle.pb_outcome.specs.declared.job.Job.{Job}
use Rattle.pb_outcome.specs.declared.outcome.Form.{Form}
use Rattle.pb_plan.specs.Plan.{PlanOf}
use Rattle.pb_planning.specs.declared.bundle.Bundle.{Bundle}
use Rattle.pb_state.specs.declared.event.Event.{Event}
use Rattle.pb_driver.specs.FromHost.{Counts}
use Rattle.pb_audit.specs.Audit.{is_legal}
use Rattle.pb_audit.specs.Larger.{LargerPoolsAllow}
use Rattle.pb_driver.specs.FromRecap.{Failed, Unreachable, status_of, has, recap}
use Rattle.pb_driver.specs.declared.driver.RunFault.{RunFault}
use Rattle.pb_driver.specs.declared.driver.RunFault.TheVariants.{Closed}
use Rattle.pb_driver.specs.Laws.{RunsKeepLaws}
use Rattle.pb_driver.specs.Cut.{IsCut}
use Rattle.pb_driver.specs.Driven.{Answers, IsAnswer, IsBegun, IsBegunBy, IsWhole, IsWholeRun}
use Rattle.pb_driver.specs.Ran.{IsRanTo, answers_of}
use Rattle.pb_driver.specs.Written.{LinesStandBehindEvents}
use Rattle.pb_driver.specs.declared.given.Given.{Given}
use Rattle.pb_runner.specs.Reading.{table_of}
use Rattle.pb_runner.specs.Table.{TableGives, TableRan, AllGiven}
use Rattle.pb_runner.specs.declared.table.Table.{Table}
use Rattle.pb_command_line.specs.declared.words.Purpose.{Purpose}
use Rattle.pb_command_line.specs.declared.words.Purpose.TheVariants.{Run, CheckSyntax, ListHosts}
use Rattle.pb_cli.specs.declared.playing.Played.{Played}
use Rattle.pb_cli.specs.declared.playing.Wanted.{Wanted}
use Rattle.pb_cli.specs.Audited.{IsVerdict}
use Rattle.pb_driver.specs.ByTable.{allows_all}
use Rattle.pb_cli.specs.Played.{IsRunBy, IsCutBy, IsTabled, IsTabledCut, IsPlayed, IsPlayedTo, HasTrail, IsRunOrAudited, IsRunOrAuditedTo, IsGivenFor, IsGivenUnless, is_forbidden, IsUnbegun, commands_for}
use Rattle.pb_cli.specs.Done.{IsShown}
use Rattle.pb_cli.specs.World.{Stage, World, IsUntouched}

-- one runner's whole run is one
whole_of : (allows gives : Job → Form → Type 0) (has_run : List (Job × Form) → Type 0) (plan : PlanOf) (pool : ℕ) (commands : List Given) (trail : List Event) (before after : Option (List ℕ))
    → IsWholeRun allows gives has_run plan pool commands trail before after → IsWhole (IsAnswer allows gives) plan pool commands trail before after
whole_of allows gives has_run plan pool commands trail before after run = record {
  legal = run.legal;
  eager = run.eager;
  once = run.once;
  answered = run.answered;
  obeyed = run.obeyed;
  finished = run.finished;
  over = run.over;
  written = run.written;
}

-- a run that is legal keeps the laws of runs, and its output those of lines
pub run_by : (allows gives : Job → Form → Type 0) (has_run : List (Job × Form) → Type 0) (plan : PlanOf) (commands : List Given) (trail : List Event) (before after : Option (List ℕ)) (status : ℕ)
    → RunsKeepLaws → LinesStandBehindEvents → IsWholeRun allows gives has_run plan 256 commands trail before after → status ≡ status_of (recap plan 256 trail)
    → IsRunBy (IsAnswer allows gives) plan 256 commands trail before after status
run_by allows gives has_run plan commands trail before after status laws lines run recapped = record {
  run = whole_of allows gives has_run plan 256 commands trail before after run;
  recapped = recapped;
  laws = laws plan 256 trail run.legal;
  lines = lines.whole plan 256 trail;
  audited = run.legal;
}

-- by workers, of whom there are no more than an audit counts
pub run_in_pool : (answers : Answers) (plan : PlanOf) (pool : ℕ) (commands : List Given) (trail : List Event) (before after : Option (List ℕ)) (status : ℕ)
    → RunsKeepLaws → LinesStandBehindEvents → LargerPoolsAllow → pool ≤ 256 → IsWhole answers plan pool commands trail before after → status ≡ status_of (recap plan pool trail)
    → IsRunBy answers plan pool commands trail before after status
run_in_pool answers plan pool commands trail before after status laws lines larger few run recapped = record {
  run = run;
  recapped = recapped;
  laws = laws plan pool trail run.legal;
  lines = lines.whole plan pool trail;
  audited = (larger plan plan.forks pool 256 trail few run.legal).0;
}

-- of the events as they are handed out
pub run_handed : (allows gives : Job → Form → Type 0) (has_run : List (Job × Form) → Type 0) (plan : PlanOf) (commands : List Given) (trail handed : List Event) (before after : Option (List ℕ)) (status : ℕ)
    → handed ≡ trail → RunsKeepLaws → LinesStandBehindEvents → IsWholeRun allows gives has_run plan 256 commands trail before after → status ≡ status_of (recap plan 256 trail)
    → IsRunBy (IsAnswer allows gives) plan 256 commands handed before after status
run_handed allows gives has_run plan commands trail handed before after status same laws lines run recapped =
    subst (λ (events : List Event). IsRunBy (IsAnswer allows gives) plan 256 commands events before after status) (sym same) (run_by allows gives has_run plan commands trail before after status laws lines run recapped)

pub pool_handed : (answers : Answers) (plan : PlanOf) (pool : ℕ) (commands : List Given) (trail handed : List Event) (before after : Option (List ℕ)) (status : ℕ)
    → handed ≡ trail → RunsKeepLaws → LinesStandBehindEvents → LargerPoolsAllow → pool ≤ 256 → IsWhole answers plan pool commands trail before after → status ≡ status_of (recap plan pool trail)
    → IsRunBy answers plan pool commands handed before after status
pool_handed answers plan pool commands trail handed before after status same laws lines larger few run recapped =
    subst (λ (events : List Event). IsRunBy answers plan pool commands events before after status) (sym same) (run_in_pool answers plan pool commands trail before after status laws lines larger few run recapped)

-- the same of one that couldn't go on, of the events as they are handed out
cut_by : (answers : Answers) (plan : PlanOf) (pool : ℕ) (commands : List Given) (trail : List Event) (before after : Option (List ℕ))
    → RunsKeepLaws → LinesStandBehindEvents → is_legal plan trail ≡ true → IsBegunBy answers plan pool commands trail → IsCut plan pool trail before after → IsCutBy answers plan pool commands trail before after
cut_by answers plan pool commands trail before after laws lines audited begun cut =
    record { begun = begun; cut = cut; laws = laws plan pool trail begun.legal; lines = lines.cut plan pool trail before after cut; audited = audited }

pub cut_handed : (allows gives : Job → Form → Type 0) (plan : PlanOf) (commands : List Given) (trail handed : List Event) (before after : Option (List ℕ))
    → handed ≡ trail → RunsKeepLaws → LinesStandBehindEvents → IsBegun allows gives plan 256 commands trail → IsCut plan 256 trail before after → IsCutBy (IsAnswer allows gives) plan 256 commands handed before after
cut_handed allows gives plan commands trail handed before after same laws lines begun cut =
    subst (λ (events : List Event). IsCutBy (IsAnswer allows gives) plan 256 commands events before after) (sym same) (cut_by (IsAnswer allows gives) plan 256 commands trail before after laws lines begun.legal begun cut)

pub cut_in_pool : (answers : Answers) (plan : PlanOf) (pool : ℕ) (commands : List Given) (trail handed : List Event) (before after : Option (List ℕ))
    → handed ≡ trail → RunsKeepLaws → LinesStandBehindEvents → LargerPoolsAllow → pool ≤ 256 → IsBegunBy answers plan pool commands trail → IsCut plan pool trail before after → IsCutBy answers plan pool commands handed before after
cut_in_pool answers plan pool commands trail handed before after same laws lines larger few begun cut =
    subst (λ (events : List Event). IsCutBy answers plan pool commands events before after) (sym same)
    (cut_by answers plan pool commands trail before after laws lines (larger plan plan.forks pool 256 trail few begun.legal).0 begun cut)

-- what was run, said otherwise
ran_as : (has_run others : List (Job × Form) → Type 0) (plan : PlanOf) (pool : ℕ) (trail : List Event) (fault : RunFault) → ((jobs : List (Job × Form)) → has_run jobs → others jobs)
    → IsRanTo has_run plan pool trail fault → IsRanTo others plan pool trail fault
ran_as has_run others plan pool trail fault weaker (inl ran) = inl (weaker _ ran)
ran_as has_run others plan pool trail fault weaker (inr lost) = inr (lost.0, (lost.1.0, lost.1.1, lost.1.2, weaker _ lost.1.3))

-- a run by a table's runner
pub tabled_by : (bytes : List ℕ) (plan : PlanOf) (stop_after : Option ℕ) (table table_after : Table) (trail : List Event) (before after : Option (List ℕ)) (status : ℕ)
    → table_of bytes ≡ Ok table → IsRunBy (IsAnswer allows_all (TableGives table)) plan 256 (commands_for stop_after) trail before after status → TableRan table (answers_of plan 256 trail) table_after
    → IsTabled bytes plan stop_after trail before after status
tabled_by bytes plan stop_after table table_after trail before after status is run ran = record { table = table; tabled = is; run = run; ran = ran.1 }

-- one that couldn't go on, by the fault that is answered
pub tabled_to : (bytes : List ℕ) (plan : PlanOf) (stop_after : Option ℕ) (table table_after : Table) (events : List Event) (met fault : RunFault) (trail : Option (List Event)) (before after : Option (List ℕ))
    → table_of bytes ≡ Ok table → IsCutBy (IsAnswer allows_all (TableGives table)) plan 256 (commands_for stop_after) events before after → IsRanTo (λ jobs. TableRan table jobs table_after) plan 256 events met
    → met ≢ Closed → met ≡ fault → Some events ≡ trail → HasTrail trail (λ es. IsTabledCut bytes plan stop_after es fault before after)
tabled_to bytes plan stop_after table table_after events met fault trail before after is cut ran opened same_fault same_trail =
    let whole : IsTabledCut bytes plan stop_after events met before after =
    record { table = table; tabled = is; cut = cut; ran = ran_as (λ jobs. TableRan table jobs table_after) (AllGiven table) plan 256 events met (λ jobs given. given.1) ran; opened = opened }
    in
    subst (λ (f : RunFault). HasTrail trail (λ es. IsTabledCut bytes plan stop_after es f before after)) same_fault
    (subst (λ (t : Option (List Event)). HasTrail t (λ es. IsTabledCut bytes plan stop_after es met before after)) same_trail whole)

-- a run that couldn't go on, with a table, and in place of an audit
pub tabled_cut : (outcomes : Option (List ℕ)) (bytes : List ℕ) (plan : PlanOf) (stop_after : Option ℕ) (facts : Option (List ℕ)) (trail : Option (List Event)) (fault : RunFault) (before after : Stage)
    → outcomes ≡ Some bytes → after.started ≡ before.started → HasTrail trail (λ events. IsTabledCut bytes plan stop_after events fault before.out.taken after.out.taken)
    → HasTrail trail (λ events. IsPlayedTo plan stop_after facts outcomes events fault before after)
tabled_cut outcomes bytes plan stop_after facts None fault before after is same has = absurd has
tabled_cut outcomes bytes plan stop_after facts (Some events) fault before after is same has =
    subst (λ (o : Option (List ℕ)). IsPlayedTo plan stop_after facts o events fault before after) (sym is) (same, has)

pub run_cut : (audited : Option (List ℕ)) (wanted : Wanted) (plan : PlanOf) (fault : RunFault) (trail : Option (List Event)) (before after : Stage)
    → audited ≡ None → IsUnbegun fault trail before after ⊎ HasTrail trail (λ events. IsPlayedTo plan wanted.stop_after wanted.facts_program wanted.outcomes events fault before after)
    → IsUnbegun fault trail before after ⊎ IsRunOrAuditedTo audited wanted plan fault trail before after
run_cut audited wanted plan fault trail before after is (inl unbegun) = inl unbegun
run_cut audited wanted plan fault trail before after is (inr has) =
    inr (subst (λ (a : Option (List ℕ)). IsRunOrAuditedTo a wanted plan fault trail before after) (sym is) has)

-- no run has status 1
status_at : (failed lost : Bool) (status : ℕ) → status ≡ (if failed then 2 else (if lost then 4 else 0)) → status ≡ 1 → ⊥
status_at true lost status recapped one = let is : status ≡ 2 = recapped in omega (arith, is, one)
status_at false true status recapped one = let is : status ≡ 4 = recapped in omega (arith, is, one)
status_at false false status recapped one = let is : status ≡ 0 = recapped in omega (arith, is, one)

not_recapped : (counts : List Counts) (status : ℕ) → status ≡ status_of counts → status ≡ 1 → ⊥
not_recapped counts status recapped one = status_at (list_any (has Failed) counts) (list_any (has Unreachable) counts) status recapped one

not_played : (plan : PlanOf) (stop_after : Option ℕ) (facts outcomes : Option (List ℕ)) (trail : List Event) (before after : Stage) (status : ℕ)
    → IsPlayed plan stop_after facts outcomes trail before after status → status ≡ 1 → ⊥
not_played plan stop_after facts None trail before after status run one = not_recapped (recap plan plan.forks trail) status run.run.recapped one
not_played plan stop_after facts (Some bytes) trail before after status run one = not_recapped (recap plan 256 trail) status run.1.run.recapped one

-- nor has an audit
not_verdict : (plan : PlanOf) (trail : List Event) (text : List ℕ) (status : ℕ) → IsVerdict plan trail text status → status ≡ 1 → ⊥
not_verdict plan trail text status (inl legal) one = let is : status ≡ 0 = legal.2 in omega (arith, is, one)
not_verdict plan trail text status (inr (illegal, step, name, first, verdict_is, is)) one = let two : status ≡ 2 = is in omega (arith, two, one)

not_trail : (trail : Option (List Event)) (wanted : Wanted) (plan : PlanOf) (before after : Stage) (status : ℕ)
    → HasTrail trail (λ events. IsPlayed plan wanted.stop_after wanted.facts_program wanted.outcomes events before after status) → status ≡ 1 → ⊥
not_trail None wanted plan before after status has one = absurd has
not_trail (Some events) wanted plan before after status run one = not_played plan wanted.stop_after wanted.facts_program wanted.outcomes events before after status run one

not_run : (audited : Option (List ℕ)) (wanted : Wanted) (plan : PlanOf) (before after : Stage) (played : Played)
    → IsRunOrAudited audited wanted plan before after played → played.status ≡ 1 → ⊥
not_run None wanted plan before after played given one =
    not_trail played.trail wanted plan before after played.status given one
not_run (Some bytes) wanted plan before after played given one =
    let audit = given.2 in not_verdict plan audit.trail audit.text played.status audit.verdict one

not_given : (purpose : Purpose) (wanted : Wanted) (plan : PlanOf) (before after : Stage) (played : Played)
    → IsGivenFor purpose wanted plan before after played → played.status ≡ 1 → ⊥
not_given Run wanted plan before after played given one = not_run wanted.audited wanted plan before after played given one
not_given CheckSyntax wanted plan before after played given one = let is : played.status ≡ 0 = given.2 in omega (arith, is, one)
not_given ListHosts wanted plan before after played given one = let is : played.status ≡ 0 = given.2 in omega (arith, is, one)

not_given_unless : (forbidden : Bool) (wanted : Wanted) (plan : PlanOf) (before after : Stage) (played : Played)
    → IsGivenUnless forbidden wanted plan before after played → played.status ≡ 1 → IsUntouched before after
not_given_unless true wanted plan before after played given one = given.0
not_given_unless false wanted plan before after played given one = absurd (not_given wanted.purpose wanted plan before after played given one)

-- status 1 tells that a warning is a fault: nothing was started or written
pub untouched : (bundle : Bundle) (wanted : Wanted) (before after : World) (played : Played) → IsShown bundle wanted before after played → played.status ≡ 1 → IsUntouched before.stage after.stage
untouched bundle wanted before after played shown one = not_given_unless (is_forbidden wanted shown.0) wanted shown.0 before.stage after.stage played shown.2 one
