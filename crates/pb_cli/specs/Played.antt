-- What playing a bundle means.
use Rattle.std.specs.Prelude.{◌≡◌, ◌≢◌, ◌⊎◌, ℕ, Bool, true, false, ◌&&◌, List, [], ◌∷◌, ◌++◌, length, Option, Some, None, Ok, Err, codes}
use Rattle.pb_outcome.specs.declared.job.Report.{Report}
use Rattle.pb_runner.specs.declared.fault.TableFault.{TableFault}
use Rattle.pb_runner.specs.declared.table.Table.{Table}
use Rattle.pb_runner.specs.Launch.{Launch}
use Rattle.pb_runner.specs.Local.{LocalAllows}
use Rattle.pb_runner.specs.LocalRan.{HasStarted}
use Rattle.pb_runner.specs.Reading.{table_of}
use Rattle.pb_runner.specs.Table.{TableGives, AllGiven}
use Rattle.pb_state.specs.declared.event.Event.{Event}
use Rattle.pb_plan.specs.Plan.{PlanOf}
use Rattle.pb_audit.specs.Audit.{is_legal}
use Rattle.pb_driver.specs.FromRecap.{recap, status_of}
use Rattle.pb_driver.specs.Laws.{KeepsLaws}
use Rattle.pb_driver.specs.Engine.{Stop}
use Rattle.pb_driver.specs.declared.driver.RunFault.{RunFault}
use Rattle.pb_driver.specs.declared.driver.RunFault.TheVariants.{Memory, Write, Closed}
use Rattle.pb_driver.specs.declared.given.Given.{Given}
use Rattle.pb_driver.specs.ByTable.{allows_all}
use Rattle.pb_driver.specs.Cut.{IsPart, IsCut}
use Rattle.pb_driver.specs.Driven.{Answers, IsAnswer, IsBegunBy, IsWhole, IsWorkersAnswer}
use Rattle.pb_driver.specs.Ran.{IsRanTo, answers_of}
use Rattle.pb_driver.specs.Taken.{with_more}
use Rattle.pb_driver.specs.Workers.{IsSpread}
use Rattle.pb_driver.specs.Written.{StandBehindEvents, StandBehindEventsTo}
use Rattle.pb_command_line.specs.declared.words.Purpose.{Purpose}
use Rattle.pb_command_line.specs.declared.words.Purpose.TheVariants.{Run, CheckSyntax, ListHosts}
use Rattle.pb_cli.specs.declared.playing.Played.{Played}
use Rattle.pb_cli.specs.declared.playing.Wanted.{Wanted}
use Rattle.pb_cli.specs.Audited.{IsAudited, IsAuditCut}
use Rattle.pb_cli.specs.Listing.{listing}
use Rattle.pb_cli.specs.World.{Stage, Starts, IsUntouched}

-- what a run is commanded: to stop behind so many reports, or nothing
abbrev pub commands_for : (stop_after : Option ℕ) → List Given
commands_for None = []
commands_for (Some reports) = record { after = reports; command = Stop } ∷ []

-- what was written is the output of this trail, which is one whole run of the plan with so many workers, legal and eager, that was given these commands and in which each report
-- answers a job that was out; the status is that of its recap; it keeps the laws of runs, each of its events has its lines, and an audit finds it legal
pub record IsRunBy (answers : Answers) (plan : PlanOf) (pool : ℕ) (commands : List Given) (trail : List Event) (before after : Option (List ℕ)) (status : ℕ) : Type 0 where
  pub run : IsWhole answers plan pool commands trail before after
  pub recapped : status ≡ status_of (recap plan pool trail)
  pub laws : KeepsLaws plan pool trail
  pub lines : StandBehindEvents plan pool trail
  pub audited : is_legal plan trail ≡ true

-- what was written is a beginning of the output of this trail, whose run couldn't go on; it keeps the laws of runs, the lines of all its events but the last stand there, and
-- an audit finds it legal
pub record IsCutBy (answers : Answers) (plan : PlanOf) (pool : ℕ) (commands : List Given) (trail : List Event) (before after : Option (List ℕ)) : Type 0 where
  pub begun : IsBegunBy answers plan pool commands trail
  pub cut : IsCut plan pool trail before after
  pub laws : KeepsLaws plan pool trail
  pub lines : StandBehindEventsTo plan pool trail before after
  pub audited : is_legal plan trail ≡ true

-- the first launchers, one for each fork of the plan, started the programs of exactly the trail's jobs, which are spread over them: each those of its own jobs, in their order, with what came of
-- them in its reports; after the trail came these later reports. The other launchers started nothing
pub record AreStartedFor (facts_program : Option (List ℕ)) (started started_after : Starts) (plan : PlanOf) (trail : List Event) (later : List Report) : Type 0 where
  pub hired : Starts
  pub hired_after : Starts
  pub others : Starts
  pub before : started ≡ hired ++ others
  pub after : started_after ≡ hired_after ++ others
  pub many : length hired ≡ plan.forks
  pub spread : IsSpread (λ (old : Option (List Launch)) jobs new. HasStarted facts_program old jobs new) hired hired_after plan trail later

-- the programs of a plan's jobs were started, by as many workers as it has forks, with this facts program or none
pub record IsLocalRun (plan : PlanOf) (stop_after : Option ℕ) (facts_program : Option (List ℕ)) (trail : List Event) (before after : Stage) (status : ℕ) : Type 0 where
  pub run : IsRunBy (IsWorkersAnswer LocalAllows) plan plan.forks (commands_for stop_after) trail before.out.taken after.out.taken status
  pub programs : AreStartedFor facts_program before.started after.started plan trail []

-- the same of a run that couldn't go on: reports of jobs that were out were waited for; and where a worker's thread couldn't be made, nothing was done
pub record IsLocalCut (plan : PlanOf) (stop_after : Option ℕ) (facts_program : Option (List ℕ)) (trail : List Event) (fault : RunFault) (before after : Stage) : Type 0 where
  pub cut : IsCutBy (IsWorkersAnswer LocalAllows) plan plan.forks (commands_for stop_after) trail before.out.taken after.out.taken
  pub programs : (later : List Report) × AreStartedFor facts_program before.started after.started plan trail later
  pub closed : fault ≡ Closed → (trail ≡ []) × IsUntouched before after

-- the bytes of a file of outcomes have a table, and the run's reports, each for the oldest job that is out, have the table's outcomes
pub record IsTabled (bytes : List ℕ) (plan : PlanOf) (stop_after : Option ℕ) (trail : List Event) (before after : Option (List ℕ)) (status : ℕ) : Type 0 where
  pub table : Table
  pub tabled : table_of bytes ≡ Ok table
  pub run : IsRunBy (IsAnswer allows_all (TableGives table)) plan 256 (commands_for stop_after) trail before after status
  pub ran : AllGiven table (answers_of plan 256 trail)

-- the same of a run that couldn't go on
pub record IsTabledCut (bytes : List ℕ) (plan : PlanOf) (stop_after : Option ℕ) (trail : List Event) (fault : RunFault) (before after : Option (List ℕ)) : Type 0 where
  pub table : Table
  pub tabled : table_of bytes ≡ Ok table
  pub cut : IsCutBy (IsAnswer allows_all (TableGives table)) plan 256 (commands_for stop_after) trail before after
  pub ran : IsRanTo (AllGiven table) plan 256 trail fault
  pub opened : fault ≢ Closed

-- a run of a plan with this trail, stopped behind so many reports where that is asked for: without a file of outcomes the programs of its jobs are started, with this facts program or none, and with one nothing is started
-- but what the file says comes of each job
abbrev pub IsPlayed : PlanOf → (stop_after : Option ℕ) → (facts_program outcomes : Option (List ℕ)) → (trail : List Event) → (before after : Stage) → (status : ℕ) → Type 0
IsPlayed plan stop_after facts_program None trail before after status = IsLocalRun plan stop_after facts_program trail before after status
IsPlayed plan stop_after facts_program (Some bytes) trail before after status = (after.started ≡ before.started) × IsTabled bytes plan stop_after trail before.out.taken after.out.taken status

-- such a run that couldn't go on
abbrev pub IsPlayedTo : PlanOf → (stop_after : Option ℕ) → (facts_program outcomes : Option (List ℕ)) → (trail : List Event) → RunFault → (before after : Stage) → Type 0
IsPlayedTo plan stop_after facts_program None trail fault before after = IsLocalCut plan stop_after facts_program trail fault before after
IsPlayedTo plan stop_after facts_program (Some bytes) trail fault before after = (after.started ≡ before.started) × IsTabledCut bytes plan stop_after trail fault before.out.taken after.out.taken

-- a file of outcomes has this first fault
unfoldable pub IsBadTable : Option (List ℕ) → TableFault → Type 0
IsBadTable None e = ⊥
IsBadTable (Some bytes) e = table_of bytes ≡ Err e

-- there is a trail, and this holds of it
abbrev pub HasTrail : Option (List Event) → (List Event → Type 0) → Type 0
HasTrail None holds = ⊥
HasTrail (Some trail) holds = holds trail

-- a text was written and nothing else done, so that there is no trail
abbrev pub IsSaid : List ℕ → (before after : Stage) → Played → Type 0
IsSaid text before after played = (after.started ≡ before.started) × (after.out.taken ≡ with_more before.out.taken text) × (played.status ≡ 0) × (played.trail ≡ None)

-- a plan is run, and its trail handed out, or a trail is looked at in place of that
abbrev pub IsRunOrAudited : (audited : Option (List ℕ)) → Wanted → PlanOf → (before after : Stage) → Played → Type 0
IsRunOrAudited None wanted plan before after played =
    HasTrail played.trail (λ trail. IsPlayed plan wanted.stop_after wanted.facts_program wanted.outcomes trail before after played.status)
IsRunOrAudited (Some bytes) wanted plan before after played = (after.started ≡ before.started) × (played.trail ≡ None) × IsAudited bytes plan before.out.taken after.out.taken played.status

-- what a plan is made for: its run or the audit of a trail, to tell that it can be made, or the list of its hosts; only a run starts programs and has a trail
abbrev pub IsGivenFor : Purpose → Wanted → PlanOf → (before after : Stage) → Played → Type 0
IsGivenFor Run wanted plan before after played = IsRunOrAudited wanted.audited wanted plan before after played
IsGivenFor CheckSyntax wanted plan before after played = IsSaid (codes "ok\n") before after played
IsGivenFor ListHosts wanted plan before after played = IsSaid (listing plan) before after played

-- the same by what is wanted of the plan
abbrev pub IsGiven : Wanted → PlanOf → (before after : Stage) → Played → Type 0
IsGiven wanted plan before after played = IsGivenFor wanted.purpose wanted plan before after played

-- the writer failed: a beginning of a text was written, and nothing else done
abbrev pub IsSaidTo : List ℕ → RunFault → (trail : Option (List Event)) → (before after : Stage) → Type 0
IsSaidTo text fault trail before after = (fault ≡ Write) × (after.started ≡ before.started) × (trail ≡ None) × IsPart before.out.taken after.out.taken text

-- a plan's run couldn't go on, or what is said of a trail couldn't be written whole
abbrev pub IsRunOrAuditedTo : (audited : Option (List ℕ)) → Wanted → PlanOf → RunFault → (trail : Option (List Event)) → (before after : Stage) → Type 0
IsRunOrAuditedTo None wanted plan fault trail before after =
    HasTrail trail (λ events. IsPlayedTo plan wanted.stop_after wanted.facts_program wanted.outcomes events fault before after)
IsRunOrAuditedTo (Some bytes) wanted plan fault trail before after = (fault ≡ Write) × (after.started ≡ before.started) × (trail ≡ None) × IsAuditCut bytes plan before.out.taken after.out.taken

-- what a plan is made for couldn't go on once it was begun
abbrev pub IsGivenToFor : Purpose → Wanted → PlanOf → RunFault → (trail : Option (List Event)) → (before after : Stage) → Type 0
IsGivenToFor Run wanted plan fault trail before after = IsRunOrAuditedTo wanted.audited wanted plan fault trail before after
IsGivenToFor CheckSyntax wanted plan fault trail before after = IsSaidTo (codes "ok\n") fault trail before after
IsGivenToFor ListHosts wanted plan fault trail before after = IsSaidTo (listing plan) fault trail before after

-- memory was refused before anything was started or written, and so before a run began
abbrev pub IsUnbegun : RunFault → (trail : Option (List Event)) → (before after : Stage) → Type 0
IsUnbegun fault trail before after = (fault ≡ Memory) × (trail ≡ None) × IsUntouched before after

-- what a plan is made for couldn't go on: it wasn't begun, or a beginning of it was done
abbrev pub IsGivenTo : Wanted → PlanOf → RunFault → (trail : Option (List Event)) → (before after : Stage) → Type 0
IsGivenTo wanted plan fault trail before after =
    IsUnbegun fault trail before after ⊎ IsGivenToFor wanted.purpose wanted plan fault trail before after

-- there are warnings
abbrev pub has_some : List (List ℕ) → Bool
has_some [] = false
has_some (line ∷ lines) = true

-- warnings are faults, and there are some: nothing is started or written then
abbrev pub is_forbidden : Wanted → PlanOf → Bool
is_forbidden wanted plan = wanted.strict && has_some plan.warnings

-- what is wanted of a plan was done; or nothing, with the status 1, where it is forbidden
abbrev pub IsGivenUnless : (forbidden : Bool) → Wanted → PlanOf → (before after : Stage) → Played → Type 0
IsGivenUnless true wanted plan before after played = IsUntouched before after × (played.status ≡ 1) × (played.trail ≡ None)
IsGivenUnless false wanted plan before after played = IsGiven wanted plan before after played
