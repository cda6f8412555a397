-- What the program has done where its status isn't that of a fault.
use Rattle.std.specs.Prelude.{◌≡◌, ◌≢◌, ◌⊎◌, ◌≤◌, ◌+◌, ◌-◌, ℕ, Bool, true, false, List, Option, Some, None, is_some, length, nat_lt}
use Rattle.pb_audit.specs.Audit.{is_legal}
use Rattle.pb_audit.specs.declared.fault.TrailFault.{TrailFault}
use Rattle.pb_audit.specs.declared.fault.TrailFault.TheVariants.{Memory as NoTrailMemory}
use Rattle.pb_runner.specs.declared.fault.TableFault.{TableFault}
use Rattle.pb_runner.specs.declared.fault.TableFault.TheVariants.{Memory}
use Rattle.pb_value.specs.Limits.{max_bytes}
use Rattle.pb_state.specs.declared.event.Event.{Event}
use Rattle.pb_planning.specs.declared.bundle.Bundle.{Bundle}
use Rattle.pb_plan.specs.Plan.{PlanOf}
use Rattle.pb_planning.specs.Bundle.{IsPlanOf}
use Rattle.pb_driver.specs.declared.driver.RunFault.{RunFault}
use Rattle.pb_driver.specs.Cut.{IsPart}
use Rattle.pb_driver.specs.Failing.{failures_by}
use Rattle.pb_driver.specs.Taken.{with_more, one_more}
use Rattle.pb_command_line.specs.declared.words.Request.{Request}
use Rattle.pb_command_line.specs.declared.words.Purpose.TheVariants.{Run}
use Rattle.pb_command_line.specs.declared.words.WordsFault.TheVariants.{Help}
use Rattle.pb_command_line.specs.CommandLine.{Asks, IsRefused}
use Rattle.pb_cli.specs.declared.playing.Played.{Played}
use Rattle.pb_cli.specs.declared.playing.Wanted.{Wanted}
use Rattle.pb_cli.specs.Again.{IsSameUnderPut}
use Rattle.pb_cli.specs.Audited.{IsBadTrail}
use Rattle.pb_cli.specs.RoleFiles.{AreRolesIn}
use Rattle.pb_cli.specs.Played.{IsBadTable, is_forbidden, IsGivenUnless, IsGivenTo, IsUnbegun}
use Rattle.pb_cli.specs.Warned.{IsWarned}
use Rattle.pb_cli.specs.World.{Stage, Stream, World, IsQuiet, IsUntouched}

-- the bundle of a request: its forks, limit and extra variables, whether it names a facts program, and of each file's bytes no more than there is room for, and one byte that tells that there are more;
-- the files of roles stand behind the inventory and the playbook
pub record IsBundleOf (request : Request) (bundle : Bundle) : Type 0 where
  pub forks : bundle.forks ≡ request.forks
  pub limit : bundle.limit ≡ request.limit
  pub extra : bundle.extra ≡ request.extra
  pub gathers : bundle.has_facts_program ≡ is_some request.facts_program
  pub inventory : length bundle.inventory ≤ max_bytes + 1
  pub playbook : length bundle.playbook ≤ max_bytes - length bundle.inventory + 1
  pub roles : AreRolesIn (max_bytes - length bundle.inventory - length bundle.playbook) request.roles bundle.roles.files

-- a file of outcomes has at most 64 MiB
abbrev pub is_too_long : Option (List ℕ) → Bool
is_too_long None = false
is_too_long (Some bytes) = nat_lt max_bytes (length bytes)

-- what a request wants of its plan, with its facts program, and with outcomes and a trail where it names files of them
pub record IsWantedBy (request : Request) (wanted : Wanted) : Type 0 where
  pub purpose : wanted.purpose ≡ request.purpose
  pub strict : wanted.strict ≡ request.strict
  pub stop_after : wanted.stop_after ≡ request.stop_after
  pub facts : wanted.facts_program ≡ request.facts_program
  pub outcomes : is_some wanted.outcomes ≡ is_some request.outcomes
  pub audited : is_some wanted.audited ≡ is_some request.audit

-- the outcomes of a file aren't looked into before a plan stands, its warnings are written, and it is to be run; nothing is started, and standard output is as it was
pub record HasBadOutcomes (bundle : Bundle) (wanted : Wanted) (e : TableFault) (before after : World) : Type 0 where
  pub plan : PlanOf
  pub planned : IsPlanOf bundle plan
  pub allowed : is_forbidden wanted plan ≡ false
  pub runs : wanted.purpose ≡ Run
  pub unaudited : wanted.audited ≡ None
  pub given : is_some wanted.outcomes ≡ true
  pub warned : IsWarned plan.warnings before.err after.err
  pub untouched : IsUntouched before.stage after.stage
  pub fault : e ≢ Memory → IsBadTable wanted.outcomes e

-- neither is a trail; outcomes aren't looked into then
pub record IsUnread (bundle : Bundle) (wanted : Wanted) (e : TrailFault) (before after : World) : Type 0 where
  pub plan : PlanOf
  pub planned : IsPlanOf bundle plan
  pub allowed : is_forbidden wanted plan ≡ false
  pub runs : wanted.purpose ≡ Run
  pub given : is_some wanted.audited ≡ true
  pub warned : IsWarned plan.warnings before.err after.err
  pub untouched : IsUntouched before.stage after.stage
  pub fault : e ≢ NoTrailMemory → IsBadTrail wanted.audited e

-- a bundle has a plan, its warnings were written, and it was run, audited, checked or listed; or nothing of this, where they are faults
abbrev pub IsShown : Bundle → Wanted → (before after : World) → Played → Type 0
IsShown bundle wanted before after played =
    (plan : PlanOf) × IsPlanOf bundle plan × IsGivenUnless (is_forbidden wanted plan) wanted plan before.stage after.stage played × IsWarned plan.warnings before.err after.err

-- the same, with this exit status; and then it was written whether a run with other forks ends in the same, where that is asked for
pub record IsShownAs (status : ℕ) (bundle : Bundle) (wanted : Wanted) (same_under : Option ℕ) (before after : World) : Type 0 where
  pub played : Played
  pub err_shown : Stream
  pub shown : IsShown bundle wanted before (record after { err = err_shown }) played
  pub exit_status : played.status ≡ status
  pub again : IsSameUnderPut same_under played.trail bundle wanted err_shown after.err

-- what a plan is made for couldn't go on behind its warnings, which are no faults or there are none
abbrev pub IsWarnedAndStopped : Wanted → PlanOf → RunFault → (trail : Option (List Event)) → (before after : World) → Type 0
IsWarnedAndStopped wanted plan fault trail before after =
    (is_forbidden wanted plan ≡ false) × IsWarned plan.warnings before.err after.err × IsGivenTo wanted plan fault trail before.stage after.stage

-- a bundle has a plan, and what it is made for couldn't go on: memory was refused for the text of its warnings, and nothing was started or written; or they were written, and then memory was refused before anything was
-- started or written, or a beginning of it was done. The trail is that of the run, where one began
abbrev pub IsStopped : Bundle → Wanted → RunFault → (trail : Option (List Event)) → (before after : World) → Type 0
IsStopped bundle wanted fault trail before after =
    (plan : PlanOf) × IsPlanOf bundle plan × ((IsUnbegun fault trail before.stage after.stage × IsQuiet before.err after.err) ⊎ IsWarnedAndStopped wanted plan fault trail before after)

-- of each bundle's run that is whole the trail that is handed out is legal under the bundle's plan, of which there is one, and so is that of a run that couldn't go on
abbrev pub TrailsAreLegal : Type 0
TrailsAreLegal =
    ((bundle : Bundle) (wanted : Wanted) (before after : World) (played : Played) (trail : List Event) → IsShown bundle wanted before after played → played.trail ≡ Some trail
    → (plan : PlanOf) → IsPlanOf bundle plan → is_legal plan trail ≡ true)
    × ((bundle : Bundle) (wanted : Wanted) (fault : RunFault) (before after : World) (trail : List Event) → IsStopped bundle wanted fault (Some trail) before after
    → (plan : PlanOf) → IsPlanOf bundle plan → is_legal plan trail ≡ true)

-- what a request asks for was done, with a bundle of it
pub record IsDone (request : Request) (before after : World) (status : ℕ) : Type 0 where
  pub bundle : Bundle
  pub wanted : Wanted
  pub asked : IsBundleOf request bundle
  pub wants : IsWantedBy request wanted
  pub short : is_too_long wanted.outcomes ≡ false
  pub shown : IsShownAs status bundle wanted request.same_under before after

-- what a bundle is for couldn't go on, where memory was refused, or standard output took no more
abbrev pub IsCutShort : Bundle → Wanted → (before after : World) → Type 0
IsCutShort bundle wanted before after =
    (fault : RunFault) × (trail : Option (List Event)) × (err_warned : Stream) × IsStopped bundle wanted fault trail before (record after { err = err_warned })
    × (after.stage.out.failures ≡ failures_by fault before.stage.out.failures)

-- what a bundle is for was done whole, and the trail of its run, for which a file is named, couldn't be written there; or memory was refused for the run that was to be made once more;
-- or the names of the hosts that didn't get through, for which a file is named, couldn't be written there
pub record IsUnkept (bundle : Bundle) (wanted : Wanted) (path : Option (List ℕ)) (same_under : Option ℕ) (failed : Option (List ℕ)) (before after : World) : Type 0 where
  pub asked : (is_some path ≡ true) ⊎ (is_some same_under ≡ true) ⊎ (is_some failed ≡ true)
  pub played : Played
  pub run : is_some played.trail ≡ true
  pub err_warned : Stream
  pub shown : IsShown bundle wanted before (record after { err = err_warned }) played

-- it couldn't go on, or its trail or the hosts that didn't get through couldn't be kept, or another run not be made
abbrev pub IsCutOrUnkept : Bundle → Wanted → (path : Option (List ℕ)) → (same_under : Option ℕ) → (failed : Option (List ℕ)) → (before after : World) → Type 0
IsCutOrUnkept bundle wanted path same_under failed before after = IsCutShort bundle wanted before after ⊎ IsUnkept bundle wanted path same_under failed before after

-- the same of what a request asks for
pub record IsBroken (request : Request) (before after : World) : Type 0 where
  pub bundle : Bundle
  pub wanted : Wanted
  pub asked : IsBundleOf request bundle
  pub wants : IsWantedBy request wanted
  pub short : is_too_long wanted.outcomes ≡ false
  pub cut : IsCutOrUnkept bundle wanted request.trail request.same_under request.failed before after

-- a call for help is among what the words are refused for, and a text was put out, and nothing started; the clause doesn't say which text
abbrev pub IsHelped : List (List ℕ) → (before after : Stage) → (status : ℕ) → Type 0
IsHelped words before after status = (text : List ℕ) × IsRefused words (Help text) × (after.started ≡ before.started) × (after.out.taken ≡ with_more before.out.taken text) × (status ≡ 0)

-- a call for help is among them, and standard output took no more than a front of a text
abbrev pub IsHelpCut : List (List ℕ) → (before after : Stream) → Type 0
IsHelpCut words before after = (text : List ℕ) × IsRefused words (Help text) × IsPart before.taken after.taken text × (after.failures ≡ one_more before.failures)

-- the words ask for a play, and it was done
abbrev pub IsAnswered : List (List ℕ) → (before after : World) → (status : ℕ) → Type 0
IsAnswered words before after status = (request : Request) × Asks words request × IsDone request before after status

-- what the words ask for couldn't go on: the text of a call for help, or a play, or its trail or the hosts that didn't get through couldn't be kept
abbrev pub IsUnended : List (List ℕ) → (before after : World) → Type 0
IsUnended words before after = IsHelpCut words before.stage.out after.stage.out ⊎ ((request : Request) × Asks words request × IsBroken request before after)
