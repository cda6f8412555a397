-- A run that is made once more, with other forks, and whether it ends in the same.
use Rattle.std.specs.Prelude.{◌≡◌, ℕ, true, false, List, [], ◌++◌, Option, None, Some, Ok, codes, slice_get, unwrap_or}
use Rattle.pb_ids.specs.declared.numbers.HostNo.{HostNo}
use Rattle.pb_audit.specs.Audit.{end_of, end_under}
use Rattle.pb_driver.specs.Laws.{is_independent, are_linear}
use Rattle.pb_planning.specs.Bundle.{IsPlanOf}
use Rattle.pb_plan.specs.Plan.{PlanOf}
use Rattle.pb_planning.specs.declared.bundle.Bundle.{Bundle}
use Rattle.pb_runner.specs.declared.table.Table.{Table}
use Rattle.pb_runner.specs.Reading.{table_of}
use Rattle.pb_runner.specs.Table.{TableGives}
use Rattle.pb_state.specs.declared.event.Event.{Event}
use Rattle.pb_driver.specs.FromRecap.{recap}
use Rattle.pb_state.specs.Machine.{facts_at, first_state}
use Rattle.pb_driver.specs.ByTable.{IsUnrefused, allows_all}
use Rattle.pb_driver.specs.Driven.{IsAnswer}
use Rattle.pb_driver.specs.SameEnd.{IsFirstApart, EndsSame}
use Rattle.pb_cli.specs.declared.playing.Wanted.{Wanted}
use Rattle.pb_cli.specs.Played.{IsRunBy, IsTabled, commands_for}
use Rattle.pb_cli.specs.World.{Stream, IsPut, IsQuiet}

-- what is said of two runs: the name of the first host whose facts or counts differ, if one does
abbrev pub same_text : PlanOf → Option HostNo → List ℕ
same_text plan None = codes "same\n"
same_text plan (Some host) = codes "not same: " ++ unwrap_or (slice_get plan.inventory.hosts host.0) [] ++ codes "\n"

-- the warning where two runs are to be compared and no file of outcomes is named
abbrev pub ignored_text : List ℕ
ignored_text = codes "warning: same-under is ignored without outcomes\n"

-- the bundle was run once more with so many forks, by the same outcomes, and stopped after as many reports; and this is the first host whose facts or counts differ at the ends of
-- both runs, if one does. Where the premises of the law on forks hold of both runs, none does
pub record IsCompared (bundle : Bundle) (forks : ℕ) (stop_after : Option ℕ) (bytes : List ℕ) (trail : List Event) (plan : PlanOf) (host : Option HostNo) : Type 0 where
  pub planned : IsPlanOf bundle plan
  pub other : PlanOf
  pub others : IsPlanOf (record bundle { forks = forks }) other
  pub table : Table
  pub tabled : table_of bytes ≡ Ok table
  pub again : List Event
  pub status : ℕ
  pub run : IsRunBy (IsAnswer allows_all (TableGives table)) other 256 (commands_for stop_after) again None None status
  pub first : IsFirstApart plan (end_of plan trail) (end_under plan forks again) host
  pub same : EndsSame plan trail forks again host

-- what was written says whether two runs end in the same; or, without a file of outcomes, that they aren't compared
abbrev pub IsComparisonPut : (outcomes : Option (List ℕ)) → (forks : ℕ) → Bundle → (stop_after : Option ℕ) → List Event → (before after : Stream) → Type 0
IsComparisonPut None forks bundle stop_after trail before after = IsPut ignored_text before after
IsComparisonPut (Some bytes) forks bundle stop_after trail before after =
    (plan : PlanOf) × (found : Option HostNo) × IsCompared bundle forks stop_after bytes trail plan found × IsPut (same_text plan found) before after

-- after a run whether it ends in the same with so many forks was written, where that is asked for
abbrev pub IsSameUnderPut : (same_under : Option ℕ) → Option (List Event) → Bundle → Wanted → (before after : Stream) → Type 0
IsSameUnderPut None trail bundle wanted before after = IsQuiet before after
IsSameUnderPut (Some forks) None bundle wanted before after = IsQuiet before after
IsSameUnderPut (Some forks) (Some trail) bundle wanted before after =
    IsComparisonPut wanted.outcomes forks bundle wanted.stop_after trail before after

-- two runs of one bundle by one file of outcomes, with any forks, end in the same, if its plays are linear, no host knows of another, and neither run was stopped, or lacked memory for what the file gives
abbrev pub ForksChangeNothing : Type 0
ForksChangeNothing =
    (bundle : Bundle) (forks : ℕ) (stop_after other_stop_after : Option ℕ) (bytes : List ℕ) (trail : List Event) (plan : PlanOf) (found : Option HostNo) (before after : Option (List ℕ)) (status : ℕ)
    (first : IsTabled bytes plan stop_after trail before after status) (second : IsCompared bundle forks other_stop_after bytes trail plan found) →
    are_linear plan ≡ true → is_independent plan ≡ true → (end_of plan trail).stopped ≡ false → (end_under plan forks second.again).stopped ≡ false →
    IsUnrefused first.table plan (first_state plan plan.forks 256) trail → IsUnrefused second.table second.other (first_state second.other second.other.forks 256) second.again →
    found ≡ None

-- in the words of two plays: where a bundle was run by a file of outcomes, and so was the same bundle with other forks, each to its end, both have the same recap and status, and every host ends with the same facts
pub record AreAlike (plan other : PlanOf) (trail again : List Event) (status other_status : ℕ) : Type 0 where
  pub counts : recap plan 256 trail ≡ recap other 256 again
  pub statuses : status ≡ other_status
  pub facts : (host : ℕ) → facts_at (end_of plan trail) host ≡ facts_at (end_of other again) host

-- so it is where the plays are linear, no host knows of another, and neither run was stopped or lacked memory for what the file gives
abbrev pub PlaysAgree : Type 0
PlaysAgree =
    (bundle : Bundle) (forks : ℕ) (stop_after other_stop_after : Option ℕ) (bytes : List ℕ) (plan other : PlanOf) (trail again : List Event) (before after before_again after_again : Option (List ℕ)) (status other_status : ℕ)
    (first : IsTabled bytes plan stop_after trail before after status) (second : IsTabled bytes other other_stop_after again before_again after_again other_status) →
    IsPlanOf bundle plan → IsPlanOf (record bundle { forks = forks }) other → are_linear plan ≡ true → is_independent plan ≡ true →
    (end_of plan trail).stopped ≡ false → (end_of other again).stopped ≡ false →
    IsUnrefused first.table plan (first_state plan plan.forks 256) trail → IsUnrefused second.table other (first_state other other.forks 256) again →
    AreAlike plan other trail again status other_status
