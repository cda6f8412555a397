-- What is said of two runs that are compared.
use Rattle.std.proofs.Common.{◌≡◌, ℕ, List, Option, None, sym, subst}
use Rattle.std.specs.Prelude.{Ok}
use Rattle.pb_ids.specs.declared.numbers.HostNo.{HostNo}
use Rattle.pb_audit.specs.Audit.{end_of, end_under}
use Rattle.pb_planning.specs.Bundle.{IsPlanOf}
use Rattle.pb_plan.specs.Plan.{PlanOf}
use Rattle.pb_planning.specs.declared.bundle.Bundle.{Bundle}
use Rattle.pb_runner.specs.declared.table.Table.{Table}
use Rattle.pb_runner.specs.Reading.{table_of}
use Rattle.pb_runner.specs.Table.{TableGives}
use Rattle.pb_state.specs.declared.event.Event.{Event}
use Rattle.pb_driver.specs.ByTable.{allows_all}
use Rattle.pb_driver.specs.Driven.{IsAnswer}
use Rattle.pb_driver.specs.SameEnd.{IsFirstApart, EndsSame}
use Rattle.pb_cli.specs.Again.{IsCompared}
use Rattle.pb_cli.specs.Played.{IsRunBy, commands_for}

pub compared : (bundle : Bundle) (forks : ℕ) (stop_after : Option ℕ) (bytes : List ℕ) (trail : List Event) (plan other : PlanOf) (again read : List Event) (host : Option HostNo)
    → IsPlanOf bundle plan → IsPlanOf (record bundle { forks = forks }) other
    → ((table : Table) × (status : ℕ) × (table_of bytes ≡ Ok table) × IsRunBy (IsAnswer allows_all (TableGives table)) other 256 (commands_for stop_after) again None None status)
    → read ≡ again → IsFirstApart plan (end_of plan trail) (end_under plan forks read) host → EndsSame plan trail forks read host → IsCompared bundle forks stop_after bytes trail plan host
compared bundle forks stop_after bytes trail plan other again read host planned others (table, status, tabled, run) same first alike =
    record {
      planned = planned;
      other = other;
      others = others;
      table = table;
      tabled = tabled;
      again = read;
      status = status;
      run = subst (λ (es : List Event). IsRunBy (IsAnswer allows_all (TableGives table)) other 256 (commands_for stop_after) es None None status) (sym same) run;
      first = first;
      same = alike;
    }
