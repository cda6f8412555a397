-- Every run goes on well from wherever it has come to.
use Rattle.std.proofs.Common.{refl}
use Rattle.pb_state.specs.Run.{state_after, IsRun}
use Rattle.pb_state.proofs.Held.{going_run}
use Rattle.pb_state.proofs.Stuck.{placed_run}
use Rattle.pb_laws.specs.States.{RunsGoOn}
use Rattle.pb_laws.proofs.Acting.{acts_ready, never_stuck, ready_acts}
use Rattle.pb_laws.proofs.Statuses.{statuses_tell}
use Rattle.pb_laws.proofs.ToTheEnd.{has_way, some_fork}

pub run_goes_on : RunsGoOn
run_goes_on plan pool trail legal =
    let s = state_after plan pool trail in
    let run : IsRun plan pool trail s = record { legal = legal; ends = refl } in
    let going = going_run plan pool trail s run in
    record {
      acts = λ h ready. ready_acts plan s h going ready;
      seen = λ h acts. acts_ready plan s h acts;
      statuses = λ h. statuses_tell plan pool trail h legal;
      over = λ some finished. never_stuck plan s (some_fork plan pool trail s run some) going (placed_run plan pool trail s run) finished;
      way = λ some f. has_way plan pool f trail s run (some_fork plan pool trail s run some);
    }
