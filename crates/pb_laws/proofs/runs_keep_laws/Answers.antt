use Rattle.pb_state.specs.Run.{state_after}
use Rattle.pb_confluence.proofs.AsFixed.{runs_end_as_fixed}
use Rattle.pb_laws.proofs.AddingUp.{recap_adds_up}
use Rattle.pb_laws.proofs.AllClosed.{batches_all_close}
use Rattle.pb_laws.proofs.AttemptsInOrder.{attempts_are_in_order}
use Rattle.pb_laws.proofs.GoingOn.{run_goes_on}
use Rattle.pb_laws.proofs.InOrder.{hosts_keep_order, batches_are_walked}
use Rattle.pb_laws.proofs.JobsInOrder.{jobs_are_in_order, all_are_answered}
use Rattle.pb_laws.proofs.OwnHosts.{hosts_are_own}
use Rattle.pb_laws.proofs.RisingPlaces.{places_always_rise}
use Rattle.pb_laws.proofs.StayingOut.{outs_stay_out}
use Rattle.pb_laws.proofs.WithinForks.{forks_kept}
use Rattle.pb_laws.proofs.runs_keep_laws.Goals as goal

pub returns : goal.returns
returns c = λ plan pool trail legal. record {
  own = hosts_are_own plan plan.forks pool trail legal;
  forks = forks_kept plan plan.forks pool trail legal;
  order = hosts_keep_order plan plan.forks pool trail legal;
  rise = places_always_rise plan plan.forks pool trail legal;
  out = outs_stay_out plan plan.forks pool trail legal;
  walked = batches_are_walked plan plan.forks pool trail legal;
  closed = batches_all_close plan plan.forks pool trail legal;
  jobs = jobs_are_in_order plan plan.forks pool trail legal;
  answered = all_are_answered plan plan.forks pool trail legal;
  attempts = attempts_are_in_order plan plan.forks pool trail legal;
  counts = (recap_adds_up plan pool trail legal).0;
  status = (recap_adds_up plan pool trail legal).1;
  fixed = runs_end_as_fixed plan pool trail (state_after plan pool trail);
  goes_on = run_goes_on plan pool trail legal;
}
