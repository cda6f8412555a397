use Rattle.std.proofs.Common.{◌≡◌, ◌+◌, ◌≤◌}
use Rattle.pb_forks.specs.Seats.{main_view, forks_of, IsSameMain}
use Rattle.pb_forks.specs.Views.{idle_forks, jobs_out}
use Rattle.pb_driver.specs.Crews.{StaysWithin}
use Rattle.pb_driver.specs.Mails.{HasDrained}
use Rattle.pb_driver.proofs.pooled.collect_rest.Given as goal

abbrev pub invariant-loop : goal.invariant-loop
invariant-loop g l = record {
  same : IsSameMain l.fn.main l.main;
  room : idle_forks (main_view l.main) + jobs_out (main_view l.main) ≡ forks_of l.pool;
  less : jobs_out (main_view l.main) ≤ jobs_out (main_view l.fn.main);
  drained : HasDrained (main_view l.fn.main).log (main_view l.main).log;
  within : StaysWithin (main_view l.fn.main) (main_view l.main);
  none : jobs_out (main_view l.fn.main) ≡ 0 → (main_view l.main).log ≡ (main_view l.fn.main).log;
}
