-- What a strategy sees of a state (Ansible's documentation, "Controlling playbook execution: strategies and more").
use Rattle.std.specs.Prelude.{map}
use Rattle.pb_plan.specs.Plan.{PlayOf, throttles_of, run_once_of}
use Rattle.pb_strategies.specs.MayStart.{ViewOf}
use Rattle.pb_state.specs.State.{State}
use Rattle.pb_hosts.specs.Turn.{is_run_once_done}
use Rattle.pb_host.specs.Standing.{standing}

abbrev pub view_of : State → PlayOf → ViewOf
view_of s play =
    record {
      strategy = play.strategy;
      forks = s.forks;
      is_stopped = s.stopped;
      place = s.place;
      is_run_once_done = is_run_once_done play s.rows s.place;
      throttles = throttles_of play.places;
      run_once = run_once_of play.places;
      hosts = map standing s.rows;
    }
