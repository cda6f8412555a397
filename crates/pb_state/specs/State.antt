-- The state of a run.
use Rattle.std.specs.Prelude.{ℕ, Bool, List, Option}
use Rattle.pb_host.specs.declared.step_result.StepResult.{StepResult}
use Rattle.pb_host.specs.Host.{HostOf}

pub record State : Type 0 where
  pub rows : List HostOf
  -- the play whose batch is open, or the one that goes on, or the one behind the last
  pub play : ℕ
  -- the number of the batch in its play, and the sizes of those behind it
  pub batch : ℕ
  pub sizes_left : List ℕ
  pub is_open : Bool
  -- under the linear strategy the place at which the hosts of the batch are, by its position in the play's tree
  pub place : Option ℕ
  -- of each place of the tree whether a host of the batch has started there
  pub begun : List Bool
  pub forks : ℕ
  pub pool : ℕ
  -- how many jobs were sent: the next one has this number as its ticket
  pub sends : ℕ
  -- commanded to stop
  pub stopped : Bool
  -- a batch closed with no active host in it
  pub ended : Bool
  -- what the last step came to
  pub step_result : Option StepResult
