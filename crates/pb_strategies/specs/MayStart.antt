-- Which hosts may start their next task (Ansible's documentation, "Controlling playbook execution: strategies and more").
use Rattle.std.specs.Prelude.{ℕ, nat_eq, nat_lt, Bool, true, false, ◌&&◌, ◌||◌, not, List, map, length, take, slice_get, slice_index_or, Option, Some, is_some, count_by}
use Rattle.std.specs.List.{list_any, range_with_len}
use Rattle.std.specs.Option.{option_map_or}
use Rattle.pb_planes.specs.Set.{has_some}
use Rattle.pb_limits.specs.Counts.{running, running_at, has_room_for}
use Rattle.pb_strategies.specs.declared.standings.Standing.{Standing}
use Rattle.pb_strategies.specs.declared.strategy.Strategy.{Strategy}
use Rattle.pb_strategies.specs.declared.strategy.Strategy.TheVariants.{Linear, Free, HostPinned}
use Rattle.pb_strategies.specs.Hosts.{same_place, is_running, is_next_at, is_under_way, runs_in}

-- what a strategy sees: of each place its throttle and whether its task runs once, whether such a task is done at the current place, since a host
-- has finished it other than by being gone, and where each host stands
pub record ViewOf : Type 0 where
  pub strategy : Strategy
  pub forks : ℕ
  pub is_stopped : Bool
  pub place : Option ℕ
  pub is_run_once_done : Bool
  pub throttles : List ℕ
  pub run_once : List Bool
  pub hosts : List Standing

-- hosts that run are counted, and not jobs: there is room where they are fewer than the forks, unless the run is stopped
abbrev pub has_room : ViewOf → Bool
has_room view = not view.is_stopped && nat_lt (running (runs_in view.hosts)) view.forks

-- where a task has a throttle, the hosts that run it are fewer
abbrev pub has_room_at : ViewOf → ℕ → Bool
has_room_at view p = has_room_for (running_at (runs_in view.hosts) p) (slice_index_or view.throttles p 0)

-- whether the task at a place runs once
abbrev pub runs_once : ViewOf → ℕ → Bool
runs_once view p = slice_index_or view.run_once p false

-- whether no host before this one, in the order of hosts, has this next place
abbrev pub is_first_at : List Standing → ℕ → ℕ → Bool
is_first_at hosts p h = not (list_any (is_next_at (Some p)) (take h hosts))

-- a task that runs once runs on one host at a time, the first there, until it is done
abbrev pub is_open_once : ViewOf → ℕ → Bool
is_open_once view p = nat_eq (running_at (runs_in view.hosts) p) 0 && not view.is_run_once_done

-- whether host h may run the task at place p, which runs once
abbrev pub may_run_once : ViewOf → ℕ → ℕ → Bool
may_run_once view h p = is_open_once view p && is_first_at view.hosts p h

-- whether fewer hosts have begun and are not at their end than there are forks
abbrev pub has_room_to_begin : ViewOf → Bool
has_room_to_begin view = nat_lt (count_by is_under_way view.hosts) view.forks

-- what a strategy asks of a host whose next place this is
abbrev pub suits : Strategy → ViewOf → ℕ → Standing → ℕ → Bool
suits Linear view h host p = same_place view.place (Some p) && (not (runs_once view p) || may_run_once view h p)
suits Free view h host p = true
suits HostPinned view h host p = host.has_begun || has_room_to_begin view

-- whether host h with this standing may start at its next place p, as far as throttle and strategy go
abbrev pub may_start_at : ViewOf → ℕ → Standing → ℕ → Bool
may_start_at view h host p = has_room_at view p && suits view.strategy view h host p

-- whether host h with this standing may start, as far as throttle and strategy go: not while it runs, and not without a next place
abbrev pub may_start_from : ViewOf → ℕ → Standing → Bool
may_start_from view h host = not (is_running host) && option_map_or (may_start_at view h host) host.next false

-- whether host h may start its next task; where there is no such host, it may not
abbrev pub may_start : ViewOf → ℕ → Bool
may_start view h = has_room view && option_map_or (may_start_from view h) (slice_get view.hosts h) false

-- the hosts that may start
abbrev pub ready : ViewOf → List Bool
ready view = map (may_start view) (range_with_len 0 (length view.hosts))

abbrev pub is_linear : Strategy → Bool
is_linear Linear = true
is_linear Free = false
is_linear HostPinned = false

-- under the linear strategy nobody runs, in a run that isn't stopped
abbrev pub is_idle : ViewOf → Bool
is_idle view = is_linear view.strategy && not view.is_stopped && nat_eq (running (runs_in view.hosts)) 0

-- the batch goes on from its current place once nobody runs and nobody may start
abbrev pub turn_ready : ViewOf → Bool
turn_ready view = is_idle view && is_some view.place && not (has_some (ready view))
