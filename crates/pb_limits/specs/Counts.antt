-- How many hosts run (Ansible's documentation, "Controlling playbook execution: strategies and more", "Setting the number of forks" and
-- "Restricting execution with throttle"). What hosts run is a list: of each host the place of its task, or nothing.
use Rattle.std.specs.Prelude.{ℕ, nat_eq, nat_lt, Bool, false, ◌||◌, List, Option, Some, None, is_some, map, count_by}
use Rattle.std.specs.List.{range_with_len}

-- whether what a host runs is the task at this place
abbrev pub runs_at : ℕ → Option ℕ → Bool
runs_at p (Some q) = nat_eq p q
runs_at p None = false

-- how many hosts run
abbrev pub running : List (Option ℕ) → ℕ
running runs = count_by is_some runs

-- how many of them run the task at this place
abbrev pub running_at : List (Option ℕ) → ℕ → ℕ
running_at runs p = count_by (runs_at p) runs

-- the counts, in all and of so many places
pub record LimitsOf : Type 0 where
  pub running : ℕ
  pub at : List ℕ

-- the counts for what the hosts run: in all, and of each place below so many
abbrev pub limits_of : ℕ → List (Option ℕ) → LimitsOf
limits_of places runs = record { running = running runs; at = map (running_at runs) (range_with_len 0 places) }

-- whether a throttle lets another host run its task, beside so many: 0 is none
abbrev pub has_room_for : ℕ → ℕ → Bool
has_room_for running throttle = nat_eq throttle 0 || nat_lt running throttle
