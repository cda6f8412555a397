-- Worked examples: each is proved by computing both sides.
use Rattle.std.specs.Prelude.{◌≡◌, ℕ, pos, true, false, [], ◌∷◌, ◌++◌, Some, None, codes, refl}
use Rattle.pb_value.specs.Datum.{int}
use Rattle.pb_layers.specs.Scope.{Map, layers, scope, with_seen, value_of, layer_of, has_templates}

abbrev x : ℕ → Map
x n = (codes "x", int (pos n)) ∷ []

-- x as a role default, a variable of a group, of the host, of the play and of the task, set by set_fact, and an extra variable
extra_wins : value_of (codes "x") (layers (x 1) (x 2) (x 3) [] (x 5) [] [] (x 8) (x 9) [] (x 11)) ≡ Some (int (pos 11))
extra_wins = refl

set_fact_wins : value_of (codes "x") (layers (x 1) (x 2) (x 3) [] (x 5) [] [] (x 8) (x 9) [] []) ≡ Some (int (pos 9))
set_fact_wins = refl

task_wins : value_of (codes "x") (layers (x 1) (x 2) (x 3) [] (x 5) [] [] (x 8) [] [] []) ≡ Some (int (pos 8))
task_wins = refl

play_wins : value_of (codes "x") (layers (x 1) (x 2) (x 3) [] (x 5) [] [] [] [] [] []) ≡ Some (int (pos 5))
play_wins = refl

host_wins : value_of (codes "x") (layers (x 1) (x 2) (x 3) [] [] [] [] [] [] [] []) ≡ Some (int (pos 3))
host_wins = refl

group_wins : value_of (codes "x") (layers (x 1) (x 2) [] [] [] [] [] [] [] [] []) ≡ Some (int (pos 2))
group_wins = refl

default_alone : layer_of (codes "x") (layers (x 1) [] [] [] [] [] [] [] [] [] []) ≡ Some 1
default_alone = refl

loop_variable_wins : layer_of (codes "x") (scope (layers (x 1) [] [] [] [] [] [] [] [] [] (x 11)) (x 12) (x 13)) ≡ Some 13
loop_variable_wins = refl

magic_wins : layer_of (codes "x") (scope (layers (x 1) [] [] [] [] [] [] [] [] [] (x 11)) (x 12) []) ≡ Some 12
magic_wins = refl

-- of the magic variables those of the host, then those of the play
magic_of_host_wins : value_of (codes "x") (scope [] (x 1 ++ x 2 ++ x 3 ++ x 4) []) ≡ Some (int (pos 1))
magic_of_host_wins = refl

magic_of_play_wins : value_of (codes "x") (scope [] ([] ++ x 2 ++ x 3 ++ x 4) []) ≡ Some (int (pos 2))
magic_of_play_wins = refl

nowhere : layer_of (codes "y") (scope (layers (x 1) [] [] [] [] [] [] [] [] [] (x 11)) (x 12) []) ≡ None
nowhere = refl

-- a task's own result hides what was registered before, and is hidden by role parameters and extra variables
seen_wins : value_of (codes "x") (with_seen (Some (codes "x", int (pos 20))) (layers (x 1) (x 2) (x 3) (x 4) (x 5) (x 6) (x 7) (x 8) (x 9) [] [])) ≡ Some (int (pos 20))
seen_wins = refl

seen_is_hidden : value_of (codes "x") (with_seen (Some (codes "x", int (pos 20))) (layers (x 1) [] [] [] [] [] [] [] (x 9) (x 10) [])) ≡ Some (int (pos 10))
seen_is_hidden = refl

seen_hides_no_other : value_of (codes "x") (with_seen (Some (codes "y", int (pos 20))) (layers (x 1) [] [] [] [] [] [] [] (x 9) [] [])) ≡ Some (int (pos 9))
seen_hides_no_other = refl

seen_is_no_template : layer_of (codes "x") (with_seen (Some (codes "x", int (pos 20))) (layers (x 1) [] [] [] [] [] [] [] [] [] [])) ≡ Some 9
seen_is_no_template = refl

facts_are_no_templates : has_templates 4 ≡ false
facts_are_no_templates = refl

play_variables_are_templates : has_templates 5 ≡ true
play_variables_are_templates = refl
