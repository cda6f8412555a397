-- Worked examples of what attempts at items of tasks come to: each is proved by computing both sides.
use Rattle.std.specs.Prelude.{◌≡◌, ⊤, ℕ, pos, Bool, true, false, List, [], ◌∷◌, Option, Some, None, codes, refl}
use Rattle.pb_value.specs.Datum.{Datum, boolean, int, text, list, dict, no_items, members_of}
use Rattle.pb_layers.specs.Scope.{layers}
use Rattle.pb_expr_syntax.specs.Tree as tree
use Rattle.pb_expr_syntax.specs.Tree.{Tree}
use Rattle.pb_expr_syntax.specs.declared.tree.Op.TheVariants.{Equal}
use Rattle.pb_expr_eval.specs.Rendering.{measured}
use Rattle.pb_expr_eval.specs.Scoped.{eval_of}
use Rattle.pb_conditions.specs.declared.attempt.Back.{Back}
use Rattle.pb_conditions.specs.declared.attempt.Back.TheVariants.{Ends, Again}
use Rattle.pb_outcome.specs.Results.{judged_command, lost}
use Rattle.pb_outcome.specs.declared.gather.Ending.TheVariants.{Ran as Done}
use Rattle.pb_outcome.specs.declared.gather.ItemResult.{ItemResult}
use Rattle.pb_outcome.specs.declared.outcome.Form.TheVariants.{Ran, Unreachable}
use Rattle.pb_play.specs.Tasks.{plain_task}
use Rattle.pb_play.specs.declared.loops.Loop.{Loop}
use Rattle.pb_play.specs.declared.modules.Module.TheVariants.{Shell}
use Rattle.pb_play.specs.declared.retrying.Retrying.{Retrying}
use Rattle.pb_items.specs.Items.{StartOf, attempted_item}

-- what computes what an attempt comes to
unfoldable on_attempts : ⊤
unfolding eval_of measured
on_attempts = tt

-- a task that registers `r`, over each of some items or over none
abbrev runs : Option Loop → Option Retrying → StartOf
runs looped retrying =
    record {
      task = record (plain_task (codes "t") [] (Shell (codes "ls"))) { looped = looped; register = Some (codes "r"); retrying = retrying };
      conditions = [];
      delegate_to = None;
      has_facts_program = false;
      layers = layers [] [] [] [] [] [] [] [] [] [] [];
      magic = [];
    }

-- so many attempts may follow the first
abbrev again : ℕ → Option (List Tree) → Option Retrying
again retries until = Some (record { until = until; retries = retries; delay = 0 })

-- an attempt at the one item of a task
abbrev attempt_at : Option Retrying → ℕ → ItemResult → Back
attempt_at retrying attempt item = attempted_item (runs None retrying) None attempt item

-- a program that wrote nothing, by its exit status
abbrev rc : ℕ → ItemResult
rc status = judged_command (Ran (pos status) [] [])

-- its result as the attempt leaves it
abbrev left : ℕ → Bool → List ℕ → ℕ → ItemResult
left attempt failed msg status =
    record {
      ending = Done true failed;
      result = dict (members_of (
          (codes "attempts", int (pos attempt)) ∷
          (codes "changed", boolean true) ∷
          (codes "failed", boolean failed) ∷
          (codes "msg", text msg) ∷
          (codes "rc", int (pos status)) ∷
          (codes "stderr", text []) ∷
          (codes "stderr_lines", list no_items) ∷
          (codes "stdout", text []) ∷
          (codes "stdout_lines", list no_items) ∷ []));
    }

abbrev nonzero : List ℕ
nonzero = codes "non-zero return code"

-- a task without retries has one attempt, which isn't numbered
tried_once : attempt_at None 1 (rc 1) ≡ Ends (rc 1)
tried_once = refl

-- one further attempt: behind the first one, and not behind the second
first_of_two : attempt_at (again 1 None) 1 (rc 1) ≡ Again (left 1 true nonzero 1)
first_of_two = refl

second_of_two : attempt_at (again 1 None) 2 (rc 1) ≡ Ends (left 2 true nonzero 1)
second_of_two = refl

enough_at_once : attempt_at (again 1 None) 1 (rc 0) ≡ Ends (left 1 false [] 0)
enough_at_once = refl

-- where none may follow the first it is the last
none_may_follow : attempt_at (again 0 None) 1 (rc 1) ≡ Ends (left 1 true nonzero 1)
none_may_follow = refl

hundredth : attempt_at (again 100 None) 100 (rc 1) ≡ Again (left 100 true nonzero 1)
hundredth = refl

last_of_all : attempt_at (again 100 None) 101 (rc 1) ≡ Ends (left 101 true nonzero 1)
last_of_all = refl

-- a host out of reach is tried no more
unreachable : attempt_at (again 3 None) 1 (judged_command (Unreachable (codes "no route"))) ≡ Ends (lost (codes "no route"))
unreachable = refl

-- `until` reads the number of the attempt
abbrev second : Option (List Tree)
second = Some (tree.Binary Equal (tree.Member (tree.Name (codes "r")) (codes "attempts")) (tree.Int (pos 2)) ∷ [])

reads_the_first : attempt_at (again 3 second) 1 (rc 0) ≡ Again (left 1 false [] 0)
unfolding on_attempts
reads_the_first = refl

reads_the_second : attempt_at (again 3 second) 2 (rc 1) ≡ Ends (left 2 true nonzero 1)
unfolding on_attempts
reads_the_second = refl

-- the last attempt, where it isn't the second
reads_the_last : attempt_at (again 0 second) 1 (rc 0) ≡ Ends (left 1 true [] 0)
unfolding on_attempts
reads_the_last = refl

-- each item by its own loop variable
abbrev over : Option Loop
over = Some (record { over = list no_items; variable = codes "item" })

abbrev item_is_one : Option (List Tree)
item_is_one = Some (tree.Binary Equal (tree.Name (codes "item")) (tree.Int (pos 1)) ∷ [])

abbrev attempt_of : Datum → Back
attempt_of value = attempted_item (runs over (again 3 item_is_one)) (Some value) 1 (rc 0)

of_one : attempt_of (int (pos 1)) ≡ Ends (left 1 false [] 0)
unfolding on_attempts
of_one = refl

of_two : attempt_of (int (pos 2)) ≡ Again (left 1 false [] 0)
unfolding on_attempts
of_two = refl
