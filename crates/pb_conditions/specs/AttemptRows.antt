-- Worked examples of what attempts come to: each is proved by computing both sides.
use Rattle.std.specs.Prelude.{◌≡◌, ℕ, pos, Bool, true, false, List, [], ◌∷◌, Option, Some, None, codes, refl}
use Rattle.pb_value.specs.Datum.{boolean, int, text, list, dict, no_items, members_of}
use Rattle.pb_expr_syntax.specs.Computed.{tree_of, tree_of_tokens}
use Rattle.pb_expr_syntax.specs.Tree.{Tree}
use Rattle.pb_layers.specs.Scope.{layers}
use Rattle.pb_expr_eval.specs.Rendering.{measured}
use Rattle.pb_expr_eval.specs.Scoped.{eval_of}
use Rattle.pb_outcome.specs.Causes.{message_of}
use Rattle.pb_outcome.specs.Decided.{faulty_result}
use Rattle.pb_outcome.specs.Results.{judged_command, lost, unanswered}
use Rattle.pb_outcome.specs.declared.cause.Cause.{Cause}
use Rattle.pb_outcome.specs.declared.gather.Ending.TheVariants.{Ran as Done}
use Rattle.pb_outcome.specs.declared.gather.ItemResult.{ItemResult}
use Rattle.pb_outcome.specs.declared.outcome.Form.TheVariants.{Ran, Unreachable, NotStarted}
use Rattle.pb_conditions.specs.ResultConditions.{Sees, sees}
use Rattle.pb_conditions.specs.Attempts.{attempted}
use Rattle.pb_conditions.specs.declared.attempt.Back.{Back}
use Rattle.pb_conditions.specs.declared.attempt.Back.TheVariants.{Ends, Again}

-- the trees of texts
abbrev with_tree : Option Tree → List Tree → List Tree
with_tree None ts = ts
with_tree (Some t) ts = t ∷ ts

abbrev trees : List (List ℕ) → List Tree
trees [] = []
trees (s ∷ ss) = with_tree (tree_of s) (trees ss)

-- a task without any condition doesn't have the key
abbrev given : List Tree → Option (List Tree)
given [] = None
given (t ∷ ts) = Some (t ∷ ts)

-- what an attempt comes to in a task that registers `r` and has these conditions for `changed_when`, `failed_when` and `until`
abbrev tried : List (List ℕ) → List (List ℕ) → List (List ℕ) → ℕ → Bool → ItemResult → Back
tried changed_when failed_when until attempt is_last item =
    attempted (sees (layers [] [] [] [] [] [] [] [] [] [] []) [] []) (Some (codes "r")) (given (trees changed_when)) (given (trees failed_when)) (given (trees until)) attempt is_last item

-- a program that wrote nothing, by its exit status
abbrev rc : ℕ → ItemResult
rc status = judged_command (Ran (pos status) [] [])

-- its result as the attempt leaves it
abbrev left : ℕ → Bool → Bool → List ℕ → ℕ → ItemResult
left attempt changed failed msg status =
    record {
      ending = Done changed failed;
      result = dict (members_of (
          (codes "attempts", int (pos attempt)) ∷
          (codes "changed", boolean changed) ∷
          (codes "failed", boolean failed) ∷
          (codes "msg", text msg) ∷
          (codes "rc", int (pos status)) ∷
          (codes "stderr", text []) ∷
          (codes "stderr_lines", list no_items) ∷
          (codes "stdout", text []) ∷
          (codes "stdout_lines", list no_items) ∷ []));
    }

abbrev nonzero : List ℕ
nonzero = codes "non-zero return code"

holds_at_once : tried [] [] (codes "r.rc == 0" ∷ []) 1 false (rc 0) ≡ Ends (left 1 true false [] 0)
unfolding tree_of tree_of_tokens eval_of measured
holds_at_once = refl

-- the second attempt is as it should be
first_of_two : tried [] [] (codes "r.rc == 0" ∷ []) 1 false (rc 1) ≡ Again (left 1 true true nonzero 1)
unfolding tree_of tree_of_tokens eval_of measured
first_of_two = refl

second_of_two : tried [] [] (codes "r.rc == 0" ∷ []) 2 false (rc 0) ≡ Ends (left 2 true false [] 0)
unfolding tree_of tree_of_tokens eval_of measured
second_of_two = refl

-- also a result that failed may be the wanted one
wants_failure : tried [] [] (codes "r.rc == 2" ∷ []) 1 false (rc 2) ≡ Ends (left 1 true true nonzero 2)
unfolding tree_of tree_of_tokens eval_of measured
wants_failure = refl

each_has_to_hold : tried [] [] (codes "r.rc == 0" ∷ codes "r.stdout == 'up'" ∷ []) 1 false (rc 0) ≡ Again (left 1 true false [] 0)
unfolding tree_of tree_of_tokens eval_of measured
each_has_to_hold = refl

-- the last attempt fails, and its message stays
never : tried [] [] (codes "r.rc == 0" ∷ []) 4 true (rc 1) ≡ Ends (left 4 true true nonzero 1)
unfolding tree_of tree_of_tokens eval_of measured
never = refl

last_is_failed : tried [] [] (codes "r.stdout == 'up'" ∷ []) 4 true (rc 0) ≡ Ends (left 4 true true [] 0)
unfolding tree_of tree_of_tokens eval_of measured
last_is_failed = refl

-- whatever `failed_when` says
last_is_failed_anyway : tried [] (codes "false" ∷ []) (codes "r.rc == 0" ∷ []) 4 true (rc 1) ≡ Ends (left 4 true true nonzero 1)
unfolding tree_of tree_of_tokens eval_of measured
last_is_failed_anyway = refl

last_that_holds : tried [] [] (codes "r.rc == 0" ∷ []) 4 true (rc 0) ≡ Ends (left 4 true false [] 0)
unfolding tree_of tree_of_tokens eval_of measured
last_that_holds = refl

-- without `until` a result may not be failed
no_until_failed : tried [] [] [] 1 false (rc 1) ≡ Again (left 1 true true nonzero 1)
unfolding tree_of tree_of_tokens eval_of measured
no_until_failed = refl

no_until_well : tried [] [] [] 2 false (rc 0) ≡ Ends (left 2 true false [] 0)
unfolding tree_of tree_of_tokens eval_of measured
no_until_well = refl

-- as `failed_when` has it
no_until_never_fails : tried [] (codes "false" ∷ []) [] 1 false (rc 1) ≡ Ends (left 1 true false nonzero 1)
unfolding tree_of tree_of_tokens eval_of measured
no_until_never_fails = refl

-- `until` sees the result as `changed_when` and `failed_when` leave it
until_sees_failed : tried [] (codes "r.rc > 2" ∷ []) (codes "not r.failed" ∷ []) 1 false (rc 2) ≡ Ends (left 1 true false nonzero 2)
unfolding tree_of tree_of_tokens eval_of measured
until_sees_failed = refl

until_sees_changed : tried (codes "r.rc == 0" ∷ []) [] (codes "not r.changed" ∷ []) 1 false (rc 0) ≡ Again (left 1 true false [] 0)
unfolding tree_of tree_of_tokens eval_of measured
until_sees_changed = refl

-- each condition sees the number of the attempt
until_reads_attempts : tried [] [] (codes "r.attempts == 2" ∷ []) 1 false (rc 0) ≡ Again (left 1 true false [] 0)
unfolding tree_of tree_of_tokens eval_of measured
until_reads_attempts = refl

until_reads_second : tried [] [] (codes "r.attempts == 2" ∷ []) 2 false (rc 0) ≡ Ends (left 2 true false [] 0)
unfolding tree_of tree_of_tokens eval_of measured
until_reads_second = refl

failed_reads_attempts : tried [] (codes "r.attempts < 3" ∷ []) [] 2 false (rc 0) ≡ Again (left 2 true true [] 0)
unfolding tree_of tree_of_tokens eval_of measured
failed_reads_attempts = refl

failed_reads_third : tried [] (codes "r.attempts < 3" ∷ []) [] 3 false (rc 0) ≡ Ends (left 3 true false [] 0)
unfolding tree_of tree_of_tokens eval_of measured
failed_reads_third = refl

-- where a condition can't be read there is no further attempt, and the result isn't numbered
until_is_faulty : tried [] [] (codes "x" ∷ []) 1 false (rc 1) ≡ Ends (faulty_result (codes "'x' is undefined"))
unfolding tree_of tree_of_tokens eval_of measured
until_is_faulty = refl

failed_when_is_faulty : tried [] (codes "x" ∷ []) (codes "y" ∷ []) 1 false (rc 1) ≡ Ends (faulty_result (codes "'x' is undefined"))
unfolding tree_of tree_of_tokens eval_of measured
failed_when_is_faulty = refl

changed_when_is_faulty : tried (codes "x" ∷ []) (codes "y" ∷ []) [] 1 false (rc 1) ≡ Ends (faulty_result (codes "'x' is undefined"))
unfolding tree_of tree_of_tokens eval_of measured
changed_when_is_faulty = refl

-- where no program ran there is neither, whatever the task says and however many attempts are left
unreachable_at_second : tried [] [] (codes "r.rc == 0" ∷ []) 2 false (judged_command (Unreachable (codes "no route"))) ≡ Ends (lost (codes "no route"))
unfolding tree_of tree_of_tokens eval_of measured
unreachable_at_second = refl

unreachable_ends : (sight : Sees) (register : Option (List ℕ)) (changed_when failed_when until : Option (List Tree)) (attempt : ℕ) (is_last : Bool) (msg : List ℕ) →
    attempted sight register changed_when failed_when until attempt is_last (judged_command (Unreachable msg)) ≡ Ends (lost msg)
unreachable_ends sight register changed_when failed_when until attempt is_last msg = refl

not_started_ends : (sight : Sees) (register : Option (List ℕ)) (changed_when failed_when until : Option (List Tree)) (attempt : ℕ) (is_last : Bool) (cause : Cause) →
    attempted sight register changed_when failed_when until attempt is_last (judged_command (NotStarted cause)) ≡ Ends (unanswered (message_of cause))
not_started_ends sight register changed_when failed_when until attempt is_last cause = refl
