-- Worked examples of what tasks say themselves of their items: each is proved by computing both sides.
use Rattle.std.specs.Prelude.{◌≡◌, ℕ, pos, Bool, true, false, List, [], ◌∷◌, Option, Some, None, codes, refl}
use Rattle.pb_value.specs.Datum.{boolean, int, dict, members_of}
use Rattle.pb_expr_syntax.specs.Computed.{tree_of, tree_of_tokens}
use Rattle.pb_expr_syntax.specs.Tree.{Tree}
use Rattle.pb_layers.specs.Scope.{Map, layers}
use Rattle.pb_expr_eval.specs.Rendering.{measured}
use Rattle.pb_expr_eval.specs.Scoped.{eval_of}
use Rattle.pb_outcome.specs.Decided.{faulty_result}
use Rattle.pb_outcome.specs.declared.gather.Ending.TheVariants.{Ran, Skipped}
use Rattle.pb_outcome.specs.declared.gather.ItemResult.{ItemResult}
use Rattle.pb_conditions.specs.ResultConditions.{sees, with_conditions}

-- the trees of a condition's text, where it has one
abbrev listed : Option Tree → Option (List Tree)
listed None = None
listed (Some t) = Some (t ∷ [])

abbrev condition : Option (List ℕ) → Option (List Tree)
condition None = None
condition (Some s) = listed (tree_of s)

-- an item of `shell` with its exit status
abbrev ran : Bool → Bool → ℕ → ItemResult
ran changed failed rc =
    record {
      ending = Ran changed failed;
      result = dict (members_of ((codes "changed", boolean changed) ∷ (codes "failed", boolean failed) ∷ (codes "rc", int (pos rc)) ∷ []));
    }

-- what a task that registers `r` says of an item, over these facts that were set and these extra variables
abbrev conditioned : Map → Map → Option (List ℕ) → Option (List ℕ) → ItemResult → ItemResult
conditioned set extra changed_when failed_when item =
    with_conditions (sees (layers [] [] [] [] [] [] [] [] set [] extra) [] []) (Some (codes "r")) (condition changed_when) (condition failed_when) item

says_nothing : conditioned [] [] None None (ran true false 0) ≡ ran true false 0
unfolding tree_of tree_of_tokens eval_of measured
says_nothing = refl

nothing_changed : conditioned [] [] (Some (codes "r.rc == 0")) None (ran true true 2) ≡ ran false true 2
unfolding tree_of tree_of_tokens eval_of measured
nothing_changed = refl

two_is_well : conditioned [] [] None (Some (codes "r.rc > 2")) (ran true true 2) ≡ ran true false 2
unfolding tree_of tree_of_tokens eval_of measured
two_is_well = refl

-- whether it failed sees whether it changed something as the task has it
failed_sees_changed : conditioned [] [] (Some (codes "false")) (Some (codes "r.changed")) (ran true true 2) ≡ ran false false 2
unfolding tree_of tree_of_tokens eval_of measured
failed_sees_changed = refl

-- the result is seen over what was registered before
over_registered : conditioned ((codes "r", int (pos 5)) ∷ []) [] None (Some (codes "r.rc == 2")) (ran true false 2) ≡ ran true true 2
unfolding tree_of tree_of_tokens eval_of measured
over_registered = refl

-- and an extra variable hides it
extra_hides : conditioned [] ((codes "r", dict (members_of ((codes "rc", int (pos 0)) ∷ []))) ∷ []) None (Some (codes "r.rc == 2")) (ran true true 2) ≡ ran true false 2
unfolding tree_of tree_of_tokens eval_of measured
extra_hides = refl

fault_is_the_items : conditioned [] [] (Some (codes "x")) None (ran true false 0) ≡ faulty_result (codes "'x' is undefined")
unfolding tree_of tree_of_tokens eval_of measured
fault_is_the_items = refl

-- the first fault counts
first_fault : conditioned [] [] (Some (codes "x")) (Some (codes "y")) (ran true false 0) ≡ faulty_result (codes "'x' is undefined")
unfolding tree_of tree_of_tokens eval_of measured
first_fault = refl

-- a task that registers nothing sees no result
not_registered : with_conditions (sees (layers [] [] [] [] [] [] [] [] [] [] []) [] []) None None (condition (Some (codes "r.rc == 2"))) (ran true false 2) ≡ faulty_result (codes "'r' is undefined")
unfolding tree_of tree_of_tokens eval_of measured
not_registered = refl

-- an item that was left out stays as it is
skipped_stays : conditioned [] [] (Some (codes "x")) (Some (codes "true")) (record { ending = Skipped; result = dict (members_of []) }) ≡ record { ending = Skipped; result = dict (members_of []) }
unfolding tree_of tree_of_tokens eval_of measured
skipped_stays = refl
