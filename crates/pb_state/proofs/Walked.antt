-- What the walk of a host allows.
use Rattle.std.proofs.Common.{◌≡◌, ℕ, ◌+◌, ◌<◌, ◌≤◌, Bool, true, false, ◌&&◌, not, List, [], ◌∷◌, ◌++◌, length, refl, sym, ap, arith}
use Rattle.std.specs.Prelude.{Option, Some, None, if◌then◌else◌}
use Rattle.std.proofs.lemmas.Bool.{eqb-true}
use Rattle.pb_tree.specs.declared.tree.Reach.{Reach}
use Rattle.pb_tree.specs.declared.tree.Reach.TheVariants.{At, Done}
use Rattle.pb_tree.specs.declared.answer.Kind.TheVariants as kinds
use Rattle.pb_tree.specs.Tree.{TreeOf, size_of}
use Rattle.pb_tree.specs.Answer.{AnswerOf}
use Rattle.pb_tree.specs.Walk.{reach, one_halted, without_halted, is_halted}
use Rattle.pb_tree.proofs.Rise.{places_bounded}
use Rattle.pb_task_vars.specs.Ends.{has_run}
use Rattle.pb_host.specs.declared.step_result.TaskEnd.{TaskEnd}
use Rattle.pb_host.specs.Ends.{fails, ends_play, kind_if, kind_of, answer_of}
use Rattle.pb_host.specs.Host.{HostOf, place_of, next_place}
use Rattle.pb_host.specs.Runs.{is_running}
use Rattle.pb_state.specs.Machine.{same_place}
use Rattle.pb_state.proofs.Stands.{stands_at}

-- the walk takes an answer at most for each place
pub at_below : (tree : TreeOf) (answers : List AnswerOf) (p : ℕ) → reach tree answers ≡ At p → length (one_halted answers) < size_of tree
at_below tree answers p e = let bounds = places_bounded tree answers p e in omega (arith, bounds.0, bounds.1)

-- no task's answer is halted
pub not_halted : (task : TaskEnd) → is_halted (kind_of task) ≡ false
not_halted task = by_kind task.result.unreachable (fails task.result) (ends_play task.meta && has_run task.result)
  where
    by_kind : (lost bad ends : Bool) → is_halted (if lost then kinds.Gone else kind_if bad ends) ≡ false
    by_kind true bad ends = refl
    by_kind false true ends = refl
    by_kind false false true = refl
    by_kind false false false = refl

without_more : (answers : List AnswerOf) (last : AnswerOf) → is_halted last.kind ≡ false → length (without_halted (answers ++ last ∷ [])) ≡ length (without_halted answers) + 1
without_more [] last k = rw k refl
without_more (a ∷ answers) last k = chosen (is_halted a.kind) a (without_halted answers) (without_halted (answers ++ last ∷ [])) (without_more answers last k)
  where
    chosen : (b : Bool) (a : AnswerOf) (xs ys : List AnswerOf) → length ys ≡ length xs + 1 → length (if b then ys else a ∷ ys) ≡ length (if b then xs else a ∷ xs) + 1
    chosen true a xs ys e = e
    chosen false a xs ys e = omega (arith, e)

pub one_more : (answers : List AnswerOf) (last : AnswerOf) → is_halted last.kind ≡ false → length (one_halted (answers ++ last ∷ [])) ≡ length (one_halted answers) + 1
one_more [] last k = rw k refl
one_more (a ∷ answers) last k = chosen (is_halted a.kind) a (without_halted answers) (without_halted (answers ++ last ∷ [])) (one_halted answers) (one_halted (answers ++ last ∷ [])) (without_more answers last k) (one_more answers last k)
  where
    chosen : (b : Bool) (a : AnswerOf) (xs ys us vs : List AnswerOf) → length ys ≡ length xs + 1 → length vs ≡ length us + 1 → length (if b then a ∷ ys else a ∷ vs) ≡ length (if b then a ∷ xs else a ∷ us) + 1
    chosen true a xs ys us vs e f = omega (arith, e)
    chosen false a xs ys us vs e f = omega (arith, f)

-- an answer more leaves as many at least
without_no_less : (answers : List AnswerOf) (last : AnswerOf) → length (without_halted answers) ≤ length (without_halted (answers ++ last ∷ []))
without_no_less [] last = omega arith
without_no_less (a ∷ answers) last = chosen (is_halted a.kind) a (without_halted answers) (without_halted (answers ++ last ∷ [])) (without_no_less answers last)
  where
    chosen : (b : Bool) (a : AnswerOf) (xs ys : List AnswerOf) → length xs ≤ length ys → length (if b then xs else a ∷ xs) ≤ length (if b then ys else a ∷ ys)
    chosen true a xs ys e = e
    chosen false a xs ys e = omega (arith, e)

pub no_less : (answers : List AnswerOf) (last : AnswerOf) → length (one_halted answers) ≤ length (one_halted (answers ++ last ∷ []))
no_less [] last = omega arith
no_less (a ∷ answers) last =
    chosen (is_halted a.kind) a (without_halted answers) (without_halted (answers ++ last ∷ [])) (one_halted answers) (one_halted (answers ++ last ∷ [])) (without_no_less answers last) (no_less answers last)
  where
    chosen : (b : Bool) (a : AnswerOf) (xs ys us vs : List AnswerOf) → length xs ≤ length ys → length us ≤ length vs → length (if b then a ∷ xs else a ∷ us) ≤ length (if b then a ∷ ys else a ∷ vs)
    chosen true a xs ys us vs e f = omega (arith, e)
    chosen false a xs ys us vs e f = omega (arith, f)

-- each task that ends is one answer more
pub one_halted_answer : (answers : List AnswerOf) (task : TaskEnd) (notified : List ℕ) → length (one_halted (answers ++ answer_of task notified ∷ [])) ≡ length (one_halted answers) + 1
one_halted_answer answers task notified = one_more answers (answer_of task notified) (not_halted task)

pub same_is : (a b : Option ℕ) → same_place a b ≡ true → (p : ℕ) × (a ≡ Some p) × (b ≡ Some p)
same_is (Some p) (Some q) e = (p, refl, ap Some (sym (eqb-true p q e)))
same_is (Some p) None e = cc
same_is None q e = cc

pub place_at : (r : Reach) (b : Bool) (p : ℕ) → (if b then place_of r else None) ≡ Some p → r ≡ At p
place_at (At q) true p e = ap At (let same : q ≡ p = cc in same)
place_at (Done ending) true p e = cc
place_at r false p e = cc

and_right : (a b : Bool) → (a && b) ≡ true → b ≡ true
and_right true b e = e
and_right false b e = cc

-- a host that stands somewhere has answers to give
pub stands_below : (place : Option ℕ) (row : HostOf) → stands_at place row ≡ true → length (one_halted row.answers) < size_of row.tree
stands_below place row e =
    let stood = same_is (next_place row) place (and_right (not (is_running row)) _ e) in
    at_below row.tree row.answers stood.0 (place_at (reach row.tree row.answers) row.in_batch stood.0 stood.1)

-- and is in the batch
pub in_if : (b : Bool) (next : Option ℕ) (p : ℕ) → (if b then next else None) ≡ Some p → b ≡ true
in_if true next p e = refl
in_if false next p e = cc

pub stands_in : (place : Option ℕ) (row : HostOf) → stands_at place row ≡ true → row.in_batch ≡ true
stands_in place row e =
    let stood = same_is (next_place row) place (and_right (not (is_running row)) _ e) in
    in_if row.in_batch (place_of (reach row.tree row.answers)) stood.0 stood.1
