use Rattle.std.proofs.Common.{◌≡◌, ◌+◌, ◌∙◌, ℕ, ℤ, pos, List, get_or, suc, refl, ap, arith}
use Rattle.std.proofs.lemmas.Int.{to_z-of_z}
use Rattle.std.specs.BTreeSet.{insert_key}
use Rattle.pb_groups.specs.Merging.{key_cmp}
use Rattle.pb_groups.specs.Keys.{keys_to, key_at}
use mir.Val.{SFits}
use mir.Syntax.{w64}
use Rattle.std.proofs.Common.{rules}
use Rattle.pb_groups.proofs.merging.keys_of.Goals as goal

next : (depths : List ℕ) (priorities : List ℤ) (n m : ℕ) → m ≡ suc n → insert_key key_cmp (keys_to depths priorities n) (key_at depths priorities n) ≡ keys_to depths priorities m
next depths priorities n m is = rw is refl

pub loop-group-preserved : goal.loop-group-preserved
loop-group-preserved c =
    let fits : SFits w64 (get_or c.args.priorities.now c.loop-group.group (pos 0)) = search rules in
    let i = simp to_z-of_z at c.in_ok-insert.ensures.keys in
    i ∙ ap (λ ks. insert_key key_cmp ks (key_at c.args.depths.now c.args.priorities.now c.loop-group.group)) c.loop-group.invariant ∙ next c.args.depths.now c.args.priorities.now c.loop-group.group (c.loop-group.group + 1) (omega arith)
