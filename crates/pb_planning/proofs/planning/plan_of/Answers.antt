use Rattle.std.proofs.Common.{◌≡◌, ◌≤◌, ◌<◌, ℕ, true, false, ◌⊎◌, inl, inr, arith, refl, sym, ap, ◌∙◌}
use Rattle.std.proofs.lemmas.Bool.Decides.{nat_tests}
use Rattle.std.proofs.lemmas.Result.{IfOk-weaker}
use Rattle.pb_planning.specs.Bundle.{are_bad_forks}
use Rattle.pb_planning.proofs.Fitting.{plan_fits}
use Rattle.pb_planning.proofs.Plans.{IsSized, HasVariables, HasBook, HasLimit, size_fault, forks_fault, inventory_fault, extra_fault, book_fault, limit_met, roles_fault, plan_made}
use Rattle.pb_planning.proofs.planning.plan_of.Goals as goal

good_forks : (n : ℕ) → (n ≡ 0 → ⊥) → n ≤ 256 → are_bad_forks n ≡ false
good_forks n some few = grind (arith, nat_tests)

bad_forks : (n : ℕ) → (n ≡ 0) ⊎ ((n ≡ 0 → ⊥) × 256 < n) → are_bad_forks n ≡ true
bad_forks n (inl none) = rw none refl
bad_forks n (inr many) = let more = many.1 in grind (arith, nat_tests)

pub returns-then-is_too_large-clause-fault : goal.returns-then-is_too_large-clause-fault
returns-then-is_too_large-clause-fault c = λ other. size_fault c.args.bundle.now (sym c.is_too_large.ensures ∙ c.if-is_too_large.true)

pub returns-then-forks-eq0-clause-fault : goal.returns-then-forks-eq0-clause-fault
returns-then-forks-eq0-clause-fault c =
    λ other. forks_fault c.args.bundle.now (sym c.is_too_large.ensures ∙ c.if-is_too_large.false) (bad_forks c.args.bundle.now.forks c.then-forks-eq0.either)

pub returns-in-Err-clause-fault : goal.returns-in-Err-clause-fault
returns-in-Err-clause-fault c =
    let sized : IsSized c.args.bundle.now =
    record { size = sym c.is_too_large.ensures ∙ c.if-is_too_large.false; forks = good_forks _ c.if-forks-eq0.false c.if-forks-gt256.false } in
    λ other. inventory_fault c.args.bundle.now c.in-Err.fault sized (c.in-Err.ensures.fault other)

pub returns-in-Err-extra_in-clause-fault : goal.returns-in-Err-extra_in-clause-fault
returns-in-Err-extra_in-clause-fault c =
    let sized : IsSized c.args.bundle.now =
    record { size = sym c.is_too_large.ensures ∙ c.if-is_too_large.false; forks = good_forks _ c.if-forks-eq0.false c.if-forks-gt256.false } in
    λ other. extra_fault c.args.bundle.now c.in-Ok.inventory c.in-Err-extra_in.fault sized c.in-Ok.ensures.value (c.in-Err-extra_in.ensures.fault other)

pub returns-in-Err-playbook_in-clause-fault : goal.returns-in-Err-playbook_in-clause-fault
returns-in-Err-playbook_in-clause-fault c =
    let sized : IsSized c.args.bundle.now =
    record { size = sym c.is_too_large.ensures ∙ c.if-is_too_large.false; forks = good_forks _ c.if-forks-eq0.false c.if-forks-gt256.false } in
    let has : HasVariables c.args.bundle.now c.in-Ok.inventory c.in-Ok-extra_in.extra = record { sized = sized; read = c.in-Ok.ensures.value; extra_read = c.in-Ok-extra_in.ensures.value } in
    λ other. book_fault c.args.bundle.now c.in-Ok.inventory c.in-Ok-extra_in.extra c.in-Err-playbook_in.fault has (c.in-Err-playbook_in.ensures.fault other)

pub returns-in-Err-limit_in-clause-fault : goal.returns-in-Err-limit_in-clause-fault
returns-in-Err-limit_in-clause-fault c =
    let sized : IsSized c.args.bundle.now =
    record { size = sym c.is_too_large.ensures ∙ c.if-is_too_large.false; forks = good_forks _ c.if-forks-eq0.false c.if-forks-gt256.false } in
    let has : HasVariables c.args.bundle.now c.in-Ok.inventory c.in-Ok-extra_in.extra = record { sized = sized; read = c.in-Ok.ensures.value; extra_read = c.in-Ok-extra_in.ensures.value } in
    let book : HasBook c.args.bundle.now c.in-Ok.inventory c.in-Ok-extra_in.extra c.in-Ok-playbook_in.playbook =
    record { variables = has; read = c.in-Ok-playbook_in.ensures.value; taken = c.in-Ok-playbook_in.ensures.taken } in
    λ other. limit_met c.args.bundle.now c.in-Ok.inventory c.in-Ok-extra_in.extra c.in-Ok-playbook_in.playbook c.in-Err-limit_in.fault book (c.in-Err-limit_in.ensures.fault other)

pub returns-in-Err-plays_in-clause-fault : goal.returns-in-Err-plays_in-clause-fault
returns-in-Err-plays_in-clause-fault c =
    let sized : IsSized c.args.bundle.now =
    record { size = sym c.is_too_large.ensures ∙ c.if-is_too_large.false; forks = good_forks _ c.if-forks-eq0.false c.if-forks-gt256.false } in
    let has : HasVariables c.args.bundle.now c.in-Ok.inventory c.in-Ok-extra_in.extra = record { sized = sized; read = c.in-Ok.ensures.value; extra_read = c.in-Ok-extra_in.ensures.value } in
    let book : HasBook c.args.bundle.now c.in-Ok.inventory c.in-Ok-extra_in.extra c.in-Ok-playbook_in.playbook =
    record { variables = has; read = c.in-Ok-playbook_in.ensures.value; taken = c.in-Ok-playbook_in.ensures.taken } in
    let limit : HasLimit c.args.bundle.now c.in-Ok-limit_in.limit = record { read = c.in-Ok-limit_in.ensures.value; taken = c.in-Ok-limit_in.ensures.taken } in
    λ other.
    roles_fault c.args.bundle.now c.in-Ok.inventory c.in-Ok-extra_in.extra c.in-Ok-playbook_in.playbook c.in-Ok-limit_in.limit c.in-Err-plays_in.fault book limit
    (c.in-Err-plays_in.ensures.fault other)

pub returns-clause-value : goal.returns-clause-value
returns-clause-value c =
    let sized : IsSized c.args.bundle.now =
    record { size = sym c.is_too_large.ensures ∙ c.if-is_too_large.false; forks = good_forks _ c.if-forks-eq0.false c.if-forks-gt256.false } in
    let has : HasVariables c.args.bundle.now c.in-Ok.inventory c.in-Ok-extra_in.extra = record { sized = sized; read = c.in-Ok.ensures.value; extra_read = c.in-Ok-extra_in.ensures.value } in
    let book : HasBook c.args.bundle.now c.in-Ok.inventory c.in-Ok-extra_in.extra c.in-Ok-playbook_in.playbook =
    record { variables = has; read = c.in-Ok-playbook_in.ensures.value; taken = c.in-Ok-playbook_in.ensures.taken } in
    let limit : HasLimit c.args.bundle.now c.in-Ok-limit_in.limit = record { read = c.in-Ok-limit_in.ensures.value; taken = c.in-Ok-limit_in.ensures.taken } in
    IfOk-weaker c.plan_with.result _ _
    (λ plan made.
    plan_made c.args.bundle.now c.in-Ok.inventory c.in-Ok-extra_in.extra c.in-Ok-playbook_in.playbook c.in-Ok-limit_in.limit c.in-Ok-plays_in.plays plan book limit
    c.in-Ok-plays_in.ensures.value made)
    c.plan_with.ensures.value

pub returns-clause-fit : goal.returns-clause-fit
returns-clause-fit c =
    IfOk-weaker c.plan_with.result _ _ (λ plan made. plan_fits _ _ _ _ _ c.in-Ok-plays_in.plays plan made c.in-Ok-plays_in.ensures.built) c.plan_with.ensures.value
