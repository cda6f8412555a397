use Rattle.std.proofs.Common.{◌∙◌, ℕ, List, Err, ap, sym, refl}
use Rattle.pb_roles.specs.Entries.{key_of}
use Rattle.pb_roles.specs.Files.{read_of}
use Rattle.pb_roles.specs.Open.{entries_in}
use Rattle.pb_roles.specs.declared.fault.RoleFault.TheVariants.{Unknown}
use Rattle.pb_roles.proofs.Entering.{faulty, faulty_meta, left_out, missing, opens, stopped}
use Rattle.pb_roles.proofs.enter.role_of.Goals as goal

pub returns-then-is_missing-clause-value : goal.returns-then-is_missing-clause-value
returns-then-is_missing-clause-value c =
    missing c.args.left (read_of c.args.files.now) c.args.outer.now c.args.entry.now c.args.came.now c.in_ok-is_missing.is_missing c.in_ok-is_missing.ensures c.if-is_missing.true
    ∙ ap (λ (name : List ℕ). Err (Unknown name)) (sym c.in_ok-name.ensures)

pub returns-in_err-meta-clause-value : goal.returns-in_err-meta-clause-value
returns-in_err-meta-clause-value c =
    stopped _ c.in_err-meta.field-0.0 _ c.from_residual-in_err-meta.ensures.1
    (faulty_meta c.args.left (read_of c.args.files.now) c.args.outer.now c.args.entry.now c.args.came.now c.in_ok-is_missing.is_missing c.in_err-meta.field-0.0 c.in_ok-is_missing.ensures c.if-is_missing.false
    c.in_err-meta.ensures)

pub returns-then-out-clause-value : goal.returns-then-out-clause-value
returns-then-out-clause-value c =
    left_out c.args.left (read_of c.args.files.now) c.args.outer.now c.args.entry.now c.args.came.now c.in_ok-is_missing.is_missing c.in_ok-meta.meta (key_of c.args.entry.now) c.in_ok-out.out
    c.in_ok-is_missing.ensures c.if-is_missing.false c.in_ok-meta.ensures refl
    c.in_ok-out.ensures.again c.if-out.true

pub returns-in_err-role-clause-value : goal.returns-in_err-role-clause-value
returns-in_err-role-clause-value c =
    stopped _ c.in_err-role.field-0.0 _ c.from_residual-in_err-role.ensures.1
    (faulty c.args.left (read_of c.args.files.now) c.args.outer.now c.args.entry.now c.args.came.now c.in_ok-is_missing.is_missing c.in_ok-meta.meta (key_of c.args.entry.now) c.in_ok-out.out
    c.in_err-role.field-0.0 c.in_ok-is_missing.ensures c.if-is_missing.false c.in_ok-meta.ensures refl
    c.in_ok-out.ensures.again c.if-out.false c.in_err-role.ensures.value)

pub returns-clause-value : goal.returns-clause-value
returns-clause-value c =
    opens c.args.left (read_of c.args.files.now) c.args.outer.now c.args.entry.now c.args.came.now c.in_ok-is_missing.is_missing c.in_ok-meta.meta (key_of c.args.entry.now) c.in_ok-out.out
    c.in_ok-role.role c.of.result c.in_ok-is_missing.ensures c.if-is_missing.false c.in_ok-meta.ensures refl
    c.in_ok-out.ensures.again c.if-out.false c.in_ok-role.ensures.value c.of.ensures

pub returns-clause-dependencies : goal.returns-clause-dependencies
returns-clause-dependencies c = c.of.ensures ∙ sym (ap entries_in c.in_ok-meta.ensures)
