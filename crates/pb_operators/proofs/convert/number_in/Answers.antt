use Rattle.std.proofs.Common.{◌≡◌, subst, sym, w64, FitsSigned}
use Rattle.std.proofs.lemmas.Int.{to_z-of_z}
use Rattle.pb_operators.specs.Operators.{signed, or_zero}
use Rattle.pb_operators.proofs.Numbers.{Reads, number_read}
use Rattle.pb_operators.proofs.convert.number_in.Goals as goal

pub returns-in-Ok : goal.returns-in-Ok
returns-in-Ok c =
    let written = c.in-Ok.ensures.value.0 in
    let is : c.in-Ok.number ≡ or_zero (signed c.args.text.now) = subst (λ r. Reads r (or_zero (signed c.args.text.now))) c.in-Ok.is (number_read c.args.text.now c.parse.result c.parse.ensures.value.0) in
    rw (to_z-of_z w64 c.in-Ok.number (subst (λ z. FitsSigned w64 z) (sym written.1) written.0.1)) is

pub returns-in-Err : goal.returns-in-Err
returns-in-Err c = subst (λ r. Reads r (or_zero (signed c.args.text.now))) c.in-Err.is (number_read c.args.text.now c.parse.result c.parse.ensures.value.0)
