use Rattle.std.proofs.Common.{◌≤◌, ◌<◌, ℕ, Option, length, refl, subst, arith}
use Rattle.std.specs.Prelude.{IsSome}
use Rattle.pb_value.proofs.KeptNames.{stays_err, stays_gone, stays_past, cut_ok, cut_all}
use Rattle.pb_value.proofs.shared.strike.Goals as goal

pub returns-in-None-clause-entries : goal.returns-in-None-clause-entries
returns-in-None-clause-entries c = stays_gone c.args.name.now c.args.gone.now c.args.names.now c.args.values.now.items c.in-Ok.at c.in-Ok.ensures.ordered c.in-Ok.ensures.value c.in-None.ensures.value

pub returns-then-index-len-clause-entries : goal.returns-then-index-len-clause-entries
returns-then-index-len-clause-entries c =
    let past : length c.args.values.now.items ≤ c.in-Some.index = omega arith in
    stays_past c.args.name.now c.args.gone.now c.args.names.now c.args.values.now.items c.in-Ok.at c.in-Ok.ensures.ordered c.in-Ok.ensures.value c.in-Some.index c.in-Some.ensures.value past

pub returns-clause-entries : goal.returns-clause-entries
returns-clause-entries c =
    let within : c.in-Some.index < length c.args.values.now.items = omega arith in
    rw (c.with_bit.ensures, c.remove.ensures.items)
    (cut_ok c.args.name.now c.args.gone.now c.args.names.now c.args.values.now.items c.in-Ok.at c.in-Ok.ensures.value c.in-Some.index c.in-Some.ensures.value within)

pub returns-clause-all : goal.returns-clause-all
returns-clause-all c =
    let within : c.in-Some.index < length c.args.values.now.items = omega arith in
    rw (c.with_bit.ensures, c.remove.ensures.items)
    (cut_all c.args.name.now c.args.gone.now c.args.names.now c.args.values.now.items c.in-Ok.at c.in-Ok.ensures.ordered c.in-Ok.ensures.value c.in-Some.index c.in-Some.ensures.value within c.requires)

pub returns-in_default-clause-entries : goal.returns-in_default-clause-entries
returns-in_default-clause-entries c = stays_err c.args.name.now c.args.gone.now c.args.names.now c.args.values.now.items c.in_default.field-0 c.in_default.ensures.ordered c.in_default.ensures.value

pub returns-in_default-clause-all : goal.returns-in_default-clause-all
returns-in_default-clause-all c = c.requires

pub returns-in-None-clause-all : goal.returns-in-None-clause-all
returns-in-None-clause-all c = c.requires

pub returns-then-index-len-clause-all : goal.returns-then-index-len-clause-all
returns-then-index-len-clause-all c = c.requires

pub with_bit-requires-clause-few : goal.with_bit-requires-clause-few
with_bit-requires-clause-few c = c.in-Ok.ensures.few

pub with_bit-requires-clause-free : goal.with_bit-requires-clause-free
with_bit-requires-clause-free c = subst (λ (o : Option ℕ). IsSome o) c.in-Some.ensures.value refl
