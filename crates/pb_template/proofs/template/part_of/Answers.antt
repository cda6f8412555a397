use Rattle.std.proofs.Common.{sym, subst}
use Rattle.pb_expr_syntax.specs.Spelling.{spells}
use Rattle.pb_template.specs.Parts.{IsPart}
use Rattle.pb_template.proofs.Matching.{code_only, code_none}
use Rattle.pb_template.proofs.template.part_of.Goals as goal

pub returns-in-Ok-clause-only : goal.returns-in-Ok-clause-only
returns-in-Ok-clause-only c q h = code_only c.in-Code.text c.in-Ok.expr q (λ u s. c.in-Ok.ensures.only u (subst (λ b. spells b u) (sym c.as_str.ensures) s)) (subst (λ p. IsPart p q) c.in-Code.is h)

pub returns-in-Err-clause-none : goal.returns-in-Err-clause-none
returns-in-Err-clause-none c other q h = code_none c.in-Code.text q (λ u s. c.in-Err.ensures.none other u (subst (λ b. spells b u) (sym c.as_str.ensures) s)) (subst (λ p. IsPart p q) c.in-Code.is h)
