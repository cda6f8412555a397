-- What an operand is worth, lent or made.
use Rattle.pb_value.specs.Datum.{Datum}
use Rattle.pb_expr_eval.specs.declared.operand.Operand.{Operand}
use Rattle.pb_expr_eval.specs.declared.operand.Operand.TheVariants.{Lent, Made}

abbrev pub held : Operand → Datum
held (Lent v) = v.now
held (Made v) = v
