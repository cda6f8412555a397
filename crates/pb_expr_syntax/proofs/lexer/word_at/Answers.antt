use Rattle.std.proofs.lemmas.Str.{IsUtf8-from_ascii}
use Rattle.pb_expr_syntax.proofs.Lexing.{word_ascii}
use Rattle.pb_expr_syntax.proofs.lexer.word_at.Goals as goal

pub returns-in_default-clause-fault : goal.returns-in_default-clause-fault
returns-in_default-clause-fault c = absurd (c.in_default.ensures.cases.0 (rw c.word_length-size.ensures (IsUtf8-from_ascii _ (word_ascii c.args.bytes.now))))
