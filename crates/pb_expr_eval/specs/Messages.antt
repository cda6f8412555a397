-- What the result of an item says of an expression or template that has no value. That of a name is Jinja's own text.
use Rattle.std.specs.Prelude.{ℕ, List, ◌++◌, codes}
use Rattle.pb_operators.specs.declared.fault.EvalFault.{EvalFault}
use Rattle.pb_operators.specs.declared.fault.EvalFault.TheVariants.{Undefined, WrongKind, Overflow, TooLarge, Memory, BadTemplate}

abbrev pub message_of : EvalFault → List ℕ
message_of (Undefined name) = codes "'" ++ name ++ codes "' is undefined"
message_of WrongKind = codes "wrong kind of value"
message_of Overflow = codes "number out of range"
message_of TooLarge = codes "value too large"
message_of Memory = codes "out of memory"
message_of BadTemplate = codes "bad template"
