-- Why an item can't be read: one fault for those of expressions, those of calls, and those of loops and delegates.
use Rattle.std.specs.Prelude.{ℕ, List, Result, Ok, Err, codes}
use Rattle.pb_operators.specs.declared.fault.EvalFault.{EvalFault}
use Rattle.pb_expr_eval.specs.Messages.{message_of}
use Rattle.pb_words.specs.declared.fault.CallFault.{CallFault}
use Rattle.pb_words.specs.Calls.{fault_message}
use Rattle.pb_items.specs.declared.fault.ItemFault.{ItemFault}
use Rattle.pb_items.specs.declared.fault.ItemFault.TheVariants as item

-- what the item's result says
abbrev pub said : ItemFault → List ℕ
said (item.Eval fault) = message_of fault
said (item.Call fault) = fault_message fault
said item.LoopNotList = codes "loop is not a list"
said item.TooManyItems = codes "too many items"
said item.BadDelegate = codes "bad delegate"
said item.Memory = codes "out of memory"

-- what was read, where its fault is an item's
abbrev pub evaluated : {A : Type 0} → Result A EvalFault → Result A ItemFault
evaluated (Ok x) = Ok x
evaluated (Err fault) = Err (item.Eval fault)

abbrev pub called : {A : Type 0} → Result A CallFault → Result A ItemFault
called (Ok x) = Ok x
called (Err fault) = Err (item.Call fault)
