-- What the module of an item does when its task starts on a host, in the scope that the host has then. `debug` shows its message or the
-- value of an expression, `fail` fails with its message, `assert` fails where one of its conditions doesn't hold, `set_fact` sets facts,
-- `meta` steers the run alone, `command` and `shell` are sent as jobs; so is `setup`, where there is a program that gathers facts. What can't be read
-- fails the item.
-- See Ansible's documentation of these modules, in ansible.builtin.
use Rattle.std.specs.Prelude.{⊤, Bool, true, false, List, Result, Ok, Err, codes}
use Rattle.pb_value.specs.Datum.{Datum, text, dict, no_members, members_of}
use Rattle.pb_value.specs.Reading.{and_then, map_ok}
use Rattle.pb_layers.specs.Scope.{Map}
use Rattle.pb_expr_syntax.specs.Tree.{Tree}
use Rattle.pb_conditions.specs.Conditions.{holds}
use Rattle.pb_operators.specs.Values.{Value}
use Rattle.pb_operators.specs.declared.fault.EvalFault.TheVariants.{Undefined}
use Rattle.pb_expr_eval.specs.Scoped.{eval_of, rendered_of}
use Rattle.pb_template.specs.Computed.{template_of}
use Rattle.pb_outcome.specs.Decided.{faulty_result, debug_result, shown_result, fail_result}
use Rattle.pb_outcome.specs.Results.{facts_result}
use Rattle.pb_outcome.specs.declared.gather.ItemResult.{ItemResult}
use Rattle.pb_outcome.specs.declared.item.Planned.{Planned}
use Rattle.pb_outcome.specs.declared.item.Planned.TheVariants.{Decided, Sends}
use Rattle.pb_outcome.specs.declared.job.Call.TheVariants.{Setup as SetupCall}
use Rattle.pb_play.specs.declared.modules.Module.{Module}
use Rattle.pb_play.specs.declared.modules.Module.TheVariants.{Assert, Command, Debug, DebugVar, Fail, Meta, SetFact, Setup, Shell}
use Rattle.pb_items.specs.declared.fault.ItemFault.{ItemFault}
use Rattle.pb_items.specs.Faults.{said, evaluated}
use Rattle.pb_items.specs.Calls.{command_in, shell_in}
use Rattle.pb_items.specs.Facts.{facts_of}
use Rattle.pb_items.specs.Results.{assert_result, meta_result}

-- what `var` shows where a name stands for nothing
abbrev pub or_not_defined : Value → Value
or_not_defined (Err (Undefined name)) = Ok (text (codes "VARIABLE IS NOT DEFINED!"))
or_not_defined value = value

-- the conditions come first, then both messages, whichever is the result's
abbrev pub asserted : List Map → List Tree → Datum → Datum → Result ItemResult ItemFault
asserted scope that fail_msg success_msg =
    and_then (evaluated (holds scope that))
    (λ ok. and_then (evaluated (rendered_of scope fail_msg)) (λ f. map_ok (λ s. assert_result ok f s) (evaluated (rendered_of scope success_msg))))

-- facts are gathered by a job, where there is a program for that; else none are gathered, at once
abbrev pub setup_of : Bool → Planned
setup_of true = Sends SetupCall
setup_of false = Decided (facts_result (dict no_members))

-- what a module does, or the fault of what it is given
unfoldable pub done_by : (has_facts_program : Bool) → List Map → Module → Result Planned ItemFault
done_by program scope (Assert that fail_msg success_msg) = map_ok Decided (asserted scope that fail_msg success_msg)
done_by program scope (Command words) = map_ok Sends (command_in scope words)
done_by program scope (Debug msg) = map_ok (λ v. Decided (debug_result v)) (evaluated (rendered_of scope msg))
done_by program scope (DebugVar name expr) = map_ok (λ v. Decided (shown_result name v)) (evaluated (or_not_defined (eval_of scope expr)))
done_by program scope (Fail msg) = map_ok (λ v. Decided (fail_result v)) (evaluated (rendered_of scope msg))
done_by program scope (Meta meta) = Ok (Decided meta_result)
done_by program scope (SetFact facts) = map_ok (λ fs. Decided (facts_result (dict (members_of fs)))) (facts_of scope facts)
done_by program scope Setup = Ok (setup_of program)
done_by program scope (Shell cmd) = map_ok Sends (shell_in scope cmd)

-- a fault fails the item
abbrev pub or_faulty : Result Planned ItemFault → Planned
or_faulty (Ok step) = step
or_faulty (Err fault) = Decided (faulty_result (said fault))

-- what a task without conditions and loop does, where there is no program that gathers facts
unfoldable pub planned_by : List Map → Module → Planned
planned_by scope called = or_faulty (done_by false scope called)

-- what computes a module's worked example, where no expression stands in its texts
unfoldable pub on_plain_texts : ⊤
unfolding done_by planned_by rendered_of template_of
on_plain_texts = tt
