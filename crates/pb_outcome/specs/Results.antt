-- The result of one item from what its module was and what came of its job. See Ansible's documentation, "Return Values".
use Rattle.std.specs.Prelude.{ℕ, zero, suc, ℤ, pos, negsuc, Bool, true, false, List, [], ◌∷◌, codes, if◌then◌else◌}
use Rattle.pb_value.specs.Datum.{Datum, boolean, int, text, list, dict, items_of, members_of}
use Rattle.pb_outcome.specs.Causes.{message_of}
use Rattle.pb_outcome.specs.Output.{stripped, line_values}
use Rattle.pb_outcome.specs.declared.gather.Ending.TheVariants.{Unreachable as Lost, NotStarted as Unanswered, Ran as Done}
use Rattle.pb_outcome.specs.declared.gather.ItemResult.{ItemResult}
use Rattle.pb_outcome.specs.declared.job.Call.{Call}
use Rattle.pb_outcome.specs.declared.job.Call.TheVariants.{Command, Shell, Setup}
use Rattle.pb_outcome.specs.declared.outcome.Form.{Form}
use Rattle.pb_outcome.specs.declared.outcome.Form.TheVariants.{Ran, Module, Unreachable, NotStarted}

abbrev pub is_nonzero : ℤ → Bool
is_nonzero (pos zero) = false
is_nonzero (pos (suc n)) = true
is_nonzero (negsuc n) = true

-- a program's end: it failed where its exit status isn't 0
abbrev pub rc_message : ℤ → List ℕ
rc_message rc = if is_nonzero rc then codes "non-zero return code" else []

-- the lines of a text as a value
abbrev pub shown_lines : List ℕ → Datum
shown_lines s = list (items_of (line_values s))

-- the members of a program's result: whether it changed something, its exit status, its output and its errors are given
abbrev pub ran_members : Bool → ℤ → List ℕ → List ℕ → List (List ℕ × Datum)
ran_members changed rc out err =
    (codes "changed", boolean changed) ∷
    (codes "failed", boolean (is_nonzero rc)) ∷
    (codes "msg", text (rc_message rc)) ∷
    (codes "rc", int rc) ∷
    (codes "stderr", text (stripped err)) ∷
    (codes "stderr_lines", shown_lines (stripped err)) ∷
    (codes "stdout", text (stripped out)) ∷
    (codes "stdout_lines", shown_lines (stripped out)) ∷ []

-- the result of a program that ran to its end, from the same four
abbrev pub ran_result : Bool → ℤ → List ℕ → List ℕ → ItemResult
ran_result changed rc out err =
    record { ending = Done changed (is_nonzero rc); result = dict (members_of (ran_members changed rc out err)) }

-- a job without an answer of its module
abbrev pub unanswered : List ℕ → ItemResult
unanswered msg =
    record {
      ending = Unanswered;
      result = dict (members_of ((codes "changed", boolean false) ∷ (codes "failed", boolean true) ∷ (codes "msg", text msg) ∷ []));
    }

-- the outcome is none that the module can have, which counts as no answer
abbrev pub does_not_fit : ItemResult
does_not_fit = unanswered (codes "outcome does not fit the module")

-- the target is out of reach; this is what the connector says of it
abbrev pub lost : List ℕ → ItemResult
lost msg =
    record {
      ending = Lost;
      result = dict (members_of ((codes "changed", boolean false) ∷ (codes "failed", boolean false) ∷ (codes "msg", text msg) ∷ (codes "unreachable", boolean true) ∷ []));
    }

-- an item that gives facts, and changed nothing
abbrev pub facts_result : Datum → ItemResult
facts_result v =
    record {
      ending = Done false false;
      result = dict (members_of ((codes "ansible_facts", v) ∷ (codes "changed", boolean false) ∷ (codes "failed", boolean false) ∷ []));
    }

-- the facts that a program gave are a dict, or they don't fit
abbrev pub gathered_facts : Datum → ItemResult
gathered_facts (dict ms) = facts_result (dict ms)
gathered_facts v = does_not_fit

-- a facts program that ends badly gives what a command would, with nothing changed; one that ends well without facts doesn't fit
abbrev pub facts_ran : ℤ → List ℕ → List ℕ → ItemResult
facts_ran rc out err = if is_nonzero rc then ran_result false rc out err else does_not_fit

-- the result of `command` and `shell`, which change something whenever they ran
abbrev pub judged_command : Form → ItemResult
judged_command (Ran rc out err) = ran_result true rc out err
judged_command (Module v) = does_not_fit
judged_command (Unreachable msg) = lost msg
judged_command (NotStarted cause) = unanswered (message_of cause)

-- the result of `setup`
abbrev pub judged_setup : Form → ItemResult
judged_setup (Ran rc out err) = facts_ran rc out err
judged_setup (Module v) = gathered_facts v
judged_setup (Unreachable msg) = lost msg
judged_setup (NotStarted cause) = unanswered (message_of cause)

abbrev pub judged : Call → Form → ItemResult
judged (Command words) form = judged_command form
judged (Shell s) form = judged_command form
judged Setup form = judged_setup form
