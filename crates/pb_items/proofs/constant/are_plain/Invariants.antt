use Rattle.std.proofs.Common.{◌≡◌}
use Rattle.pb_value.specs.Datum.{members_of, named}
use Rattle.pb_template.specs.Plain.{members_plain}
use Rattle.pb_items.proofs.constant.are_plain.Given as goal

abbrev pub invariant-loop-name : goal.invariant-loop-name
invariant-loop-name l = members_plain (members_of l.facts) ≡ members_plain (members_of (named l._name-iterator))
