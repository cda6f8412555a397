use Rattle.std.proofs.Common.{string_bytes}
use Rattle.pb_variables.proofs.Between.{some_taken, none_taken}
use Rattle.pb_variables.proofs.hostvars.taken.Goals as goal

pub returns-in-Some-clause-found : goal.returns-in-Some-clause-found
returns-in-Some-clause-found c =
    some_taken c.args.name.now (string_bytes c.in_ok-copy.copy) c.args.known.now _ c.in-Some.value c.map_of.result c.in_ok-copy.ensures.ok c.in_ok-value.ensures.before c.in-Some.is c.map_of.ensures

pub returns-in-None-clause-found : goal.returns-in-None-clause-found
returns-in-None-clause-found c =
    none_taken c.args.name.now (string_bytes c.in_ok-copy.copy) c.args.known.now _ _ c.in_ok-copy.ensures.ok c.in_ok-value.ensures.before c.in-None.is
