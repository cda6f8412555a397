use Rattle.std.proofs.Common.{◌≡◌, false, arith}
use Rattle.std.proofs.lemmas.Grind.{common_steps}
use Rattle.pb_roles.specs.Expansion.{is_open, most_open}
use Rattle.pb_roles.specs.Files.{read_of}
use Rattle.pb_roles.specs.Open.{names_of}
use Rattle.pb_roles.proofs.Stack.{entered_by, cost_by}
use Rattle.pb_roles.proofs.roles.enter.Goals as goal

pub returns-clause-value : goal.returns-clause-value
returns-clause-value c =
    let shut : is_open c.args.entry.now.name (names_of c.args.roles.now.items) ≡ false = grind (arith, common_steps) in
    entered_by c.left_in-left.result (most_open c.args.files.now) (read_of c.args.files.now) c.args.roles.now.items c.push_found.new.roles.items c.args.entry.now c.args.met.now c.conditions_in.result.now c.in_ok-found.found
    c.role_of.new.came c.left_in-left.ensures c.if-left-eq0.false shut c.conditions_in.ensures c.in_ok-found.ensures.value c.in_ok-found.ensures.came c.in_ok-found.ensures.left
    c.in_ok-push_found.ensures

pub returns-clause-cost : goal.returns-clause-cost
returns-clause-cost c =
    cost_by c.left_in-left.result (most_open c.args.files.now) (read_of c.args.files.now) c.args.roles.now.items c.push_found.new.roles.items c.args.entry.now c.in_ok-found.found c.left_in-left.ensures c.if-left-eq0.false
    c.in_ok-found.ensures.left c.in_ok-found.ensures.dependencies c.in_ok-push_found.ensures
