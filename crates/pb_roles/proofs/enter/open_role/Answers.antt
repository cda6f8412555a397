use Rattle.pb_roles.specs.Files.{read_of}
use Rattle.pb_roles.proofs.Entering.{opened_from}
use Rattle.pb_roles.proofs.enter.open_role.Goals as goal

pub returns-clause-value : goal.returns-clause-value
returns-clause-value c =
    opened_from c.args.left (read_of c.args.files.now c.args.entry.now.name) c.args.outer.now c.args.entry.now c.in_ok-defaults.defaults c.in_ok-vars.vars c.in_ok-origin.origin c.open_from.result
    c.in_ok-defaults.ensures c.in_ok-vars.ensures c.in_ok-origin.ensures c.open_from.ensures.value
