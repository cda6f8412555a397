use Rattle.pb_roles.proofs.inherited.Inherited.surroundings.Goals as goal

pub returns : goal.returns
returns c = c.with.ensures c.args.names.now c.in_ok-notifies.ensures
