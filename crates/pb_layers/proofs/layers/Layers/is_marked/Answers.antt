use Rattle.std.proofs.Common.{◌≡◌, true, sym, ◌∙◌, subst}
use Rattle.pb_layers.specs.Scope.{scope, with_seen, found}
use Rattle.pb_layers.specs.Marked.{is_read_as_stored}
use Rattle.pb_layers.specs.Merged.{merged}
use Rattle.pb_layers.proofs.Marks.{marked_name}
use Rattle.pb_layers.proofs.layers.Layers.is_marked.Goals as goal

pub returns : goal.returns
returns c t seen magic variable =
    let l = c.self.inside in
    subst (λ ms. is_read_as_stored (found c.args.name.now (scope (with_seen seen ms) magic variable)) ≡ true) c.self.view_is
    (marked_name l.role_defaults.now (merged l.group_variables) l.host_variables.now l.host_facts.now l.play_variables.now l.role_variables.now l.block_variables.now l.task_variables.now l.set_facts.now
    l.role_parameters.now l.extra_variables.now l.plain.now c.args.name.now (sym c.is_marked.ensures ∙ t) c.self.invariant seen magic variable)
