use Rattle.std.proofs.Common.{Some, ap, sym, ◌∙◌}
use Rattle.pb_value.specs.View.{view}
use Rattle.pb_variables.proofs.Renewing.{same_map}
use Rattle.pb_variables.proofs.hostvars.map_of.Goals as goal

pub returns-in-Dict : goal.returns-in-Dict
returns-in-Dict c = λ known is. ap Some (same_map c.in-Dict.known known (sym (ap view c.in-Dict.is) ∙ c.into_node.ensures ∙ is))
