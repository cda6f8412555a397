use Rattle.std.proofs.Common.{Some}
use Rattle.pb_facts.proofs.Each.{layer_made, layer_stands}
use Rattle.pb_facts.proofs.layer.GatheredLayer.of.Goals as goal

pub invariant_of-result : goal.invariant_of-result
invariant_of-result c = layer_stands c.in_ok-layer.layer (Some c.args.facts) c.in_ok-layer.ensures

pub returns : goal.returns
returns c = layer_made c.in_ok-layer.layer (Some c.args.facts) c.in_ok-layer.ensures
