use Rattle.pb_planes.proofs.Combined.{without}
use Rattle.pb_planes.proofs.words.without.Goals as goal

pub returns : goal.returns
returns c = without c.args.mine c.args.its
