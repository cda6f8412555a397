use Rattle.pb_lanes.specs.ColumnsOf.{column}
use Rattle.pb_lanes.proofs.Summed.{some_sum}
use Rattle.pb_lanes.proofs.columns.Columns.nonzero.Goals as goal

pub returns : goal.returns
returns c = rw (c.total.ensures) (some_sum (column c.args.kind c.args.self.now))
