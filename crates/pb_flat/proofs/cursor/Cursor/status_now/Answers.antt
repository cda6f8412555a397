use Rattle.pb_flat.proofs.Forced.{stays_now}
use Rattle.pb_flat.proofs.cursor.Cursor.status_now.Goals as goal

pub returns : goal.returns
returns c = stays_now c.args.self.now c.stays_now.result c.stays_now.ensures
