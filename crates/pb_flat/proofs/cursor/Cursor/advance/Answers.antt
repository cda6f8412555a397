use Rattle.pb_flat.proofs.Stands.{leads_on}
use Rattle.pb_flat.proofs.cursor.Cursor.advance.Goals as goal

pub returns : goal.returns
returns c = leads_on c.args.plan.now c.args.self.now c.lead.new.self c.args.answer.now c.lead.ensures
