use Rattle.pb_value.proofs.Ordered.{kept_ordered}
use Rattle.pb_value.proofs.row.put_in.Goals as goal

pub returns-clause-ordered : goal.returns-clause-ordered
returns-clause-ordered c =
    kept_ordered c.put_entry.result c.args.row.now.items c.put_entry.new.row.items c.args.name c.args.value c.requires c.put_entry.ensures.entries c.put_entry.ensures.err
