use Rattle.std.proofs.Common.{Some, String, Global, sym, ap, ◌∙◌}
use Rattle.pb_value.specs.Datum.{Datum}
use Rattle.pb_value.proofs.Placed.{within_ok, found_ok, found_err}
use Rattle.pb_value.proofs.row.find.Goals as goal

pub bounds-row-at : goal.bounds-row-at
bounds-row-at c = within_ok c.args.name.now c.args.row.now c.in-Ok.at c.in-Ok.ensures

pub returns-in-Ok : goal.returns-in-Ok
returns-in-Ok c =
    ap (λ (e : String Global × Datum). Some e.1) (sym c.index-row-at.is)
    ∙ found_ok c.args.name.now c.args.row.now c.in-Ok.at c.requires c.in-Ok.ensures c.index-row-at.result c.index-row-at.is

pub returns-in-Err : goal.returns-in-Err
returns-in-Err c = sym (found_err c.args.name.now c.args.row.now c.in-Err.field-0 c.requires c.in-Err.ensures)
