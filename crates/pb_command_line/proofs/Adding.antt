-- How the program comes by the arguments of its table.
use Rattle.std.proofs.Common.{◌≡◌, ◌∙◌, List, ◌∷◌, map, ap, sym}
use Rattle.clap.specs.Words.{App, with_rule}
use Rattle.pb_command_line.specs.CommandLine.{with_rules}
use Rattle.pb_command_line.specs.Table.{rule_of_row}
use Rattle.pb_command_line.specs.declared.arguments.Row.{Row}

-- the app with the rows that are left is the one that has the first of them, with those behind it
pub row_added : (whole app next : App) (rows more : List Row) (row : Row) → whole ≡ with_rules app (map rule_of_row rows) → rows ≡ row ∷ more → next ≡ with_rule app (rule_of_row row) → whole ≡ with_rules next (map rule_of_row more)
row_added whole app next rows more row kept cut is =
    kept ∙ ap (λ (l : List Row). with_rules app (map rule_of_row l)) cut ∙ ap (λ (a : App). with_rules a (map rule_of_row more)) (sym is)
