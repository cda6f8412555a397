use Rattle.pb_driver.proofs.LineByLine.{lines_stand_behind_events}
use Rattle.pb_driver.proofs.lines_stand_behind_events.Goals as goal

pub returns : goal.returns
returns c = lines_stand_behind_events c.events_have_lines.ensures
