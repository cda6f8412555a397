use Rattle.pb_state.proofs.Rising.{starts_rise}
use Rattle.pb_state.proofs.Walks.{walks_lead, rows_stay}
use Rattle.pb_state.proofs.walks_lead.Goals as goal

pub returns : goal.returns
returns c = record { walks = walks_lead; rows = rows_stay; rise = starts_rise }
