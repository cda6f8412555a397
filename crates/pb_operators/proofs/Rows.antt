-- A plain list and the rows of a value give each other back.
use Rattle.pb_value.proofs.Lists.{list_of-items_of, entries_of-members_of}

pub ruleset rows_are = (list_of-items_of, entries_of-members_of)
