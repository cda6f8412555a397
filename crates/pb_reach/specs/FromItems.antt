-- Words of pb_items, passed on so that a crate above needs not name it.
pub use Rattle.pb_items.specs.Calls.{command_in, words_in}
pub use Rattle.pb_items.specs.Facts.{facts_of}
pub use Rattle.pb_items.specs.Faults.{evaluated}
pub use Rattle.pb_items.specs.Items.{StartOf, Step, attempted_by, delegate_in, item_of, items_by, looped_items, seen_by, step_if, step_in, step_of, with_conditions_step}
unfoldable pub use Rattle.pb_items.specs.Items.{item_in, items_of}
pub use Rattle.pb_items.specs.Loops.{loop_variable}
unfoldable pub use Rattle.pb_items.specs.Loops.{values_of}
unfoldable pub use Rattle.pb_items.specs.Planning.{done_by}
pub use Rattle.pb_items.specs.declared.fault.ItemFault.{ItemFault}
