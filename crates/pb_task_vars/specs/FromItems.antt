-- Words of pb_items, passed on so that a crate above needs not name it.
pub use Rattle.pb_items.specs.Loops.{max_items}
pub use Rattle.pb_items.specs.Results.{skipped_result}
