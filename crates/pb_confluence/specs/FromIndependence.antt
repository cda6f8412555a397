-- Words of pb_independence, passed on so that a crate above needs not name it.
pub use Rattle.pb_independence.specs.Independent.{are_linear, is_independent}
