-- Words of pb_conditions, passed on so that a crate above needs not name it.
pub use Rattle.pb_conditions.specs.declared.attempt.Back.{Back}
