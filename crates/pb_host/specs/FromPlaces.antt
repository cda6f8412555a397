-- Words of pb_places, passed on so that a crate above needs not name it.
pub use Rattle.pb_task_vars.specs.FromPlaces.{PlaceOf}
