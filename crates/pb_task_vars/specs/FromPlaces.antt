-- Words of pb_places, passed on so that a crate above needs not name it.
pub use Rattle.pb_places.specs.Place.{PlaceOf, bare_place, bare_task, place_of}
