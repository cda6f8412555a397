-- Words of pb_recap, passed on so that a crate above needs not name it.
pub use Rattle.pb_recap.specs.Kinds.{Failed, Unreachable, has, status_of}
pub use Rattle.pb_recap.specs.Recap.{recap}
