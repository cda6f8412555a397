-- Words of pb_play, passed on so that a crate above needs not name it.
pub use Rattle.pb_play.specs.declared.modules.Module.TheVariants.{Debug}
