-- Words of pb_template, passed on so that a crate above needs not name it.
unfoldable pub use Rattle.pb_template.specs.Computed.{template_of}
