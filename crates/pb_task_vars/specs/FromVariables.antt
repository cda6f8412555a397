-- Words of pb_variables, passed on so that a crate above needs not name it.
pub use Rattle.pb_variables.specs.Magic.{hosts_magic}
unfoldable pub use Rattle.pb_variables.specs.Magic.{host_magic, hostvars}
