-- Words of pb_variables, passed on so that a crate above needs not name it.
pub use Rattle.pb_host.specs.FromVariables.{hosts_magic}
unfoldable pub use Rattle.pb_host.specs.FromVariables.{host_magic, hostvars}
