-- The magic variables that a host has by itself (Ansible's documentation, "Special variables"), where the two values are lent.
use Rattle.std.specs.Prelude.{[], ◌∷◌, Option, Some, None, codes}
use Rattle.pb_layers.specs.Scope.{Map}
use Rattle.pb_layers.specs.declared.host.HostMagic.{HostMagic}

-- what stands behind the references, under its names; nothing where there is no host
abbrev pub host_map : Option HostMagic → Map
host_map None = []
host_map (Some host) = (codes "group_names", host.group_names.now) ∷ (codes "inventory_hostname", host.inventory_hostname.now) ∷ []
