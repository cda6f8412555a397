-- What contracts see of groups.
use Rattle.std.specs.Prelude.{ℕ, List}
use Rattle.pb_groups.specs.declared.links.ChildLink.{ChildLink}
use Rattle.pb_groups.specs.declared.links.OwnHost.{OwnHost}

-- how many hosts and groups there are, the groups' own hosts, and which groups are children of which
pub record GroupsOf : Type 0 where
  pub hosts : ℕ
  pub groups : ℕ
  pub own : List OwnHost
  pub links : List ChildLink

-- how many groups there may be
abbrev pub max_groups : ℕ
max_groups = 4096
