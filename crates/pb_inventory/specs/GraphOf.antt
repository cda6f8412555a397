-- What contracts see of the hosts and groups without their variables.
use Rattle.std.specs.Prelude.{ℕ, List, length}
use Rattle.pb_groups.specs.declared.links.ChildLink.{ChildLink}
use Rattle.pb_groups.specs.declared.links.OwnHost.{OwnHost}
use Rattle.pb_groups.specs.GroupsOf.{GroupsOf}

-- the hosts' names and the groups' names, in the order of their numbers, each group's own hosts, and which groups are children of which
pub record GraphOf : Type 0 where
  pub hosts : List (List ℕ)
  pub groups : List (List ℕ)
  pub own : List OwnHost
  pub links : List ChildLink

-- the same by numbers alone
abbrev pub numbered : GraphOf → GroupsOf
numbered graph = record { hosts = length graph.hosts; groups = length graph.groups; own = graph.own; links = graph.links }
