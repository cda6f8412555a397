-- The members of a group as a set that is computed.
use Rattle.std.specs.Prelude.{ℕ, zero, suc, Bool, ◌||◌, ◌&&◌, ◌==◌, List, map}
use Rattle.std.specs.List.{list_any, range_with_len}
use Rattle.pb_groups.specs.declared.links.ChildLink.{ChildLink}
use Rattle.pb_groups.specs.declared.links.OwnHost.{OwnHost}
use Rattle.pb_groups.specs.GroupsOf.{GroupsOf}

-- whether the host is among the group's own
abbrev pub is_own : List OwnHost → ℕ → ℕ → Bool
is_own own group host = list_any (λ o. (o.group.0 == group) && (o.host.0 == host)) own

-- whether it is, or belongs to a child of the group: at most so many steps down
abbrev pub belongs : List ChildLink → List OwnHost → ℕ → ℕ → ℕ → Bool
belongs links own zero group host = is_own own group host
belongs links own (suc steps) group host = is_own own group host || list_any (λ l. (l.parent.0 == group) && belongs links own steps l.child.0 host) links

-- of each host whether it belongs to the group: no way has as many steps as there are groups
unfoldable pub members_of : GroupsOf → ℕ → List Bool
members_of g group = map (belongs g.links g.own g.groups group) (range_with_len 0 g.hosts)
