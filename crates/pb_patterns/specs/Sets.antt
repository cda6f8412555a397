-- The hosts that an element means in an inventory.
use Rattle.std.specs.Prelude.{◌≡◌, ℕ, ◌+◌, ◌-◌, Bool, false, ◌&&◌, ◌||◌, ◌==◌, not, nat_le, List, [], ◌∷◌, ◌++◌, map, filter, take, drop, length, slice_index_or, Option, Some, None, option_map, position, codes, if◌then◌else◌}
use Rattle.std.specs.List.{list_any, range_with_len}
use Rattle.std.specs.Str.{bytes_eq, chars}
use Rattle.std.specs.Option.{option_map_or}
use Rattle.regex.specs.Patterns.{Re, Match, default_config, find_str}
use Rattle.regex_syntax.specs.Brackets.{Nested}
use Rattle.regex_syntax.specs.Grammar.{Names, read}
use Rattle.pb_planes.specs.Set.{is_in}
use Rattle.pb_groups.specs.declared.links.OwnHost.{OwnHost}
use Rattle.pb_inventory.specs.InventoryOf.{InventoryOf}
use Rattle.pb_inventory.specs.MemberSets.{members_in}
use Rattle.pb_patterns.specs.declared.element.Subscript.{Subscript}
use Rattle.pb_patterns.specs.declared.element.Subscript.TheVariants.{At, FromEnd, Between, From}
use Rattle.pb_patterns.specs.declared.element.What.{What}
use Rattle.pb_patterns.specs.declared.element.What.TheVariants as what
use Rattle.pb_patterns.specs.Globs.{glob, is_wild}

-- of each host whether f holds of its number
abbrev pub each_host : ℕ → (ℕ → Bool) → List Bool
each_host hosts f = map f (range_with_len 0 hosts)

-- the hosts whose names pass a test, and the members of the groups whose names pass it
abbrev pub is_meant : InventoryOf → (List ℕ → Bool) → ℕ → Bool
is_meant inventory test host =
    test (slice_index_or inventory.hosts host [])
    || list_any (λ g. test (slice_index_or inventory.groups g []) && is_in (members_in inventory g) host) (range_with_len 0 (length inventory.groups))

-- of each host whether its name passes a test, or that of a group with the host does
abbrev pub meant : InventoryOf → (List ℕ → Bool) → List Bool
meant inventory test = each_host (length inventory.hosts) (is_meant inventory test)

-- the host with this number alone, of so many hosts; no host where there is no number
abbrev pub one_host : ℕ → Option ℕ → List Bool
one_host hosts (Some h) = each_host hosts (λ k. k == h)
one_host hosts None = each_host hosts (λ k. false)

-- the members of this group; where there is none, the host of the name, and no host where none has the name
abbrev pub group_else : InventoryOf → List ℕ → Option ℕ → List Bool
group_else inventory name (Some g) = members_in inventory g
group_else inventory name None = one_host (length inventory.hosts) (position (bytes_eq name) inventory.hosts)

-- the hosts that a name means
abbrev pub named : InventoryOf → List ℕ → List Bool
named inventory name = group_else inventory name (position (bytes_eq name) inventory.groups)

-- a term with `*` or `?` means all the groups and hosts whose names fit it; another term means the group or host of that name
abbrev pub term_set : InventoryOf → List ℕ → List Bool
term_set inventory term = if is_wild term then meant inventory (glob term) else named inventory term

-- A subscript counts the hosts of a group's own list first, in their order there and each once, and then the other hosts in their order.
abbrev pub contains : List ℕ → ℕ → Bool
contains hosts host = list_any (λ h. h == host) hosts

-- each of these numbers once, where it stands first
abbrev pub once : List ℕ → List ℕ
once [] = []
once (h ∷ hs) = h ∷ filter (λ other. not (other == h)) (once hs)

-- the hosts of a list, each once, and behind them those of a set that aren't in the list, in their order
abbrev pub in_order : List ℕ → List Bool → List ℕ
in_order first set = once first ++ filter (λ h. is_in set h && not (contains first h)) (range_with_len 0 (length set))

-- the hosts on a group's own list, in the order of the list
abbrev pub own_hosts : List OwnHost → ℕ → List ℕ
own_hosts own group = map (λ o. o.host.0) (filter (λ o. o.group.0 == group) own)

-- the group whose own list counts first: neither `all` nor `ungrouped`, nor one among several
abbrev pub listing : InventoryOf → List ℕ → Option ℕ
listing inventory term = if is_wild term || (bytes_eq term (codes "all") || bytes_eq term (codes "ungrouped")) then None else position (bytes_eq term) inventory.groups

-- the hosts on that group's own list; none where there is no such group
abbrev pub listed : InventoryOf → Option ℕ → List ℕ
listed inventory None = []
listed inventory (Some group) = own_hosts inventory.own group

-- the part of a list that a subscript means: both ends of a range are in it, and what is out of range is left out
abbrev pub picked : Subscript → List ℕ → List ℕ
picked (At i) hosts = take 1 (drop i hosts)
picked (FromEnd i) hosts = if nat_le 1 i && nat_le i (length hosts) then take 1 (drop (length hosts - i) hosts) else []
picked (Between i j) hosts = take (j + 1 - i) (drop i hosts)
picked (From i) hosts = drop i hosts

-- the hosts that a term means, in the order in which a subscript counts them
abbrev pub ordered : InventoryOf → List ℕ → List ℕ
ordered inventory term = in_order (listed inventory (listing inventory term)) (term_set inventory term)

-- the hosts that a term means: all of them, or those that its subscript picks
abbrev pub set_of : InventoryOf → List ℕ → Option Subscript → List Bool
set_of inventory term None = term_set inventory term
set_of inventory term (Some subscript) = each_host (length inventory.hosts) (contains (picked subscript (ordered inventory term)))

-- a regular expression means what it matches from the first character of a name on: the first match in the name begins there
abbrev pub begins_at_first : Option Match → Bool
begins_at_first None = false
begins_at_first (Some m) = m.start == 0

-- whether the first match of a pattern in a name begins at the name's first character
abbrev pub starts : Re → List ℕ → Bool
starts pattern name = begins_at_first (find_str pattern name 0)

-- the pattern as which the grammar of regular expressions reads a text, if it is one
abbrev pub expression_read : List ℕ → Option Re
expression_read source = option_map (λ (found : Nested Re × Names). found.0.value) (read default_config (chars source))

-- whether a name begins with what the expression in a text matches
unfoldable pub begins_as : List ℕ → List ℕ → Bool
begins_as source name = option_map_or (λ (pattern : Re). starts pattern name) (expression_read source) false

-- the hosts that an element means
abbrev pub element_set : InventoryOf → What → List Bool
element_set inventory (what.Term term subscript) = set_of inventory term subscript
element_set inventory (what.Regex source) = meant inventory (begins_as source)
