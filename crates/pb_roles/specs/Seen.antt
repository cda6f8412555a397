-- How the code's nodes speak of what is written in a play.
use Rattle.std.specs.Prelude.{◌≡◌, ℕ, ◌+◌, List, [], ◌∷◌, map, max}
use Rattle.pb_flat.specs.Deep.{always_depth}
use Rattle.pb_play.specs.Nodes.{Written}
use Rattle.pb_tree.specs.declared.tree.Node.{Node}
use Rattle.pb_tree.specs.Tree.{Nodes, Nothing, Flush, size}
use Rattle.pb_tree.specs.View.{node_of}
use Rattle.pb_roles.specs.Building.{nodes_then, sections_then}
use Rattle.pb_roles.specs.declared.collected.Section.{Section}

-- the nodes of a tree in front of others
abbrev pub joined_then : List (Nodes → Nodes) → Nodes → Nodes
joined_then [] rest = rest
joined_then (f ∷ fs) rest = f (joined_then fs rest)

abbrev pub in_front : List Node → Nodes → Nodes
in_front nodes rest = joined_then (map node_of nodes) rest

-- the node is what is written
abbrev pub IsNode : Node → Written → Type 0
IsNode node written = (rest : Nodes) → node_of node rest ≡ nodes_then written rest

-- what is written was put behind the nodes
abbrev pub AddsNodes : List Node → List Node → Written → Type 0
AddsNodes old new written = (rest : Nodes) → in_front new rest ≡ in_front old (nodes_then written rest)

-- so were the nodes of some sections, and a Flush behind them
abbrev pub AddsPart : List Node → List Node → List Section → Type 0
AddsPart old new sections = (rest : Nodes) → in_front new rest ≡ in_front old (sections_then sections (Flush rest))

-- what is written, as a tree of its own: how many places it has in a play with this many handlers, and how deep always parts stand in one another
abbrev pub alone : Written → Nodes
alone written = nodes_then written Nothing

abbrev pub places_in : ℕ → Written → ℕ
places_in handlers written = size handlers (alone written)

abbrev pub depth_in : Written → ℕ
depth_in written = always_depth (alone written)

-- the same of sections, with the Flush behind them
abbrev pub places_in_all : ℕ → List Section → ℕ
places_in_all handlers [] = handlers
places_in_all handlers (section ∷ sections) = places_in handlers section.nodes + places_in_all handlers sections

abbrev pub depth_in_all : List Section → ℕ
depth_in_all [] = 0
depth_in_all (section ∷ sections) = max (depth_in section.nodes) (depth_in_all sections)
