-- The plays of a playbook with their trees and what stands at their places, or the first fault.
use Rattle.std.specs.Prelude.{◌≡◌, ◌≤◌, ℕ, Bool, ◌||◌, List, [], ◌∷◌, length, nat_lt, Option, Some, None, Result, Ok, Err, unwrap_or, if◌then◌else◌}
use Rattle.pb_value.specs.Reading.{and_then}
use Rattle.pb_tree.specs.Tree.{TreeOf, size_of}
use Rattle.pb_flat.specs.Deep.{always_depth}
use Rattle.pb_places.specs.Caught.{are_caught, caught_places}
use Rattle.pb_places.specs.Place.{PlaceOf}
use Rattle.pb_play_reading.specs.declared.play.Play.{Play}
use Rattle.pb_roles.specs.Building.{all_places, nodes_of, tree_of}
use Rattle.pb_roles.specs.Expansion.{roles_of}
use Rattle.pb_roles.specs.LinearKeys.{linear_keys_of}
use Rattle.pb_roles.specs.Sections.{sections_of}
use Rattle.pb_roles.specs.Unknown.{unknown_of}
use Rattle.pb_roles.specs.declared.fault.RoleFault.{RoleFault}
use Rattle.pb_roles.specs.declared.fault.RoleFault.TheVariants.{Unknown, TooLarge}
use Rattle.pb_roles.specs.declared.files.RoleFiles.{RoleFiles}
use Rattle.pb_roles.specs.declared.collected.Expansion.{Expansion}
use Rattle.pb_roles.specs.declared.sections.Expanded.{Expanded}
use Rattle.pb_roles.specs.declared.sections.Head.{Head}
use Rattle.pb_roles.specs.declared.sections.LinearKeys.{LinearKeys}
use Rattle.pb_roles.specs.declared.sections.Sections.{Sections}

-- a play has at most so many places, and always parts stand in one another at most so deep
abbrev pub max_places : ℕ
max_places = 16384

abbrev pub max_depth : ℕ
max_depth = 32

abbrev pub has_too_many_places : Sections → Bool
has_too_many_places play = nat_lt max_places (size_of (tree_of play))

abbrev pub is_too_deep : Sections → Bool
is_too_deep play = nat_lt max_depth (always_depth (nodes_of play))

-- What stays of a play as it is. Where it doesn't say how many hosts may fail, all may.
abbrev pub head_of : Play → Expansion → Head
head_of play met =
    record {
      name = play.name;
      hosts = play.hosts;
      vars = play.vars;
      strategy = play.strategy;
      serial = play.serial;
      max_fail_percentage = unwrap_or play.max_fail_percentage 100;
      linear_keys = linear_keys_of play met;
    }

-- the same of a play that has these keys, which linear plays alone heed
abbrev pub head_with : Play → LinearKeys → Head
head_with play linear_keys =
    record {
      name = play.name;
      hosts = play.hosts;
      vars = play.vars;
      strategy = play.strategy;
      serial = play.serial;
      max_fail_percentage = unwrap_or play.max_fail_percentage 100;
      linear_keys = linear_keys;
    }

abbrev pub with_tree : Head → TreeOf → List PlaceOf → Expanded
with_tree head tree places =
    record {
      name = head.name;
      hosts = head.hosts;
      vars = head.vars;
      strategy = head.strategy;
      serial = head.serial;
      max_fail_percentage = head.max_fail_percentage;
      linear_keys = head.linear_keys;
      tree = tree;
      places = places;
    }

-- a play with its tree, however large that is
abbrev pub built : Head → Sections → Expanded
built head play = with_tree head (tree_of play) (all_places play)

-- the same, where it has no more places and isn't deeper than it may be; else it is too large
abbrev pub within_limits : Head → Sections → Result Expanded RoleFault
within_limits head play = if has_too_many_places play || is_too_deep play then Err TooLarge else Ok (built head play)

-- what is notified is looked at before the number of places
abbrev pub unless_unknown : Option (List ℕ) → Result Expanded RoleFault → Result Expanded RoleFault
unless_unknown None r = r
unless_unknown (Some name) r = Err (Unknown name)

-- a play of these parts, or its fault
abbrev pub checked : Head → Sections → Result Expanded RoleFault
checked head play = unless_unknown (unknown_of play) (within_limits head play)

-- a play with what its roles bring, or the first fault: that of a role comes first
abbrev pub expanded : RoleFiles → Play → Result Expanded RoleFault
expanded files play = and_then (roles_of files play.roles) (λ met. checked (head_of play met) (sections_of play met))

-- play by play, in their order
unfoldable pub expansion_of : RoleFiles → List Play → Result (List Expanded) RoleFault
expansion_of files [] = Ok []
expansion_of files (play ∷ plays) = and_then (expanded files play) (λ one. and_then (expansion_of files plays) (λ rest. Ok (one ∷ rest)))

-- what a play has at its places fits its tree, which is within the limits: there is a record for each place, and it says of a failure there what the
-- tree says
pub record IsBuilt (play : Expanded) : Type 0 where
  pub few : size_of play.tree ≤ max_places
  pub flat : always_depth play.tree.nodes ≤ max_depth
  pub places : length play.places ≡ size_of play.tree
  pub caught : are_caught play.places ≡ caught_places play.tree
