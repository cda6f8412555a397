-- Where what is in a play comes from: a role, or the play itself.
use Rattle.std.specs.Prelude.{List, [], Option, option_map, unwrap_or}
use Rattle.std.specs.Arc.{arc_value}
use Rattle.std.specs.declared.sync.Arc.{Arc}
use Rattle.std.specs.Global.{Global}
use Rattle.pb_expr_syntax.specs.Tree.{Tree}
use Rattle.pb_places.specs.Place.{no_role}
use Rattle.pb_places.specs.declared.surroundings.Role.{Role}

-- the role, and the conditions of it and of the roles that depend on it, the outermost first
pub record OriginOf : Type 0 where
  pub role : Role
  pub conditions : List Tree

-- what stands in the play itself comes from no role
abbrev pub from_play : OriginOf
from_play = record { role = no_role; conditions = [] }

-- a list that several share, if there is one
abbrev pub listed : {A : Type 0} → Option (Arc (List A) Global) → List A
listed given = unwrap_or (option_map arc_value given) []
