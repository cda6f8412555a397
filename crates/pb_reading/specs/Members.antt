-- The members that are left of an object: the first, and those behind it. Where there is no first none is left.
use Rattle.std.specs.Prelude.{List, [], ◌∷◌, Option, Some, None, String}
use Rattle.std.specs.Borrow.{Bor}
use Rattle.std.specs.Map.Iter.{deref_pair}
use Rattle.std.specs.declared.alloc.Global.{Global}
use Rattle.serde_json.specs.declared.value.Value.{Value}
use Rattle.pb_reading.specs.declared.members.Members.{Members}

abbrev pub behind : {K X : Type 0} → Option (Bor K × Bor X) → List (K × X) → List (K × X)
behind None rest = []
behind (Some first) rest = deref_pair first ∷ rest

abbrev pub left : Members → List (String Global × Value)
left members = behind members.first members.rest
