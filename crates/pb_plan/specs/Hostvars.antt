-- Variables in whose texts `hostvars` doesn't stand: what tells before a run that no task looks it up through them. What hosts learn in the run has no
-- part in that, since its texts are no templates (Ansible's documentation, "Special variables").
use Rattle.std.specs.Prelude.{◌≡◌, ℕ, Bool, true, false, List, All, slice_get, Some, IfSome, codes}
use Rattle.pb_ids.specs.declared.numbers.GroupNo.{GroupNo}
use Rattle.pb_inventory.specs.InventoryOf.{InventoryOf}
use Rattle.pb_inventory.specs.Vars.{vars_from_groups, vars_of_group, vars_of_host}
use Rattle.pb_inventory.specs.declared.vars.Variable.{Variable}
use Rattle.pb_layers.specs.Scope.{Map}
use Rattle.pb_places.specs.Place.{PlaceOf}
use Rattle.pb_mentions.specs.Mentions.{mentions}
pub use Rattle.pb_mentions.specs.Hostvars.{IsFree}
pub use Rattle.pb_places.specs.Hostvars.{IsFreeRole, IsFreePlace}

-- in no variable that a task has at its place, nor in one of its play
abbrev pub IsFreeAt : Map → List PlaceOf → ℕ → Type 0
IsFreeAt vars places p = IsFree vars × IfSome (slice_get places p) IsFreePlace

-- so it is with the places that are marked
abbrev pub AreFreePlaces : Map → List PlaceOf → List Bool → Type 0
AreFreePlaces vars places marked = (p : ℕ) → slice_get marked p ≡ Some true → IsFreeAt vars places p

-- in none of a group itself
abbrev pub IsFreeGroup : List Variable → Type 0
IsFreeGroup vars = All (λ (v : Variable). mentions (codes "hostvars") v.value ≡ false) vars

-- so it is with the groups that are marked
abbrev pub AreFreeGroups : InventoryOf → List Bool → Type 0
AreFreeGroups inventory marked = (group : ℕ) → slice_get marked group ≡ Some true → IsFreeGroup (vars_of_group inventory group)

-- all of these groups are marked; a group past the end of the marks isn't
abbrev pub AreMarked : List Bool → List GroupNo → Type 0
AreMarked marked groups = All (λ (g : GroupNo). slice_get marked g.0 ≡ Some true) groups

-- in no variable of a host, in none from its groups, and in no extra one
pub record IsFreeHost (inventory : InventoryOf) (extra : Map) (host : ℕ) : Type 0 where
  pub extras : IsFree extra
  pub groups : IsFree (vars_from_groups inventory host)
  pub own : IsFree (vars_of_host inventory host)

-- so it is with the hosts that are marked
abbrev pub AreFreeHosts : InventoryOf → Map → List Bool → Type 0
AreFreeHosts inventory extra marked = (host : ℕ) → slice_get marked host ≡ Some true → IsFreeHost inventory extra host
