-- Where the fault of a bundle stands.
use Rattle.std.specs.Prelude.{ℕ, Bool, List, ◌++◌, Option, None, codes, option_map, if◌then◌else◌}
use Rattle.pb_planning.specs.declared.bundle.BundleFault.{BundleFault}
use Rattle.pb_planning.specs.declared.bundle.BundleFault.TheVariants as bundle
use Rattle.pb_roles.specs.declared.fault.RoleFault.{RoleFault}
use Rattle.pb_roles.specs.declared.fault.RoleFault.TheVariants as role
use Rattle.pb_written.specs.Faults.{place_of}

-- a place in the file of a role at this path
abbrev pub in_role : (path place : List ℕ) → List ℕ
in_role path place = path ++ codes " " ++ place

-- of a fault of roles: only one that stands in a role's file has a place, and not each of these
abbrev pub place_of_role : RoleFault → Option (List ℕ)
place_of_role (role.Load path fault) = option_map (in_role path) (place_of fault)
place_of_role (role.Unknown name) = None
place_of_role role.Cycle = None
place_of_role role.Memory = None
place_of_role role.TooLarge = None

-- in the playbook, or in a role's file
abbrev pub place_in : BundleFault → Option (List ℕ)
place_in (bundle.Playbook fault) = place_of fault
place_in (bundle.Roles fault) = place_of_role fault
place_in (bundle.Inventory fault) = None
place_in (bundle.Limit fault) = None
place_in (bundle.Extra fault) = None
place_in bundle.BadForks = None
place_in bundle.TooLarge = None
place_in bundle.Memory = None

-- where that is asked for
abbrev pub place_if : (places : Bool) → BundleFault → Option (List ℕ)
place_if places fault = if places then place_in fault else None
