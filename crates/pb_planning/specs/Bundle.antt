-- The plan of a bundle, or its first fault.
use Rattle.std.specs.Prelude.{◌≡◌, ◌⊎◌, ℕ, ◌+◌, Bool, true, ◌&&◌, ◌||◌, List, [], ◌∷◌, ◌++◌, map, length, replicate, nat_lt, nat_eq, Option, Some, None, Result, Ok, Err, codes, if◌then◌else◌}
use Rattle.std.specs.List.{list_any}
use Rattle.std.specs.Option.{option_map_or}
use Rattle.std.specs.Simd.Lanes.{zip2}
use Rattle.pb_value.specs.Limits.{max_bytes}
use Rattle.pb_value.specs.Reading.{and_then, map_ok}
use Rattle.pb_inventory.specs.InventoryOf.{InventoryOf}
use Rattle.pb_inventory.specs.Reading.{inventory_of}
use Rattle.pb_inventory.specs.Vars.{strangers}
use Rattle.pb_layers.specs.Scope.{Map}
use Rattle.pb_variables.specs.Extra.{extra_of}
use Rattle.pb_variables.specs.Magic.{plan_magic, play_magic}
use Rattle.pb_patterns.specs.Expressions.{AreTaken, IsFirstFault, behind}
use Rattle.pb_patterns.specs.Reading.{pattern_of, expressions_of}
use Rattle.pb_patterns.specs.declared.fault.PatFault.TheVariants.{BadRegex}
use Rattle.pb_written.specs.declared.fault.LoadFault.TheVariants.{BadPattern}
use Rattle.pb_patterns.specs.Selection.{IsSelection}
use Rattle.pb_patterns.specs.declared.element.Element.{Element}
use Rattle.pb_patterns.specs.declared.selected.Selected.{Selected}
use Rattle.pb_play_reading.specs.declared.playbook.Playbook.{Playbook}
use Rattle.pb_play_reading.specs.Playbooks.{playbook_of, expressions_of_book}
use Rattle.pb_play_reading.specs.Refusals.{Placed, met_behind, AllTaken, IsFirstFaultAt}
use Rattle.pb_roles.specs.Plays.{expansion_of}
use Rattle.pb_roles.specs.declared.files.RoleFile.{RoleFile}
use Rattle.pb_roles.specs.declared.sections.Expanded.{Expanded}
use Rattle.pb_planning.specs.Ignored.{ignored_lines}
use Rattle.pb_planning.specs.declared.bundle.Bundle.{Bundle}
use Rattle.pb_planning.specs.declared.bundle.BundleFault.{BundleFault}
use Rattle.pb_planning.specs.declared.bundle.BundleFault.TheVariants.{Inventory, Playbook as InPlaybook, Roles, Limit, Extra, BadForks, TooLarge}
use Rattle.pb_plan.specs.Plan.{PlayOf, PlanOf}

-- a fault of a part is a fault of the bundle
abbrev pub in_part : {A F : Type 0} → (F → BundleFault) → Result A F → Result A BundleFault
in_part of (Ok x) = Ok x
in_part of (Err e) = Err (of e)

-- a play with its roles, whose own hosts are these
abbrev pub play_with : InventoryOf → List Bool → Expanded → PlayOf
play_with inventory hosts play =
    record {
      name = play.name;
      tree = play.tree;
      places = play.places;
      hosts = hosts;
      strategy = play.strategy;
      serial = play.serial.entries;
      max_fail_percentage = play.max_fail_percentage;
      vars = play.vars;
      magic = play_magic inventory hosts;
    }

-- how many bytes a text has; 0 where none is given
abbrev pub bytes_in : Option (List ℕ) → ℕ
bytes_in given = option_map_or length given 0

-- the files of roles count with their paths
abbrev pub role_bytes : List RoleFile → ℕ
role_bytes [] = 0
role_bytes (file ∷ files) = length file.path + length file.bytes + role_bytes files

-- how large a bundle is: the bytes of all its files, of its limit and of its extra variables
abbrev pub bundle_bytes : Bundle → ℕ
bundle_bytes bundle = length bundle.inventory + length bundle.playbook + bytes_in bundle.limit + bytes_in bundle.extra + role_bytes bundle.roles.files

-- 1 to 256
abbrev pub are_bad_forks : ℕ → Bool
are_bad_forks forks = nat_eq forks 0 || nat_lt 256 forks

-- what the parts of a bundle say
pub record Readings : Type 0 where
  pub inventory : InventoryOf
  pub extra : Map
  -- the plays with their roles
  pub plays : List Expanded
  -- the elements of the pattern that the plays are limited to, if there is one
  pub limit : Option (List Element)

-- the elements of the pattern of a limit, or its fault; without a limit there are none
abbrev pub limit_of : Option (List ℕ) → Result (Option (List Element)) BundleFault
limit_of None = Ok None
limit_of (Some text) = in_part Limit (map_ok Some (pattern_of (text ∷ [])))

-- the regular expressions that are met in a limit
abbrev pub expressions_of_limit : Option (List ℕ) → List (List ℕ)
expressions_of_limit None = []
expressions_of_limit (Some text) = expressions_of (text ∷ [])

-- the extra variables, if there are some
abbrev pub extra_in : Option (List ℕ) → Result Map BundleFault
extra_in None = Ok []
extra_in (Some bytes) = in_part Extra (extra_of bytes)

-- an inventory and extra variables
pub record Variables : Type 0 where
  pub inventory : InventoryOf
  pub extra : Map

-- this inventory, with the extra variables of the bundle
abbrev pub varied : Bundle → InventoryOf → Result Variables BundleFault
varied bundle inventory = and_then (extra_in bundle.extra) (λ extra. Ok (record { inventory = inventory; extra = extra }))

-- what stands in front of the playbook: a bundle's size comes first, then its forks, the inventory and the extra variables
unfoldable pub variables_of : Bundle → Result Variables BundleFault
variables_of bundle =
    if nat_lt max_bytes (bundle_bytes bundle) then Err TooLarge
    else (if are_bad_forks bundle.forks then Err BadForks
    else and_then (in_part Inventory (inventory_of bundle.inventory)) (varied bundle))

-- the playbook, behind these
abbrev pub book_of : Bundle → Result Playbook BundleFault
book_of bundle = and_then (variables_of bundle) (λ _. in_part InPlaybook (playbook_of bundle.playbook))

-- what a bundle says whose variables and playbook are these, or the first fault: that of the limit comes before those of roles and trees
abbrev pub limited : Bundle → Variables → Playbook → Result Readings BundleFault
limited bundle variables book =
    and_then (limit_of bundle.limit) (λ elements.
    and_then (in_part Roles (expansion_of bundle.roles book.plays)) (λ plays.
    Ok (record { inventory = variables.inventory; extra = variables.extra; plays = plays; limit = elements })))

-- what a bundle says, or its first fault, where every regular expression is taken: behind the playbook come the limit, and the plays' roles and trees
abbrev pub readings_of : Bundle → Result Readings BundleFault
readings_of bundle = and_then (variables_of bundle) (λ variables. and_then (in_part InPlaybook (playbook_of bundle.playbook)) (limited bundle variables))

-- the regular expressions that are met in the plays' patterns: none, where a fault stands in front of the playbook
abbrev pub expressions_in_plays : Bundle → List Placed
expressions_in_plays bundle = met_behind (variables_of bundle) (λ _. expressions_of_book bundle.playbook)

-- those that are met in the limit: none, where a fault stands in front of it
abbrev pub expressions_in_limit : Bundle → List (List ℕ)
expressions_in_limit bundle = behind (book_of bundle) (λ _. expressions_of_limit bundle.limit)

-- the hosts that two patterns select
abbrev pub both : List Bool → List Bool → List Bool
both one other = zip2 (λ a b. a && b) one other

-- a limit selects the hosts of its pattern, and no limit selects all
abbrev pub IsLimit : InventoryOf → Option (List Element) → Selected → Type 0
IsLimit inventory None selected = selected ≡ record { hosts = replicate (length inventory.hosts) true; unmatched = [] }
IsLimit inventory (Some elements) selected = IsSelection inventory elements selected

-- a warning of an element of a pattern that selects no host, and one of the variables of a host that isn't there
abbrev pub unmatched_line : List ℕ → List ℕ
unmatched_line element = codes "warning: no host matches " ++ element

abbrev pub stranger_line : List ℕ → List ℕ
stranger_line name = codes "warning: no such host " ++ name

-- what is warned of in a play: elements of its pattern that select no host, and then keys that its strategy ignores
abbrev pub lines_of_play : List (List ℕ) → Expanded → List (List ℕ)
lines_of_play unmatched play = map unmatched_line unmatched ++ ignored_lines play.strategy play.linear_keys

-- a play has the hosts that its own pattern and the limit select, and these lines
abbrev pub IsPlayOf : InventoryOf → List Bool → Expanded → PlayOf → List (List ℕ) → Type 0
IsPlayOf inventory limit play planned lines =
    (own : Selected) × IsSelection inventory play.hosts own × (planned ≡ play_with inventory (both own.hosts limit) play) × (lines ≡ lines_of_play own.unmatched play)

-- so it is with each play in its order, and as many are planned; the lines of all stand one behind another
abbrev pub ArePlaysOf : InventoryOf → List Bool → List Expanded → List PlayOf → List (List ℕ) → Type 0
ArePlaysOf inventory limit [] [] lines = lines ≡ []
ArePlaysOf inventory limit [] (planned ∷ rest) lines = ⊥
ArePlaysOf inventory limit (play ∷ plays) [] lines = ⊥
ArePlaysOf inventory limit (play ∷ plays) (planned ∷ rest) lines =
    (first : List (List ℕ)) × (later : List (List ℕ)) × IsPlayOf inventory limit play planned first × ArePlaysOf inventory limit plays rest later × (lines ≡ first ++ later)

-- a plan of an inventory, extra variables, a limit's elements and the plays of a playbook: the hosts, the plays with their hosts, the forks, whether there is a facts
-- program, the variables, and what is warned of, of the inventory, of the limit, and of each play
pub record IsPlanIn (inventory : InventoryOf) (extra : Map) (limit : Option (List Element)) (forks : ℕ) (has_facts_program : Bool) (book : List Expanded) (plan : PlanOf) : Type 0 where
  pub selected : Selected
  pub lines : List (List ℕ)
  pub limited : IsLimit inventory limit selected
  pub plays : ArePlaysOf inventory selected.hosts book plan.plays lines
  pub has_forks : plan.forks ≡ forks
  pub has_program : plan.has_facts_program ≡ has_facts_program
  pub has_inventory : plan.inventory ≡ inventory
  pub has_extra : plan.extra ≡ extra
  pub has_magic : plan.magic ≡ plan_magic inventory
  pub warnings : plan.warnings ≡ map stranger_line (strangers inventory) ++ map unmatched_line selected.unmatched ++ lines

-- the plan of a bundle that has no fault: each regular expression in it is taken, and the plan is that of what it says
pub record IsPlanOf (bundle : Bundle) (plan : PlanOf) : Type 0 where
  pub readings : Readings
  pub plays_taken : AllTaken (expressions_in_plays bundle)
  pub limit_taken : AreTaken (expressions_in_limit bundle)
  pub read : readings_of bundle ≡ Ok readings
  pub planned : IsPlanIn readings.inventory readings.extra readings.limit bundle.forks bundle.has_facts_program readings.plays plan

-- hosts of a play that are no pattern
abbrev pub bad_hosts : List ℕ → BundleFault
bad_hosts path = InPlaybook (BadPattern path)

-- the first fault of a playbook, and of a limit, as faults of a bundle
abbrev pub IsPlaybookFault : List ℕ → BundleFault → Type 0
IsPlaybookFault bytes fault = IsFirstFaultAt (expressions_of_book bytes) (in_part InPlaybook (playbook_of bytes)) bad_hosts fault

abbrev pub IsLimitFault : Option (List ℕ) → BundleFault → Type 0
IsLimitFault limit fault = IsFirstFault (expressions_of_limit limit) (limit_of limit) (Limit BadRegex) fault

-- The first fault of a bundle: it is met up to the end of the playbook; or the expressions of the plays are taken, and it is the first fault of all.
abbrev pub IsBundleFault : Bundle → BundleFault → Type 0
IsBundleFault bundle fault =
    IsFirstFaultAt (expressions_in_plays bundle) (book_of bundle) bad_hosts fault
    ⊎ (AllTaken (expressions_in_plays bundle) × IsFirstFault (expressions_in_limit bundle) (readings_of bundle) (Limit BadRegex) fault)

-- a bundle has no more than one plan
abbrev pub PlansAreOne : Type 0
PlansAreOne = (bundle : Bundle) (one other : PlanOf) → IsPlanOf bundle one → IsPlanOf bundle other → one ≡ other

-- and bundles that differ in forks alone have plans that do
abbrev pub with_forks : ℕ → Bundle → Bundle
with_forks forks bundle = record bundle { forks = forks }

abbrev pub ForksAreApart : Type 0
ForksAreApart = (bundle : Bundle) (forks : ℕ) (one other : PlanOf) → IsPlanOf bundle one → IsPlanOf (with_forks forks bundle) other → other ≡ record one { forks = forks }
