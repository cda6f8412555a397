-- Worked patterns.
use Rattle.std.specs.Prelude.{◌≡◌, refl, ℕ, Bool, true, false, List, [], ◌∷◌, map, length, Some, None, Result, Ok, Err, codes}
use Rattle.std.specs.Str.{chars}
use Rattle.pb_value.specs.Reading.{map_ok}
use Rattle.pb_groups.specs.Members.{own_of as own}
use Rattle.pb_groups.specs.MemberSets.{members_of}
use Rattle.pb_groups.specs.Ways.{link}
use Rattle.pb_inventory.specs.InventoryOf.{InventoryOf}
use Rattle.pb_patterns.specs.declared.element.Element.{Element}
use Rattle.pb_patterns.specs.declared.element.Mark.TheVariants.{Unmarked, Met, Excluded}
use Rattle.pb_patterns.specs.declared.element.What.{What}
use Rattle.pb_patterns.specs.declared.element.What.TheVariants as what
use Rattle.pb_patterns.specs.declared.element.Subscript.TheVariants.{Between}
use Rattle.pb_patterns.specs.declared.fault.PatFault.{PatFault}
use Rattle.pb_patterns.specs.declared.fault.PatFault.TheVariants.{Empty, BadSubscript}
use Rattle.pb_patterns.specs.declared.selected.Selected.{Selected}
use Rattle.pb_patterns.specs.Globs.{glob}
use Rattle.pb_patterns.specs.Reading.{pattern_of, expressions_of}
use Rattle.pb_patterns.specs.Selection.{Part, selection}
use Rattle.pb_patterns.specs.Sets.{set_of, starts}
use Rattle.regex.specs.Patterns.{alt, literal, find_str}
use Rattle.regex_hir.specs.Find.{first_from}
use Rattle.regex_hir.specs.Re.{attempt}
use Rattle.regex_hir.specs.Text.{is_boundary, has_bytes_at}

-- what a text without regular expressions selects
abbrev set_in : InventoryOf → What → List Bool
set_in inventory (what.Term term subscript) = set_of inventory term subscript
set_in inventory (what.Regex source) = []

abbrev part_in : InventoryOf → Element → Part
part_in inventory e = record { text = e.text; mark = e.mark; set = set_in inventory e.what }

abbrev pub selects : InventoryOf → List ℕ → Result Selected PatFault
selects inventory text = map_ok (λ es. selection (length inventory.hosts) (map (part_in inventory) es)) (pattern_of (text ∷ []))

abbrev pub chosen : List Bool → Result Selected PatFault
chosen hosts = Ok (record { hosts = hosts; unmatched = [] })

-- groups a = [h1,h2,h3], b = [h4,h5], c = [h1,h3,h4,h5], d = [h3], e = [h5]
abbrev pub five_groups : InventoryOf
five_groups = record {
  hosts = codes "h1" ∷ codes "h2" ∷ codes "h3" ∷ codes "h4" ∷ codes "h5" ∷ [];
  groups = codes "a" ∷ codes "b" ∷ codes "c" ∷ codes "d" ∷ codes "e" ∷ [];
  own = own 0 0 ∷ own 0 1 ∷ own 0 2 ∷ own 1 3 ∷ own 1 4 ∷ own 2 0 ∷ own 2 2 ∷ own 2 3 ∷ own 2 4 ∷ own 3 2 ∷ own 4 4 ∷ [];
  links = [];
  group_vars = [];
  host_vars = [];
}

pub marks_first : selects five_groups (codes "!e:a:!d:&c:b") ≡ chosen (true ∷ false ∷ false ∷ true ∷ false ∷ [])
unfolding pattern_of members_of
marks_first = refl

pub marks_last : selects five_groups (codes "a:b:&c:!d:!e") ≡ chosen (true ∷ false ∷ false ∷ true ∷ false ∷ [])
unfolding pattern_of members_of
marks_last = refl

pub no_unmarked : selects five_groups (codes "&c:!d") ≡ chosen (true ∷ false ∷ false ∷ true ∷ true ∷ [])
unfolding pattern_of members_of
no_unmarked = refl

pub excluded_first : selects five_groups (codes "!d:a") ≡ chosen (true ∷ true ∷ false ∷ false ∷ false ∷ [])
unfolding pattern_of members_of
excluded_first = refl

-- web = [a,b,c], in an inventory whose hosts were mentioned in another order
abbrev pub web : InventoryOf
web = record { hosts = codes "c" ∷ codes "a" ∷ codes "b" ∷ []; groups = codes "web" ∷ []; own = own 0 1 ∷ own 0 2 ∷ own 0 0 ∷ []; links = []; group_vars = []; host_vars = [] }

pub range : selects web (codes "web[0:1]") ≡ chosen (false ∷ true ∷ true ∷ [])
unfolding pattern_of members_of
range = refl

pub last : selects web (codes "web[-1]") ≡ chosen (true ∷ false ∷ false ∷ [])
unfolding pattern_of members_of
last = refl

pub open_range : selects web (codes "web[1:]") ≡ chosen (true ∷ false ∷ true ∷ [])
unfolding pattern_of members_of
open_range = refl

pub out_of_range : selects web (codes "web[5:9] ,web[-4]") ≡ Ok (record { hosts = false ∷ false ∷ false ∷ []; unmatched = codes "web[5:9]" ∷ codes "web[-4]" ∷ [] })
unfolding pattern_of members_of
out_of_range = refl

pub unknown : selects web (codes "a: x : &b") ≡ Ok (record { hosts = false ∷ false ∷ false ∷ []; unmatched = codes "x" ∷ [] })
unfolding pattern_of members_of
unknown = refl

-- a subscript on names with `*` counts in the order of hosts
pub wild : selects web (codes "*[0]") ≡ chosen (true ∷ false ∷ false ∷ [])
unfolding pattern_of members_of glob chars
wild = refl

pub one_sign : glob (codes "w?b*") (codes "web1") ≡ true
unfolding glob chars
one_sign = refl

pub no_sign_left : glob (codes "w?b") (codes "wb") ≡ false
unfolding glob chars
no_sign_left = refl

-- a child's hosts belong to the group, behind its own in a subscript
pub child_behind : selects (record { hosts = codes "a" ∷ codes "b" ∷ codes "c" ∷ []; groups = codes "x" ∷ codes "y" ∷ []; own = own 0 2 ∷ own 1 1 ∷ own 1 0 ∷ []; links = link 0 1 ∷ []; group_vars = []; host_vars = [] }) (codes "x[1]")
    ≡ chosen (true ∷ false ∷ false ∷ [])
unfolding pattern_of members_of
child_behind = refl

-- an element's text is trimmed and has its mark; what stands behind the mark isn't trimmed
pub spaces : pattern_of (codes " & a ,!b[0:1]:" ∷ [])
    ≡ Ok (record { text = codes "& a"; mark = Met; what = what.Term (codes " a") None } ∷ record { text = codes "!b[0:1]"; mark = Excluded; what = what.Term (codes "b") (Some (Between 0 1)) } ∷ [])
unfolding pattern_of
spaces = refl

pub brackets : pattern_of (codes "web[x]" ∷ []) ≡ Err BadSubscript
unfolding pattern_of
brackets = refl

pub brackets_alone : pattern_of (codes "[0]" ∷ []) ≡ Err BadSubscript
unfolding pattern_of
brackets_alone = refl

pub mark_alone : pattern_of (codes "!" ∷ []) ≡ Err Empty
unfolding pattern_of
mark_alone = refl

pub nothing : pattern_of (codes ", ," ∷ []) ≡ Err Empty
unfolding pattern_of
nothing = refl

-- of several texts one may be empty
pub together : pattern_of (codes " " ∷ codes "~b|c" ∷ []) ≡ Ok (record { text = codes "~b|c"; mark = Unmarked; what = what.Regex (codes "b|c") } ∷ [])
unfolding pattern_of
together = refl

-- the expressions that are met, up to the first fault
pub met : expressions_of (codes "a,~(,!~b|c" ∷ codes "&~d" ∷ []) ≡ codes "(" ∷ codes "b|c" ∷ codes "d" ∷ []
unfolding expressions_of
met = refl

pub met_first : expressions_of (codes "~(,a],~b" ∷ []) ≡ codes "(" ∷ []
unfolding expressions_of
met_first = refl

-- `~b|c` means what begins with b or c, and not what has one of them further on
pub matched : map (starts (alt (literal (codes "b")) (literal (codes "c")))) (codes "a" ∷ codes "b" ∷ codes "c1" ∷ codes "ab" ∷ []) ≡ false ∷ true ∷ true ∷ false ∷ []
unfolding find_str first_from is_boundary attempt has_bytes_at
matched = refl
