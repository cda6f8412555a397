-- The elements that texts spell, or the first fault in them. (Ansible's documentation, "Patterns: targeting hosts and groups".)
use Rattle.std.specs.Prelude.{ℕ, Bool, false, ◌||◌, ◌==◌, List, [], ◌∷◌, ◌++◌, Result, Ok, Err, length, drop, if◌then◌else◌}
use Rattle.std.specs.List.{flat_map}
use Rattle.pb_value.specs.Reading.{and_then, map_ok}
use Rattle.pb_patterns.specs.Expressions.{behind}
use Rattle.pb_patterns.specs.Spelling.{spelt}
use Rattle.pb_patterns.specs.Subscripts.{term_of}
use Rattle.pb_patterns.specs.declared.element.Element.{Element}
use Rattle.pb_patterns.specs.declared.element.Mark.{Mark}
use Rattle.pb_patterns.specs.declared.element.Mark.TheVariants.{Unmarked, Met, Excluded}
use Rattle.pb_patterns.specs.declared.element.What.{What}
use Rattle.pb_patterns.specs.declared.element.What.TheVariants.{Regex}
use Rattle.pb_patterns.specs.declared.fault.PatFault.{PatFault}
use Rattle.pb_patterns.specs.declared.fault.PatFault.TheVariants.{Empty}

-- `&` or `!` in front marks an element
abbrev pub mark_of : List ℕ → Mark
mark_of [] = Unmarked
mark_of (b ∷ bs) = if b == 38 then Met else (if b == 33 then Excluded else Unmarked)

-- what stands behind the mark; all of the text where it has none
abbrev pub behind_mark : List ℕ → List ℕ
behind_mark [] = []
behind_mark (b ∷ bs) = if b == 38 || b == 33 then bs else b ∷ bs

-- behind `~` stands a regular expression
abbrev pub is_regex : List ℕ → Bool
is_regex [] = false
is_regex (b ∷ bs) = b == 126

-- what an element's text behind its mark means, or the fault in it; an empty text is a fault
abbrev pub what_of : List ℕ → Result What PatFault
what_of text = if length text == 0 then Err Empty else (if is_regex text then Ok (Regex (drop 1 text)) else term_of text)

-- the element that a text spells, with its mark
abbrev pub element_of : List ℕ → Result Element PatFault
element_of text = map_ok (λ what. record { text = text; mark = mark_of text; what = what }) (what_of (behind_mark text))

-- the elements that these texts spell, in order, or the first fault in them
abbrev pub each_of : List (List ℕ) → Result (List Element) PatFault
each_of [] = Ok []
each_of (text ∷ texts) = and_then (element_of text) (λ e. and_then (each_of texts) (λ es. Ok (e ∷ es)))

-- there has to be an element
abbrev pub elements_of : List (List ℕ) → Result (List Element) PatFault
elements_of [] = Err Empty
elements_of (text ∷ texts) = each_of (text ∷ texts)

-- the elements of a pattern that is given by several texts, taken together, where every regular expression is taken
unfoldable pub pattern_of : List (List ℕ) → Result (List Element) PatFault
pattern_of texts = elements_of (flat_map spelt texts)

-- the regular expression of what stands behind a mark, if it is one
abbrev pub expression_in : List ℕ → List (List ℕ)
expression_in text = if is_regex text then drop 1 text ∷ [] else []

-- the regular expressions of elements with these texts, in their order, up to the first fault
abbrev pub each_expression : List (List ℕ) → List (List ℕ)
each_expression [] = []
each_expression (text ∷ texts) = expression_in (behind_mark text) ++ behind (element_of text) (λ _. each_expression texts)

-- those of a pattern that is given by several texts
unfoldable pub expressions_of : List (List ℕ) → List (List ℕ)
expressions_of texts = each_expression (flat_map spelt texts)
