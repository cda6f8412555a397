-- Names and switches, as texts.
use Rattle.std.specs.Prelude.{ℕ, Bool, true, false, ◌||◌, ◌&&◌, ◌==◌, List, [], ◌∷◌, Option, Some, None, codes, if◌then◌else◌}
use Rattle.std.specs.Char.{is_ascii_alphabetic, is_ascii_alphanumeric}
use Rattle.std.specs.List.{list_all}
use Rattle.std.specs.Str.{str_eq_ignore_ascii_case}
use Rattle.serde_json.specs.Data as json

-- what a name begins with, and what it goes on with: letters and digits of ASCII, and `_`
abbrev pub begins_name : ℕ → Bool
begins_name b = is_ascii_alphabetic b || b == 95

abbrev pub continues_name : ℕ → Bool
continues_name b = is_ascii_alphanumeric b || b == 95

-- the name of a variable, as Ansible's documentation has it ("Creating valid variable names")
abbrev pub is_name : List ℕ → Bool
is_name [] = false
is_name (b ∷ bs) = begins_name b && list_all continues_name bs

-- the words that YAML reads as a Boolean, in any case of their letters
abbrev pub is_on : List ℕ → Bool
is_on s = str_eq_ignore_ascii_case s (codes "yes") || str_eq_ignore_ascii_case s (codes "true") || str_eq_ignore_ascii_case s (codes "on")

abbrev pub is_off : List ℕ → Bool
is_off s = str_eq_ignore_ascii_case s (codes "no") || str_eq_ignore_ascii_case s (codes "false") || str_eq_ignore_ascii_case s (codes "off")

-- the Boolean that such a word stands for; no other text stands for one
abbrev pub switch_word : List ℕ → Option Bool
switch_word s = if is_on s then Some true else if is_off s then Some false else None

-- whether a switch is on: a Boolean, or one of these words
abbrev pub switch_of : json.Data → Option Bool
switch_of (json.boolean b) = Some b
switch_of (json.string s) = switch_word s
switch_of d = None
