-- The tag `never` among the tags of a play or a task. See Ansible's documentation, "Tags".
use Rattle.std.specs.Prelude.{ℕ, Bool, true, false, ◌||◌, ◌&&◌, ◌==◌, List, [], ◌∷◌, codes, drop, nat_eq}
use Rattle.std.specs.List.{starts_with}
use Rattle.serde_json.specs.Data as json

-- a tag ends here: at the text's end or at a comma, perhaps behind spaces
abbrev pub ends_tag : List ℕ → Bool
ends_tag [] = true
ends_tag (b ∷ bs) = b == 44 || (b == 32 && ends_tag bs)

-- the tag `never` stands at the front, and no more of a tag
abbrev pub is_never : List ℕ → Bool
is_never bs = starts_with nat_eq bs (codes "never") && ends_tag (drop 5 bs)

-- the tag `never` is among the tags of a text, which have commas between them; the flag says whether a tag may begin here:
-- it may at the text's front, behind a comma, and behind spaces that stand there
abbrev pub never_from : Bool → List ℕ → Bool
never_from begins [] = false
never_from begins (b ∷ bs) = (begins && is_never (b ∷ bs)) || never_from (b == 44 || (begins && b == 32)) bs

-- whether the tag `never` is in a value that is a text; false for any other value, a list too
abbrev pub is_never_text : json.Data → Bool
is_never_text (json.string s) = never_from true s
is_never_text d = false

-- whether the tag is in one of these values that is a text
abbrev pub some_never : json.Items → Bool
some_never json.no_items = false
some_never (json.item d ds) = is_never_text d || some_never ds

-- what has the tag `never` is run only where that tag is asked for; tags are a text, or a list of texts
abbrev pub has_never : json.Data → Bool
has_never (json.array ds) = some_never ds
has_never d = is_never_text d
