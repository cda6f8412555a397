-- Worked examples: each is proved by computing both sides.
use Rattle.std.specs.Prelude.{◌≡◌, true, false, [], ◌∷◌, codes, refl}
use Rattle.pb_value.specs.Datum.{text, list, dict, items_of, members_of}
use Rattle.pb_mentions.specs.Hostvars.{IsFree}
use Rattle.pb_mentions.specs.Mentions.{has_inside, mentions}

-- the bytes are searched, whatever they mean
in_front : has_inside (codes "groups") (codes "groups.web") ≡ true
in_front = refl

in_a_longer_name : has_inside (codes "groups") (codes "{{ my_groups }}") ≡ true
in_a_longer_name = refl

begun_alone : has_inside (codes "groups") (codes "{{ group }}") ≡ false
begun_alone = refl

-- of a dict its values, and not its names
in_a_list : mentions (codes "x") (list (items_of (text (codes "a") ∷ text (codes "{{ x }}") ∷ []))) ≡ true
in_a_list = refl

under_its_own_name : mentions (codes "x") (dict (members_of ((codes "x", text (codes "a")) ∷ []))) ≡ false
under_its_own_name = refl

-- the word stands in a name, and in no value
plain : IsFree ((codes "hostvars", text (codes "{{ x }}")) ∷ [])
plain = refl
