-- Worked examples: each is proved by computing both sides.
use Rattle.std.specs.Prelude.{◌≡◌, refl, ℕ, pos, true, false, List, [], ◌∷◌, Some, None, Ok, Err, codes}
use Rattle.serde_json.specs.Data as json
use Rattle.pb_value.specs.Datum.{Datum, int, text, list, dict, items_of, members_of}
use Rattle.pb_value.specs.FromJson.{value_of}
use Rattle.pb_facts.specs.Facts.{FactsOf, gathered_layer}
use Rattle.pb_groups.specs.Members.{own_of as own}
use Rattle.pb_groups.specs.Ways.{link}
use Rattle.pb_inventory.specs.InventoryOf.{InventoryOf}
use Rattle.pb_variables.specs.Between.{put_names, put_facts, with_all}
use Rattle.pb_variables.specs.Connector.{connector_of, connector_in}
use Rattle.pb_variables.specs.Extra.{variables_in}
use Rattle.pb_variables.specs.Magic.{hostvars, plan_magic, play_magic, host_magic}
use Rattle.pb_variables.specs.Shared.{numbers_of_host, with_names}
use Rattle.pb_variables.specs.Weight.{weight, kept_weight}
use Rattle.pb_variables.specs.declared.fault.ExtraFault.TheVariants.{WrongShape}

-- {"_x":"{{","y2":1}: a text is kept as it stands
pub texts_stay : variables_in (json.object (json.member (codes "_x") (json.string (codes "{{")) (json.member (codes "y2") (json.number (json.unsigned 1)) json.no_members)))
    ≡ Ok ((codes "_x", text (codes "{{")) ∷ (codes "y2", int (pos 1)) ∷ [])
unfolding value_of
texts_stay = refl

-- {"1x":18446744073709551615,"y":1}: the key is looked at before its value
pub no_name : variables_in (json.object (json.member (codes "1x") (json.number (json.unsigned 18446744073709551615)) (json.member (codes "y") (json.number (json.unsigned 1)) json.no_members)))
    ≡ Err (WrongShape (codes "1x"))
no_name = refl

-- {"x":18446744073709551615,"y-z":1}: the first fault counts
pub no_value : variables_in (json.object (json.member (codes "x") (json.number (json.unsigned 18446744073709551615)) (json.member (codes "y-z") (json.number (json.unsigned 1)) json.no_members)))
    ≡ Err (WrongShape (codes "x"))
unfolding value_of
no_value = refl

-- {"a":null,"b1":[{}],"y z":1}: all keys at once, of which the last is no name
pub last_fault : variables_in (json.object (json.member (codes "a") json.null (json.member (codes "b1") (json.array (json.item (json.object json.no_members) json.no_items)) (json.member (codes "y z") (json.number (json.unsigned 1)) json.no_members))))
    ≡ Err (WrongShape (codes "y z"))
unfolding value_of
last_fault = refl

-- {"":1}: the empty key stands at the empty path
pub empty_key : variables_in (json.object (json.member [] (json.number (json.unsigned 1)) json.no_members)) ≡ Err (WrongShape [])
empty_key = refl

-- []
pub no_object : variables_in (json.array json.no_items) ≡ Err (WrongShape [])
no_object = refl

-- hosts b and a, of which a is in `web`; `web` has x 1 and y 1, and a has y 2
abbrev pub two_hosts : InventoryOf
two_hosts = record {
  hosts = codes "b" ∷ codes "a" ∷ [];
  groups = codes "all" ∷ codes "ungrouped" ∷ codes "web" ∷ [];
  own = own 2 1 ∷ own 0 0 ∷ own 0 1 ∷ own 1 0 ∷ [];
  links = link 0 1 ∷ link 0 2 ∷ [];
  group_vars =
      (codes "web", record { priority = pos 1; vars = record { name = codes "x"; value = int (pos 1) } ∷ record { name = codes "y"; value = int (pos 1) } ∷ [] }) ∷ [];
  host_vars = (codes "a", (codes "y", int (pos 2)) ∷ []) ∷ [];
}

abbrev pub row : List Datum → Datum
row values = list (items_of values)

abbrev pub map_of : List (List ℕ × Datum) → Datum
map_of entries = dict (members_of entries)

-- names stand in byte order, and hosts of a group in the order of their numbers
pub magic_of_plan : plan_magic two_hosts
    ≡ (
      codes "groups",
      map_of (
          (codes "all", row (text (codes "b") ∷ text (codes "a") ∷ []))
          ∷ (codes "ungrouped", row (text (codes "b") ∷ []))
          ∷ (codes "web", row (text (codes "a") ∷ []))
          ∷ []),
    )
    ∷ []
unfolding plan_magic
magic_of_plan = refl

-- the extra variable x 3 is over the group's, on each host
pub hostvars_at_first : hostvars two_hosts ((codes "x", int (pos 3)) ∷ []) []
    ≡ map_of ((codes "a", map_of ((codes "x", int (pos 3)) ∷ (codes "y", int (pos 2)) ∷ [])) ∷ (codes "b", map_of ((codes "x", int (pos 3)) ∷ [])) ∷ [])
unfolding hostvars
hostvars_at_first = refl

-- what a host has learnt is over its own variables, what was set over what was gathered, and no other host has it
abbrev pub two_learnt : List FactsOf
two_learnt =
    record { gathered = None; set = [] }
    ∷ record { gathered = Some ((codes "y", int (pos 4)) ∷ (codes "z", int (pos 5)) ∷ []); set = (codes "z", int (pos 6)) ∷ [] } ∷ []

pub hostvars_that_learnt : hostvars two_hosts [] two_learnt
    ≡ map_of ((
      codes "a",
      map_of (
          (codes "ansible_facts", map_of ((codes "y", int (pos 4)) ∷ (codes "z", int (pos 5)) ∷ []))
          ∷ (codes "x", int (pos 1))
          ∷ (codes "y", int (pos 4))
          ∷ (codes "z", int (pos 6))
          ∷ []),
    )
    ∷ (codes "b", map_of [])
    ∷ [])
unfolding hostvars
hostvars_that_learnt = refl

-- of two names that were learnt one has an extra variable, which stays
pub learnt_below_extra : put_names
    ((codes "x", int (pos 3)) ∷ [])
    ((codes "x", int (pos 1)) ∷ (codes "y", int (pos 2)) ∷ [])
    ((codes "x", None) ∷ (codes "y", None) ∷ [])
    ((codes "x", int (pos 3)) ∷ [])
    ≡ (codes "x", int (pos 3)) ∷ (codes "y", int (pos 2)) ∷ []
learnt_below_extra = refl

-- a name that was learnt twice has the value of the second time
pub learnt_twice : put_names [] ((codes "x", int (pos 2)) ∷ []) ((codes "x", None) ∷ (codes "x", Some (int (pos 1))) ∷ []) [] ≡ (codes "x", int (pos 2)) ∷ []
learnt_twice = refl

-- of three facts one has an extra variable, and one the name of what was set, which stay; all three stand in `ansible_facts`
abbrev pub three_facts : List (List ℕ × Datum)
three_facts = (codes "x", int (pos 1)) ∷ (codes "y", int (pos 1)) ∷ (codes "z", int (pos 1)) ∷ []

pub gathered_below_set : put_facts
    ((codes "x", int (pos 3)) ∷ [])
    ((codes "y", int (pos 2)) ∷ [])
    (gathered_layer (Some three_facts))
    (with_all ((codes "x", None) ∷ (codes "y", None) ∷ (codes "z", None) ∷ []))
    ((codes "x", int (pos 3)) ∷ (codes "y", int (pos 2)) ∷ [])
    ≡ (codes "ansible_facts", map_of three_facts) ∷ (codes "x", int (pos 3)) ∷ (codes "y", int (pos 2)) ∷ (codes "z", int (pos 1)) ∷ []
gathered_below_set = refl

-- a fact that is gathered again has the new value, in `ansible_facts`, too
pub gathered_again : put_facts
    []
    []
    (gathered_layer (Some ((codes "x", int (pos 2)) ∷ [])))
    (with_all ((codes "x", Some (int (pos 1))) ∷ []))
    (gathered_layer (Some ((codes "x", int (pos 1)) ∷ [])))
    ≡ gathered_layer (Some ((codes "x", int (pos 2)) ∷ []))
gathered_again = refl

pub magic_of_play : play_magic two_hosts (true ∷ false ∷ []) ≡ (codes "ansible_play_hosts_all", row (text (codes "b") ∷ [])) ∷ []
unfolding play_magic
magic_of_play = refl

-- `ungrouped` is a group like another, and `all` isn't listed
pub magic_of_host : host_magic two_hosts 0 ≡ (codes "group_names", row (text (codes "ungrouped") ∷ [])) ∷ (codes "inventory_hostname", text (codes "b")) ∷ []
unfolding host_magic
magic_of_host = refl

-- a host's own connector stands before its group's, and a list with another value than texts, or another value than a list, is none
abbrev pub connected : Datum → InventoryOf
connected value = record {
  hosts = codes "b" ∷ codes "a" ∷ [];
  groups = codes "all" ∷ codes "ungrouped" ∷ codes "web" ∷ [];
  own = own 2 1 ∷ own 2 0 ∷ own 0 0 ∷ own 0 1 ∷ [];
  links = link 0 1 ∷ link 0 2 ∷ [];
  group_vars =
      (codes "web", record { priority = pos 1; vars = record { name = codes "pb_connector"; value = row (text (codes "far") ∷ text (codes "-x") ∷ []) } ∷ [] }) ∷ [];
  host_vars = (codes "a", (codes "pb_connector", value) ∷ []) ∷ [];
}

pub connector_of_group : connector_of (connected (row [])) 0 ≡ codes "far" ∷ codes "-x" ∷ []
connector_of_group = refl

pub own_connector : connector_of (connected (row (text (codes "near") ∷ []))) 1 ≡ codes "near" ∷ []
own_connector = refl

pub no_connector : connector_of (connected (int (pos 1))) 1 ≡ []
no_connector = refl

pub no_texts : connector_of (connected (row (text (codes "near") ∷ int (pos 1) ∷ []))) 1 ≡ []
no_texts = refl

pub no_words : connector_of (connected (row [])) 1 ≡ []
no_words = refl

pub own_before_groups : connector_in ((codes "pb_connector", row []) ∷ []) ((codes "pb_connector", row (text (codes "far") ∷ [])) ∷ []) ≡ []
own_before_groups = refl

-- b is in `all` and in `ungrouped`, a in `all` and in `web`: variables of groups that lie deeper come later
pub numbers_of_first : numbers_of_host two_hosts 0 ≡ 0 ∷ 1 ∷ []
numbers_of_first = refl

pub numbers_of_second : numbers_of_host two_hosts 1 ≡ 0 ∷ 2 ∷ []
numbers_of_second = refl

-- a list, the text in it, and the two bytes of that
pub weight_of_list : weight (row (text (codes "ab") ∷ [])) ≡ 130
weight_of_list = refl

-- two groups, a name of one byte with its value, and the list of one name of three
pub weight_of_kept : kept_weight (0 ∷ 2 ∷ []) (with_names ((codes "x", int (pos 1)) ∷ []) (codes "web" ∷ [])) ≡ 1292
weight_of_kept = refl
