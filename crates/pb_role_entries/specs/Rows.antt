-- Worked role entries: what stands at the path `p`, as JSON spells it, and what it is read as.
use Rattle.std.specs.Prelude.{◌≡◌, ⊤, ℕ, Bool, true, false, List, [], ◌∷◌, Option, Some, None, Ok, Err, codes, option_map, pos, refl}
use Rattle.std.specs.Fmt.{digits}
use Rattle.std.specs.Str.{chars, is_utf8}
use Rattle.std.specs.Str.Lossy.{utf8_valid_len}
use Rattle.serde_json.proofs.OnLiterals.{serde_json_on_literals}
use Rattle.pb_value.specs.Bytes.{json_in}
use Rattle.pb_value.specs.Datum.{boolean, int, text, list, dict, items_of, members_of}
use Rattle.pb_value.specs.FromJson.{value_of}
use Rattle.pb_expr_syntax.specs.Computed.{tree_of, tree_of_tokens}
use Rattle.pb_expr_syntax.specs.Tree.{Name, Truth}
use Rattle.pb_template.specs.Computed.{template_of}
use Rattle.pb_reading.specs.Fields.{field, others}
use Rattle.pb_reading.specs.Reading.{Reading, WrongShape, Own}
use Rattle.pb_written.specs.Conditions.{conditions}
use Rattle.pb_written.specs.Templates.{is_template}
use Rattle.pb_written.specs.declared.fault.LoadFault.{LoadFault}
use Rattle.pb_written.specs.declared.fault.LoadFault.TheVariants.{NotInProfile, BadExpression}
use Rattle.pb_role_entries.specs.Keys.{is_refused}
use Rattle.pb_role_entries.specs.RoleEntries.{named_alone, role_entry}
use Rattle.pb_role_entries.specs.declared.entry.RoleEntry.{RoleEntry}

-- what computes a row from its text
unfoldable on_literals : ⊤
unfolding role_entry field others conditions is_template template_of tree_of tree_of_tokens json_in utf8_valid_len is_utf8 chars digits value_of serde_json_on_literals
on_literals = tt

-- what JSON is read as that stands at the path `p`
abbrev read : List ℕ → Option (Reading RoleEntry LoadFault)
read s = option_map (role_entry (codes "p")) (json_in s)

-- an entry is a text, or an object with the role's name at one of two keys
name_alone : read (codes "\"app\"")
    ≡ Some (Ok (record { name = codes "app"; vars = []; conditions = []; params = []; as_written = record { vars = None; when = None; tags = None } }))
unfolding on_literals
name_alone = refl

role_alone : read (codes "{\"role\":\"app\"}") ≡ Some (Ok (named_alone (codes "app")))
unfolding on_literals
role_alone = refl

other_key_for_role : read (codes "{\"name\":\"app\"}") ≡ Some (Ok (named_alone (codes "app")))
unfolding on_literals
other_key_for_role = refl

-- all keys of an entry at once, in the order of their bytes
all_of_entry : read (codes "{\"a\":\"{{ x }}\",\"role\":\"app\",\"sets\":[1],\"tags\":[\"t\"],\"ui\":2,\"vars\":{\"y\":\"{{ z }}\"},\"when\":[\"c\",true],\"zone\":3}")
    ≡ Some (Ok (record {
      name = codes "app";
      vars = (codes "y", text (codes "{{ z }}")) ∷ [];
      conditions = Name (codes "c") ∷ Truth true ∷ [];
      params = (codes "a", text (codes "{{ x }}")) ∷ (codes "sets", list (items_of (int (pos 1) ∷ []))) ∷ (codes "ui", int (pos 2)) ∷ (codes "zone", int (pos 3)) ∷ [];
      as_written = record {
        vars = Some (dict (members_of ((codes "y", text (codes "{{ z }}")) ∷ [])));
        when = Some (list (items_of (text (codes "c") ∷ boolean true ∷ [])));
        tags = Some (list (items_of (text (codes "t") ∷ [])));
      };
    }))
unfolding on_literals
all_of_entry = refl

-- what is written and says nothing is kept as it is written
nothing_said : read (codes "{\"role\":\"app\",\"tags\":\"{{\",\"vars\":{},\"when\":[]}")
    ≡ Some (Ok (record {
      name = codes "app";
      vars = [];
      conditions = [];
      params = [];
      as_written = record { vars = Some (dict (members_of [])); when = Some (list (items_of [])); tags = Some (text (codes "{{")) };
    }))
unfolding on_literals
nothing_said = refl

-- keys that have no effect elsewhere are parameters
user_as_parameter : read (codes "{\"gather_subset\":1,\"remote_user\":\"r\",\"role\":\"app\"}")
    ≡ Some (Ok (record (named_alone (codes "app")) { params = (codes "gather_subset", int (pos 1)) ∷ (codes "remote_user", text (codes "r")) ∷ [] }))
unfolding on_literals
user_as_parameter = refl

-- the role has to be there, once; that is reported behind the keys
no_role : read (codes "{\"x\":1}") ≡ Some (Err (WrongShape (codes "p")))
unfolding on_literals
no_role = refl

both_keys_for_role : read (codes "{\"name\":\"app\",\"role\":\"app\"}") ≡ Some (Err (WrongShape (codes "p")))
unfolding on_literals
both_keys_for_role = refl

keys_before_rule : read (codes "{\"name\":\"app\",\"role\":\"app\",\"throttle\":1}") ≡ Some (Err (Own (NotInProfile (codes "throttle") (codes "p/throttle"))))
unfolding on_literals
keys_before_rule = refl

no_text_for_role : read (codes "{\"role\":[\"app\"]}") ≡ Some (Err (WrongShape (codes "p/role")))
unfolding on_literals
no_text_for_role = refl

number_as_entry : read (codes "5") ≡ Some (Err (WrongShape (codes "p")))
unfolding on_literals
number_as_entry = refl

-- parameters and variables are values whose texts are templates
fraction_as_parameter : read (codes "{\"role\":\"app\",\"x\":[1,1.5]}") ≡ Some (Err (WrongShape (codes "p/x")))
unfolding on_literals
fraction_as_parameter = refl

no_template_in_parameter : read (codes "{\"role\":\"app\",\"x\":\"{{ 1\"}") ≡ Some (Err (Own (BadExpression (codes "p/x"))))
unfolding on_literals
no_template_in_parameter = refl

no_variables : read (codes "{\"role\":\"app\",\"vars\":[]}") ≡ Some (Err (WrongShape (codes "p/vars")))
unfolding on_literals
no_variables = refl

fraction_as_variable : read (codes "{\"role\":\"app\",\"vars\":{\"x\":1.5}}") ≡ Some (Err (WrongShape (codes "p/vars/x")))
unfolding on_literals
fraction_as_variable = refl

condition_in_braces : read (codes "{\"role\":\"app\",\"when\":\"{{ x }}\"}") ≡ Some (Err (Own (BadExpression (codes "p/when"))))
unfolding on_literals
condition_in_braces = refl

-- a condition of a list is reported at its own path
second_condition : read (codes "{\"role\":\"app\",\"when\":[\"x\",\"y y\"]}") ≡ Some (Err (Own (BadExpression (codes "p/when/1"))))
unfolding on_literals
second_condition = refl

-- tags are kept, so they are read as a value, and the one is refused that is run only where it is asked for
fraction_as_tag : read (codes "{\"role\":\"app\",\"tags\":[1.5,\"never\"]}") ≡ Some (Err (WrongShape (codes "p/tags")))
unfolding on_literals
fraction_as_tag = refl

tag_never : read (codes "{\"role\":\"app\",\"tags\":[\"x\",\"never\"]}") ≡ Some (Err (Own (NotInProfile (codes "never") (codes "p/tags"))))
unfolding on_literals
tag_never = refl

-- a key that is refused, whatever it holds; the first in the order of bytes is reported
refused : read (codes "{\"become\":1,\"async\":1.5,\"role\":\"app\"}") ≡ Some (Err (Own (NotInProfile (codes "async") (codes "p/async"))))
unfolding on_literals
refused = refl

refused_though_off : read (codes "{\"ignore_errors\":false,\"role\":5}") ≡ Some (Err (Own (NotInProfile (codes "ignore_errors") (codes "p/ignore_errors"))))
unfolding on_literals
refused_though_off = refl

-- the keys that are refused
abbrev all_of : List (List ℕ) → List Bool
all_of [] = []
all_of (k ∷ ks) = is_refused k ∷ all_of ks

of_user : all_of (codes "become" ∷ codes "become_exe" ∷ codes "become_flags" ∷ codes "become_method" ∷ codes "become_user" ∷ codes "becomes" ∷ [])
    ≡ true ∷ true ∷ true ∷ true ∷ true ∷ false ∷ []
of_user = refl

of_connection : all_of (codes "connection" ∷ codes "port" ∷ codes "timeout" ∷ codes "remote_user" ∷ []) ≡ true ∷ true ∷ true ∷ false ∷ []
of_connection = refl

of_running : all_of (codes "environment" ∷ codes "no_log" ∷ codes "check_mode" ∷ codes "diff" ∷ codes "async" ∷ codes "poll" ∷ codes "collections" ∷ codes "module_defaults" ∷ codes "debugger" ∷ [])
    ≡ true ∷ true ∷ true ∷ true ∷ true ∷ true ∷ true ∷ true ∷ true ∷ []
of_running = refl

of_tasks : all_of (codes "any_errors_fatal" ∷ codes "delegate_to" ∷ codes "delegate_facts" ∷ codes "ignore_errors" ∷ codes "ignore_unreachable" ∷ codes "run_once" ∷ codes "throttle" ∷ codes "notify" ∷ [])
    ≡ true ∷ true ∷ true ∷ true ∷ true ∷ true ∷ true ∷ false ∷ []
of_tasks = refl
