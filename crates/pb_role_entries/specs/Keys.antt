-- The keys of a role entry: those that are refused, its parameters, and what stands at `tags` and `when`.
-- See Ansible's documentation, "Roles", Passing different parameters, and "Playbook Keywords".
use Rattle.std.specs.Prelude.{ℕ, Bool, ◌||◌, List, Ok, Option, codes, if◌then◌else◌}
use Rattle.std.specs.Str.{bytes_eq}
use Rattle.serde_json.specs.Data as json
use Rattle.pb_value.specs.Datum.{Datum, put}
use Rattle.pb_value.specs.Reading.{and_then, map_ok}
use Rattle.pb_reading.specs.Fields.{Telling, Part, field}
use Rattle.pb_reading.specs.Reading.{Reading}
use Rattle.pb_written.specs.Conditions.{conditions}
use Rattle.pb_written.specs.Faults.{refused_key}
use Rattle.pb_written.specs.Tags.{has_never}
use Rattle.pb_written.specs.Values.{plain_value, template_value}
use Rattle.pb_written.specs.declared.fault.LoadFault.{LoadFault}
use Rattle.pb_role_entries.specs.declared.keys.Asked.{Asked}
use Rattle.pb_role_entries.specs.declared.keys.Params.{Params}

-- as whom tasks run
abbrev pub is_of_user : List ℕ → Bool
is_of_user k =
    bytes_eq k (codes "become") || (bytes_eq k (codes "become_exe") || (bytes_eq k (codes "become_flags") || (bytes_eq k (codes "become_method") || bytes_eq k (codes "become_user"))))

-- how a host is reached
abbrev pub is_of_connection : List ℕ → Bool
is_of_connection k = bytes_eq k (codes "connection") || (bytes_eq k (codes "port") || bytes_eq k (codes "timeout"))

-- in what way tasks run
abbrev pub is_of_running : List ℕ → Bool
is_of_running k =
    bytes_eq k (codes "async") || (bytes_eq k (codes "check_mode") || (bytes_eq k (codes "collections") || (bytes_eq k (codes "debugger") || (bytes_eq k (codes "diff")
    || (bytes_eq k (codes "environment") || (bytes_eq k (codes "module_defaults") || (bytes_eq k (codes "no_log") || bytes_eq k (codes "poll"))))))))

-- keys that tasks, blocks or plays may have, and that entries don't hand down
abbrev pub is_of_tasks : List ℕ → Bool
is_of_tasks k =
    bytes_eq k (codes "any_errors_fatal") || (bytes_eq k (codes "delegate_facts") || (bytes_eq k (codes "delegate_to") || (bytes_eq k (codes "ignore_errors")
    || (bytes_eq k (codes "ignore_unreachable") || (bytes_eq k (codes "run_once") || bytes_eq k (codes "throttle"))))))

-- a key that means something else than a parameter
abbrev pub is_refused : List ℕ → Bool
is_refused k = is_of_user k || (is_of_connection k || (is_of_running k || is_of_tasks k))

-- any other key is a parameter, and its value's texts are templates
abbrev pub one_more_param : Telling Params LoadFault
one_more_param told path k d =
    if is_refused k then refused_key path k else map_ok (λ v. record { params = put k v told.params }) (template_value path d)

-- a key that is no parameter
abbrev pub key : {A : Type 0} → List ℕ → (List ℕ → json.Data → Reading A LoadFault) → Part Params LoadFault (Option A)
key = field one_more_param

-- tags are read whole, and then the one is refused that is run only where it is asked for
abbrev pub tags : List ℕ → json.Data → Reading Datum LoadFault
tags path d = and_then (plain_value path d) (λ v. if has_never d then refused_key path (codes "never") else Ok v)

-- conditions, and what is written there
abbrev pub asked : List ℕ → json.Data → Reading Asked LoadFault
asked path d = and_then (conditions path d) (λ ts. map_ok (λ v. record { conditions = ts; as_written = v }) (plain_value path d))
