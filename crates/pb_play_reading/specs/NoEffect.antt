-- The keys that may stand on a play, a block, a task and a meta task without effect: what they hold isn't read, but what it would change is refused.
-- See Ansible's documentation, "Playbook Keywords" and "Tags".
use Rattle.std.specs.Prelude.{ℕ, Bool, true, false, ◌||◌, not, List, Ok, Option, Some, None, codes, if◌then◌else◌}
use Rattle.std.specs.Str.{bytes_eq}
use Rattle.serde_json.specs.Data as json
use Rattle.pb_value.specs.Words.{switch_of}
use Rattle.pb_value.specs.Reading.{map_ok}
use Rattle.pb_reading.specs.Fields.{Telling, Part, field, field_or}
use Rattle.pb_reading.specs.Reading.{Reading}
use Rattle.pb_written.specs.Faults.{refused_key}
use Rattle.pb_written.specs.Tags.{has_never}
use Rattle.pb_written.specs.declared.fault.LoadFault.{LoadFault}
use Rattle.pb_play_reading.specs.declared.other_keys.WithoutEffect.{WithoutEffect}

-- the machine that runs the program is the only one that is known yet
abbrev pub is_local : json.Data → Bool
is_local (json.string s) = bytes_eq s (codes "local")
is_local d = false

-- a switch that is off
abbrev pub is_off : Option Bool → Bool
is_off (Some b) = not b
is_off None = false

-- where it is allowed nothing is read; else it is refused under this name
abbrev pub allowed : List ℕ → Bool → List ℕ → Reading Unit LoadFault
allowed path true name = Ok tt
allowed path false name = refused_key path name

-- a key without effect, or one that is refused
abbrev pub without_effect : List ℕ → List ℕ → json.Data → Reading Unit LoadFault
without_effect path k d =
    if bytes_eq k (codes "connection") then allowed path (is_local d) (codes "connection")
    else (if bytes_eq k (codes "no_log") then allowed path (is_off (switch_of d)) (codes "no_log")
    else (if bytes_eq k (codes "tags") then allowed path (not (has_never d)) (codes "never")
    else allowed path (bytes_eq k (codes "gather_subset") || bytes_eq k (codes "remote_user")) k))

-- a key that is no field has no effect
abbrev pub has_no_effect : {S : Type 0} → Telling S LoadFault
has_no_effect told path k d = map_ok (λ _. told) (without_effect path k d)

-- a key of an object whose other keys have no effect, and one with what counts where it isn't written
abbrev pub key : {A : Type 0} → List ℕ → (List ℕ → json.Data → Reading A LoadFault) → Part WithoutEffect LoadFault (Option A)
key = field has_no_effect

abbrev pub key_or : {A : Type 0} → List ℕ → (List ℕ → json.Data → Reading A LoadFault) → A → Part WithoutEffect LoadFault A
key_or = field_or has_no_effect
