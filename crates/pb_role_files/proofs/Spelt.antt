-- What a file's bytes spell, once its JSON is read, and where a reader stops in it.
use Rattle.std.proofs.Common.{◌≡◌, ◌≢◌, ℕ, List, [], Ok, Err, refl, sym, ap, ◌∙◌}
use Rattle.std.specs.Prelude.{Some, None}
use Rattle.serde_json.specs.Data as json
use Rattle.pb_value.specs.Bytes.{json_in}
use Rattle.pb_reading.specs.Reading.{Reading, WrongShape, Own, Stops}
use Rattle.pb_reading.specs.declared.stop.Stop.{Stop}
use Rattle.pb_reading.specs.declared.stop.Stop.TheVariants as stop
use Rattle.pb_written.specs.Faults.{as_load_fault}
use Rattle.pb_written.specs.declared.fault.LoadFault.{LoadFault}
use Rattle.pb_written.specs.declared.fault.LoadFault.TheVariants as load
use Rattle.pb_role_files.specs.RoleFiles.{as_file, of_json, file_of}

pub not_json : {A : Type 0} (reads : List ℕ → json.Data → Reading A LoadFault) (bytes : List ℕ) → json_in bytes ≡ None → file_of reads bytes ≡ Err load.NotJson
not_json reads bytes none = ap (of_json reads) none

pub file_is : {A : Type 0} (reads : List ℕ → json.Data → Reading A LoadFault) (bytes : List ℕ) (d : json.Data) (x : A) → json_in bytes ≡ Some d → reads [] d ≡ Ok x → file_of reads bytes ≡ Ok x
file_is reads bytes d x is read = ap (of_json reads) is ∙ ap as_file read

pub file_stopped : {A : Type 0} (reads : List ℕ → json.Data → Reading A LoadFault) (bytes : List ℕ) (d : json.Data) (s : Stop LoadFault) (e : LoadFault) → json_in bytes ≡ Some d → Stops s (reads [] d)
    → (s ≡ stop.Memory → e ≡ load.Memory) → ((path : List ℕ) → s ≡ stop.WrongShape path → e ≡ as_load_fault (WrongShape path)) → ((f : LoadFault) → s ≡ stop.Fault f → e ≡ as_load_fault (Own f))
    → e ≢ load.Memory → file_of reads bytes ≡ Err e
file_stopped reads bytes d stop.Memory e is stops memory wrong fault other = absurd (other (memory refl))
file_stopped reads bytes d (stop.WrongShape path) e is stops memory wrong fault other = ap (of_json reads) is ∙ ap as_file stops ∙ ap Err (sym (wrong path refl))
file_stopped reads bytes d (stop.Fault f) e is stops memory wrong fault other = ap (of_json reads) is ∙ ap as_file stops ∙ ap Err (sym (fault f refl))
