-- An outcome as JSON: an object with the keys of its form.
use Rattle.std.specs.Prelude.{codes}
use Rattle.serde_json.specs.Data as json
use Rattle.serde_json.specs.Find.{of_integer}
use Rattle.pb_value.specs.ToJson.{json_of}
use Rattle.pb_outcome.specs.Causes.{number_of}
use Rattle.pb_outcome.specs.declared.outcome.Form.{Form}
use Rattle.pb_outcome.specs.declared.outcome.Form.TheVariants.{Ran, Module, Unreachable, NotStarted}

abbrev pub outcome_json : Form → json.Data
outcome_json (Ran rc out err) =
    json.object
    (json.member (codes "err") (json.string err)
    (json.member (codes "out") (json.string out)
    (json.member (codes "rc") (json.number (of_integer rc)) json.no_members)))
outcome_json (Module v) = json.object (json.member (codes "facts") (json_of v) json.no_members)
outcome_json (Unreachable msg) = json.object (json.member (codes "unreachable") (json.string msg) json.no_members)
outcome_json (NotStarted cause) = json.object (json.member (codes "not_started") (json.number (json.unsigned (number_of cause))) json.no_members)
