use Rattle.std.proofs.Common.{◌∙◌, ap}
use Rattle.std.proofs.lemmas.Result.{IfOk-weaker}
use Rattle.pb_outcome.specs.Reading.{outcome_of}
use Rattle.pb_outcome.specs.Writing.{outcome_json}
use Rattle.pb_outcome.proofs.ReadsBack.{reads_back}
use Rattle.pb_outcome.proofs.writing.outcome_to_json.Goals as goal

pub returns-clause-reads_back : goal.returns-clause-reads_back
returns-clause-reads_back c =
    IfOk-weaker c.form_json.result _ _
    (λ j is path. ap (outcome_of path) (is ∙ ap outcome_json c.form-form.ensures.is) ∙ reads_back path c.args.outcome.now c.form-form.ensures.within c.form-form.ensures.whole) c.form_json.ensures
