-- What a job's program is started with, and which outcome its end gives. What a program does is said nowhere.
use Rattle.std.specs.Prelude.{◌≡◌, ◌≢◌, ◌⊎◌, ⊤, ℕ, ℤ, pos, negsuc, ◌++◌, ◌==◌, ◌||◌, Bool, true, false, List, [], ◌∷◌, Result, Ok, Err, Option, Some, None, codes, if◌then◌else◌}
use Rattle.std.specs.Process.{command_program, command_args}
use Rattle.std.specs.declared.process.command.Command.{Command}
use Rattle.serde_json.specs.Data as json
use Rattle.pb_value.specs.Bytes.{json_in}
use Rattle.pb_value.specs.Datum.{Datum}
use Rattle.pb_value.specs.FromJson.{value_of}
use Rattle.pb_value.specs.declared.fault.ValFault.{ValFault}
use Rattle.pb_outcome.specs.Output.{stripped}
use Rattle.pb_outcome.specs.Results.{is_nonzero}
use Rattle.pb_outcome.specs.declared.cause.Cause.{Cause}
use Rattle.pb_outcome.specs.declared.cause.Cause.TheVariants.{CannotStart, KilledBySignal, NotUtf8, TooLarge, FactsNotObject, OutOfMemory}
use Rattle.pb_outcome.specs.declared.job.Call.{Call}
use Rattle.pb_outcome.specs.declared.job.Call.TheVariants as calls
use Rattle.pb_outcome.specs.declared.job.Job.{Job}
use Rattle.pb_outcome.specs.declared.outcome.Form.{Form}
use Rattle.pb_outcome.specs.declared.outcome.Form.TheVariants.{Ran, Module, Unreachable, NotStarted}
use Rattle.pb_runner.specs.Kept.{Kept, IsWhole, IsNoText}
use Rattle.pb_runner.specs.Launch.{Launch, launch_of}
use Rattle.pb_runner.specs.declared.launcher.Ending.{Ending}
use Rattle.pb_runner.specs.declared.launcher.Ending.TheVariants.{Refused, Lost, Ended}

-- what may come of a job: a target is unreachable only behind a connector, and only setup gives facts
abbrev pub LocalAllows : Job → Form → Type 0
LocalAllows job (Ran rc out err) = ⊤
LocalAllows job (Module value) = job.call ≡ calls.Setup
LocalAllows job (Unreachable msg) = job.connector ≢ []
LocalAllows job (NotStarted cause) = ⊤

-- the words of a call, where this is the facts program
abbrev pub own_words : Option (List ℕ) → Call → List (List ℕ)
own_words facts (calls.Command words) = words
own_words facts (calls.Shell text) = codes "/bin/sh" ∷ codes "-c" ∷ text ∷ []
own_words (Some path) calls.Setup = path ∷ []
own_words None calls.Setup = []

-- what a runner with this facts program may give: what may come of the job, and of a call without words, as facts are without such a program, that it can't
-- start, behind a connector too
pub record LocalGives (facts : Option (List ℕ)) (job : Job) (outcome : Form) : Type 0 where
  pub allowed : LocalAllows job outcome
  pub unstarted : own_words facts job.call ≡ [] → outcome ≡ NotStarted CannotStart

-- a connector's words and the target's name come in front
abbrev pub in_front : List (List ℕ) → List ℕ → List (List ℕ)
in_front [] target = []
in_front (word ∷ words) target = (word ∷ words) ++ target ∷ []

-- all words of a job: if it has a connector, the connector's words and the target's name; then those of its call, with this facts program
abbrev pub words_of : Option (List ℕ) → Job → List (List ℕ)
words_of facts job = in_front job.connector job.target ++ own_words facts job.call

-- the words of a command
abbrev pub command_words : {A : Type 0} → Option (Command A) → List (List ℕ)
command_words (Some c) = command_program c ∷ command_args c
command_words None = []

-- the facts that a program wrote: a JSON object, each value of which is one of ours
abbrev pub facts_form : Result Datum ValFault → Form
facts_form (Ok value) = Module value
facts_form (Err e) = NotStarted FactsNotObject

-- the same of what it wrote, as JSON: what is no object, or no JSON at all, is no facts
abbrev pub facts_in : Option json.Data → Form
facts_in (Some (json.object ms)) = facts_form (value_of (json.object ms))
facts_in (Some (json.array ds)) = NotStarted FactsNotObject
facts_in (Some (json.string s)) = NotStarted FactsNotObject
facts_in (Some (json.number n)) = NotStarted FactsNotObject
facts_in (Some (json.boolean b)) = NotStarted FactsNotObject
facts_in (Some json.null) = NotStarted FactsNotObject
facts_in None = NotStarted FactsNotObject

-- status 255, by which a connector says that there is no target
abbrev pub is_lost : ℤ → Bool
is_lost (pos n) = n == 255
is_lost (negsuc n) = false

-- what the status and the texts of a program say
abbrev pub own_answer : Call → ℤ → List ℕ → List ℕ → Form
own_answer (calls.Command words) rc out err = Ran rc out err
own_answer (calls.Shell text) rc out err = Ran rc out err
own_answer calls.Setup rc out err = if is_nonzero rc then Ran rc out err else facts_in (json_in out)

-- the same behind a connector's words, where status 255 says that the target is out of reach; without words there is no connector
abbrev pub answer_behind : List (List ℕ) → Call → ℤ → List ℕ → List ℕ → Form
answer_behind [] call rc out err = own_answer call rc out err
answer_behind (word ∷ words) call rc out err = if is_lost rc then Unreachable (stripped err) else own_answer call rc out err

-- what came of a job whose program ended with this status, and wrote this output and these errors
abbrev pub answer : Job → ℤ → List ℕ → List ℕ → Form
answer job rc out err = answer_behind job.connector job.call rc out err

-- what the end of a program gives, by its status (none where a signal ended it) and its two streams: the first cause that fits, or its answer
abbrev pub Ends : Job → Option ℤ → Kept → Kept → Form → Type 0
Ends job None out err form = form ≡ NotStarted KilledBySignal
Ends job (Some rc) out err form =
    (((out.over || err.over) ≡ true) × (form ≡ NotStarted TooLarge))
    ⊎ (((out.over || err.over) ≡ false) × IsNoText out err × (form ≡ NotStarted NotUtf8))
    ⊎ (((out.over || err.over) ≡ false) × (form ≡ NotStarted OutOfMemory))
    ⊎ (IsWhole out × IsWhole err × (form ≡ answer job rc out.bytes err.bytes))

-- what came of a program gives the outcome of its job
abbrev pub IsGivenBy : Job → Ending → Form → Type 0
IsGivenBy job Refused form = form ≡ NotStarted CannotStart
IsGivenBy job Lost form = form ≡ NotStarted CannotStart
IsGivenBy job (Ended status out err) form = Ends job status out err form

-- one program was started, with exactly the job's words, and what came of it gives the outcome; or none, where memory was refused before
abbrev pub IsStarted : Option (List ℕ) → Job → Form → List Launch → Type 0
IsStarted facts job outcome launches =
    ((launches ≡ []) × (outcome ≡ NotStarted OutOfMemory))
    ⊎ ((ending : Ending) × (launches ≡ launch_of (words_of facts job) ending ∷ []) × IsGivenBy job ending outcome)

-- what was started for a job: nothing where its call has no words
pub record IsLaunched (facts : Option (List ℕ)) (job : Job) (outcome : Form) (launches : List Launch) : Type 0 where
  pub wordless : own_words facts job.call ≡ [] → (launches ≡ []) × (outcome ≡ NotStarted CannotStart)
  pub worded : own_words facts job.call ≢ [] → IsStarted facts job outcome launches
