-- What goes and comes beside an engine's trail.
use Rattle.std.proofs.Common.{◌≡◌, ℕ, Bool, false, List, [], ◌∷◌, ◌++◌, refl, sym, ◌∙◌, ap, subst, append_assoc, inl, inr}
use Rattle.std.proofs.lemmas.List.{append-nil}
use Rattle.std.specs.Prelude.{Result, Ok, Err, IfErr, Option, Some, None, option_map}
use Rattle.std.specs.Option.{option_map_or}
use Rattle.pb_ids.specs.declared.numbers.HostNo.{HostNo}
use Rattle.pb_ids.specs.declared.numbers.Ticket.{Ticket}
use Rattle.pb_outcome.specs.declared.job.Job.{Job}
use Rattle.pb_outcome.specs.declared.job.Report.{Report}
use Rattle.pb_state.specs.declared.event.Event.{Event}
use Rattle.pb_state.specs.declared.event.Event.TheVariants.{Open, Start, Send, Report as Reported, Turn, Close, Stop, Forks}
use Rattle.pb_plan.specs.Plan.{PlanOf}
use Rattle.pb_state.specs.State.{State}
use Rattle.pb_state.specs.Machine.{after, first_state}
use Rattle.pb_state.specs.Jobs.{job_of}
use Rattle.pb_state.specs.Run.{state_from}
use Rattle.pb_engine.specs.EngineOf.{EngineOf, Takes, taken, IsSound}
use Rattle.pb_engine.specs.Choice.{NextIs, answer_of}
use Rattle.pb_engine.specs.declared.engine.Next.TheVariants.{Sent as ToSend, Moved, Waiting}
use Rattle.pb_driver.specs.declared.driver.RunFault.{RunFault}
use Rattle.pb_driver.specs.declared.driver.RunFault.TheVariants.{Memory}
use Rattle.pb_driver.specs.Driven.{Answers, IsSame, IsFresh}
use Rattle.pb_engine.specs.Laws.{has_mail}
use Rattle.pb_driver.specs.Mails.{Mail, Goes, Comes, mail_in, mails_from, mails_of, mails_in, HasGoneTo, GoesAlong, GoesOver}

-- mail that went and came, and then more: the law of a crew
abbrev pub WentMore : {H : Type 0} → (H → List Mail → H → Type 0) → Type 0
WentMore {H} went = (old mid new : H) (first more : List Mail) → went old first mid → went mid more new → went old (first ++ more) new

-- one event more
mails_more : (plan : PlanOf) (s : State) (es : List Event) (e : Event) → mails_from plan s (es ++ e ∷ []) ≡ mails_from plan s es ++ mail_in plan (state_from plan s es) e
mails_more plan s [] e = append-nil (mail_in plan s e)
mails_more plan s (d ∷ es) e = ap (λ t. mail_in plan s d ++ t) (mails_more plan (after plan s d) es e) ∙ sym (append_assoc (mail_in plan s d) _ _)

in_taken : (old : EngineOf) (e : Event) → IsSound old → mails_in (taken old e) ≡ mails_in old ++ mail_in old.plan old.state e
in_taken old e sound = rw (mails_more old.plan (first_state old.plan old.plan.forks old.pool) old.trail e, sound.ends) refl

-- an event without mail
pub no_mail : (plan : PlanOf) (s : State) (e : Event) → has_mail e ≡ false → mail_in plan s e ≡ []
no_mail plan s Open m = refl
no_mail plan s (Start h) m = refl
no_mail plan s (Send h item attempt ticket) m = cc
no_mail plan s (Reported r) m = cc
no_mail plan s Turn m = refl
no_mail plan s Close m = refl
no_mail plan s Stop m = refl
no_mail plan s (Forks n) m = refl

in_moved : (old new : EngineOf) (e : Event) → IsSound old → new ≡ taken old e → has_mail e ≡ false → mails_in old ≡ mails_in new
in_moved old new e sound is none =
    sym (append-nil (mails_in old)) ∙ ap (λ l. mails_in old ++ l) (sym (no_mail old.plan old.state e none)) ∙ sym (in_taken old e sound) ∙ ap mails_in (sym is)

-- what the machine took by itself, by what it answered
sent_found : (job : Job) (found : Option Job) → option_map ToSend found ≡ Some (ToSend job) → found ≡ Some job
sent_found job None e = cc
sent_found job (Some other) e = let one : ToSend other ≡ ToSend job = cc in let two : other ≡ job = cc in ap Some two

moved_found : (found : Option Job) → option_map ToSend found ≡ Some Moved → ⊥
moved_found None e = cc
moved_found (Some job) e = cc

pub moved_mail : (plan : PlanOf) (s : State) (e : Event) → answer_of plan s e ≡ Some Moved → has_mail e ≡ false
moved_mail plan s Open a = refl
moved_mail plan s (Start h) a = refl
moved_mail plan s (Send h item attempt ticket) a = absurd (moved_found (job_of plan s h ticket) a)
moved_mail plan s (Reported r) a = cc
moved_mail plan s Turn a = refl
moved_mail plan s Close a = refl
moved_mail plan s Stop a = refl
moved_mail plan s (Forks n) a = refl

-- a job went out with this event
abbrev pub SendsBy : PlanOf → State → Event → Job → Type 0
SendsBy plan s e job = (h : HostNo) × (item : ℕ) × (attempt : ℕ) × (ticket : Ticket) × (e ≡ Send h item attempt ticket) × (job_of plan s h ticket ≡ Some job)

pub sent_by : (plan : PlanOf) (s : State) (e : Event) (job : Job) → answer_of plan s e ≡ Some (ToSend job) → SendsBy plan s e job
sent_by plan s Open job a = cc
sent_by plan s (Start h) job a = cc
sent_by plan s (Send h item attempt ticket) job a = (h, item, attempt, ticket, refl, sent_found job (job_of plan s h ticket) a)
sent_by plan s (Reported r) job a = cc
sent_by plan s Turn job a = cc
sent_by plan s Close job a = cc
sent_by plan s Stop job a = cc
sent_by plan s (Forks n) job a = cc

-- where nothing went or came
pub along_same : {H : Type 0} (went : H → List Mail → H → Type 0) (old new : EngineOf) (hand : H) → new ≡ old → GoesAlong went old new hand hand
along_same {H} went old new hand same = λ base was. subst (λ (v : EngineOf). went base (mails_in v) hand) (sym same) was

pub along_moved : {H P : Type 0} (went : H → List Mail → H → Type 0) (picks : P → List Bool → ℕ → P → Type 0) (old_picker new_picker : P) (old new : EngineOf) (hand : H)
    → IsSound old → NextIs picks old_picker new_picker old new Moved → GoesAlong went old new hand hand
along_moved {H} {P} went picks old_picker new_picker old new hand sound m = λ base was.
    subst (λ mails. went base mails hand) (in_moved old new m.0 sound m.1.takes.1 (moved_mail old.plan old.state m.0 m.1.answer)) was

-- where one went or came
along_one : {H : Type 0} (went : H → List Mail → H → Type 0) (old new : EngineOf) (before after : H) (e : Event) (mail : Mail)
    → WentMore went → IsSound old → new ≡ taken old e → mail_in old.plan old.state e ≡ mail ∷ [] → went before (mail ∷ []) after → GoesAlong went old new before after
along_one {H} went old new before after e mail more sound is one gone = λ base was.
    subst (λ mails. went base mails after)
    (ap (λ l. mails_in old ++ l) (sym one) ∙ sym (in_taken old e sound) ∙ ap mails_in (sym is))
    (more base before after (mails_in old) (mail ∷ []) was gone)

mail_sent : (plan : PlanOf) (s : State) (h : HostNo) (item attempt : ℕ) (ticket : Ticket) (job : Job) → job_of plan s h ticket ≡ Some job → mail_in plan s (Send h item attempt ticket) ≡ Goes job ∷ []
mail_sent plan s h item attempt ticket job is = ap (λ (found : Option Job). option_map_or (λ (j : Job). Goes j ∷ []) found []) is

mail_came : (plan : PlanOf) (s : State) (r : Report) (job : Job) → job_of plan s r.host r.ticket ≡ Some job → mail_in plan s (Reported r) ≡ Comes job r.outcome ∷ []
mail_came plan s r job is = ap (λ (found : Option Job). option_map_or (λ (j : Job). Comes j r.outcome ∷ []) found []) is

pub along_sent : {H P : Type 0} (went : H → List Mail → H → Type 0) (picks : P → List Bool → ℕ → P → Type 0) (old_picker new_picker : P) (old new : EngineOf) (before after : H) (job : Job)
    → WentMore went → IsSound old → NextIs picks old_picker new_picker old new (ToSend job) → went before (Goes job ∷ []) after → GoesAlong went old new before after
along_sent {H} {P} went picks old_picker new_picker old new before after job more sound m gone =
    let by = sent_by old.plan old.state m.0 job m.1.answer in
    along_one went old new before after m.0 (Goes job) more sound m.1.takes.1
    (ap (mail_in old.plan old.state) by.4 ∙ mail_sent old.plan old.state by.0 by.1 by.2 by.3 job by.5) gone

pub along_came : {H : Type 0} (went : H → List Mail → H → Type 0) (old new : EngineOf) (before after : H) (r : Report)
    → WentMore went → IsSound old → Takes old new (Reported r)
    → (job : Job) × (job_of old.plan old.state r.host r.ticket ≡ Some job) × went before (Comes job r.outcome ∷ []) after
    → GoesAlong went old new before after
along_came {H} went old new before after r more sound takes came =
    along_one went old new before after (Reported r) (Comes came.0 r.outcome) more sound takes.1 (mail_came old.plan old.state r came.0 came.1) came.2

-- the mail of two turns
pub along_both : {H : Type 0} (went : H → List Mail → H → Type 0) (a b c : EngineOf) (r s t : H) → GoesAlong went a b r s → GoesAlong went b c s t → GoesAlong went a c r t
along_both {H} went a b c r s t first second = λ base was. second base (first base was)

-- a run that couldn't go on
pub over_along : {H : Type 0} (answers : Answers) (went : H → List Mail → H → Type 0) (old new : EngineOf) (before after : H) (fault : RunFault) → GoesAlong went old new before after → GoesOver answers went old new before after fault
over_along {H} answers went old new before after fault along = λ base was. inl (along base was)

pub over_same : {H : Type 0} (answers : Answers) (went : H → List Mail → H → Type 0) (old new : EngineOf) (hand : H) (fault : RunFault) → new ≡ old → GoesOver answers went old new hand hand fault
over_same {H} answers went old new hand fault same = over_along answers went old new hand hand fault (along_same went old new hand same)

pub over_both : {H : Type 0} (answers : Answers) (went : H → List Mail → H → Type 0) (a b c : EngineOf) (r s t : H) (fault : RunFault) → GoesAlong went a b r s → GoesOver answers went b c s t fault → GoesOver answers went a c r t fault
over_both {H} answers went a b c r s t fault first second = λ base was. second base (first base was)

-- where no report was given
pub over_none : {H : Type 0} (answers : Answers) (went : H → List Mail → H → Type 0) (old new : EngineOf) (before after : H) (fault : RunFault) → WentMore went → new ≡ old → went before [] after → GoesOver answers went old new before after fault
over_none {H} answers went old new before after fault more same none = λ base was.
    inl (subst (λ (v : EngineOf). went base (mails_in v) after) (sym same) (subst (λ mails. went base mails after) (append-nil (mails_in old)) (more base before after (mails_in old) [] was none)))

pub over_none_if : {H X : Type 0} (answers : Answers) (went : H → List Mail → H → Type 0) (old new : EngineOf) (before after : H) (result : Result X RunFault) → WentMore went → new ≡ old → went before [] after
    → IfErr result (λ e. GoesOver answers went old new before after e)
over_none_if {H} {X} answers went old new before after (Ok x) more same none = tt
over_none_if {H} {X} answers went old new before after (Err e) more same none = over_none answers went old new before after e more same none

lost_at : {H : Type 0} (answers : Answers) (went : H → List Mail → H → Type 0) (engine : EngineOf) (before after : H) (r : Report)
    → WentMore went → IsSound engine → answers engine.plan engine.state r
    → (job : Job) × (job_of engine.plan engine.state r.host r.ticket ≡ Some job) × went before (Comes job r.outcome ∷ []) after
    → GoesOver answers went engine engine before after Memory
lost_at {H} answers went engine before after r more sound answer came = λ base was.
    inr (
      refl,
      (
        r,
        came.0,
        subst (λ (s : State). job_of engine.plan s r.host r.ticket ≡ Some came.0) (sym sound.ends) came.1,
        subst (λ (s : State). answers engine.plan s r) (sym sound.ends) answer,
        more base before after (mails_in engine) (Comes came.0 r.outcome ∷ []) was came.2,
      ),
    )

-- a report was given, and memory was refused for it
pub over_lost : {H : Type 0} (answers : Answers) (went : H → List Mail → H → Type 0) (old new : EngineOf) (before after : H) (r : Report) (fault : RunFault)
    → WentMore went → IsSound old → new ≡ old → fault ≡ Memory → answers old.plan old.state r
    → (job : Job) × (job_of old.plan old.state r.host r.ticket ≡ Some job) × went before (Comes job r.outcome ∷ []) after
    → GoesOver answers went old new before after fault
over_lost {H} answers went old new before after r fault more sound same memory answer came =
    rw (same, memory) (lost_at answers went old before after r more sound answer came)

-- what comes where `next` waits
pub waits_along : {H P : Type 0} (went : H → List Mail → H → Type 0) (picks : P → List Bool → ℕ → P → Type 0) (old_picker new_picker : P) (old mid new : EngineOf) (before after : H)
    → NextIs picks old_picker new_picker old mid Waiting → GoesAlong went mid new before after → GoesAlong went old new before after
waits_along {H} {P} went picks old_picker new_picker old mid new before after m along = subst (λ (v : EngineOf). GoesAlong went v new before after) m.0 along

pub waits_over : {H P : Type 0} (answers : Answers) (went : H → List Mail → H → Type 0) (picks : P → List Bool → ℕ → P → Type 0) (old_picker new_picker : P) (old mid new : EngineOf) (before after : H) (fault : RunFault)
    → NextIs picks old_picker new_picker old mid Waiting → GoesOver answers went mid new before after fault → GoesOver answers went old new before after fault
waits_over {H} {P} answers went picks old_picker new_picker old mid new before after fault m over = subst (λ (v : EngineOf). GoesOver answers went v new before after fault) m.0 over

-- from an engine before its run on
fresh_gone : {H : Type 0} (went : H → List Mail → H → Type 0) (old : EngineOf) (hand : H) → IsFresh old → went hand [] hand → went hand (mails_in old) hand
fresh_gone {H} went old hand fresh none = rw fresh.1 none

pub gone_along : {H : Type 0} (went : H → List Mail → H → Type 0) (old new : EngineOf) (before after : H) → IsFresh old → went before [] before → GoesAlong went old new before after → IsSame old new
    → went before (mails_of old.plan old.pool new.trail) after
gone_along {H} went old new before after fresh none along same = rw (← same.plan, ← same.pool) (along before (fresh_gone went old before fresh none))

pub gone_over : {H : Type 0} (answers : Answers) (went : H → List Mail → H → Type 0) (old new : EngineOf) (before after : H) (fault : RunFault) → IsFresh old → went before [] before
    → GoesOver answers went old new before after fault → IsSame old new → HasGoneTo answers (λ mails. went before mails after) old.plan old.pool new.trail fault
gone_over {H} answers went old new before after fault fresh none over same = rw (← same.plan, ← same.pool) (over before (fresh_gone went old before fresh none))

-- where a run couldn't go on before its first event, or behind its last
pub fresh_over : {H : Type 0} (answers : Answers) (went : H → List Mail → H → Type 0) (old : EngineOf) (hand : H) (fault : RunFault) → IsFresh old → went hand [] hand
    → HasGoneTo answers (λ mails. went hand mails hand) old.plan old.pool old.trail fault
fresh_over {H} answers went old hand fault fresh none = inl (fresh_gone went old hand fresh none)

pub done_over : {H : Type 0} (answers : Answers) (went : H → List Mail → H → Type 0) (old new : EngineOf) (before after : H) (fault : RunFault) → IsFresh old → went before [] before → GoesAlong went old new before after → IsSame old new
    → HasGoneTo answers (λ mails. went before mails after) old.plan old.pool new.trail fault
done_over {H} answers went old new before after fault fresh none along same = inl (gone_along went old new before after fresh none along same)

pub none_over : {H : Type 0} (answers : Answers) (went : H → List Mail → H → Type 0) (plan : PlanOf) (pool : ℕ) (hand : H) (fault : RunFault) → went hand [] hand
    → HasGoneTo answers (λ mails. went hand mails hand) plan pool [] fault
none_over {H} answers went plan pool hand fault none = inl none
