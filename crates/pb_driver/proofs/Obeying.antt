-- An engine's events beside those of the run with the commands that are due.
use Rattle.std.proofs.Common.{◌≡◌, ◌≤◌, ◌<◌, ◌-◌, ◌+◌, ℕ, Bool, true, false, not, suc, zero, List, [], ◌∷◌, ◌++◌, length, drop, refl, sym, ◌∙◌, ap, arith, append_assoc, length-append, inl, inr}
use Rattle.std.proofs.lemmas.List.{append-nil}
use Rattle.std.specs.Prelude.{Option, Some, None, slice_get, is_none, if◌then◌else◌}
use Rattle.std.specs.Option.{option_map_or}
use Rattle.pb_state.specs.declared.event.Event.{Event}
use Rattle.pb_plan.specs.Plan.{PlanOf}
use Rattle.pb_state.specs.State.{State}
use Rattle.pb_state.specs.Machine.{after}
use Rattle.pb_state.specs.Run.{is_command, is_report, state_from}
use Rattle.pb_engine.specs.declared.command.CommandFault.{CommandFault}
use Rattle.pb_engine.specs.Commands.{event_for, fault_of}
use Rattle.pb_engine.specs.EngineOf.{EngineOf, Takes, taken}
use Rattle.pb_driver.specs.declared.given.Given.{Given}
use Rattle.pb_driver.specs.declared.given.CommandCursor.{CommandCursor}
use Rattle.pb_driver.specs.Commanded.{is_due, due, behind_due, is_taken, accepted, count_report, with_commands, run_with, own_events, IsObeyed, IsObeyedTo, IsAlong, none_due}
use Rattle.pb_driver.specs.Driven.{IsFresh, IsSame, TakesOwn, TakesAtMost}
use Rattle.pb_driver.proofs.Driving.{last_is}
use Rattle.pb_driver.proofs.Commanding.{is_for}

-- a trail's own events, with one more
own_command : (es : List Event) (e : Event) → is_command e ≡ true → own_events (es ++ e ∷ []) ≡ own_events es
own_command [] e c = ap (λ (b : Bool). if b then [] else e ∷ []) c
own_command (d ∷ es) e c = ap (λ (xs : List Event). if is_command d then xs else d ∷ xs) (own_command es e c)

step_own : (b : Bool) (d : Event) (xs ys : List Event) → (if b then xs ++ ys else d ∷ (xs ++ ys)) ≡ (if b then xs else d ∷ xs) ++ ys
step_own true d xs ys = refl
step_own false d xs ys = refl

own_more : (es : List Event) (e : Event) → is_command e ≡ false → own_events (es ++ e ∷ []) ≡ own_events es ++ e ∷ []
own_more [] e c = ap (λ (b : Bool). if b then [] else e ∷ []) c
own_more (d ∷ es) e c = ap (λ (xs : List Event). if is_command d then xs else d ∷ xs) (own_more es e c) ∙ step_own (is_command d) d (own_events es) (e ∷ [])

-- the first command is due, and taken or refused
due_one : (reports : ℕ) (given : Given) (rest : List Given) → is_due reports given ≡ true → due reports (given ∷ rest) ≡ given ∷ due reports rest
due_one reports given rest e = ap (λ (b : Bool). if b then given ∷ due reports rest else []) e

behind_one : (reports : ℕ) (given : Given) (rest : List Given) → is_due reports given ≡ true → behind_due reports (given ∷ rest) ≡ behind_due reports rest
behind_one reports given rest e = ap (λ (b : Bool). if b then behind_due reports rest else given ∷ rest) e

accepted_taken : (plan : PlanOf) (pool : ℕ) (s : State) (given : Given) (rest : List Given) → is_taken plan pool s given ≡ true → accepted plan pool s (given ∷ rest) ≡ event_for given.command ∷ accepted plan pool (after plan s (event_for given.command)) rest
accepted_taken plan pool s given rest e =
    ap (λ (b : Bool). if b then event_for given.command ∷ accepted plan pool (after plan s (event_for given.command)) rest else accepted plan pool s rest) e

accepted_refused : (plan : PlanOf) (pool : ℕ) (s : State) (given : Given) (rest : List Given) → is_taken plan pool s given ≡ false → accepted plan pool s (given ∷ rest) ≡ accepted plan pool s rest
accepted_refused plan pool s given rest e =
    ap (λ (b : Bool). if b then event_for given.command ∷ accepted plan pool (after plan s (event_for given.command)) rest else accepted plan pool s rest) e

-- commands, and behind them an event and the rest
abbrev put_in : PlanOf → ℕ → State → ℕ → List Event → List Given → Event → List Event → List Event
put_in plan pool s reports first left e es = first ++ e ∷ with_commands plan pool (after plan (state_from plan s first) e) (count_report reports e) left es

with_taken : (plan : PlanOf) (pool : ℕ) (s : State) (reports : ℕ) (given : Given) (rest : List Given) (es : List Event) → is_due reports given ≡ true → is_taken plan pool s given ≡ true
    → with_commands plan pool s reports (given ∷ rest) es ≡ event_for given.command ∷ with_commands plan pool (after plan s (event_for given.command)) reports rest es
with_taken plan pool s reports given rest [] is_now takes = ap (λ l. accepted plan pool s l) (due_one reports given rest is_now) ∙ accepted_taken plan pool s given (due reports rest) takes
with_taken plan pool s reports given rest (e ∷ es) is_now takes =
    ap (λ first. put_in plan pool s reports first (behind_due reports (given ∷ rest)) e es) (ap (λ l. accepted plan pool s l) (due_one reports given rest is_now) ∙ accepted_taken plan pool s given (due reports rest) takes)
    ∙ ap (λ left. put_in plan pool s reports (event_for given.command ∷ accepted plan pool (after plan s (event_for given.command)) (due reports rest)) left e es) (behind_one reports given rest is_now)

with_refused : (plan : PlanOf) (pool : ℕ) (s : State) (reports : ℕ) (given : Given) (rest : List Given) (es : List Event) → is_due reports given ≡ true → is_taken plan pool s given ≡ false
    → with_commands plan pool s reports (given ∷ rest) es ≡ with_commands plan pool s reports rest es
with_refused plan pool s reports given rest [] is_now refused = ap (λ l. accepted plan pool s l) (due_one reports given rest is_now) ∙ accepted_refused plan pool s given (due reports rest) refused
with_refused plan pool s reports given rest (e ∷ es) is_now refused =
    ap (λ first. put_in plan pool s reports first (behind_due reports (given ∷ rest)) e es) (ap (λ l. accepted plan pool s l) (due_one reports given rest is_now) ∙ accepted_refused plan pool s given (due reports rest) refused)
    ∙ ap (λ left. put_in plan pool s reports (accepted plan pool s (due reports rest)) left e es) (behind_one reports given rest is_now)

-- none is due
not_true : (b : Bool) → not b ≡ true → b ≡ false
not_true true e = cc
not_true false e = refl

pub due_none : (reports : ℕ) (commands : List Given) → none_due reports commands ≡ true → due reports commands ≡ []
due_none reports [] e = refl
due_none reports (given ∷ rest) e = ap (λ (b : Bool). if b then given ∷ due reports rest else []) (not_true (is_due reports given) e)

pub behind_none : (reports : ℕ) (commands : List Given) → none_due reports commands ≡ true → behind_due reports commands ≡ commands
behind_none reports [] e = refl
behind_none reports (given ∷ rest) e = ap (λ (b : Bool). if b then behind_due reports rest else given ∷ rest) (not_true (is_due reports given) e)

with_none : (plan : PlanOf) (pool : ℕ) (s : State) (reports : ℕ) (commands : List Given) (e : Event) (es : List Event) → none_due reports commands ≡ true
    → with_commands plan pool s reports commands (e ∷ es) ≡ e ∷ with_commands plan pool (after plan s e) (count_report reports e) commands es
with_none plan pool s reports commands e es none =
    ap (λ first. put_in plan pool s reports first (behind_due reports commands) e es) (ap (λ l. accepted plan pool s l) (due_none reports commands none))
    ∙ ap (λ left. put_in plan pool s reports [] left e es) (behind_none reports commands none)

with_end : (plan : PlanOf) (pool : ℕ) (s : State) (reports : ℕ) (commands : List Given) → none_due reports commands ≡ true → with_commands plan pool s reports commands [] ≡ []
with_end plan pool s reports commands none = ap (λ l. accepted plan pool s l) (due_none reports commands none)

-- before the run
pub along_first : (commands : List Given) (engine : EngineOf) → IsFresh engine → IsAlong commands (record { given = 0; reports = 0 }) engine
along_first commands engine fresh = record { along = λ es. rw (fresh.1, fresh.0) refl; counted = omega arith }

-- the next command
next_of : (commands : List Given) (i : ℕ) (given : Given) → slice_get commands i ≡ Some given → drop i commands ≡ given ∷ drop (i + 1) commands
next_of [] i given e = cc
next_of (c ∷ cs) zero given e = ap (λ (found : Option Given). option_map_or (λ g. g ∷ cs) found []) e
next_of (c ∷ cs) (suc i) given e = let on : suc i + 1 ≡ suc (i + 1) = omega arith in rw on (next_of cs i given e)

-- the engine's events so far, and those of the run with the commands behind them
abbrev goes_on : List Given → ℕ → ℕ → EngineOf → List Event → List Event
goes_on commands given reports engine es = engine.trail ++ with_commands engine.plan engine.pool engine.state reports (drop given commands) es

along_taken : (commands : List Given) (now : CommandCursor) (old : EngineOf) (given : Given) → IsAlong commands now old → slice_get commands now.given ≡ Some given → is_due now.reports given ≡ true
    → is_taken old.plan old.pool old.state given ≡ true → IsAlong commands (record now { given = now.given + 1 }) (taken old (event_for given.command))
along_taken commands now old given so next is_now takes = record {
  along = λ es.
      ap (λ xs. run_with old.plan old.pool commands (xs ++ es)) (own_command old.trail (event_for given.command) (is_for given.command)) ∙ so.along es
      ∙ ap (λ left. old.trail ++ with_commands old.plan old.pool old.state now.reports left es) (next_of commands now.given given next)
      ∙ ap (λ l. old.trail ++ l) (with_taken old.plan old.pool old.state now.reports given (drop (now.given + 1) commands) es is_now takes)
      ∙ sym (append_assoc old.trail (event_for given.command ∷ []) _);
  counted = let so_far = so.counted in simp length-append (omega arith);
}

along_refused : (commands : List Given) (now : CommandCursor) (old : EngineOf) (given : Given) → IsAlong commands now old → slice_get commands now.given ≡ Some given → is_due now.reports given ≡ true
    → is_taken old.plan old.pool old.state given ≡ false → IsAlong commands (record now { given = now.given + 1 }) old
along_refused commands now old given so next is_now refused = record {
  along = λ es.
      so.along es ∙ ap (λ left. old.trail ++ with_commands old.plan old.pool old.state now.reports left es) (next_of commands now.given given next)
      ∙ ap (λ l. old.trail ++ l) (with_refused old.plan old.pool old.state now.reports given (drop (now.given + 1) commands) es is_now refused);
  counted = so.counted;
}

along_by : (b : Bool) (commands : List Given) (now : CommandCursor) (old new : EngineOf) (given : Given) → b ≡ is_taken old.plan old.pool old.state given → IsAlong commands now old → slice_get commands now.given ≡ Some given
    → is_due now.reports given ≡ true → (is_taken old.plan old.pool old.state given ≡ true → Takes old new (event_for given.command)) → (is_taken old.plan old.pool old.state given ≡ false → new ≡ old)
    → IsAlong commands (record now { given = now.given + 1 }) new
along_by true commands now old new given is so next is_now takes refused = rw (takes (sym is)).1 (along_taken commands now old given so next is_now (sym is))
along_by false commands now old new given is so next is_now takes refused = rw (refused (sym is)) (along_refused commands now old given so next is_now (sym is))

pub along_given : (commands : List Given) (now : CommandCursor) (old new : EngineOf) (given : Given) → IsAlong commands now old → slice_get commands now.given ≡ Some given → is_due now.reports given ≡ true
    → (is_taken old.plan old.pool old.state given ≡ true → Takes old new (event_for given.command)) → (is_taken old.plan old.pool old.state given ≡ false → new ≡ old)
    → IsAlong commands (record now { given = now.given + 1 }) new
along_given commands now old new given so next is_now takes refused = along_by (is_taken old.plan old.pool old.state given) commands now old new given refl so next is_now takes refused

-- an event of the run's own
own_at : (commands : List Given) (now : CommandCursor) (old : EngineOf) (e : Event) → IsAlong commands now old → none_due now.reports (drop now.given commands) ≡ true → is_command e ≡ false → (es : List Event)
    → run_with old.plan old.pool commands (own_events (old.trail ++ e ∷ []) ++ es) ≡ goes_on commands now.given (count_report now.reports e) (taken old e) es
own_at commands now old e so none is es =
    ap (λ xs. run_with old.plan old.pool commands (xs ++ es)) (own_more old.trail e is) ∙ ap (λ xs. run_with old.plan old.pool commands xs) (append_assoc (own_events old.trail) (e ∷ []) es) ∙ so.along (e ∷ es)
    ∙ ap (λ l. old.trail ++ l) (with_none old.plan old.pool old.state now.reports (drop now.given commands) e es none) ∙ sym (append_assoc old.trail (e ∷ []) _)

report_more : (b : Bool) (reports n : ℕ) → reports ≤ n → (if b then reports + 1 else reports) ≤ n + 1
report_more true reports n le = omega arith
report_more false reports n le = omega arith

last_of : (old : EngineOf) (e : Event) → slice_get (old.trail ++ e ∷ []) (length (old.trail ++ e ∷ []) - 1) ≡ Some e
last_of old e = let there : length (old.trail ++ e ∷ []) - 1 ≡ length old.trail = simp length-append (omega arith) in rw there (last_is old.trail e (length old.trail) refl)

abbrev counted_last : CommandCursor → EngineOf → ℕ
counted_last now engine = option_map_or (count_report now.reports) (slice_get engine.trail (length engine.trail - 1)) now.reports

along_one : (commands : List Given) (now : CommandCursor) (old : EngineOf) (e : Event) → IsAlong commands now old → none_due now.reports (drop now.given commands) ≡ true → is_command e ≡ false
    → IsAlong commands (record now { reports = count_report now.reports e }) (taken old e)
along_one commands now old e so none is = record {
  along = λ es. own_at commands now old e so none is es;
  counted = let le = report_more (is_report e) now.reports (length old.trail) so.counted in let on : length (old.trail ++ e ∷ []) ≡ length old.trail + 1 = length-append old.trail (e ∷ []) in rw on le;
}

pub along_own : (commands : List Given) (now later : CommandCursor) (old new : EngineOf) → IsAlong commands now old → none_due now.reports (drop now.given commands) ≡ true → TakesOwn old new
    → later ≡ record now { reports = option_map_or (count_report now.reports) (slice_get new.trail (length new.trail - 1)) now.reports } → IsAlong commands later new
along_own commands now later old new so none own is =
    rw (is, own.1.1, last_of old own.0) (along_one commands now old own.0 so none own.2)

-- where nothing was taken
pub along_as : (commands : List Given) (now : CommandCursor) (old new : EngineOf) → IsAlong commands now old → new ≡ old → IsAlong commands now new
along_as commands now old new so same = rw same so

pub own_counts : (commands : List Given) (now : CommandCursor) (old new : EngineOf) → IsAlong commands now old → TakesOwn old new → now.reports < length new.trail
own_counts commands now old new so own =
    let so_far = so.counted in let on : length (old.trail ++ own.0 ∷ []) ≡ length old.trail + 1 = length-append old.trail (own.0 ∷ []) in rw own.1.1 (omega arith)

-- a front of the run, and the whole run
pub obeyed_to : (commands : List Given) (now : CommandCursor) (engine : EngineOf) → IsAlong commands now engine → IsObeyedTo engine.plan engine.pool commands engine.trail
obeyed_to commands now engine so =
    (with_commands engine.plan engine.pool engine.state now.reports (drop now.given commands) [], ap (λ xs. run_with engine.plan engine.pool commands xs) (sym (append-nil (own_events engine.trail))) ∙ so.along [])

pub obeyed_most : (commands : List Given) (now : CommandCursor) (old new : EngineOf) → IsAlong commands now old → none_due now.reports (drop now.given commands) ≡ true → TakesAtMost old new
    → IsObeyedTo new.plan new.pool commands new.trail
obeyed_most commands now old new so none (inl same) = rw same (obeyed_to commands now old so)
obeyed_most commands now old new so none (inr own) =
    rw own.1.1 (obeyed_to commands (record now { reports = count_report now.reports own.0 }) (taken old own.0) (along_one commands now old own.0 so none own.2))

pub obeyed_end : (commands : List Given) (now : CommandCursor) (engine : EngineOf) → IsAlong commands now engine → none_due now.reports (drop now.given commands) ≡ true → IsObeyed engine.plan engine.pool commands engine.trail
obeyed_end commands now engine so none =
    sym (
    ap (λ xs. run_with engine.plan engine.pool commands xs) (sym (append-nil (own_events engine.trail))) ∙ so.along []
    ∙ ap (λ l. engine.trail ++ l) (with_end engine.plan engine.pool engine.state now.reports (drop now.given commands) none) ∙ append-nil engine.trail
    )

-- a whole run is a front of itself, with the same plan
pub obeyed_as : (commands : List Given) (old new : EngineOf) → IsSame old new → IsObeyedTo new.plan new.pool commands new.trail → IsObeyedTo old.plan old.pool commands new.trail
obeyed_as commands old new same obeyed = rw (← same.plan, ← same.pool) obeyed

pub obeyed_front : (commands : List Given) (old new : EngineOf) → IsSame old new → IsObeyed new.plan new.pool commands new.trail → IsObeyedTo old.plan old.pool commands new.trail
obeyed_front commands old new same obeyed = obeyed_as commands old new same ([], sym obeyed ∙ sym (append-nil new.trail))

-- a command that was taken or refused
none_faulted : (plan : PlanOf) (pool : ℕ) (s : State) (given : Given) (found : Option CommandFault) → fault_of plan pool s given.command ≡ found → is_taken plan pool s given ≡ is_none found
none_faulted plan pool s given found e = ap (λ (f : Option CommandFault). is_none f) e

pub takes : (plan : PlanOf) (pool : ℕ) (s : State) (given : Given) → fault_of plan pool s given.command ≡ None → is_taken plan pool s given ≡ false → ⊥
takes plan pool s given none refused = let wrong : true ≡ false = sym (none_faulted plan pool s given None none) ∙ refused in cc

pub refuses : (plan : PlanOf) (pool : ℕ) (s : State) (given : Given) (fault : CommandFault) → fault_of plan pool s given.command ≡ Some fault → is_taken plan pool s given ≡ true → ⊥
refuses plan pool s given fault some taken = let wrong : false ≡ true = sym (none_faulted plan pool s given (Some fault) some) ∙ taken in cc
