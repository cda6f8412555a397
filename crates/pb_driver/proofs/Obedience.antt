-- The commands in a run's trail are some of those that were given, in their order, each directly behind a report or another command, or first.
use Rattle.std.proofs.Common.{◌≡◌, ℕ, ◌+◌, Bool, true, false, not, List, [], ◌∷◌, ◌++◌, refl, sym, ◌∙◌, ap, subst, inl, inr}
use Rattle.std.proofs.lemmas.List.{append-nil}
use Rattle.std.specs.Prelude.{◌⊎◌, ◌&&◌, ◌||◌, if◌then◌else◌}
use Rattle.pb_plan.specs.Plan.{PlanOf}
use Rattle.pb_state.specs.declared.event.Event.{Event}
use Rattle.pb_state.specs.State.{State}
use Rattle.pb_state.specs.Machine.{after, first_state}
use Rattle.pb_state.specs.Run.{is_command, is_report, state_from}
use Rattle.pb_engine.specs.declared.command.Command.{Command}
use Rattle.pb_engine.specs.declared.command.Command.TheVariants.{Stop as ToStop, Forks as ToForks}
use Rattle.pb_engine.specs.Commands.{event_for}
use Rattle.pb_driver.specs.declared.given.Given.{Given}
use Rattle.pb_driver.specs.Commanded.{is_due, due, behind_due, is_taken, accepted, count_report, with_commands, own_events, none_due}
use Rattle.pb_driver.specs.Obedient.{commands_in, events_for, AreSomeOf, stand_behind_reports, CommandsStandBehindReports}
use Rattle.pb_driver.proofs.Obeying.{due_none}

-- no event is a command
abbrev AreOwn : List Event → Type 0
AreOwn [] = Unit {0}
AreOwn (e ∷ es) = (is_command e ≡ false) × AreOwn es

own_by : (b : Bool) (e : Event) (es : List Event) → b ≡ is_command e → AreOwn es → AreOwn (if b then es else e ∷ es)
own_by true e es is own = own
own_by false e es is own = (sym is, own)

are_own : (trail : List Event) → AreOwn (own_events trail)
are_own [] = tt
are_own (e ∷ es) = own_by (is_command e) e (own_events es) refl (are_own es)

-- those that are due, and those behind them
split_by : (b : Bool) (given : Given) (first behind rest : List Given) → events_for first ++ events_for behind ≡ events_for rest
    → events_for (if b then given ∷ first else []) ++ events_for (if b then behind else given ∷ rest) ≡ events_for (given ∷ rest)
split_by true given first behind rest e = ap (λ (l : List Event). event_for given.command ∷ l) e
split_by false given first behind rest e = refl

split_due : (reports : ℕ) (commands : List Given) → events_for (due reports commands) ++ events_for (behind_due reports commands) ≡ events_for commands
split_due reports [] = refl
split_due reports (given ∷ rest) = split_by (is_due reports given) given (due reports rest) (behind_due reports rest) rest (split_due reports rest)

-- some of a list
some_none : (ys : List Event) → AreSomeOf [] ys
some_none [] = refl
some_none (y ∷ ys) = inl (some_none ys)

some_both : (xs zs ys us : List Event) → AreSomeOf xs ys → AreSomeOf zs us → AreSomeOf (xs ++ zs) (ys ++ us)
some_both xs zs [] us a b = rw a b
some_both xs zs (y ∷ ys) us (inl a) b = inl (some_both xs zs ys us a b)
some_both xs zs (y ∷ ys) us (inr a) b = inr (a.0 ++ zs, ap (λ (l : List Event). l ++ zs) a.1, some_both a.0 zs ys us a.2 b)

some_by : (b : Bool) (e : Event) (taken refused ys : List Event) → AreSomeOf taken ys → AreSomeOf refused ys → AreSomeOf (if b then e ∷ taken else refused) (e ∷ ys)
some_by true e taken refused ys a c = inr (taken, refl, a)
some_by false e taken refused ys a c = inl c

some_accepted : (plan : PlanOf) (pool : ℕ) (s : State) (commands : List Given) → AreSomeOf (accepted plan pool s commands) (events_for commands)
some_accepted plan pool s [] = refl
some_accepted plan pool s (given ∷ rest) =
    some_by (is_taken plan pool s given) (event_for given.command) (accepted plan pool (after plan s (event_for given.command)) rest) (accepted plan pool s rest) (events_for rest)
    (some_accepted plan pool (after plan s (event_for given.command)) rest) (some_accepted plan pool s rest)

-- the commands of events behind one another
in_by : (b : Bool) (e : Event) (xs ys : List Event) → (if b then e ∷ (xs ++ ys) else xs ++ ys) ≡ (if b then e ∷ xs else xs) ++ ys
in_by true e xs ys = refl
in_by false e xs ys = refl

in_both : (xs ys : List Event) → commands_in (xs ++ ys) ≡ commands_in xs ++ commands_in ys
in_both [] ys = refl
in_both (x ∷ xs) ys = ap (λ (l : List Event). if is_command x then x ∷ l else l) (in_both xs ys) ∙ in_by (is_command x) x (commands_in xs) (commands_in ys)

in_own : (e : Event) (es : List Event) → is_command e ≡ false → commands_in (e ∷ es) ≡ commands_in es
in_own e es is = ap (λ (b : Bool). if b then e ∷ commands_in es else commands_in es) is

in_command : (command : Command) (es : List Event) → commands_in es ≡ es → commands_in (event_for command ∷ es) ≡ event_for command ∷ es
in_command ToStop es e = ap (λ (l : List Event). event_for ToStop ∷ l) e
in_command (ToForks n) es e = ap (λ (l : List Event). event_for (ToForks n) ∷ l) e

commands_if : (b : Bool) (command : Command) (taken refused : List Event) → commands_in taken ≡ taken → commands_in refused ≡ refused
    → commands_in (if b then event_for command ∷ taken else refused) ≡ (if b then event_for command ∷ taken else refused)
commands_if true command taken refused a c = in_command command taken a
commands_if false command taken refused a c = c

in_accepted : (plan : PlanOf) (pool : ℕ) (s : State) (commands : List Given) → commands_in (accepted plan pool s commands) ≡ accepted plan pool s commands
in_accepted plan pool s [] = refl
in_accepted plan pool s (given ∷ rest) =
    commands_if (is_taken plan pool s given) given.command (accepted plan pool (after plan s (event_for given.command)) rest) (accepted plan pool s rest)
    (in_accepted plan pool (after plan s (event_for given.command)) rest) (in_accepted plan pool s rest)

-- the commands of a run are some of those that were given
some_in : (plan : PlanOf) (pool : ℕ) (s : State) (reports : ℕ) (commands : List Given) (es : List Event) → AreOwn es → AreSomeOf (commands_in (with_commands plan pool s reports commands es)) (events_for commands)
some_in plan pool s reports commands [] own =
    let first = some_accepted plan pool s (due reports commands) in
    let all = some_both (accepted plan pool s (due reports commands)) [] (events_for (due reports commands)) (events_for (behind_due reports commands)) first (some_none (events_for (behind_due reports commands))) in
    subst (λ (xs : List Event). AreSomeOf xs (events_for commands)) (append-nil (accepted plan pool s (due reports commands)) ∙ sym (in_accepted plan pool s (due reports commands)))
    (subst (λ (ys : List Event). AreSomeOf (accepted plan pool s (due reports commands) ++ []) ys) (split_due reports commands) all)
some_in plan pool s reports commands (e ∷ es) own =
    let first = accepted plan pool s (due reports commands) in
    let later = after plan (state_from plan s first) e in
    let rest = with_commands plan pool later (count_report reports e) (behind_due reports commands) es in
    let behind = some_in plan pool later (count_report reports e) (behind_due reports commands) es own.1 in
    let all = some_both first (commands_in rest) (events_for (due reports commands)) (events_for (behind_due reports commands)) (some_accepted plan pool s (due reports commands)) behind in
    let is : commands_in (first ++ e ∷ rest) ≡ first ++ commands_in rest = in_both first (e ∷ rest) ∙ ap (λ (l : List Event). l ++ commands_in (e ∷ rest)) (in_accepted plan pool s (due reports commands)) ∙ ap (λ (l : List Event). first ++ l) (in_own e rest own.0) in
    subst (λ (xs : List Event). AreSomeOf xs (events_for commands)) (sym is) (subst (λ (ys : List Event). AreSomeOf (first ++ commands_in rest) ys) (split_due reports commands) all)

-- behind a report commands may stand, and so they may behind commands
passes : (command : Command) → (is_report (event_for command) || is_command (event_for command)) ≡ true
passes ToStop = refl
passes (ToForks n) = refl

stand_by : (b : Bool) (command : Command) (taken refused es : List Event) → stand_behind_reports true (taken ++ es) ≡ stand_behind_reports true es → stand_behind_reports true (refused ++ es) ≡ stand_behind_reports true es
    → stand_behind_reports true ((if b then event_for command ∷ taken else refused) ++ es) ≡ stand_behind_reports true es
stand_by true command taken refused es a c = ap (λ (may : Bool). stand_behind_reports may (taken ++ es)) (passes command) ∙ a
stand_by false command taken refused es a c = c

stand_accepted : (plan : PlanOf) (pool : ℕ) (s : State) (commands : List Given) (es : List Event) → stand_behind_reports true (accepted plan pool s commands ++ es) ≡ stand_behind_reports true es
stand_accepted plan pool s [] es = refl
stand_accepted plan pool s (given ∷ rest) es =
    stand_by (is_taken plan pool s given) given.command (accepted plan pool (after plan s (event_for given.command)) rest) (accepted plan pool s rest) es
    (stand_accepted plan pool (after plan s (event_for given.command)) rest es) (stand_accepted plan pool s rest es)

-- commands may stand here, or none is due
abbrev HasTurn : Bool → ℕ → List Given → Type 0
HasTurn may reports commands = (may ≡ true) ⊎ (none_due reports commands ≡ true)

none_by : (b : Bool) (reports : ℕ) (given : Given) (behind rest : List Given) → b ≡ is_due reports given → none_due reports behind ≡ true → none_due reports (if b then behind else given ∷ rest) ≡ true
none_by true reports given behind rest is none = none
none_by false reports given behind rest is none = ap (λ (b : Bool). not b) (sym is)

none_behind : (reports : ℕ) (commands : List Given) → none_due reports (behind_due reports commands) ≡ true
none_behind reports [] = refl
none_behind reports (given ∷ rest) = none_by (is_due reports given) reports given (behind_due reports rest) rest refl (none_behind reports rest)

turn_by : (b : Bool) (reports : ℕ) (commands : List Given) → HasTurn b (if b then reports + 1 else reports) (behind_due reports commands)
turn_by true reports commands = inl refl
turn_by false reports commands = inr (none_behind reports commands)

or_none : (b c : Bool) → c ≡ false → (b || c) ≡ b
or_none true c e = refl
or_none false c e = e

next_turn : (reports : ℕ) (commands : List Given) (e : Event) → is_command e ≡ false → HasTurn (is_report e || is_command e) (count_report reports e) (behind_due reports commands)
next_turn reports commands e is =
    subst (λ (may : Bool). HasTurn may (count_report reports e) (behind_due reports commands)) (sym (or_none (is_report e) (is_command e) is)) (turn_by (is_report e) reports commands)

own_stands : (may : Bool) (e : Event) (es : List Event) → is_command e ≡ false → stand_behind_reports may (e ∷ es) ≡ stand_behind_reports (is_report e || is_command e) es
own_stands true e es is = refl
own_stands false e es is = ap (λ (b : Bool). not b && stand_behind_reports (is_report e || is_command e) es) is

-- a front of commands where they may stand, or none
stand_first : (may : Bool) (plan : PlanOf) (pool : ℕ) (s : State) (reports : ℕ) (commands : List Given) (es : List Event) → HasTurn may reports commands
    → stand_behind_reports may (accepted plan pool s (due reports commands) ++ es) ≡ stand_behind_reports may es
stand_first may plan pool s reports commands es (inl is) = rw is (stand_accepted plan pool s (due reports commands) es)
stand_first may plan pool s reports commands es (inr none) = ap (λ (l : List Given). stand_behind_reports may (accepted plan pool s l ++ es)) (due_none reports commands none)

stand_in : (may : Bool) (plan : PlanOf) (pool : ℕ) (s : State) (reports : ℕ) (commands : List Given) (es : List Event) → AreOwn es → HasTurn may reports commands
    → stand_behind_reports may (with_commands plan pool s reports commands es) ≡ true
stand_in may plan pool s reports commands [] own turn =
    ap (λ (l : List Event). stand_behind_reports may l) (sym (append-nil (accepted plan pool s (due reports commands)))) ∙ stand_first may plan pool s reports commands [] turn
stand_in may plan pool s reports commands (e ∷ es) own turn =
    let later = after plan (state_from plan s (accepted plan pool s (due reports commands))) e in
    let rest = with_commands plan pool later (count_report reports e) (behind_due reports commands) es in
    stand_first may plan pool s reports commands (e ∷ rest) turn ∙ own_stands may e rest own.0
    ∙ stand_in (is_report e || is_command e) plan pool later (count_report reports e) (behind_due reports commands) es own.1 (next_turn reports commands e own.0)

pub commands_stand_behind_reports : CommandsStandBehindReports
commands_stand_behind_reports plan pool commands trail obeyed =
    let own = are_own trail in
    let some = some_in plan pool (first_state plan plan.forks pool) 0 commands (own_events trail) own in
    let stand = stand_in true plan pool (first_state plan plan.forks pool) 0 commands (own_events trail) own (inl refl) in
    (subst (λ (es : List Event). AreSomeOf (commands_in es) (events_for commands)) (sym obeyed) some, ap (λ (es : List Event). stand_behind_reports true es) obeyed ∙ stand)
