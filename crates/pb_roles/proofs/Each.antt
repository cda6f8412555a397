-- Plays with their roles, one after another.
use Rattle.std.proofs.Common.{◌≡◌, ◌≢◌, ◌<◌, ◌≤◌, ◌+◌, Bool, true, false, ◌||◌, ℕ, List, [], ◌∷◌, ◌++◌, map, get_or, drop, Option, Some, None, Result, Ok, Err, refl, sym, ap, subst, ◌∙◌, length, append_assoc}
use Rattle.std.specs.Prelude.{IfOk, IfErr, if◌then◌else◌}
use Rattle.std.specs.Result.{IsErrAnd}
use Rattle.std.specs.List.{All}
use Rattle.std.proofs.lemmas.List.{append-nil, at_drop_more, drop_all}
use Rattle.pb_value.specs.Reading.{and_then}
use Rattle.pb_play_reading.specs.declared.play.Play.{Play}
use Rattle.pb_role_entries.specs.declared.entry.RoleEntry.{RoleEntry}
use Rattle.pb_handlers.specs.Naming.{kept}
use Rattle.pb_handlers.specs.declared.naming.HandlerNames.{HandlerNames}
use Rattle.pb_roles.specs.Answers.{Faults, Gives}
use Rattle.pb_roles.specs.Expansion.{roles_of}
use Rattle.pb_roles.specs.Plays.{IsBuilt, built, checked, expanded, expansion_of, has_too_many_places, head_of, is_too_deep, unless_unknown, within_limits}
use Rattle.pb_roles.specs.Sections.{names_of, sections_of}
use Rattle.pb_roles.specs.Unknown.{unknown_of, unknown_with}
use Rattle.pb_roles.specs.declared.fault.RoleFault.{RoleFault}
use Rattle.pb_roles.specs.declared.fault.RoleFault.TheVariants.{Unknown, Cycle, Load, Memory, TooLarge}
use Rattle.pb_roles.specs.declared.files.RoleFiles.{RoleFiles}
use Rattle.pb_roles.specs.declared.collected.HandlerIn.{HandlerIn}
use Rattle.pb_roles.specs.declared.collected.Expansion.{Expansion}
use Rattle.pb_roles.specs.declared.sections.Expanded.{Expanded}
use Rattle.pb_roles.specs.declared.sections.Head.{Head}
use Rattle.pb_roles.specs.declared.sections.Sections.{Sections}
use Rattle.pb_roles.proofs.Fitting.{all_count, all_fit, limited}
use Rattle.pb_roles.proofs.Stack.{faults_pass}

-- ---- handlers that count

kept_none : (marks : List Bool) → kept {X = HandlerIn} marks [] ≡ []
kept_none [] = refl
kept_none (mark ∷ marks) = refl

chosen : (mark : Bool) (h : HandlerIn) (hs : List HandlerIn) → mark ≡ true → (if mark then h ∷ hs else hs) ≡ h ∷ hs
chosen mark h hs is = rw is refl

not_chosen : (mark : Bool) (h : HandlerIn) (hs : List HandlerIn) → mark ≡ false → (if mark then h ∷ hs else hs) ≡ hs
not_chosen mark h hs is = rw is refl

-- what is left is a handler, and those behind it, and so are the marks
kept_turn : (marks : List Bool) (i : ℕ) (h : HandlerIn) (left later : List HandlerIn) → i < length marks → left ≡ h ∷ later
    → kept (drop i marks) left ≡ (if get_or marks i false then h ∷ kept (drop (i + 1) marks) later else kept (drop (i + 1) marks) later)
kept_turn marks i h left later lt steps = ap (kept (drop i marks)) steps ∙ at_drop_more (λ (ms : List Bool). kept ms (h ∷ later)) marks i false lt

kept_here : (all new left later handlers : List HandlerIn) (h : HandlerIn) (marks : List Bool) (i : ℕ) → i < length marks → left ≡ h ∷ later → get_or marks i false ≡ true
    → new ≡ all ++ h ∷ [] → all ++ kept (drop i marks) left ≡ kept marks handlers → new ++ kept (drop (i + 1) marks) later ≡ kept marks handlers
kept_here all new left later handlers h marks i lt steps is pushed before =
    ap (λ (hs : List HandlerIn). hs ++ kept (drop (i + 1) marks) later) pushed
    ∙ append_assoc all (h ∷ []) (kept (drop (i + 1) marks) later)
    ∙ ap (λ (hs : List HandlerIn). all ++ hs)
    (sym (kept_turn marks i h left later lt steps ∙ chosen (get_or marks i false) h (kept (drop (i + 1) marks) later) is))
    ∙ before

left_out : (all left later handlers : List HandlerIn) (h : HandlerIn) (marks : List Bool) (i : ℕ) → i < length marks → left ≡ h ∷ later → get_or marks i false ≡ false
    → all ++ kept (drop i marks) left ≡ kept marks handlers → all ++ kept (drop (i + 1) marks) later ≡ kept marks handlers
left_out all left later handlers h marks i lt steps is before =
    ap (λ (hs : List HandlerIn). all ++ hs)
    (sym (kept_turn marks i h left later lt steps ∙ not_chosen (get_or marks i false) h (kept (drop (i + 1) marks) later) is))
    ∙ before

taken_as : (mark : Bool) (all new left later handlers : List HandlerIn) (h : HandlerIn) (marks : List Bool) (i : ℕ) → get_or marks i false ≡ mark → i < length marks → left ≡ h ∷ later
    → new ≡ all ++ (if mark then h ∷ [] else []) → all ++ kept (drop i marks) left ≡ kept marks handlers → new ++ kept (drop (i + 1) marks) later ≡ kept marks handlers
taken_as true all new left later handlers h marks i is lt steps pushed before = kept_here all new left later handlers h marks i lt steps is pushed before
taken_as false all new left later handlers h marks i is lt steps pushed before =
    ap (λ (hs : List HandlerIn). hs ++ kept (drop (i + 1) marks) later) (pushed ∙ append-nil all) ∙ left_out all left later handlers h marks i lt steps is before

pub taken : (all new left later handlers : List HandlerIn) (h : HandlerIn) (marks : List Bool) (i : ℕ) → i < length marks → left ≡ h ∷ later
    → new ≡ all ++ (if get_or marks i false then h ∷ [] else []) → all ++ kept (drop i marks) left ≡ kept marks handlers → new ++ kept (drop (i + 1) marks) later ≡ kept marks handlers
taken all new left later handlers h marks i lt steps pushed before =
    taken_as (get_or marks i false) all new left later handlers h marks i refl lt steps pushed before

-- no handler is left, or no mark
pub kept_all : (all left handlers : List HandlerIn) (rest marks : List Bool) → left ≡ [] → all ++ kept rest left ≡ kept marks handlers → all ≡ kept marks handlers
kept_all all left handlers rest marks none is =
    sym (append-nil all) ∙ ap (λ (hs : List HandlerIn). all ++ hs) (sym (ap (kept rest) none ∙ kept_none rest)) ∙ is

pub marks_end : (all left handlers : List HandlerIn) (marks : List Bool) (i : ℕ) → length marks ≤ i → all ++ kept (drop i marks) left ≡ kept marks handlers → all ≡ kept marks handlers
marks_end all left handlers marks i end is =
    sym (append-nil all) ∙ ap (λ (ms : List Bool). all ++ kept ms left) (sym (drop_all i marks end)) ∙ is

-- ---- one play

unless_is : (found : Option (List ℕ)) (r : Result Expanded RoleFault) (name : List ℕ) → found ≡ Some name → unless_unknown found r ≡ Err (Unknown name)
unless_is found r name is = rw is refl

unless_none : (found : Option (List ℕ)) (r : Result Expanded RoleFault) → found ≡ None → unless_unknown found r ≡ r
unless_none found r is = rw is refl

large_is : (large : Bool) (e : Expanded) → large ≡ true → limited large e ≡ Err TooLarge
large_is large e is = rw is refl

small_is : (large : Bool) (e : Expanded) → large ≡ false → limited large e ≡ Ok e
small_is large e is = rw is refl

pub unknown_fault : (names : List HandlerNames) (head : Head) (play : Sections) (name : List ℕ) → names ≡ map names_of play.handlers → unknown_with names play ≡ Some name
    → checked head play ≡ Err (Unknown name)
unknown_fault names head play name same is =
    unless_is (unknown_of play) (within_limits head play) name (subst (λ (ns : List HandlerNames). unknown_with ns play ≡ Some name) same is)

pub large_fault : (names : List HandlerNames) (head : Head) (play : Sections) → names ≡ map names_of play.handlers → unknown_with names play ≡ None
    → (has_too_many_places play || is_too_deep play) ≡ true → checked head play ≡ Err TooLarge
large_fault names head play same none large =
    unless_none (unknown_of play) (within_limits head play) (subst (λ (ns : List HandlerNames). unknown_with ns play ≡ None) same none)
    ∙ large_is (has_too_many_places play || is_too_deep play) (built head play) large

pub checked_is : (names : List HandlerNames) (head : Head) (play : Sections) (e : Expanded) → names ≡ map names_of play.handlers → unknown_with names play ≡ None
    → (has_too_many_places play || is_too_deep play) ≡ false → e ≡ built head play → checked head play ≡ Ok e
checked_is names head play e same none small is =
    unless_none (unknown_of play) (within_limits head play) (subst (λ (ns : List HandlerNames). unknown_with ns play ≡ None) same none)
    ∙ small_is (has_too_many_places play || is_too_deep play) (built head play) small
    ∙ ap Ok (sym is)

then_fault : (r : Result Expansion RoleFault) (f : Expansion → Result Expanded RoleFault) (e : RoleFault) → r ≡ Err e → and_then r f ≡ Err e
then_fault r f e is = rw is refl

then_ok : (r : Result Expansion RoleFault) (f : Expansion → Result Expanded RoleFault) (met : Expansion) → r ≡ Ok met → and_then r f ≡ f met
then_ok r f met is = rw is refl

pub roles_fault : (files : RoleFiles) (play : Play) (entries : List RoleEntry) (e : RoleFault) → entries ≡ play.roles → Faults e (roles_of files entries) → Faults e (expanded files play)
roles_fault files play entries e same =
    faults_pass e (roles_of files entries) (expanded files play)
    (λ f is. then_fault (roles_of files play.roles) (λ met. checked (head_of play met) (sections_of play met)) f (subst (λ (es : List RoleEntry). roles_of files es ≡ Err f) same is))

pub expanded_is : (files : RoleFiles) (play : Play) (entries : List RoleEntry) (met : Expansion) (head : Head) (sections : Sections) → entries ≡ play.roles → roles_of files entries ≡ Ok met
    → head ≡ head_of play met → sections ≡ sections_of play met → checked head sections ≡ expanded files play
expanded_is files play entries met head sections same is of_head of_sections =
    rw (of_head, of_sections)
    (sym (then_ok (roles_of files play.roles) (λ m. checked (head_of play m) (sections_of play m)) met (subst (λ (es : List RoleEntry). roles_of files es ≡ Ok met) same is)))

-- ---- all plays

pub each_start : (r : Result (List Expanded) RoleFault) → r ≡ and_then r (λ rest. Ok ([] ++ rest))
each_start (Ok all) = refl
each_start (Err e) = refl

next_ok : (r : Result (List Expanded) RoleFault) (all : List Expanded) (one : Expanded)
    → and_then (and_then r (λ rest. Ok (one ∷ rest))) (λ rest. Ok (all ++ rest)) ≡ and_then r (λ rest. Ok ((all ++ one ∷ []) ++ rest))
next_ok (Ok rest) all one = ap Ok (sym (append_assoc all (one ∷ []) rest))
next_ok (Err e) all one = refl

next_is : (a : Result Expanded RoleFault) (r : Result (List Expanded) RoleFault) (all : List Expanded) (one : Expanded) → a ≡ Ok one
    → and_then (and_then a (λ x. and_then r (λ rest. Ok (x ∷ rest)))) (λ rest. Ok (all ++ rest)) ≡ and_then r (λ rest. Ok ((all ++ one ∷ []) ++ rest))
next_is a r all one is = rw is (next_ok r all one)

next_fault : (a : Result Expanded RoleFault) (r : Result (List Expanded) RoleFault) (all : List Expanded) (e : RoleFault) → a ≡ Err e
    → and_then (and_then a (λ x. and_then r (λ rest. Ok (x ∷ rest)))) (λ rest. Ok (all ++ rest)) ≡ Err e
next_fault a r all e is = rw is refl

-- a play was expanded, and those behind it are to come
pub each_next : (files : RoleFiles) (plays left later : List Play) (play : Play) (all new : List Expanded) (one : Expanded) → left ≡ play ∷ later → expanded files play ≡ Ok one
    → new ≡ all ++ one ∷ []
    → expansion_of files plays ≡ and_then (expansion_of files left) (λ rest. Ok (all ++ rest))
    → expansion_of files plays ≡ and_then (expansion_of files later) (λ rest. Ok (new ++ rest))
unfolding expansion_of
each_next files plays left later play all new one steps is pushed before =
    before
    ∙ ap (λ (ps : List Play). and_then (expansion_of files ps) (λ rest. Ok (all ++ rest))) steps
    ∙ next_is (expanded files play) (expansion_of files later) all one is
    ∙ ap (λ (es : List Expanded). and_then (expansion_of files later) (λ rest. Ok (es ++ rest))) (sym pushed)

pub each_fault : (files : RoleFiles) (plays left later : List Play) (play : Play) (all : List Expanded) (e : RoleFault) → left ≡ play ∷ later → Faults e (expanded files play)
    → expansion_of files plays ≡ and_then (expansion_of files left) (λ rest. Ok (all ++ rest))
    → Faults e (expansion_of files plays)
unfolding expansion_of
each_fault files plays left later play all e steps faulty before =
    faults_pass e (expanded files play) (expansion_of files plays)
    (λ f is.
    before
    ∙ ap (λ (ps : List Play). and_then (expansion_of files ps) (λ rest. Ok (all ++ rest))) steps
    ∙ next_fault (expanded files play) (expansion_of files later) all f is)
    faulty

pub each_done : (files : RoleFiles) (plays left : List Play) (all : List Expanded) → left ≡ []
    → expansion_of files plays ≡ and_then (expansion_of files left) (λ rest. Ok (all ++ rest))
    → expansion_of files plays ≡ Ok all
unfolding expansion_of
each_done files plays left all none before =
    before ∙ ap (λ (ps : List Play). and_then (expansion_of files ps) (λ rest. Ok (all ++ rest))) none ∙ ap Ok (append-nil all)

-- what a fault is handed out as
pub stopped : (result : Result (List Expanded) RoleFault) (e : RoleFault) (r : Result (List Expanded) RoleFault) → IsErrAnd result (λ f. f ≡ e) → Faults e r → Gives result r
stopped (Ok all) e r same faulty = absurd same
stopped (Err f) e r same faulty = subst (λ g. Faults g r) (sym same) faulty

-- ---- what the crate answers

reported : (e : RoleFault) (r : Result (List Expanded) RoleFault) → Faults e r → e ≢ Memory → r ≡ Err e
reported (Unknown name) r is other = is
reported Cycle r is other = is
reported (Load path fault) r is other = is
reported Memory r is other = absurd (other refl)
reported TooLarge r is other = is

pub gives_value : (result r : Result (List Expanded) RoleFault) → Gives result r → IfOk result (λ all. r ≡ Ok all)
gives_value (Ok all) r is = is
gives_value (Err e) r is = tt

pub gives_fault : (result r : Result (List Expanded) RoleFault) → Gives result r → IfErr result (λ e. e ≢ Memory → r ≡ Err e)
gives_fault (Ok all) r is = tt
gives_fault (Err e) r is = reported e r is

pub gives_fit : (files : RoleFiles) (plays : List Play) (result : Result (List Expanded) RoleFault) → Gives result (expansion_of files plays) → IfOk result (All IsBuilt)
gives_fit files plays (Ok all) is = all_fit files plays all is
gives_fit files plays (Err e) is = tt

pub gives_count : (files : RoleFiles) (plays : List Play) (result : Result (List Expanded) RoleFault) → Gives result (expansion_of files plays)
    → IfOk result (λ all. length all ≡ length plays)
gives_count files plays (Ok all) is = all_count files plays all is
gives_count files plays (Err e) is = tt
