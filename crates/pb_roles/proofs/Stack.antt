-- What is left to be met, step by step.
use Rattle.std.proofs.Common.{◌≡◌, ◌≤◌, ℕ, zero, suc, ◌+◌, true, false, List, [], ◌∷◌, Option, Some, None, Result, Ok, Err, IfSome, ◌++◌, ◌-◌, ◌∙◌, refl, sym, ap, subst, arith, append_assoc}
use Rattle.std.proofs.lemmas.List.{append-nil}
use Rattle.pb_value.specs.Reading.{and_then, map_ok}
use Rattle.pb_expr_syntax.specs.Tree.{Tree}
use Rattle.pb_play_reading.specs.declared.handlers.Handler.{Handler}
use Rattle.pb_role_entries.specs.declared.entry.RoleEntry.{RoleEntry}
use Rattle.pb_roles.specs.Answers.{Faults}
use Rattle.pb_roles.specs.Entries.{key_of}
use Rattle.pb_roles.specs.Expansion.{closed, finished, handlers_in, in_order, is_open, meets, role_of, with_come}
use Rattle.pb_roles.specs.Open.{conditions_in, cost_in, cost_of, dependencies_of, left_in, names_of, pushed, rest_of, to_do}
use Rattle.pb_roles.specs.declared.fault.RoleFault.{RoleFault}
use Rattle.pb_roles.specs.declared.fault.RoleFault.TheVariants.{Unknown, Cycle, Load, Memory, TooLarge}
use Rattle.pb_roles.specs.Files.{RoleRead}
use Rattle.pb_roles.specs.Origins.{OriginOf}
use Rattle.pb_roles.specs.declared.entry_key.EntryKey.{EntryKey}
use Rattle.pb_roles.specs.declared.collected.HandlerIn.{HandlerIn}
use Rattle.pb_roles.specs.declared.collected.Expansion.{Expansion}
use Rattle.pb_roles.specs.declared.open_role.OpenRole.{OpenRole}

pub and_ok : {A E : Type 0} (r : Result A E) (f : A → Result A E) → ((x : A) → f x ≡ Ok x) → and_then r f ≡ r
and_ok (Ok x) f h = h x
and_ok (Err e) f h = refl

and_and : {A B C E : Type 0} (r : Result A E) (f : A → Result B E) (g : B → Result C E) → and_then (and_then r f) g ≡ and_then r (λ x. and_then (f x) g)
and_and (Ok x) f g = refl
and_and (Err e) f g = refl

and_map : {A B C E : Type 0} (r : Result A E) (f : A → B) (g : B → Result C E) → and_then (map_ok f r) g ≡ and_then r (λ x. g (f x))
and_map (Ok x) f g = refl
and_map (Err e) f g = refl

-- a fault of one reading is that of another, where each fault of the first is
pub faults_pass : {A B : Type 0} (e : RoleFault) (r : Result A RoleFault) (s : Result B RoleFault) → ((f : RoleFault) → r ≡ Err f → s ≡ Err f) → Faults e r → Faults e s
faults_pass (Unknown name) r s h k = h (Unknown name) k
faults_pass Cycle r s h k = h Cycle k
faults_pass (Load path fault) r s h k = h (Load path fault) k
faults_pass Memory r s h k = tt
faults_pass TooLarge r s h k = h TooLarge k

pub meets_found : (n : ℕ) (reads : List ℕ → RoleRead) (names : List (List ℕ)) (outer : List Tree) (entry : RoleEntry) (met : Expansion) (found : Option OpenRole)
    → is_open entry.name names ≡ false → role_of n reads outer entry met.came ≡ Ok found
    → meets (suc n) reads names outer entry met ≡ finished (λ role. meets n reads (role.name ∷ names) role.origin.conditions) found (with_come entry met)
unfolding meets
meets_found n reads names outer entry met found h k = rw h (rw k refl)

pub meets_fault : (n : ℕ) (reads : List ℕ → RoleRead) (names : List (List ℕ)) (outer : List Tree) (entry : RoleEntry) (met : Expansion) (e : RoleFault)
    → is_open entry.name names ≡ false → role_of n reads outer entry met.came ≡ Err e → meets (suc n) reads names outer entry met ≡ Err e
unfolding meets
meets_fault n reads names outer entry met e h k = rw h (rw k refl)

pub meets_open : (n : ℕ) (reads : List ℕ → RoleRead) (names : List (List ℕ)) (outer : List Tree) (entry : RoleEntry) (met : Expansion)
    → is_open entry.name names ≡ true → meets n reads names outer entry met ≡ Err Cycle
unfolding meets
meets_open zero reads names outer entry met h = refl
meets_open (suc n) reads names outer entry met h = rw h refl

finished_rest : (n : ℕ) (reads : List ℕ → RoleRead) (roles : List OpenRole) (found : Option OpenRole) (met : Expansion)
    → IfSome found (λ role. role.left ≡ n)
    → and_then (finished (λ role. meets n reads (role.name ∷ names_of roles) role.origin.conditions) found met) (rest_of reads roles) ≡ rest_of reads (pushed found roles) met
finished_rest n reads roles None met h = refl
finished_rest n reads roles (Some role) met h =
    rw h (and_map (in_order (meets n reads (role.name ∷ names_of roles) role.origin.conditions) role.dependencies met) (closed role) (rest_of reads roles))

pub entered : (n : ℕ) (most : ℕ) (reads : List ℕ → RoleRead) (roles : List OpenRole) (entry : RoleEntry) (met : Expansion) (found : Option OpenRole)
    → left_in most roles ≡ suc n → is_open entry.name (names_of roles) ≡ false → role_of n reads (conditions_in roles) entry met.came ≡ Ok found
    → IfSome found (λ role. role.left ≡ n) → rest_of reads (pushed found roles) (with_come entry met) ≡ to_do most reads roles entry met
entered n most reads roles entry met found h k l m =
    sym (rw h (rw (meets_found n reads (names_of roles) (conditions_in roles) entry met found k l) (finished_rest n reads roles found (with_come entry met) m)))

pub enter_fault : (n : ℕ) (most : ℕ) (reads : List ℕ → RoleRead) (roles : List OpenRole) (entry : RoleEntry) (met : Expansion) (e : RoleFault)
    → left_in most roles ≡ suc n → is_open entry.name (names_of roles) ≡ false → Faults e (role_of n reads (conditions_in roles) entry met.came)
    → Faults e (to_do most reads roles entry met)
enter_fault n most reads roles entry met e h k l =
    faults_pass e (role_of n reads (conditions_in roles) entry met.came) (to_do most reads roles entry met)
    (λ f r. rw h (rw (meets_fault n reads (names_of roles) (conditions_in roles) entry met f k r) refl)) l

pub enter_open : (most : ℕ) (reads : List ℕ → RoleRead) (roles : List OpenRole) (entry : RoleEntry) (met : Expansion)
    → is_open entry.name (names_of roles) ≡ true → to_do most reads roles entry met ≡ Err Cycle
enter_open most reads roles entry met h = rw (meets_open (left_in most roles) reads (names_of roles) (conditions_in roles) entry met h) refl

pub enter_none : (most : ℕ) (reads : List ℕ → RoleRead) (roles : List OpenRole) (entry : RoleEntry) (met : Expansion) → left_in most roles ≡ 0 → to_do most reads roles entry met ≡ Err Cycle
unfolding meets
enter_none most reads roles entry met h = rw h refl

-- how much is left falls
cost_pushed : (n : ℕ) (reads : List ℕ → RoleRead) (roles : List OpenRole) (entry : RoleEntry) (found : Option OpenRole)
    → IfSome found (λ role. role.left ≡ n) → IfSome found (λ role. role.dependencies ≡ dependencies_of reads entry.name)
    → cost_in reads (pushed found roles) + 1 ≤ cost_in reads roles + cost_of (suc n) reads entry
cost_pushed n reads roles entry None h k = omega arith
cost_pushed n reads roles entry (Some role) h k = rw h (rw k (omega arith))

pub cost_entered : (n : ℕ) (most : ℕ) (reads : List ℕ → RoleRead) (roles : List OpenRole) (entry : RoleEntry) (found : Option OpenRole)
    → left_in most roles ≡ suc n → IfSome found (λ role. role.left ≡ n) → IfSome found (λ role. role.dependencies ≡ dependencies_of reads entry.name)
    → cost_in reads (pushed found roles) + 1 ≤ cost_in reads roles + cost_of (left_in most roles) reads entry
cost_entered n most reads roles entry found l h k = rw l (cost_pushed n reads roles entry found h k)

-- the next entry of the innermost role
pub next_entry : (most : ℕ) (reads : List ℕ → RoleRead) (role : OpenRole) (roles : List OpenRole) (entry : RoleEntry) (entries : List RoleEntry) (met : Expansion)
    → role.dependencies ≡ entry ∷ entries → rest_of reads (role ∷ roles) met ≡ to_do most reads (record role { dependencies = entries } ∷ roles) entry met
next_entry most reads role roles entry entries met h =
    rw h (and_and (meets role.left reads (role.name ∷ names_of roles) role.origin.conditions entry met)
    (in_order (meets role.left reads (role.name ∷ names_of roles) role.origin.conditions) entries) (λ after. rest_of reads roles (closed role after)))

pub cost_next : (reads : List ℕ → RoleRead) (role : OpenRole) (roles : List OpenRole) (entry : RoleEntry) (entries : List RoleEntry)
    → role.dependencies ≡ entry ∷ entries
    → cost_in reads (role ∷ roles) ≡ cost_in reads (record role { dependencies = entries } ∷ roles) + cost_of role.left reads entry
cost_next reads role roles entry entries h = rw h (omega arith)

-- no entry is left in it
pub no_entry : (reads : List ℕ → RoleRead) (role : OpenRole) (roles : List OpenRole) (met : Expansion) → role.dependencies ≡ [] → rest_of reads (role ∷ roles) met ≡ rest_of reads roles (closed role met)
no_entry reads role roles met h = rw h refl

pub cost_none : (reads : List ℕ → RoleRead) (role : OpenRole) (roles : List OpenRole) → role.dependencies ≡ [] → cost_in reads (role ∷ roles) ≡ 1 + cost_in reads roles
cost_none reads role roles h = rw h (omega arith)

pub entered_by : (left : ℕ) (most : ℕ) (reads : List ℕ → RoleRead) (roles new : List OpenRole) (entry : RoleEntry) (met : Expansion) (outer : List Tree) (found : Option OpenRole) (came : List EntryKey)
    → left ≡ left_in most roles → (left ≡ 0 → ⊥) → is_open entry.name (names_of roles) ≡ false → outer ≡ conditions_in roles
    → role_of (left - 1) reads outer entry met.came ≡ Ok found → came ≡ met.came ++ key_of entry ∷ [] → IfSome found (λ role. role.left ≡ left - 1)
    → new ≡ pushed found roles
    → rest_of reads new (record { came = came; sections = met.sections; handlers = met.handlers }) ≡ to_do most reads roles entry met
entered_by left most reads roles new entry met outer found came h some k o l m i n =
    let next : left_in most roles ≡ suc (left - 1) = omega (arith, h, some) in
    rw n (rw m (entered (left - 1) most reads roles entry met found next k (subst (λ cs. role_of (left - 1) reads cs entry met.came ≡ Ok found) o l) i))

pub cost_by : (left : ℕ) (most : ℕ) (reads : List ℕ → RoleRead) (roles new : List OpenRole) (entry : RoleEntry) (found : Option OpenRole)
    → left ≡ left_in most roles → (left ≡ 0 → ⊥) → IfSome found (λ role. role.left ≡ left - 1)
    → IfSome found (λ role. role.dependencies ≡ dependencies_of reads entry.name) → new ≡ pushed found roles
    → cost_in reads new + 1 ≤ cost_in reads roles + cost_of (left_in most roles) reads entry
cost_by left most reads roles new entry found h some i d n =
    let next : left_in most roles ≡ suc (left - 1) = omega (arith, h, some) in rw n (cost_entered (left - 1) most reads roles entry found next i d)

-- ---- what a role brings

pub handlers_more : (origin : OriginOf) (old new all : List HandlerIn) (left later : List Handler) (h : Handler) (shared : OriginOf) → left ≡ h ∷ later → shared ≡ origin
    → new ≡ old ++ record { handler = h; origin = shared } ∷ [] → old ++ handlers_in origin left ≡ all → new ++ handlers_in origin later ≡ all
handlers_more origin old new all left later h shared steps same pushed before =
    ap (λ (hs : List HandlerIn). hs ++ handlers_in origin later) pushed
    ∙ append_assoc old (record { handler = h; origin = shared } ∷ []) (handlers_in origin later)
    ∙ ap (λ (o : OriginOf). old ++ record { handler = h; origin = o } ∷ handlers_in origin later) same
    ∙ ap (λ (hs : List Handler). old ++ handlers_in origin hs) (sym steps)
    ∙ before

pub handlers_all : (origin : OriginOf) (old all : List HandlerIn) (left : List Handler) → left ≡ [] → old ++ handlers_in origin left ≡ all → old ≡ all
handlers_all origin old all left none before = sym (append-nil old) ∙ ap (λ (hs : List Handler). old ++ handlers_in origin hs) (sym none) ∙ before
