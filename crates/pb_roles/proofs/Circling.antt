-- A cycle is reported only where a role depends on itself.
use Rattle.std.proofs.Common.{◌≡◌, ◌≤◌, ℕ, zero, suc, ◌+◌, Bool, true, false, ◌&&◌, ◌||◌, not, List, [], ◌∷◌, length, Option, Some, None, Result, Ok, Err, refl, sym, ap, subst, ◌∙◌, arith, if◌then◌else◌, suc-le-suc}
use Rattle.std.specs.Prelude.{⊤, codes}
use Rattle.std.specs.List.{AllByRecursion}
use Rattle.std.specs.Str.{bytes_eq}
use Rattle.pb_value.specs.Reading.{and_then, map_ok}
use Rattle.pb_expr_syntax.specs.Tree.{Tree}
use Rattle.pb_role_entries.specs.declared.entry.RoleEntry.{RoleEntry}
use Rattle.pb_play.specs.Nodes.{Nothing}
use Rattle.pb_role_files.specs.RoleFiles.{handlers_of_file, meta_of_file, nodes_of_file, variables_of_file}
use Rattle.pb_role_files.specs.declared.meta.RoleMeta.{RoleMeta}
use Rattle.pb_written.specs.declared.fault.LoadFault.{LoadFault}
use Rattle.pb_roles.specs.Circles.{CyclesAreCircles, DependsOn, IsCircle, LeadsTo, is_among}
use Rattle.pb_roles.specs.Entries.{key_of, has_come}
use Rattle.pb_roles.specs.Expansion.{closed, in_order, is_open, meets, most_open, nothing_met, opened, role_in, role_of, unless_again, with_come}
use Rattle.pb_roles.specs.Files.{RoleRead, file_of, in_file, loaded, no_meta, read_of}
use Rattle.pb_roles.specs.Open.{dependencies_of, entries_in}
use Rattle.pb_roles.specs.declared.entry_key.EntryKey.{EntryKey}
use Rattle.pb_roles.specs.declared.fault.RoleFault.{RoleFault}
use Rattle.pb_roles.specs.declared.fault.RoleFault.TheVariants.{Unknown, Cycle}
use Rattle.pb_roles.specs.declared.files.RoleFile.{RoleFile}
use Rattle.pb_roles.specs.declared.files.RoleFiles.{RoleFiles}
use Rattle.pb_roles.specs.declared.collected.Expansion.{Expansion}
use Rattle.pb_roles.specs.declared.open_role.OpenRole.{OpenRole}
use Rattle.pb_roles.proofs.FewOpen.{AreDistinct, few_open}
use Rattle.pb_roles.proofs.Stack.{meets_fault, meets_found}
use Rattle.pb_roles.proofs.Taking.{counts, first_time, opened_is, role_found}
use Rattle.pb_roles.proofs.Tests.{all_map, is_itself, or_left, or_right, same_name}

-- ---- roles that are open

-- the innermost open role depends on this one
abbrev IsLed : (List ℕ → RoleRead) → List (List ℕ) → List ℕ → Type 0
IsLed reads [] name = ⊤
IsLed reads (inner ∷ names) name = DependsOn reads inner name

-- each open role depends on the one inside it
abbrev IsChain : (List ℕ → RoleRead) → List (List ℕ) → Type 0
IsChain reads [] = ⊤
IsChain reads (name ∷ names) = IsLed reads names name × IsChain reads names

-- what holds of open roles
record AreOpen (reads : List ℕ → RoleRead) (names : List (List ℕ)) : Type 0 where
  chain : IsChain reads names
  distinct : AreDistinct names
  there : AllByRecursion (λ (name : List ℕ). (reads name).is_missing ≡ false) names

ends_here : (reads : List ℕ → RoleRead) (x : List ℕ) (name : List ℕ) (between : List (List ℕ)) (b rest : Bool) → bytes_eq name x ≡ b → LeadsTo reads x between name
    → (rest ≡ true → IsCircle reads) → (b || rest) ≡ true → IsCircle reads
ends_here reads x name between true rest e leads later f =
    record { name = name; between = between; leads = subst (λ (from : List ℕ). LeadsTo reads from between name) (sym (same_name name x e)) leads }
ends_here reads x name between false rest e leads later f = later f

circle_in : (reads : List ℕ → RoleRead) (x : List ℕ) (names : List (List ℕ)) (name : List ℕ) (between : List (List ℕ)) → LeadsTo reads x between name
    → IsChain reads (x ∷ names) → is_open name (x ∷ names) ≡ true → IsCircle reads
circle_in reads x [] name between leads chain e =
    ends_here reads x name between (bytes_eq name x) (is_open name []) refl leads (λ (wrong : false ≡ true). cc) e
circle_in reads x (y ∷ names) name between leads chain e =
    ends_here reads x name between (bytes_eq name x) (is_open name (y ∷ names)) refl leads
    (λ f. circle_in reads y names name (x ∷ between) (chain.0, leads) (chain.1) f) e

circle : (reads : List ℕ → RoleRead) (names : List (List ℕ)) (name : List ℕ) → IsLed reads names name → IsChain reads names → is_open name names ≡ true → IsCircle reads
circle reads [] name led chain e = cc
circle reads (x ∷ names) name led chain e = circle_in reads x names name [] led chain e

-- ---- entries one after another

abbrev EachCircles : (List ℕ → RoleRead) → (RoleEntry → Type 0) → (RoleEntry → Expansion → Result Expansion RoleFault) → Type 0
EachCircles reads P brings = (entry : RoleEntry) (met : Expansion) → P entry → brings entry met ≡ Err Cycle → IsCircle reads

one_cycles : (reads : List ℕ → RoleRead) (r : Result Expansion RoleFault) (f : Expansion → Result Expansion RoleFault) → (r ≡ Err Cycle → IsCircle reads)
    → ((mid : Expansion) → f mid ≡ Err Cycle → IsCircle reads) → and_then r f ≡ Err Cycle → IsCircle reads
one_cycles reads (Ok mid) f h k e = k mid e
one_cycles reads (Err fault) f h k e = h e

all_cycle : (reads : List ℕ → RoleRead) (P : RoleEntry → Type 0) (brings : RoleEntry → Expansion → Result Expansion RoleFault) → EachCircles reads P brings
    → (entries : List RoleEntry) (met : Expansion) → AllByRecursion P entries → in_order brings entries met ≡ Err Cycle → IsCircle reads
all_cycle reads P brings each [] met a e = cc
all_cycle reads P brings each (entry ∷ entries) met a e =
    one_cycles reads (brings entry met) (in_order brings entries) (λ f. each entry met (a.0) f) (λ mid f. all_cycle reads P brings each entries mid (a.1) f) e

all_among : (entries : List RoleEntry) → AllByRecursion (λ (entry : RoleEntry). is_among entries entry.name ≡ true) entries
all_among [] = tt
all_among (entry ∷ entries) = (
  or_left (bytes_eq entry.name entry.name) (is_among entries entry.name) (is_itself entry.name),
  all_map (λ (it : RoleEntry). is_among entries it.name ≡ true) (λ (it : RoleEntry). is_among (entry ∷ entries) it.name ≡ true)
      (λ it e. or_right (bytes_eq it.name entry.name) (is_among entries it.name) e) entries (all_among entries),
)

-- ---- one entry

-- reading files is never a cycle, and there is room for all that may be open
record AreBounded (most : ℕ) (reads : List ℕ → RoleRead) : Type 0 where
  clean : (n : ℕ) (outer : List Tree) (entry : RoleEntry) (came : List EntryKey) → role_of n reads outer entry came ≡ Err Cycle → ⊥
  room : (names : List (List ℕ)) → AreDistinct names → AllByRecursion (λ (name : List ℕ). (reads name).is_missing ≡ false) names → suc (length names) ≤ most

abbrev Cycles : ℕ → (List ℕ → RoleRead) → ℕ → Type 0
Cycles most reads n =
    (names : List (List ℕ)) (outer : List Tree) → AreOpen reads names → length names + n ≡ most → EachCircles reads (λ (entry : RoleEntry). IsLed reads names entry.name) (meets n reads names outer)

cycle_mapped : (r : Result Expansion RoleFault) (f : Expansion → Expansion) → map_ok f r ≡ Err Cycle → r ≡ Err Cycle
cycle_mapped (Ok met) f e = cc
cycle_mapped (Err fault) f e = cc

opens : (most n : ℕ) (reads : List ℕ → RoleRead) (names : List (List ℕ)) (outer : List Tree) (entry : RoleEntry) (role : OpenRole) (met : Expansion) → Cycles most reads n
    → AreOpen reads names → length names + suc n ≡ most → IsLed reads names entry.name → is_open entry.name names ≡ false
    → role_of n reads outer entry met.came ≡ Ok (Some role)
    → map_ok (closed role) (in_order (meets n reads (role.name ∷ names) role.origin.conditions) role.dependencies (with_come entry met)) ≡ Err Cycle
    → IsCircle reads
opens most n reads names outer entry role met inside sits long led shut e f =
    let read = counts n (reads entry.name) outer entry met.came (Some role) (role_found n reads outer entry met.came (Some role) e) in
    let new = first_time n (reads entry.name) outer entry met.came (read.1) role (read.3) in
    let same = opened_is n (reads entry.name) outer entry read.1.dependencies role (new.1) in
    let depends : dependencies_of reads entry.name ≡ role.dependencies = ap entries_in (read.2) ∙ sym (same.1) in
    let sum : length (entry.name ∷ names) + n ≡ most = omega (arith, long) in
    all_cycle reads (λ (it : RoleEntry). DependsOn reads entry.name it.name) (meets n reads (entry.name ∷ names) role.origin.conditions)
    (inside (entry.name ∷ names) role.origin.conditions
    (record { chain = (led, sits.chain); distinct = (shut, sits.distinct); there = (read.0, sits.there) })
    sum)
    role.dependencies (with_come entry met)
    (subst (λ (entries : List RoleEntry). AllByRecursion (λ (it : RoleEntry). is_among entries it.name ≡ true) role.dependencies) (sym depends) (all_among role.dependencies))
    (cycle_mapped _ (closed role)
    (subst (λ (name : List ℕ). map_ok (closed role) (in_order (meets n reads (name ∷ names) role.origin.conditions) role.dependencies (with_come entry met)) ≡ Err Cycle) (same.0) f))

which_fault : (r : Result Expansion RoleFault) (fault : RoleFault) → r ≡ Err fault → r ≡ Err Cycle → fault ≡ Cycle
which_fault r fault e f = cc

enters : (most n : ℕ) (reads : List ℕ → RoleRead) → AreBounded most reads → Cycles most reads n → Cycles most reads (suc n)
enters most n reads bounded inside names outer sits long entry met led e = by_open (is_open entry.name names) refl
  where
    by_role : (r : Result (Option OpenRole) RoleFault) → is_open entry.name names ≡ false → role_of n reads outer entry met.came ≡ r → IsCircle reads
    by_role (Err fault) shut f =
        let same = which_fault (meets (suc n) reads names outer entry met) fault (meets_fault n reads names outer entry met fault shut f) e in
        absurd (bounded.clean n outer entry met.came (f ∙ ap (λ (it : RoleFault). Err it) same))
    by_role (Ok None) shut f = let wrong = sym (meets_found n reads names outer entry met None shut f) ∙ e in cc
    by_role (Ok (Some role)) shut f =
        opens most n reads names outer entry role met inside sits long led shut f (sym (meets_found n reads names outer entry met (Some role) shut f) ∙ e)

    by_open : (b : Bool) → is_open entry.name names ≡ b → IsCircle reads
    by_open true f = circle reads names entry.name led sits.chain f
    by_open false f = by_role (role_of n reads outer entry met.came) f refl

entry_cycles : (most n : ℕ) (reads : List ℕ → RoleRead) → AreBounded most reads → Cycles most reads n
entry_cycles most zero reads bounded names outer sits long entry met led e = let much = bounded.room names sits.distinct sits.there in absurd (omega (arith, long, much))
entry_cycles most (suc n) reads bounded names outer sits long entry met led e =
    enters most n reads bounded (entry_cycles most n reads bounded) names outer sits long entry met led e

-- ---- what is read of files

then_clean : {A B : Type 0} (r : Result A RoleFault) (f : A → Result B RoleFault) → (r ≡ Err Cycle → ⊥) → ((x : A) → f x ≡ Err Cycle → ⊥) → and_then r f ≡ Err Cycle → ⊥
then_clean (Ok x) f h k e = k x e
then_clean (Err fault) f h k e = h (cc)

in_file_clean : {A : Type 0} (path : List ℕ) (r : Result A LoadFault) → in_file path r ≡ Err Cycle → ⊥
in_file_clean path (Ok x) e = cc
in_file_clean path (Err fault) e = cc

loaded_clean : {A : Type 0} (reads : List ℕ → Result A LoadFault) (otherwise : A) (file : Option RoleFile) → loaded reads otherwise file ≡ Err Cycle → ⊥
loaded_clean reads otherwise None e = cc
loaded_clean reads otherwise (Some file) e = in_file_clean file.path (reads file.bytes) e

-- what is read of a role
record IsClean (read : RoleRead) : Type 0 where
  meta : read.meta ≡ Err Cycle → ⊥
  defaults : read.defaults ≡ Err Cycle → ⊥
  vars : read.vars ≡ Err Cycle → ⊥
  nodes : read.nodes ≡ Err Cycle → ⊥
  handlers : read.handlers ≡ Err Cycle → ⊥

read_clean : (files : RoleFiles) (name : List ℕ) → IsClean (read_of files name)
read_clean files name =
    record {
      meta = loaded_clean meta_of_file no_meta (file_of (codes "meta") files name);
      defaults = loaded_clean variables_of_file [] (file_of (codes "defaults") files name);
      vars = loaded_clean variables_of_file [] (file_of (codes "vars") files name);
      nodes = loaded_clean nodes_of_file Nothing (file_of (codes "tasks") files name);
      handlers = loaded_clean handlers_of_file [] (file_of (codes "handlers") files name);
    }

opened_clean : (left : ℕ) (read : RoleRead) (outer : List Tree) (entry : RoleEntry) (dependencies : List RoleEntry) → IsClean read
    → opened left read outer entry dependencies ≡ Err Cycle → ⊥
opened_clean left read outer entry dependencies clean e =
    then_clean read.defaults _ clean.defaults (λ defaults f.
    then_clean read.vars _ clean.vars (λ vars g.
    then_clean read.nodes _ clean.nodes (λ nodes h.
    then_clean read.handlers _ clean.handlers (λ handlers wrong. cc) h) g) f) e

again_clean : (left : ℕ) (read : RoleRead) (outer : List Tree) (entry : RoleEntry) (came : List EntryKey) (meta : RoleMeta) → IsClean read
    → unless_again left read outer entry came meta ≡ Err Cycle → ⊥
again_clean left read outer entry came meta clean e = by_test (not meta.allow_duplicates && has_come (key_of entry) came) e
  where
    mapped : (r : Result OpenRole RoleFault) → (r ≡ Err Cycle → ⊥) → map_ok Some r ≡ Err Cycle → ⊥
    mapped (Ok role) h f = cc
    mapped (Err fault) h f = h (cc)

    by_test : (b : Bool) → (if b then Ok None else map_ok Some (opened left read outer entry meta.dependencies)) ≡ Err Cycle → ⊥
    by_test true f = cc
    by_test false f = mapped (opened left read outer entry meta.dependencies) (opened_clean left read outer entry meta.dependencies clean) f

role_clean : (left : ℕ) (read : RoleRead) (outer : List Tree) (entry : RoleEntry) (came : List EntryKey) → IsClean read → role_in left read outer entry came ≡ Err Cycle → ⊥
role_clean left read outer entry came clean e = by_missing read.is_missing e
  where
    by_missing : (b : Bool) → (if b then Err (Unknown entry.name) else and_then read.meta (unless_again left read outer entry came)) ≡ Err Cycle → ⊥
    by_missing true f = cc
    by_missing false f = then_clean read.meta (unless_again left read outer entry came) clean.meta (λ meta g. again_clean left read outer entry came meta clean g) f

role_of_clean : (files : RoleFiles) (left : ℕ) (outer : List Tree) (entry : RoleEntry) (came : List EntryKey) → role_of left (read_of files) outer entry came ≡ Err Cycle → ⊥
unfolding role_of
role_of_clean files left outer entry came e = role_clean left (read_of files entry.name) outer entry came (read_clean files entry.name) e

all_led : (reads : List ℕ → RoleRead) (entries : List RoleEntry) → AllByRecursion (λ (entry : RoleEntry). IsLed reads [] entry.name) entries
all_led reads [] = tt
all_led reads (entry ∷ entries) = (tt, all_led reads entries)

pub cycles_are_circles : CyclesAreCircles
cycles_are_circles files entries e =
    all_cycle (read_of files) (λ (entry : RoleEntry). IsLed (read_of files) [] entry.name) (meets (most_open files) (read_of files) [] [])
    (entry_cycles (most_open files) (most_open files) (read_of files)
    (record { clean = role_of_clean files; room = λ names distinct there. suc-le-suc (few_open files names distinct there) })
    [] []
    (record { chain = tt; distinct = tt; there = tt })
    (omega arith))
    entries nothing_met (all_led (read_of files) entries) e
