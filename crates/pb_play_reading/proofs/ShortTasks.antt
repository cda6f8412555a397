-- A short task is what the reader that looks for each key makes of its members.
use Rattle.std.proofs.Common.{◌≡◌, ℕ, Bool, true, false, List, [], Ok, Err, Some, if◌then◌else◌, refl}
use Rattle.std.specs.Cmp.Lexicographic.{slice_cmp}
use Rattle.std.specs.Ordering.{nat_cmp}
use Rattle.std.specs.declared.cmp.Ordering.TheVariants.{Less}
use Rattle.serde_json.specs.Data as json
use Rattle.serde_json.specs.View.{view}
use Rattle.pb_value.specs.Reading.{and_then, map_ok, below}
use Rattle.pb_reading.specs.Fields.{field, field_or, others}
use Rattle.pb_reading.specs.Reading.{Reading}
use Rattle.pb_play.specs.Modules.{module_name, is_program}
use Rattle.pb_play.specs.Tasks.{plain_task}
use Rattle.pb_play.specs.declared.modules.Module.{Module}
use Rattle.pb_play_reading.specs.Modules.{module_key, module_of}
use Rattle.pb_play_reading.specs.ShortTasks.{members_of, name, name_at, InOrder, short_task}
use Rattle.pb_play_reading.specs.Tasks.{task, tells_of_task}
use Rattle.pb_play_reading.specs.declared.modules.ModuleKey.{ModuleKey}
use Rattle.pb_play_reading.specs.declared.modules.ModuleKey.TheVariants as key
use Rattle.pb_play_reading.specs.declared.short.Short.{Short}
use Rattle.pb_play_reading.specs.declared.short.Short.TheVariants.{Nameless, NameFirst, NameLast}
use Rattle.pb_play_reading.specs.declared.task.Modules.TheVariants.{Nothing, One}
use Rattle.pb_play_reading.proofs.ModuleKeys.{prefixed, word_of, of_key}
use Rattle.pb_written.specs.declared.fault.LoadFault.{LoadFault}

-- a module that no key says to try again
once : (b : Bool) → let yes : Reading Unit LoadFault = Ok tt in (if b then yes else yes) ≡ yes
once true = refl
once false = refl

-- what the key of a module tells
abbrev Tells : List ℕ → List ℕ → json.Data → Reading Module LoadFault → Type 0
Tells path k d r = tells_of_task Nothing (below path k) k d ≡ map_ok One r

told : (path k : List ℕ) (d : json.Data) (x : ModuleKey) → module_key k ≡ Some x → Tells path k d (module_of x (below path k) d)
unfolding tells_of_task
told path k d x e = rw e refl

-- that key alone
abbrev Alone : List ℕ → List ℕ → Type 0
Alone path k = (d : json.Data) (r : Reading Module LoadFault) → Tells path k d r → task path (json.object (json.member k d json.no_members)) ≡ map_ok (λ m. plain_task (module_name m) [] m) r

alone_prefixed : (path word : List ℕ) → Alone path (prefixed word)
unfolding task field field_or others
alone_prefixed path word d (Ok m) h = rw (h, once (is_program m)) refl
alone_prefixed path word d (Err e) h = rw h refl

alone : (path : List ℕ) (x : ModuleKey) → Alone path (word_of x)
unfolding task field field_or others
alone path key.Assert d (Ok m) h = rw (h, once (is_program m)) refl
alone path key.Assert d (Err e) h = rw h refl
alone path key.Command d (Ok m) h = rw (h, once (is_program m)) refl
alone path key.Command d (Err e) h = rw h refl
alone path key.Debug d (Ok m) h = rw (h, once (is_program m)) refl
alone path key.Debug d (Err e) h = rw h refl
alone path key.Fail d (Ok m) h = rw (h, once (is_program m)) refl
alone path key.Fail d (Err e) h = rw h refl
alone path key.SetFact d (Ok m) h = rw (h, once (is_program m)) refl
alone path key.SetFact d (Err e) h = rw h refl
alone path key.Setup d (Ok m) h = rw (h, once (is_program m)) refl
alone path key.Setup d (Err e) h = rw h refl
alone path key.Shell d (Ok m) h = rw (h, once (is_program m)) refl
alone path key.Shell d (Err e) h = rw h refl

-- the name in front of it
abbrev Behind : List ℕ → List ℕ → Type 0
Behind path k = (d e : json.Data) (r : Reading Module LoadFault) (t : Reading (List ℕ) LoadFault) → Tells path k d r → name_at path e ≡ t
    → task path (json.object (json.member name e (json.member k d json.no_members))) ≡ and_then t (λ n. map_ok (plain_task n []) r)

behind_prefixed : (path word : List ℕ) → Behind path (prefixed word)
unfolding task field field_or others
behind_prefixed path word d e (Ok m) (Ok n) h i = rw (i, h, once (is_program m)) refl
behind_prefixed path word d e (Err f) (Ok n) h i = rw (i, h) refl
behind_prefixed path word d e r (Err f) h i = rw i refl

behind : (path : List ℕ) (x : ModuleKey) → Behind path (word_of x)
unfolding task field field_or others
behind path key.Assert d e (Ok m) (Ok n) h i = rw (i, h, once (is_program m)) refl
behind path key.Assert d e (Err f) (Ok n) h i = rw (i, h) refl
behind path key.Assert d e r (Err f) h i = rw i refl
behind path key.Command d e (Ok m) (Ok n) h i = rw (i, h, once (is_program m)) refl
behind path key.Command d e (Err f) (Ok n) h i = rw (i, h) refl
behind path key.Command d e r (Err f) h i = rw i refl
behind path key.Debug d e (Ok m) (Ok n) h i = rw (i, h, once (is_program m)) refl
behind path key.Debug d e (Err f) (Ok n) h i = rw (i, h) refl
behind path key.Debug d e r (Err f) h i = rw i refl
behind path key.Fail d e (Ok m) (Ok n) h i = rw (i, h, once (is_program m)) refl
behind path key.Fail d e (Err f) (Ok n) h i = rw (i, h) refl
behind path key.Fail d e r (Err f) h i = rw i refl
behind path key.SetFact d e (Ok m) (Ok n) h i = rw (i, h, once (is_program m)) refl
behind path key.SetFact d e (Err f) (Ok n) h i = rw (i, h) refl
behind path key.SetFact d e r (Err f) h i = rw i refl
behind path key.Setup d e (Ok m) (Ok n) h i = rw (i, h, once (is_program m)) refl
behind path key.Setup d e (Err f) (Ok n) h i = rw (i, h) refl
behind path key.Setup d e r (Err f) h i = rw i refl
behind path key.Shell d e (Ok m) (Ok n) h i = rw (i, h, once (is_program m)) refl
behind path key.Shell d e (Err f) (Ok n) h i = rw (i, h) refl
behind path key.Shell d e r (Err f) h i = rw i refl

-- the name behind it
abbrev InFront : List ℕ → List ℕ → Type 0
InFront path k = slice_cmp nat_cmp k name ≡ Less → (d e : json.Data) (r : Reading Module LoadFault) (t : Reading (List ℕ) LoadFault) → Tells path k d r → name_at path e ≡ t
    → task path (json.object (json.member k d (json.member name e json.no_members))) ≡ and_then r (λ m. map_ok (λ n. plain_task n [] m) t)

in_front_prefixed : (path word : List ℕ) → InFront path (prefixed word)
unfolding task field field_or others
in_front_prefixed path word less d e (Ok m) (Ok n) h i = rw (h, i, once (is_program m)) refl
in_front_prefixed path word less d e (Ok m) (Err f) h i = rw (h, i) refl
in_front_prefixed path word less d e (Err f) t h i = rw h refl

in_front : (path : List ℕ) (x : ModuleKey) → InFront path (word_of x)
unfolding task field field_or others
in_front path key.Assert less d e (Ok m) (Ok n) h i = rw (h, i, once (is_program m)) refl
in_front path key.Assert less d e (Ok m) (Err f) h i = rw (h, i) refl
in_front path key.Assert less d e (Err f) t h i = rw h refl
in_front path key.Command less d e (Ok m) (Ok n) h i = rw (h, i, once (is_program m)) refl
in_front path key.Command less d e (Ok m) (Err f) h i = rw (h, i) refl
in_front path key.Command less d e (Err f) t h i = rw h refl
in_front path key.Debug less d e (Ok m) (Ok n) h i = rw (h, i, once (is_program m)) refl
in_front path key.Debug less d e (Ok m) (Err f) h i = rw (h, i) refl
in_front path key.Debug less d e (Err f) t h i = rw h refl
in_front path key.Fail less d e (Ok m) (Ok n) h i = rw (h, i, once (is_program m)) refl
in_front path key.Fail less d e (Ok m) (Err f) h i = rw (h, i) refl
in_front path key.Fail less d e (Err f) t h i = rw h refl
in_front path key.SetFact less d e r t h i = absurd cc
in_front path key.Setup less d e r t h i = absurd cc
in_front path key.Shell less d e r t h i = absurd cc

pub short_is_task : (path : List ℕ) (s : Short) → InOrder s → task path (json.object (members_of s)) ≡ short_task path s
short_is_task path (Nameless call) h =
    let k : List ℕ = call.key.now in
    let d : json.Data = view call.json.now in
    of_key (λ k x. Alone path k) (alone path) (λ x. alone_prefixed path (word_of x)) k call.named h d _ (told path k d call.named h)
short_is_task path (NameFirst e call) h =
    let k : List ℕ = call.key.now in
    let d : json.Data = view call.json.now in
    of_key (λ k x. Behind path k) (behind path) (λ x. behind_prefixed path (word_of x)) k call.named h d (view e.now) _ _ (told path k d call.named h) refl
short_is_task path (NameLast call e) h =
    let k : List ℕ = call.key.now in
    let d : json.Data = view call.json.now in
    of_key (λ k x. InFront path k) (in_front path) (λ x. in_front_prefixed path (word_of x)) k call.named h.0 h.1 d (view e.now) _ _ (told path k d call.named h.0) refl
