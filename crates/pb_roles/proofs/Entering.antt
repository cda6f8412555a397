-- The role that an entry names, by what was read of it.
use Rattle.std.proofs.Common.{◌≡◌, ◌∙◌, ℕ, Bool, true, false, ◌&&◌, not, List, [], Some, None, Result, Ok, Err, refl, ap, sym, subst}
use Rattle.std.specs.Result.{IsErrAnd}
use Rattle.pb_value.specs.Reading.{and_then, map_ok}
use Rattle.pb_expr_syntax.specs.Tree.{Tree}
use Rattle.pb_layers.specs.Scope.{Map}
use Rattle.pb_play.specs.Nodes.{Written}
use Rattle.pb_play_reading.specs.declared.handlers.Handler.{Handler}
use Rattle.pb_role_entries.specs.declared.entry.RoleEntry.{RoleEntry}
use Rattle.pb_role_files.specs.declared.meta.RoleMeta.{RoleMeta}
use Rattle.pb_roles.specs.Answers.{Faults, Gives}
use Rattle.pb_roles.specs.Entries.{key_of, has_come}
use Rattle.pb_roles.specs.Expansion.{opened, role_of, origin_of}
use Rattle.pb_roles.specs.Files.{RoleRead}
use Rattle.pb_roles.specs.Origins.{OriginOf}
use Rattle.pb_roles.specs.declared.entry_key.EntryKey.{EntryKey}
use Rattle.pb_roles.specs.declared.fault.RoleFault.{RoleFault}
use Rattle.pb_roles.specs.declared.fault.RoleFault.TheVariants.{Unknown}
use Rattle.pb_roles.specs.declared.open_role.OpenRole.{OpenRole}
use Rattle.pb_roles.proofs.Stack.{faults_pass}

abbrev depending : List RoleEntry → OpenRole → OpenRole
depending dependencies role = record role { dependencies = dependencies }

-- what a role depends on changes nothing else of it
opened_on : (left : ℕ) (outer : List Tree) (entry : RoleEntry) (dependencies : List RoleEntry) (is_missing : Bool) (meta : Result RoleMeta RoleFault) (defaults vars : Result Map RoleFault)
    (nodes : Result Written RoleFault) (handlers : Result (List Handler) RoleFault)
    → opened left (record { is_missing = is_missing; meta = meta; defaults = defaults; vars = vars; nodes = nodes; handlers = handlers }) outer entry dependencies
    ≡ map_ok (depending dependencies) (opened left (record { is_missing = is_missing; meta = meta; defaults = defaults; vars = vars; nodes = nodes; handlers = handlers }) outer entry [])
opened_on left outer entry dependencies is_missing meta (Err e) vars nodes handlers = refl
opened_on left outer entry dependencies is_missing meta (Ok d) (Err e) nodes handlers = refl
opened_on left outer entry dependencies is_missing meta (Ok d) (Ok v) (Err e) handlers = refl
opened_on left outer entry dependencies is_missing meta (Ok d) (Ok v) (Ok n) (Err e) = refl
opened_on left outer entry dependencies is_missing meta (Ok d) (Ok v) (Ok n) (Ok h) = refl

opened_with : (left : ℕ) (read : RoleRead) (outer : List Tree) (entry : RoleEntry) (dependencies : List RoleEntry) → opened left read outer entry dependencies
    ≡ map_ok (depending dependencies) (opened left read outer entry [])
opened_with left read outer entry dependencies = opened_on left outer entry dependencies read.is_missing read.meta read.defaults read.vars read.nodes read.handlers

-- the role that comes from there, once its variables are read
pub opened_from : (left : ℕ) (read : RoleRead) (outer : List Tree) (entry : RoleEntry) (defaults vars : Map) (origin : OriginOf) (r : Result OpenRole RoleFault) → read.defaults ≡ Ok defaults → read.vars ≡ Ok vars
    → origin ≡ origin_of outer entry defaults vars
    → Gives r (and_then read.nodes (λ nodes. and_then read.handlers (λ handlers. Ok (record { left = left; name = entry.name; origin = origin; nodes = nodes; handlers = handlers; dependencies = [] }))))
    → Gives r (opened left read outer entry [])
opened_from left read outer entry defaults vars origin r d v from given =
    rw (d, v)
    (subst
    (λ (o : OriginOf). Gives r (and_then read.nodes (λ nodes. and_then read.handlers (λ handlers. Ok (record { left = left; name = entry.name; origin = o; nodes = nodes; handlers = handlers; dependencies = [] })))))
    from given)

-- ---- each way in which an entry is met
pub missing : (left : ℕ) (reads : List ℕ → RoleRead) (outer : List Tree) (entry : RoleEntry) (came : List EntryKey) (none : Bool) → none ≡ (reads entry.name).is_missing → none ≡ true
    → role_of left reads outer entry came ≡ Err (Unknown entry.name)
unfolding role_of
missing left reads outer entry came none is t = rw (sym is ∙ t) refl

pub faulty_meta : (left : ℕ) (reads : List ℕ → RoleRead) (outer : List Tree) (entry : RoleEntry) (came : List EntryKey) (none : Bool) (e : RoleFault) → none ≡ (reads entry.name).is_missing → none ≡ false
    → Faults e (reads entry.name).meta → Faults e (role_of left reads outer entry came)
unfolding role_of
faulty_meta left reads outer entry came none e is f = faults_pass e (reads entry.name).meta (role_of left reads outer entry came) (λ g m. rw (sym is ∙ f) (rw m refl))

pub left_out : (left : ℕ) (reads : List ℕ → RoleRead) (outer : List Tree) (entry : RoleEntry) (came : List EntryKey) (none : Bool) (meta : RoleMeta) (this : EntryKey) (out : Bool)
    → none ≡ (reads entry.name).is_missing → none ≡ false → (reads entry.name).meta ≡ Ok meta → this ≡ key_of entry → out ≡ (not meta.allow_duplicates && has_come this came) → out ≡ true
    → role_of left reads outer entry came ≡ Ok None
unfolding role_of
left_out left reads outer entry came none meta this out is f m t o again = rw (sym is ∙ f) (rw m (rw (ap (λ (c : EntryKey). not meta.allow_duplicates && has_come c came) (sym t) ∙ sym o ∙ again) refl))

counts : (left : ℕ) (reads : List ℕ → RoleRead) (outer : List Tree) (entry : RoleEntry) (came : List EntryKey) (none : Bool) (meta : RoleMeta) (this : EntryKey) (out : Bool)
    → none ≡ (reads entry.name).is_missing → none ≡ false → (reads entry.name).meta ≡ Ok meta → this ≡ key_of entry → out ≡ (not meta.allow_duplicates && has_come this came) → out ≡ false
    → role_of left reads outer entry came ≡ map_ok Some (map_ok (depending meta.dependencies) (opened left (reads entry.name) outer entry []))
unfolding role_of
counts left reads outer entry came none meta this out is f m t o nay =
    rw (sym is ∙ f) (rw m (rw (ap (λ (c : EntryKey). not meta.allow_duplicates && has_come c came) (sym t) ∙ sym o ∙ nay) (ap (map_ok Some) (opened_with left (reads entry.name) outer entry meta.dependencies))))

mapped_fault : {A B : Type 0} (f : A → B) (r : Result A RoleFault) (e : RoleFault) → r ≡ Err e → map_ok f r ≡ Err e
mapped_fault f r e is = rw is refl

mapped_ok : {A B : Type 0} (f : A → B) (r : Result A RoleFault) (x : A) → r ≡ Ok x → map_ok f r ≡ Ok (f x)
mapped_ok f r x is = rw is refl

pub faulty : (left : ℕ) (reads : List ℕ → RoleRead) (outer : List Tree) (entry : RoleEntry) (came : List EntryKey) (none : Bool) (meta : RoleMeta) (this : EntryKey) (out : Bool) (e : RoleFault)
    → none ≡ (reads entry.name).is_missing → none ≡ false → (reads entry.name).meta ≡ Ok meta → this ≡ key_of entry → out ≡ (not meta.allow_duplicates && has_come this came) → out ≡ false
    → Faults e (opened left (reads entry.name) outer entry []) → Faults e (role_of left reads outer entry came)
faulty left reads outer entry came none meta this out e is f m t o nay =
    faults_pass e (opened left (reads entry.name) outer entry []) (role_of left reads outer entry came)
    (λ g r. counts left reads outer entry came none meta this out is f m t o nay
    ∙ mapped_fault Some (map_ok (depending meta.dependencies) (opened left (reads entry.name) outer entry [])) g (mapped_fault (depending meta.dependencies) (opened left (reads entry.name) outer entry []) g r))

pub opens : (left : ℕ) (reads : List ℕ → RoleRead) (outer : List Tree) (entry : RoleEntry) (came : List EntryKey) (none : Bool) (meta : RoleMeta) (this : EntryKey) (out : Bool) (role : OpenRole) (dependencies : List RoleEntry)
    → none ≡ (reads entry.name).is_missing → none ≡ false → (reads entry.name).meta ≡ Ok meta → this ≡ key_of entry → out ≡ (not meta.allow_duplicates && has_come this came) → out ≡ false
    → opened left (reads entry.name) outer entry [] ≡ Ok role → dependencies ≡ meta.dependencies → role_of left reads outer entry came ≡ Ok (Some (record role { dependencies = dependencies }))
opens left reads outer entry came none meta this out role dependencies is f m t o nay r d =
    counts left reads outer entry came none meta this out is f m t o nay
    ∙ mapped_ok Some (map_ok (depending meta.dependencies) (opened left (reads entry.name) outer entry [])) (depending meta.dependencies role)
    (mapped_ok (depending meta.dependencies) (opened left (reads entry.name) outer entry []) role r)
    ∙ ap (λ (entries : List RoleEntry). Ok (Some (depending entries role))) (sym d)

-- a fault that is handed on
pub stopped : {A : Type 0} (result : Result A RoleFault) (e : RoleFault) (r : Result A RoleFault) → IsErrAnd result (λ f. f ≡ e) → Faults e r → Gives result r
stopped (Ok x) e r same faulty = absurd same
stopped (Err f) e r same faulty = subst (λ g. Faults g r) (sym same) faulty
