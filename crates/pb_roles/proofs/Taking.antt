-- The roles that a play takes are in order, and none is taken again that may not be.
use Rattle.std.proofs.Common.{◌≡◌, ℕ, zero, suc, Bool, true, false, ◌&&◌, ◌||◌, not, List, [], ◌∷◌, ◌++◌, map, Option, Some, None, Result, Ok, Err, refl, sym, ap, subst, ◌∙◌, append_assoc, append-nil, if◌then◌else◌, ◌⊎◌, inl, inr}
use Rattle.std.specs.List.{AllByRecursion}
use Rattle.std.specs.Str.{bytes_eq}
use Rattle.pb_value.specs.Reading.{and_then, map_ok}
use Rattle.pb_expr_syntax.specs.Tree.{Tree}
use Rattle.pb_operators.specs.Values.{same}
use Rattle.pb_role_entries.specs.declared.entry.RoleEntry.{RoleEntry}
use Rattle.pb_role_files.specs.declared.meta.RoleMeta.{RoleMeta}
use Rattle.pb_roles.specs.Entries.{are_written_alike, key_of, has_come, is_again}
use Rattle.pb_roles.specs.Expansion.{closed, handlers_in, in_order, is_open, meets, most_open, nothing_met, opened, role_in, role_of, unless_again, with_come}
use Rattle.pb_roles.specs.Files.{RoleRead, read_of}
use Rattle.pb_roles.specs.Taken.{AreInOrder, IsOneOf, IsRead, RolesAreInOrder, Taken, dependencies_in, handlers_of, has_alike, has_role, section_of}
use Rattle.pb_roles.specs.declared.entry_key.EntryKey.{EntryKey}
use Rattle.pb_roles.specs.declared.fault.RoleFault.{RoleFault}
use Rattle.pb_roles.specs.declared.fault.RoleFault.TheVariants.{Unknown, Cycle}
use Rattle.pb_roles.specs.declared.collected.HandlerIn.{HandlerIn}
use Rattle.pb_roles.specs.declared.collected.Expansion.{Expansion}
use Rattle.pb_roles.specs.declared.collected.Section.{Section}
use Rattle.pb_roles.specs.declared.open_role.OpenRole.{OpenRole}
use Rattle.pb_roles.proofs.Stack.{meets_fault, meets_found, meets_open}
use Rattle.pb_roles.proofs.Tests.{all_append, all_map, and_first, and_second, any_append, any_left, any_right, is_itself, none_append, none_first, none_left, none_right, none_second, or_left, or_none, or_right, same_name}

map_append : (xs ys : List Taken) → map section_of (xs ++ ys) ≡ map section_of xs ++ map section_of ys
map_append [] ys = refl
map_append (x ∷ xs) ys = ap (λ (s : List Section). section_of x ∷ s) (map_append xs ys)

-- ---- what stands while roles of these names are open

abbrev IsKnown : List (List ℕ) → List Taken → EntryKey → Type 0
IsKnown names taken came = (is_open came.name names || has_role taken came.name) ≡ true

-- the role of each entry that has come is open, or taken; and an entry has come that asked for a role that is taken
record Stands (names : List (List ℕ)) (taken : List Taken) (came : List EntryKey) : Type 0 where
  known : AllByRecursion (IsKnown names taken) came
  covered : (entry : EntryKey) → has_come entry came ≡ false → has_alike taken entry ≡ false

-- what is taken for these entries behind what was taken before, while roles of these names are open
record Takes (reads : List ℕ → RoleRead) (names : List (List ℕ)) (before : List Taken) (entries : List RoleEntry) (met after : Expansion) : Type 0 where
  inside : List Taken
  read : AllByRecursion (IsRead reads) inside
  order : AreInOrder before inside
  closed : AllByRecursion (λ (it : Taken). is_open it.entry.name names ≡ false) inside
  all : AllByRecursion (λ (entry : RoleEntry). has_role (before ++ inside) entry.name ≡ true) entries
  asked : AllByRecursion (λ (it : Taken). IsOneOf it.entry (entries ++ dependencies_in inside)) inside
  sections : after.sections ≡ met.sections ++ map section_of inside
  handlers : after.handlers ≡ met.handlers ++ handlers_of inside
  more : List EntryKey
  came : after.came ≡ met.came ++ more
  stands : Stands names (before ++ inside) after.came

come_first : (names : List (List ℕ)) (taken : List Taken) (entry c : EntryKey) (rest b : Bool) → is_again entry c ≡ b → IsKnown names taken c
    → (rest ≡ true → IsKnown names taken entry) → (b || rest) ≡ true → IsKnown names taken entry
come_first names taken entry c rest true f known later e =
    subst (λ (name : List ℕ). (is_open name names || has_role taken name) ≡ true)
    (sym (same_name entry.name c.name (and_first (bytes_eq entry.name c.name) (same entry.params c.params && are_written_alike entry.as_written c.as_written) f))) known
come_first names taken entry c rest false f known later e = later e

-- an entry that has come has its role open, or taken
come_known : (names : List (List ℕ)) (taken : List Taken) (entry : EntryKey) (came : List EntryKey)
    → AllByRecursion (IsKnown names taken) came → has_come entry came ≡ true → IsKnown names taken entry
come_known names taken entry [] a e = cc
come_known names taken entry (c ∷ came) a e =
    come_first names taken entry c (has_come entry came) (is_again entry c) refl (a.0) (λ f. come_known names taken entry came (a.1) f) e

-- ---- entries that are asked for

one_left : (entry : RoleEntry) (xs ys : List RoleEntry) → IsOneOf entry xs → IsOneOf entry (xs ++ ys)
one_left entry [] ys a = absurd a
one_left entry (x ∷ xs) ys (inl e) = inl e
one_left entry (x ∷ xs) ys (inr a) = inr (one_left entry xs ys a)

one_right : (entry : RoleEntry) (xs ys : List RoleEntry) → IsOneOf entry ys → IsOneOf entry (xs ++ ys)
one_right entry [] ys a = a
one_right entry (x ∷ xs) ys a = inr (one_right entry xs ys a)

-- in the first list, or in the second
one_of_both : (entry : RoleEntry) (xs ys : List RoleEntry) → IsOneOf entry (xs ++ ys) → IsOneOf entry xs ⊎ IsOneOf entry ys
one_of_both entry [] ys a = inr a
one_of_both entry (x ∷ xs) ys (inl e) = inl (inl e)
one_of_both entry (x ∷ xs) ys (inr a) = by_rest (one_of_both entry xs ys a)
  where
    by_rest : IsOneOf entry xs ⊎ IsOneOf entry ys → IsOneOf entry (x ∷ xs) ⊎ IsOneOf entry ys
    by_rest (inl b) = inl (inr b)
    by_rest (inr b) = inr b

-- what these lists have, that one has
one_in : (entry : RoleEntry) (xs ys zs : List RoleEntry) → (IsOneOf entry xs → IsOneOf entry zs) → (IsOneOf entry ys → IsOneOf entry zs)
    → IsOneOf entry (xs ++ ys) → IsOneOf entry zs
one_in entry xs ys zs f g a = by_part (one_of_both entry xs ys a)
  where
    by_part : IsOneOf entry xs ⊎ IsOneOf entry ys → IsOneOf entry zs
    by_part (inl b) = f b
    by_part (inr b) = g b

dependencies_append : (xs ys : List Taken) → dependencies_in (xs ++ ys) ≡ dependencies_in xs ++ dependencies_in ys
dependencies_append [] ys = refl
dependencies_append (x ∷ xs) ys =
    ap (λ (es : List RoleEntry). x.meta.dependencies ++ es) (dependencies_append xs ys) ∙ sym (append_assoc x.meta.dependencies (dependencies_in xs) (dependencies_in ys))

inner_left : (entry : RoleEntry) (xs ys : List Taken) → IsOneOf entry (dependencies_in xs) → IsOneOf entry (dependencies_in (xs ++ ys))
inner_left entry xs ys a = subst (λ (es : List RoleEntry). IsOneOf entry es) (sym (dependencies_append xs ys)) (one_left entry (dependencies_in xs) (dependencies_in ys) a)

inner_right : (entry : RoleEntry) (xs ys : List Taken) → IsOneOf entry (dependencies_in ys) → IsOneOf entry (dependencies_in (xs ++ ys))
inner_right entry xs ys a = subst (λ (es : List RoleEntry). IsOneOf entry es) (sym (dependencies_append xs ys)) (one_right entry (dependencies_in xs) (dependencies_in ys) a)

-- what is taken is asked for by these entries, or by what is taken
abbrev IsAsked : List RoleEntry → List Taken → Taken → Type 0
IsAsked entries inside it = IsOneOf it.entry (entries ++ dependencies_in inside)

asked_first : (entry : RoleEntry) (entries : List RoleEntry) (xs ys : List Taken) (it : Taken) → IsAsked (entry ∷ []) xs it → IsAsked (entry ∷ entries) (xs ++ ys) it
asked_first entry entries xs ys it a =
    one_in it.entry (entry ∷ []) (dependencies_in xs) ((entry ∷ entries) ++ dependencies_in (xs ++ ys))
    (λ b. one_left it.entry (entry ∷ entries) (dependencies_in (xs ++ ys)) (one_left it.entry (entry ∷ []) entries b))
    (λ b. one_right it.entry (entry ∷ entries) (dependencies_in (xs ++ ys)) (inner_left it.entry xs ys b)) a

asked_later : (entry : RoleEntry) (entries : List RoleEntry) (xs ys : List Taken) (it : Taken) → IsAsked entries ys it → IsAsked (entry ∷ entries) (xs ++ ys) it
asked_later entry entries xs ys it a =
    one_in it.entry entries (dependencies_in ys) ((entry ∷ entries) ++ dependencies_in (xs ++ ys))
    (λ b. one_left it.entry (entry ∷ entries) (dependencies_in (xs ++ ys)) (inr b))
    (λ b. one_right it.entry (entry ∷ entries) (dependencies_in (xs ++ ys)) (inner_right it.entry xs ys b)) a

-- what a role's dependencies ask for, where it stands behind them
asked_inside : (entry : RoleEntry) (taken : Taken) (xs : List Taken) (it : Taken) → IsAsked taken.meta.dependencies xs it → IsAsked (entry ∷ []) (xs ++ taken ∷ []) it
asked_inside entry taken xs it a =
    one_right it.entry (entry ∷ []) (dependencies_in (xs ++ taken ∷ []))
    (one_in it.entry taken.meta.dependencies (dependencies_in xs) (dependencies_in (xs ++ taken ∷ []))
    (λ b. inner_right it.entry xs (taken ∷ []) (one_left it.entry taken.meta.dependencies [] b))
    (λ b. inner_left it.entry xs (taken ∷ []) b) a)

-- ---- one after another

order_append : (before xs ys : List Taken) → AreInOrder before xs → AreInOrder (before ++ xs) ys → AreInOrder before (xs ++ ys)
order_append before [] ys a b = subst (λ (ts : List Taken). AreInOrder ts ys) (append-nil before) b
order_append before (x ∷ xs) ys a b =
    (a.0, order_append (before ++ x ∷ []) xs ys (a.1) (subst (λ (ts : List Taken). AreInOrder ts ys) (sym (append_assoc before (x ∷ []) xs)) b))

handlers_append : (xs ys : List Taken) → handlers_of (xs ++ ys) ≡ handlers_of xs ++ handlers_of ys
handlers_append [] ys = refl
handlers_append (x ∷ xs) ys =
    ap (λ (hs : List HandlerIn). handlers_in x.role.origin x.role.handlers ++ hs) (handlers_append xs ys)
    ∙ sym (append_assoc (handlers_in x.role.origin x.role.handlers) (handlers_of xs) (handlers_of ys))

behind : {X : Type 0} (a b c d e : List X) → b ≡ a ++ d → c ≡ b ++ e → c ≡ a ++ (d ++ e)
behind a b c d e f g = g ∙ ap (λ xs. xs ++ e) f ∙ append_assoc a d e

takes_none : (reads : List ℕ → RoleRead) (names : List (List ℕ)) (before : List Taken) (met : Expansion) → Stands names before met.came → Takes reads names before [] met met
takes_none reads names before met stands =
    record {
      inside = [];
      read = tt;
      order = tt;
      closed = tt;
      all = tt;
      asked = tt;
      sections = sym (append-nil met.sections);
      handlers = sym (append-nil met.handlers);
      more = [];
      came = sym (append-nil met.came);
      stands = subst (λ (ts : List Taken). Stands names ts met.came) (sym (append-nil before)) stands;
    }

takes_both : (reads : List ℕ → RoleRead) (names : List (List ℕ)) (before : List Taken) (entry : RoleEntry) (entries : List RoleEntry) (met mid after : Expansion)
    → (a : Takes reads names before (entry ∷ []) met mid) → Takes reads names (before ++ a.inside) entries mid after → Takes reads names before (entry ∷ entries) met after
takes_both reads names before entry entries met mid after a b =
    record {
      inside = a.inside ++ b.inside;
      read = all_append (IsRead reads) a.inside b.inside a.read b.read;
      order = order_append before a.inside b.inside a.order b.order;
      closed = all_append (λ (it : Taken). is_open it.entry.name names ≡ false) a.inside b.inside a.closed b.closed;
      all = (
        subst (λ (ts : List Taken). has_role ts entry.name ≡ true) whole (any_left (λ (it : Taken). bytes_eq entry.name it.entry.name) (before ++ a.inside) b.inside (a.all.0)),
        subst (λ (ts : List Taken). AllByRecursion (λ (e : RoleEntry). has_role ts e.name ≡ true) entries) whole b.all,
      );
      asked =
          all_append (IsAsked (entry ∷ entries) (a.inside ++ b.inside)) a.inside b.inside
          (all_map (IsAsked (entry ∷ []) a.inside) (IsAsked (entry ∷ entries) (a.inside ++ b.inside)) (asked_first entry entries a.inside b.inside) a.inside a.asked)
          (all_map (IsAsked entries b.inside) (IsAsked (entry ∷ entries) (a.inside ++ b.inside)) (asked_later entry entries a.inside b.inside) b.inside b.asked);
      sections =
          behind met.sections mid.sections after.sections (map section_of a.inside) (map section_of b.inside) a.sections b.sections
          ∙ ap (λ (ss : List Section). met.sections ++ ss) (sym (map_append a.inside b.inside));
      handlers =
          behind met.handlers mid.handlers after.handlers (handlers_of a.inside) (handlers_of b.inside) a.handlers b.handlers
          ∙ ap (λ (hs : List HandlerIn). met.handlers ++ hs) (sym (handlers_append a.inside b.inside));
      more = a.more ++ b.more;
      came = behind met.came mid.came after.came a.more b.more a.came b.came;
      stands = subst (λ (ts : List Taken). Stands names ts after.came) whole b.stands;
    }
  where
    whole : (before ++ a.inside) ++ b.inside ≡ before ++ (a.inside ++ b.inside)
    whole = append_assoc before a.inside b.inside

-- what each entry brings
abbrev EachTakes : (List ℕ → RoleRead) → List (List ℕ) → (RoleEntry → Expansion → Result Expansion RoleFault) → Type 0
EachTakes reads names brings =
    (entry : RoleEntry) (met after : Expansion) (before : List Taken) → Stands names before met.came → brings entry met ≡ Ok after → Takes reads names before (entry ∷ []) met after

same_ok : {A E : Type 0} (r : Result A E) (x y : A) → r ≡ Ok x → r ≡ Ok y → x ≡ y
same_ok r x y e f = cc

pub then_ok : {A B E : Type 0} (r : Result A E) (f : A → Result B E) (y : B) → and_then r f ≡ Ok y → (x : A) × (r ≡ Ok x) × (f x ≡ Ok y)
then_ok (Ok x) f y e = (x, refl, e)
then_ok (Err fault) f y e = cc

all_take : (reads : List ℕ → RoleRead) (names : List (List ℕ)) (brings : RoleEntry → Expansion → Result Expansion RoleFault) → EachTakes reads names brings
    → (entries : List RoleEntry) (met after : Expansion) (before : List Taken) → Stands names before met.came → in_order brings entries met ≡ Ok after
    → Takes reads names before entries met after
all_take reads names brings each [] met after before stands e =
    subst (λ (m : Expansion). Takes reads names before [] met m) (same_ok (in_order brings [] met) met after refl e) (takes_none reads names before met stands)
all_take reads names brings each (entry ∷ entries) met after before stands e =
    let found = then_ok (brings entry met) (in_order brings entries) after e in
    let first = each entry met (found.0) before stands (found.1) in
    takes_both reads names before entry entries met (found.0) after first
    (all_take reads names brings each entries (found.0) after (before ++ first.inside) first.stands (found.2))

-- ---- one entry

-- one that is left out
left_out : (reads : List ℕ → RoleRead) (names : List (List ℕ)) (before : List Taken) (entry : RoleEntry) (met : Expansion)
    → Stands names before met.came → is_open entry.name names ≡ false → has_come (key_of entry) met.came ≡ true → Takes reads names before (entry ∷ []) met (with_come entry met)
left_out reads names before entry met stands shut come =
    record {
      inside = [];
      read = tt;
      order = tt;
      closed = tt;
      all = (subst (λ (ts : List Taken). has_role ts entry.name ≡ true) (sym (append-nil before)) there, tt);
      asked = tt;
      sections = sym (append-nil met.sections);
      handlers = sym (append-nil met.handlers);
      more = key_of entry ∷ [];
      came = refl;
      stands =
          subst (λ (ts : List Taken). Stands names ts (met.came ++ key_of entry ∷ [])) (sym (append-nil before))
          (record {
            known = all_append (IsKnown names before) met.came (key_of entry ∷ []) stands.known (or_right (is_open entry.name names) (has_role before entry.name) there, tt);
            covered = λ e none. stands.covered e (none_left (is_again e) met.came (key_of entry ∷ []) none);
          });
    }
  where
    taken_or : (a b : Bool) → (a || b) ≡ true → a ≡ false → b ≡ true
    taken_or true b e f = cc
    taken_or false b e f = e

    there : has_role before entry.name ≡ true
    there = taken_or (is_open entry.name names) (has_role before entry.name) (come_known names before (key_of entry) met.came stands.known come) shut

-- while a role is open its entry has come
opening : (names : List (List ℕ)) (before : List Taken) (entry : RoleEntry) (came : List EntryKey) → Stands names before came
    → Stands (entry.name ∷ names) before (came ++ key_of entry ∷ [])
opening names before entry came stands =
    record {
      known =
          all_append (IsKnown (entry.name ∷ names) before) came (key_of entry ∷ [])
          (all_map (IsKnown names before) (IsKnown (entry.name ∷ names) before) (λ c known. wider (bytes_eq c.name entry.name) (is_open c.name names) (has_role before c.name) known) came stands.known)
          (or_left (is_open entry.name (entry.name ∷ names)) (has_role before entry.name) (or_left (bytes_eq entry.name entry.name) (is_open entry.name names) (is_itself entry.name)), tt);
      covered = λ e none. stands.covered e (none_left (is_again e) came (key_of entry ∷ []) none);
    }
  where
    wider : (a b c : Bool) → (b || c) ≡ true → ((a || b) || c) ≡ true
    wider true b c e = refl
    wider false b c e = e

-- a role that is taken comes behind what its dependencies bring
abbrev taken_for : RoleEntry → RoleMeta → OpenRole → Taken
taken_for entry meta role = record { entry = entry; meta = meta; role = role }

-- no role inside it is asked for by an entry like its own
none_alike : (names : List (List ℕ)) (entry : RoleEntry) (inside : List Taken)
    → AllByRecursion (λ (it : Taken). is_open it.entry.name (entry.name ∷ names) ≡ false) inside → has_alike inside (key_of entry) ≡ false
none_alike names entry [] a = refl
none_alike names entry (it ∷ inside) a =
    or_none (is_again (key_of entry) (key_of it.entry)) (has_alike inside (key_of entry))
    (by_name (bytes_eq entry.name it.entry.name) _ refl (none_first (bytes_eq it.entry.name entry.name) (is_open it.entry.name names) (a.0)))
    (none_alike names entry inside (a.1))
  where
    by_name : (b more : Bool) → bytes_eq entry.name it.entry.name ≡ b → bytes_eq it.entry.name entry.name ≡ false → (b && more) ≡ false
    by_name true more e f = let wrong = subst (λ (name : List ℕ). bytes_eq it.entry.name name ≡ true) (sym (same_name entry.name it.entry.name e)) (is_itself it.entry.name) in cc
    by_name false more e f = refl

-- its entry is a new one, unless it may come again
may_come : (names : List (List ℕ)) (before inside : List Taken) (entry : RoleEntry) (allows : Bool) (came : List EntryKey) → Stands names before came
    → (not allows && has_come (key_of entry) came) ≡ false → has_alike inside (key_of entry) ≡ false → (allows || not (has_alike (before ++ inside) (key_of entry))) ≡ true
may_come names before inside entry true came stands e f = refl
may_come names before inside entry false came stands e f =
    ap not (none_append (λ (it : Taken). is_again (key_of entry) (key_of it.entry)) before inside (stands.covered (key_of entry) e) f)

-- once it is closed, its role is taken
closing : (names : List (List ℕ)) (before inside : List Taken) (entry : RoleEntry) (meta : RoleMeta) (role : OpenRole) (came more whole : List EntryKey)
    → Stands (entry.name ∷ names) (before ++ inside) whole → whole ≡ (came ++ key_of entry ∷ []) ++ more
    → Stands names (before ++ (inside ++ taken_for entry meta role ∷ [])) whole
closing names before inside entry meta role came more whole stands e =
    subst (λ (ts : List Taken). Stands names ts whole) (append_assoc before inside (it ∷ []))
    (record {
      known =
          all_map (IsKnown (entry.name ∷ names) (before ++ inside)) (IsKnown names ((before ++ inside) ++ it ∷ []))
          (λ c known.
          ap (λ b. is_open c.name names || b) (any_append (λ (t : Taken). bytes_eq c.name t.entry.name) (before ++ inside) (it ∷ []))
          ∙ turned (bytes_eq c.name entry.name) (is_open c.name names) (has_role (before ++ inside) c.name) known)
          whole stands.known;
      covered = λ c none.
          none_append (λ (t : Taken). is_again c (key_of t.entry)) (before ++ inside) (it ∷ []) (stands.covered c none)
          (none_right (is_again c) came (key_of entry ∷ [])
          (none_left (is_again c) (came ++ key_of entry ∷ []) more (subst (λ (cs : List EntryKey). has_come c cs ≡ false) e none)));
    })
  where
    it : Taken
    it = taken_for entry meta role

    turned : (a b c : Bool) → ((a || b) || c) ≡ true → (b || (c || (a || false))) ≡ true
    turned a true c f = refl
    turned a false true f = refl
    turned true false false f = refl
    turned false false false f = f

taken : (reads : List ℕ → RoleRead) (names : List (List ℕ)) (before : List Taken) (entry : RoleEntry) (meta : RoleMeta) (role : OpenRole) (met mid : Expansion)
    → Stands names before met.came → is_open entry.name names ≡ false → IsRead reads (taken_for entry meta role)
    → (not meta.allow_duplicates && has_come (key_of entry) met.came) ≡ false
    → Takes reads (entry.name ∷ names) before meta.dependencies (with_come entry met) mid → Takes reads names before (entry ∷ []) met (closed role mid)
taken reads names before entry meta role met mid stands shut read fresh d =
    record {
      inside = d.inside ++ it ∷ [];
      read = all_append (IsRead reads) d.inside (it ∷ []) d.read (read, tt);
      order =
          order_append before d.inside (it ∷ []) d.order
          ((d.all, may_come names before d.inside entry meta.allow_duplicates met.came stands fresh (none_alike names entry d.inside d.closed)), tt);
      closed =
          all_append (λ (t : Taken). is_open t.entry.name names ≡ false) d.inside (it ∷ [])
          (all_map (λ (t : Taken). is_open t.entry.name (entry.name ∷ names) ≡ false) (λ (t : Taken). is_open t.entry.name names ≡ false)
          (λ t none. none_second (bytes_eq t.entry.name entry.name) (is_open t.entry.name names) none) d.inside d.closed)
          (shut, tt);
      all = (
        any_right (λ (t : Taken). bytes_eq entry.name t.entry.name) before (d.inside ++ it ∷ [])
            (any_right (λ (t : Taken). bytes_eq entry.name t.entry.name) d.inside (it ∷ []) (or_left (bytes_eq entry.name entry.name) false (is_itself entry.name))),
        tt,
      );
      asked =
          all_append (IsAsked (entry ∷ []) (d.inside ++ it ∷ [])) d.inside (it ∷ [])
          (all_map (IsAsked meta.dependencies d.inside) (IsAsked (entry ∷ []) (d.inside ++ it ∷ [])) (asked_inside entry it d.inside) d.inside d.asked)
          (inl refl, tt);
      sections =
          behind met.sections mid.sections (mid.sections ++ section_of it ∷ []) (map section_of d.inside) (section_of it ∷ []) d.sections refl
          ∙ ap (λ (ss : List Section). met.sections ++ ss) (sym (map_append d.inside (it ∷ [])));
      handlers =
          behind met.handlers mid.handlers (mid.handlers ++ brought) (handlers_of d.inside) (handlers_of (it ∷ [])) d.handlers
          (ap (λ (hs : List HandlerIn). mid.handlers ++ hs) (sym (append-nil brought)))
          ∙ ap (λ (hs : List HandlerIn). met.handlers ++ hs) (sym (handlers_append d.inside (it ∷ [])));
      more = key_of entry ∷ d.more;
      came = d.came ∙ append_assoc met.came (key_of entry ∷ []) d.more;
      stands = closing names before d.inside entry meta role met.came d.more mid.came d.stands d.came;
    }
  where
    it : Taken
    it = taken_for entry meta role

    brought : List HandlerIn
    brought = handlers_in role.origin role.handlers

-- ---- what is read of a role

pub opened_is : (left : ℕ) (read : RoleRead) (outer : List Tree) (entry : RoleEntry) (dependencies : List RoleEntry) (role : OpenRole)
    → opened left read outer entry dependencies ≡ Ok role → (role.name ≡ entry.name) × (role.dependencies ≡ dependencies)
opened_is left read outer entry dependencies role e =
    let defaults = then_ok read.defaults _ role e in
    let vars = then_ok read.vars _ role (defaults.2) in
    let nodes = then_ok read.nodes _ role (vars.2) in
    let handlers = then_ok read.handlers _ role (nodes.2) in
    let same = same_ok (Ok _) _ role refl (handlers.2) in
    (ap (λ (r : OpenRole). r.name) (sym same), ap (λ (r : OpenRole). r.dependencies) (sym same))

pub mapped_ok : {A B E : Type 0} (f : A → B) (r : Result A E) (y : B) → map_ok f r ≡ Ok y → (x : A) × (r ≡ Ok x) × (f x ≡ y)
mapped_ok f (Ok x) y e = (x, refl, same_ok (map_ok f (Ok x)) (f x) y refl e)
mapped_ok f (Err fault) y e = cc

-- a role that counts is there, with its dependencies
pub counts : (n : ℕ) (read : RoleRead) (outer : List Tree) (entry : RoleEntry) (came : List EntryKey) (found : Option OpenRole)
    → role_in n read outer entry came ≡ Ok found
    → (read.is_missing ≡ false) × (meta : RoleMeta) × (read.meta ≡ Ok meta) × (unless_again n read outer entry came meta ≡ Ok found)
counts n read outer entry came found e = by_missing read.is_missing refl e
  where
    by_missing : (b : Bool) → read.is_missing ≡ b
        → (if b then Err (Unknown entry.name) else and_then read.meta (unless_again n read outer entry came)) ≡ Ok found
        → (read.is_missing ≡ false) × (meta : RoleMeta) × (read.meta ≡ Ok meta) × (unless_again n read outer entry came meta ≡ Ok found)
    by_missing true f g = cc
    by_missing false f g = let meta = then_ok read.meta (unless_again n read outer entry came) found g in (f, meta.0, meta.1, meta.2)

again : (n : ℕ) (read : RoleRead) (outer : List Tree) (entry : RoleEntry) (came : List EntryKey) (meta : RoleMeta)
    → unless_again n read outer entry came meta ≡ Ok None → has_come (key_of entry) came ≡ true
again n read outer entry came meta e = by_test (not meta.allow_duplicates && has_come (key_of entry) came) refl e
  where
    by_test : (b : Bool) → (not meta.allow_duplicates && has_come (key_of entry) came) ≡ b
        → (if b then Ok None else map_ok Some (opened n read outer entry meta.dependencies)) ≡ Ok None → has_come (key_of entry) came ≡ true
    by_test true f g = and_second (not meta.allow_duplicates) (has_come (key_of entry) came) f
    by_test false f g = let found = mapped_ok Some (opened n read outer entry meta.dependencies) None g in let wrong = found.2 in cc

pub first_time : (n : ℕ) (read : RoleRead) (outer : List Tree) (entry : RoleEntry) (came : List EntryKey) (meta : RoleMeta) (role : OpenRole)
    → unless_again n read outer entry came meta ≡ Ok (Some role)
    → ((not meta.allow_duplicates && has_come (key_of entry) came) ≡ false) × (opened n read outer entry meta.dependencies ≡ Ok role)
first_time n read outer entry came meta role e = by_test (not meta.allow_duplicates && has_come (key_of entry) came) refl e
  where
    some : (a b : OpenRole) → Some a ≡ Some b → a ≡ b
    some a b s = cc

    by_test : (b : Bool) → (not meta.allow_duplicates && has_come (key_of entry) came) ≡ b
        → (if b then Ok None else map_ok Some (opened n read outer entry meta.dependencies)) ≡ Ok (Some role)
        → ((not meta.allow_duplicates && has_come (key_of entry) came) ≡ false) × (opened n read outer entry meta.dependencies ≡ Ok role)
    by_test true f g = cc
    by_test false f g =
        let found = mapped_ok Some (opened n read outer entry meta.dependencies) (Some role) g in
        (f, found.1 ∙ ap (λ (r : OpenRole). Ok r) (some (found.0) role (found.2)))

-- ---- entries

pub role_found : (n : ℕ) (reads : List ℕ → RoleRead) (outer : List Tree) (entry : RoleEntry) (came : List EntryKey) (found : Option OpenRole)
    → role_of n reads outer entry came ≡ Ok found → role_in n (reads entry.name) outer entry came ≡ Ok found
unfolding role_of
role_found n reads outer entry came found e = e

opens : (n : ℕ) (reads : List ℕ → RoleRead) (names : List (List ℕ)) (outer : List Tree) (before : List Taken) (entry : RoleEntry) (role : OpenRole) (met after : Expansion)
    → ((names : List (List ℕ)) (outer : List Tree) → EachTakes reads names (meets n reads names outer))
    → Stands names before met.came → is_open entry.name names ≡ false → role_of n reads outer entry met.came ≡ Ok (Some role)
    → map_ok (closed role) (in_order (meets n reads (role.name ∷ names) role.origin.conditions) role.dependencies (with_come entry met)) ≡ Ok after
    → Takes reads names before (entry ∷ []) met after
opens n reads names outer before entry role met after each stands shut e f =
    let read = counts n (reads entry.name) outer entry met.came (Some role) (role_found n reads outer entry met.came (Some role) e) in
    let new = first_time n (reads entry.name) outer entry met.came (read.1) role (read.3) in
    let same = opened_is n (reads entry.name) outer entry read.1.dependencies role (new.1) in
    let ended = mapped_ok (closed role) (in_order (meets n reads (role.name ∷ names) role.origin.conditions) role.dependencies (with_come entry met)) after f in
    subst (λ (m : Expansion). Takes reads names before (entry ∷ []) met m) (ended.2)
    (taken reads names before entry (read.1) role met (ended.0) stands shut
    (record { there = read.0; meta = read.2; left = n; outer = outer; role = new.1 })
    (new.0)
    (all_take reads (entry.name ∷ names) (meets n reads (entry.name ∷ names) role.origin.conditions) (each (entry.name ∷ names) role.origin.conditions)
    read.1.dependencies (with_come entry met) (ended.0) before (opening names before entry met.came stands)
    (subst (λ (deps : List RoleEntry). in_order (meets n reads (entry.name ∷ names) role.origin.conditions) deps (with_come entry met) ≡ Ok (ended.0)) (same.1)
    (subst (λ (name : List ℕ). in_order (meets n reads (name ∷ names) role.origin.conditions) role.dependencies (with_come entry met) ≡ Ok (ended.0)) (same.0) (ended.1)))))

pub none_left_to_open : (reads : List ℕ → RoleRead) (names : List (List ℕ)) (outer : List Tree) (entry : RoleEntry) (met : Expansion) → meets zero reads names outer entry met ≡ Err Cycle
unfolding meets
none_left_to_open reads names outer entry met = refl

enters : (n : ℕ) (reads : List ℕ → RoleRead) → ((names : List (List ℕ)) (outer : List Tree) → EachTakes reads names (meets n reads names outer))
    → (names : List (List ℕ)) (outer : List Tree) → EachTakes reads names (meets (suc n) reads names outer)
enters n reads each names outer entry met after before stands e = by_open (is_open entry.name names) refl
  where
    by_role : (r : Result (Option OpenRole) RoleFault) → is_open entry.name names ≡ false → role_of n reads outer entry met.came ≡ r → Takes reads names before (entry ∷ []) met after
    by_role (Err fault) shut f = let wrong = sym (meets_fault n reads names outer entry met fault shut f) ∙ e in cc
    by_role (Ok None) shut f =
        let read = counts n (reads entry.name) outer entry met.came None (role_found n reads outer entry met.came None f) in
        subst (λ (m : Expansion). Takes reads names before (entry ∷ []) met m)
        (same_ok (meets (suc n) reads names outer entry met) (with_come entry met) after (meets_found n reads names outer entry met None shut f) e)
        (left_out reads names before entry met stands shut (again n (reads entry.name) outer entry met.came (read.1) (read.3)))
    by_role (Ok (Some role)) shut f =
        opens n reads names outer before entry role met after each stands shut f (sym (meets_found n reads names outer entry met (Some role) shut f) ∙ e)

    by_open : (b : Bool) → is_open entry.name names ≡ b → Takes reads names before (entry ∷ []) met after
    by_open true f = let wrong = sym (meets_open (suc n) reads names outer entry met f) ∙ e in cc
    by_open false f = by_role (role_of n reads outer entry met.came) f refl

entry_takes : (n : ℕ) (reads : List ℕ → RoleRead) (names : List (List ℕ)) (outer : List Tree) → EachTakes reads names (meets n reads names outer)
entry_takes zero reads names outer entry met after before stands e = let wrong = sym (none_left_to_open reads names outer entry met) ∙ e in cc
entry_takes (suc n) reads names outer entry met after before stands e = enters n reads (entry_takes n reads) names outer entry met after before stands e

pub roles_are_in_order : RolesAreInOrder
roles_are_in_order files entries met e =
    let all = all_take (read_of files) [] (meets (most_open files) (read_of files) [] []) (entry_takes (most_open files) (read_of files) [] []) entries nothing_met met []
    (record { known = tt; covered = λ entry none. refl }) e in
    record { taken = all.inside; read = all.read; order = all.order; all = all.all; asked = all.asked; sections = all.sections; handlers = all.handlers }
