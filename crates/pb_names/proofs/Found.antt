-- What is found under a name once another is put in.
use Rattle.std.proofs.Common.{◌≡◌, ℕ, Bool, true, false, List, [], ◌∷◌, Global, Option, Some, Ordering, Less, Equal, Greater, cond, nat_cmp, refl, ap, ◌∙◌}
use Rattle.std.specs.declared.rc.RcStr.{RcStr}
use Rattle.std.specs.BTreeMap.{insert_entry}
use Rattle.std.specs.Cmp.Lexicographic.{slice_cmp}
use Rattle.std.specs.Map.{lookup}
use Rattle.std.specs.Ordering.{is_eq, match_ordering}
use Rattle.std.specs.Rc.{rc_str_bytes}
use Rattle.std.proofs.lemmas.Map.Lookups.{exact_bytes}

-- whether the name is the key's
abbrev pub is_text : List ℕ → RcStr Global → Bool
is_text name k = is_eq (slice_cmp nat_cmp name (rc_str_bytes k))

abbrev pub text_cmp : RcStr Global → RcStr Global → Ordering
text_cmp a b = slice_cmp nat_cmp (rc_str_bytes a) (rc_str_bytes b)

is_equal : (o : Ordering) → is_eq o ≡ true → o ≡ Equal
is_equal Less e = cc
is_equal Equal e = refl
is_equal Greater e = cc

same_name : (name other : List ℕ) → is_eq (slice_cmp nat_cmp name other) ≡ true → name ≡ other
same_name name other e = exact_bytes name other (is_equal (slice_cmp nat_cmp name other) e)

-- one name is not that of two keys of which one comes behind the other
one_alone : (name a b : List ℕ) (x y rest : Option ℕ) (here there : Bool) → slice_cmp nat_cmp a b ≡ Greater → is_eq (slice_cmp nat_cmp name a) ≡ there → is_eq (slice_cmp nat_cmp name b) ≡ here
    → cond here x (cond there y rest) ≡ cond there y (cond here x rest)
one_alone name a b x y rest true true g e f =
    let first : name ≡ a = same_name name a e in
    let second : name ≡ b = same_name name b f in
    let equal : slice_cmp nat_cmp name a ≡ Equal = is_equal (slice_cmp nat_cmp name a) e in
    cc
one_alone name a b x y rest true false g e f = refl
one_alone name a b x y rest false true g e f = refl
one_alone name a b x y rest false false g e f = refl

covered : (b : Bool) (x y rest : Option ℕ) → cond b x rest ≡ cond b x (cond b y rest)
covered true x y rest = refl
covered false x y rest = refl

found_one : (name : List ℕ) (k m : RcStr Global) (v n : ℕ) (o : Ordering) (es new : List (RcStr Global × ℕ)) → text_cmp k m ≡ o
    → lookup (is_text name) new ≡ cond (is_text name k) (Some v) (lookup (is_text name) es)
    → lookup (is_text name) (match_ordering o ((k, v) ∷ (m, n) ∷ es) ((m, v) ∷ es) ((m, n) ∷ new)) ≡ cond (is_text name k) (Some v) (lookup (is_text name) ((m, n) ∷ es))
found_one name k m v n Less es new e f = refl
found_one name k m v n Equal es new e f =
    let same : rc_str_bytes k ≡ rc_str_bytes m = exact_bytes (rc_str_bytes k) (rc_str_bytes m) e in
    rw same (covered (is_text name m) (Some v) (Some n) (lookup (is_text name) es))
found_one name k m v n Greater es new e f =
    ap (λ rest. cond (is_text name m) (Some n) rest) f ∙ one_alone name (rc_str_bytes k) (rc_str_bytes m) (Some n) (Some v) (lookup (is_text name) es) (is_text name m) (is_text name k) e refl refl

pub found_after : (name : List ℕ) (es : List (RcStr Global × ℕ)) (k : RcStr Global) (v : ℕ)
    → lookup (is_text name) (insert_entry text_cmp es k v) ≡ cond (is_text name k) (Some v) (lookup (is_text name) es)
found_after name [] k v = refl
found_after name (e ∷ es) k v = found_one name k e.0 v e.1 (text_cmp k e.0) es (insert_entry text_cmp es k v) refl (found_after name es k v)
