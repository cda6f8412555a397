-- The numbers of names once another is put last.
use Rattle.std.proofs.Common.{◌≡◌, ℕ, suc, ◌+◌, Bool, true, false, List, [], ◌∷◌, ◌++◌, length, Global, Option, Some, None, cond, refl, sym, ap, ◌∙◌, arith}
use Rattle.std.specs.Prelude.{◌||◌, is_some, position, if◌then◌else◌}
use Rattle.std.specs.declared.rc.RcStr.{RcStr}
use Rattle.std.specs.BTreeMap.{BTreeMap, insert_entry}
use Rattle.std.specs.List.{list_any, position_from}
use Rattle.std.specs.Rc.{rc_str_bytes}
use Rattle.std.specs.Str.{bytes_eq}
use Rattle.std.proofs.lemmas.Iterator.Adapters.{position_from-zero}
use Rattle.std.proofs.lemmas.Map.Text.{is_eq-slice_cmp}
use Rattle.std.proofs.lemmas.Slice.Eq.{bytes_eq-Decides}
use Rattle.pb_names.specs.Kept.{texts, FindsEach}
use Rattle.pb_names.specs.Names.{with_name}
use Rattle.pb_names.proofs.Found.{text_cmp, found_after}

-- ---- whether a name is there
is_here : (b : Bool) (i : ℕ) (rest : Option ℕ) (any : Bool) → is_some rest ≡ any → is_some (cond b (Some i) rest) ≡ (b || any)
is_here true i rest any e = refl
is_here false i rest any e = e

is_listed_from : (p : List ℕ → Bool) (i : ℕ) (names : List (List ℕ)) → is_some (position_from p i names) ≡ list_any p names
is_listed_from p i [] = refl
is_listed_from p i (n ∷ names) = is_here (p n) i (position_from p (i + 1) names) (list_any p names) (is_listed_from p (i + 1) names)

pub is_listed : (p : List ℕ → Bool) (names : List (List ℕ)) → is_some (position p names) ≡ list_any p names
is_listed p names = ap is_some (position_from-zero p names) ∙ is_listed_from p 0 names

pub stays : (name : List ℕ) (names : List (List ℕ)) → is_some (position (bytes_eq name) names) ≡ true → names ≡ with_name name names
stays name names e = sym (ap (λ b. if b then names else names ++ name ∷ []) (sym (is_listed (bytes_eq name) names) ∙ e))

pub grows : (name : List ℕ) (names : List (List ℕ)) → is_some (position (bytes_eq name) names) ≡ false → names ++ name ∷ [] ≡ with_name name names
grows name names e = sym (ap (λ b. if b then names else names ++ name ∷ []) (sym (is_listed (bytes_eq name) names) ∙ e))

-- ---- a name more
pushed_one : (b c : Bool) (i n : ℕ) (rest new : Option ℕ) → new ≡ cond c (cond (is_some rest) rest (Some n)) rest
    → cond b (Some i) new ≡ cond c (cond (is_some (cond b (Some i) rest)) (cond b (Some i) rest) (Some n)) (cond b (Some i) rest)
pushed_one true true i n rest new e = refl
pushed_one true false i n rest new e = refl
pushed_one false c i n rest new e = e

pushed_from : (p : List ℕ → Bool) (i n : ℕ) (names : List (List ℕ)) (last : List ℕ) → n ≡ i + length names
    → position_from p i (names ++ last ∷ []) ≡ cond (p last) (cond (is_some (position_from p i names)) (position_from p i names) (Some n)) (position_from p i names)
pushed_from p i n [] last e = let same : i ≡ n = omega (arith, e) in rw same refl
pushed_from p i n (m ∷ names) last e =
    pushed_one (p m) (p last) i n (position_from p (i + 1) names) _ (pushed_from p (i + 1) n names last (omega (arith, e)))

pushed : (p : List ℕ → Bool) (names : List (List ℕ)) (last : List ℕ)
    → position p (names ++ last ∷ []) ≡ cond (p last) (cond (is_some (position p names)) (position p names) (Some (length names))) (position p names)
pushed p names last =
    position_from-zero p (names ++ last ∷ []) ∙ pushed_from p 0 (length names) names last (omega arith)
    ∙ ap (λ found. cond (p last) (cond (is_some found) found (Some (length names))) found) (sym (position_from-zero p names))

-- the name under which nothing stood
at_new : (name new : List ℕ) (names : List (List ℕ)) (b : Bool) → bytes_eq name new ≡ b → position (bytes_eq new) names ≡ None
    → cond b (Some (length names)) (position (bytes_eq name) names) ≡ cond b (cond (is_some (position (bytes_eq name) names)) (position (bytes_eq name) names) (Some (length names))) (position (bytes_eq name) names)
at_new name new names true e none =
    let same : name ≡ new = (bytes_eq-Decides name new).0 e in
    rw (same, none) refl
at_new name new names false e none = refl

texts-push : (names : List (RcStr Global)) (n : RcStr Global) → texts (names ++ n ∷ []) ≡ texts names ++ rc_str_bytes n ∷ []
texts-push [] n = refl
texts-push (m ∷ names) n = ap (λ t. rc_str_bytes m ∷ t) (texts-push names n)

length-texts : (names : List (RcStr Global)) → length (texts names) ≡ length names
length-texts [] = refl
length-texts (n ∷ names) = ap suc (length-texts names)

-- a new name's number stands under it, and under each other what stood there
pub finds_more : (names : List (RcStr Global)) (old new : BTreeMap (RcStr Global) ℕ) (n k : RcStr Global) → FindsEach names old → rc_str_bytes n ≡ rc_str_bytes k
    → position (bytes_eq (rc_str_bytes k)) (texts names) ≡ None → new.entries ≡ insert_entry text_cmp old.entries k (length names) → FindsEach (names ++ n ∷ []) new
finds_more names old new n k h same none e = λ name.
    rw (e, texts-push names n, same)
    (found_after name old.entries k (length names)
    ∙ rw (is_eq-slice_cmp name (rc_str_bytes k), h name, sym (length-texts names))
    (at_new name (rc_str_bytes k) (texts names) (bytes_eq name (rc_str_bytes k)) refl none ∙ sym (pushed (bytes_eq name) (texts names) (rc_str_bytes k))))
