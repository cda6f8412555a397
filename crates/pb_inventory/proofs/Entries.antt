-- Names and what stands under each, as one list.
use Rattle.std.proofs.Common.{◌≡◌, ◌+◌, ℕ, zero, suc, Bool, true, false, List, [], ◌∷◌, ◌++◌, length, set, Option, Some, None, cond, refl, sym, ap, ◌∙◌, arith}
use Rattle.std.specs.Prelude.{◌||◌, if◌then◌else◌, position, slice_get, zip}
use Rattle.std.specs.List.{position_from, list_any}
use Rattle.std.specs.Map.{keys_of}
use Rattle.std.specs.Option.{option_map}
use Rattle.std.specs.Str.{bytes_eq}
use Rattle.std.proofs.lemmas.Iterator.Adapters.{position_from-zero}
use Rattle.pb_inventory.specs.Named.{under, with_entry}
use Rattle.pb_inventory.specs.Names.{with_name}

-- ---- the place of a name
abbrev place : (List ℕ → Bool) → List (List ℕ) → Option ℕ
place p [] = None
place p (n ∷ names) = cond (p n) (Some zero) (option_map suc (place p names))

further : (b : Bool) (i : ℕ) (o rest : Option ℕ) → rest ≡ option_map (λ n. n + suc i) o → cond b (Some i) rest ≡ option_map (λ n. n + i) (cond b (Some zero) (option_map suc o))
further true i o rest e = ap Some (omega arith)
further false i None rest e = e
further false i (Some n) rest e = e ∙ ap Some (omega arith)

place_from : (p : List ℕ → Bool) (i : ℕ) (names : List (List ℕ)) → position_from p i names ≡ option_map (λ n. n + i) (place p names)
place_from p i [] = refl
place_from p i (n ∷ names) =
    let next : i + 1 ≡ suc i = omega arith in
    further (p n) i (place p names) (position_from p (i + 1) names) (place_from p (i + 1) names ∙ ap (λ j. option_map (λ n. n + j) (place p names)) next)

same_number : (o : Option ℕ) → option_map (λ n. n + 0) o ≡ o
same_number None = refl
same_number (Some n) = ap Some (omega arith)

position_place : (p : List ℕ → Bool) (names : List (List ℕ)) → position p names ≡ place p names
position_place p names = position_from-zero p names ∙ place_from p 0 names ∙ same_number (place p names)

-- ---- what stands under a name
abbrev at_number : {X : Type 0} → Option ℕ → List X → Option X
at_number None values = None
at_number (Some n) values = slice_get values n

found_one : {X : Type 0} (b : Bool) (v : X) (values : List X) (o : Option ℕ) (rest : Option X) → rest ≡ at_number o values → cond b (Some v) rest ≡ at_number (cond b (Some zero) (option_map suc o)) (v ∷ values)
found_one true v values o rest e = refl
found_one false v values None rest e = e
found_one false v values (Some n) rest e = e

none_there : {X : Type 0} (o : Option ℕ) → None ≡ at_number {X = X} o []
none_there None = refl
none_there (Some n) = refl

found : {X : Type 0} (name : List ℕ) (names : List (List ℕ)) (values : List X) → under name (zip names values) ≡ at_number (place (bytes_eq name) names) values
found name [] values = refl
found name (n ∷ names) [] = none_there (place (bytes_eq name) (n ∷ names))
found name (n ∷ names) (v ∷ values) = found_one (bytes_eq name n) v values (place (bytes_eq name) names) (under name (zip names values)) (found name names values)

pub under_some : {X : Type 0} (name : List ℕ) (names : List (List ℕ)) (values : List X) (n : ℕ) → Some n ≡ position (bytes_eq name) names → slice_get values n ≡ under name (zip names values)
under_some name names values n e = ap (λ o. at_number o values) (e ∙ position_place (bytes_eq name) names) ∙ sym (found name names values)

pub under_none : {X : Type 0} (name : List ℕ) (names : List (List ℕ)) (values : List X) → None ≡ position (bytes_eq name) names → None ≡ under name (zip names values)
under_none name names values e = ap (λ o. at_number o values) (e ∙ position_place (bytes_eq name) names) ∙ sym (found name names values)

-- ---- in place of what stood there
replaced_one : {X : Type 0} (b : Bool) (n : List ℕ) (names : List (List ℕ)) (v x : X) (values : List X) (i : ℕ) (o : Option ℕ) (rest : List (List ℕ × X)) → ((j : ℕ) → o ≡ Some j → rest ≡ zip names (set values j x))
    → cond b (Some zero) (option_map suc o) ≡ Some i → (if b then (n, x) ∷ zip names values else (n, v) ∷ rest) ≡ zip (n ∷ names) (set (v ∷ values) i x)
replaced_one true n names v x values i o rest f e = let same : 0 ≡ i = cc in rw (← same)
replaced_one false n names v x values i None rest f e = cc
replaced_one false n names v x values i (Some j) rest f e = let same : suc j ≡ i = cc in rw (← same) (ap (λ es. (n, v) ∷ es) (f j refl))

replaced_at : {X : Type 0} (name : List ℕ) (x : X) (names : List (List ℕ)) (values : List X) (i : ℕ) → length names ≡ length values → place (bytes_eq name) names ≡ Some i
    → with_entry name x (zip names values) ≡ zip names (set values i x)
replaced_at name x [] values i l e = cc
replaced_at name x (n ∷ names) [] i l e = cc
replaced_at name x (n ∷ names) (v ∷ values) i l e =
    replaced_one (bytes_eq name n) n names v x values i (place (bytes_eq name) names) (with_entry name x (zip names values)) (λ j. replaced_at name x names values j (omega (arith, l))) e

pub replaced : {X : Type 0} (name : List ℕ) (x : X) (names : List (List ℕ)) (values : List X) (i : ℕ) → length names ≡ length values → Some i ≡ position (bytes_eq name) names
    → zip names (set values i x) ≡ with_entry name x (zip names values)
replaced name x names values i l e = sym (replaced_at name x names values i l (sym (e ∙ position_place (bytes_eq name) names)))

-- ---- under a new name
last_one : {X : Type 0} (b : Bool) (entry : List ℕ × X) (x : X) (name : List ℕ) (entries : List (List ℕ × X)) → cond b (Some entry.1) (under name entries) ≡ None
    → (under name entries ≡ None → entries ++ (name, x) ∷ [] ≡ with_entry name x entries) → entry ∷ (entries ++ (name, x) ∷ []) ≡ (if b then (entry.0, x) ∷ entries else entry ∷ with_entry name x entries)
last_one true entry x name entries e f = cc
last_one false entry x name entries e f = ap (λ t. entry ∷ t) (f e)

pub last_entry : {X : Type 0} (name : List ℕ) (x : X) (entries : List (List ℕ × X)) → under name entries ≡ None → entries ++ (name, x) ∷ [] ≡ with_entry name x entries
last_entry name x [] e = refl
last_entry name x (entry ∷ entries) e = last_one (bytes_eq name entry.0) entry x name entries e (last_entry name x entries)

none_one : {X : Type 0} (b : Bool) (v : X) (rest : Option X) (any : Bool) → cond b (Some v) rest ≡ None → (rest ≡ None → any ≡ false) → (b || any) ≡ false
none_one true v rest any e f = cc
none_one false v rest any e f = f e

unlisted : {X : Type 0} (name : List ℕ) (names : List (List ℕ)) (values : List X) → length names ≡ length values → under name (zip names values) ≡ None → list_any (bytes_eq name) names ≡ false
unlisted name [] values l e = refl
unlisted name (n ∷ names) [] l e = cc
unlisted name (n ∷ names) (v ∷ values) l e = none_one (bytes_eq name n) v (under name (zip names values)) (list_any (bytes_eq name) names) e (unlisted name names values (omega (arith, l)))

pub new_name : {X : Type 0} (name : List ℕ) (names : List (List ℕ)) (values : List X) → length names ≡ length values → under name (zip names values) ≡ None → with_name name names ≡ names ++ name ∷ []
new_name name names values l e = ap (λ b. if b then names else names ++ name ∷ []) (unlisted name names values l e)

pub still_long : {X : Type 0} (name : List ℕ) (names : List (List ℕ)) (values : List X) (x : X) → length names ≡ length values → length (names ++ name ∷ []) ≡ length (values ++ x ∷ [])
still_long name [] [] x l = refl
still_long name [] (v ∷ values) x l = cc
still_long name (n ∷ names) [] x l = cc
still_long name (n ∷ names) (v ∷ values) x l = ap suc (still_long name names values x (omega (arith, l)))

pub zip-push : {X : Type 0} (names : List (List ℕ)) (values : List X) (name : List ℕ) (x : X) → length names ≡ length values → zip (names ++ name ∷ []) (values ++ x ∷ []) ≡ zip names values ++ (name, x) ∷ []
zip-push [] [] name x l = refl
zip-push [] (v ∷ values) name x l = cc
zip-push (n ∷ names) [] name x l = cc
zip-push (n ∷ names) (v ∷ values) name x l = ap (λ t. (n, v) ∷ t) (zip-push names values name x (omega (arith, l)))

pub keys_zip : {X : Type 0} (names : List (List ℕ)) (values : List X) → length names ≡ length values → names ≡ keys_of (zip names values)
keys_zip [] values l = refl
keys_zip (n ∷ names) [] l = cc
keys_zip (n ∷ names) (v ∷ values) l = ap (λ t. n ∷ t) (keys_zip names values (omega (arith, l)))
