-- A name that is marked in the layers is read as it is stored in each scope over them.
use Rattle.std.specs.Prelude.{nat_lt}
use Rattle.std.proofs.Common.{◌≡◌, ℕ, Bool, true, false, not, ◌==◌, ◌&&◌, ◌||◌, List, [], ◌∷◌, length, Option, Some, None, refl, ap, ◌∙◌, subst, eqb-true}
use Rattle.std.specs.Option.{option_map}
use Rattle.std.specs.Str.{bytes_eq}
use Rattle.std.proofs.lemmas.Slice.Eq.{bytes_eq-Decides}
use Rattle.pb_value.specs.Datum.{Datum, value_at}
use Rattle.pb_template.specs.Plain.{is_plain}
use Rattle.pb_layers.specs.Scope.{Map, layers, scope, with_put, with_seen, or_else, found, has_templates}
use Rattle.pb_layers.specs.Marked.{is_plain_if, has_plain, is_mark, is_marked, is_read_as_stored, IsKnown}
use Rattle.pb_layers.proofs.Seen.{put_same, put_other}

or_second : (x y : Bool) → y ≡ true → (x || y) ≡ true
or_second true y h = refl
or_second false y h = h

-- what is found is the value of the name
pub found_plain : (maps : List Map) (name : List ℕ) (f : ℕ × Datum) → found name maps ≡ Some f → is_plain f.1 ≡ true → is_mark maps name ≡ true
found_plain maps name f e plain = or_second (length name == 0) (has_plain maps name) (ap (λ (o : Option (ℕ × Datum)). is_plain_if (option_map (λ g. g.1) o)) e ∙ plain)

-- a value with the number of its layer
abbrev at : ℕ → Option Datum → Option (ℕ × Datum)
at n o = option_map (λ v. (n, v)) o

below_set : (set : Option Datum) (below : Option (ℕ × Datum)) → set ≡ None → is_plain_if (option_map (λ f. f.1) (or_else (at 9 set) below)) ≡ true → is_read_as_stored below ≡ true
below_set set None e h = refl
below_set None (Some f) e h = or_second (not (has_templates f.0)) (is_plain f.1) h
below_set (Some v) (Some f) e h = cc

-- the highest that is there: what stands above the layers, and what was set, has no templates
highest : (variable magic extra params put set : Option Datum) (below : Option (ℕ × Datum)) → (put ≡ None → set ≡ None)
    → is_plain_if (option_map (λ f. f.1) (or_else (at 11 extra) (or_else (at 10 params) (or_else (at 9 set) below)))) ≡ true
    → is_read_as_stored (or_else (at 13 variable) (or_else (at 12 magic) (or_else (at 11 extra) (or_else (at 10 params) (or_else (at 9 put) below))))) ≡ true
highest (Some v) magic extra params put set below same h = refl
highest None (Some v) extra params put set below same h = refl
highest None None (Some v) params put set below same h = h
highest None None None (Some v) put set below same h = h
highest None None None None (Some v) set below same h = refl
highest None None None None None set below same h = below_set set below (same refl) h

-- a name without a value among those that were set and seen has none among those that were set
none_set : (seen : Option (List ℕ × Datum)) (m : Map) (name : List ℕ) → value_at name (with_put seen m) ≡ None → value_at name m ≡ None
none_set None m name h = h
none_set (Some s) m name h = by_name (bytes_eq name s.0) refl
  where
    by_name : (t : Bool) → bytes_eq name s.0 ≡ t → value_at name m ≡ None
    by_name true e = let there = put_same name s.0 s.1 m e in cc
    by_name false e = put_other name s.0 s.1 m e ∙ h

-- a mark that isn't empty is a name with a plain value
marked_plain : (maps : List Map) (mark : List ℕ) → nat_lt 0 (length mark) ≡ true → is_mark maps mark ≡ true → has_plain maps mark ≡ true
marked_plain maps mark some is = by_length (length mark == 0) refl is
  where
    by_length : (t : Bool) → (length mark == 0) ≡ t → (t || has_plain maps mark) ≡ true → has_plain maps mark ≡ true
    by_length false e h = h
    by_length true e h = let none : nat_lt 0 0 ≡ true = subst (λ n. nat_lt 0 n ≡ true) (eqb-true (length mark) 0 e) some in cc

and_first : (x y : Bool) → (x && y) ≡ true → x ≡ true
and_first true y h = refl
and_first false y h = cc

and_second : (x y : Bool) → (x && y) ≡ true → y ≡ true
and_second true y h = h
and_second false y h = cc

pub marked_name : (role_defaults group_variables host_variables host_facts play_variables role_variables block_variables task_variables set_facts role_parameters extra_variables : Map)
    (mark name : List ℕ) → is_marked mark name ≡ true
    → is_mark (layers role_defaults group_variables host_variables host_facts play_variables role_variables block_variables task_variables set_facts role_parameters extra_variables) mark ≡ true
    → IsKnown (layers role_defaults group_variables host_variables host_facts play_variables role_variables block_variables task_variables set_facts role_parameters extra_variables) name
marked_name a b c d e f g h set params extra mark name same is seen magic variable =
    subst (λ n. is_read_as_stored (found n (scope (with_seen seen (layers a b c d e f g h set params extra)) magic variable)) ≡ true)
    ((bytes_eq-Decides mark name).0 (and_second (nat_lt 0 (length mark)) (bytes_eq mark name) same))
    (highest (value_at mark variable) (value_at mark magic) (value_at mark extra) (value_at mark params) (value_at mark (with_put seen set)) (value_at mark set)
    (found mark (h ∷ g ∷ f ∷ e ∷ d ∷ c ∷ b ∷ a ∷ [])) (none_set seen set mark)
    (marked_plain (layers a b c d e f g h set params extra) mark (and_first (nat_lt 0 (length mark)) (bytes_eq mark name) same) is))
