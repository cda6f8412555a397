-- Scopes that differ in what stands under one name among the magic variables, which no template in them names.
use Rattle.std.proofs.Common.{◌≡◌, ℕ, suc, ◌+◌, Bool, true, false, not, ◌&&◌, ◌||◌, nat_eq, List, [], ◌∷◌, Option, Some, None, unwrap_or, option_map, cond, length, refl, sym, ap, subst, arith, true≢false, eqb-true}
use Rattle.std.specs.Option.{option_map_or}
use Rattle.std.specs.Map.{lookup}
use Rattle.std.specs.BTreeMap.{is_at}
use Rattle.std.specs.Ordering.{nat_cmp}
use Rattle.std.specs.Cmp.Lexicographic.{slice_cmp}
use Rattle.pb_value.specs.Datum.{Datum, members_of, put, value_at}
use Rattle.pb_layers.specs.Scope.{Map, found, or_else, has_templates, scope, with_seen}
use Rattle.pb_conditions.specs.ResultConditions.{seen_in, sees}
use Rattle.pb_reach.specs.Apart.{SameBut, AreApart}
use Rattle.pb_reach.specs.Named.{in_value, in_members}
use Rattle.pb_reach.proofs.Stored.{above, ninth, eleven_of}
use Rattle.pb_reach.proofs.Tests.{neither, where_so}

-- of the maps whose texts are templates, whether one names the word; and of the eleven layers of a task
abbrev pub maps_name : List ℕ → List Map → Bool
maps_name word [] = false
maps_name word (m ∷ below) = (has_templates (length below + 1) && in_members word (members_of m)) || maps_name word below

abbrev pub layers_name : List ℕ → List Map → Bool
layers_name word layers = not (nat_eq (length layers) 11) || maps_name word layers

-- a value of a map without the word is without it
map_apart : (word : List ℕ) (test : List ℕ → Bool) (m : Map) (v : Datum) → lookup test m ≡ Some v → in_members word (members_of m) ≡ false → in_value word v ≡ false
map_apart word test [] v here e = absurd (true≢false (ap (λ (o : Option Datum). option_map_or (λ d. false) o true) here))
map_apart word test (m ∷ ms) v here e =
    let both = neither (in_value word m.1) (in_members word (members_of ms)) e in by_test (test m.0) both.0 (λ p. map_apart word test ms v p both.1) here
  where
    by_test : (b : Bool) → in_value word m.1 ≡ false → (lookup test ms ≡ Some v → in_value word v ≡ false) → cond b (Some m.1) (lookup test ms) ≡ Some v → in_value word v ≡ false
    by_test true first rest p = subst (λ d. in_value word d ≡ false) (ap (λ (o : Option Datum). unwrap_or o v) p) first
    by_test false first rest p = rest p

found_apart : (word name : List ℕ) (maps : List Map) → maps_name word maps ≡ false → (f : ℕ × Datum) → found name maps ≡ Some f → has_templates f.0 ≡ true → in_value word f.1 ≡ false
found_apart word name [] e f here has = absurd (true≢false (ap (λ (o : Option (ℕ × Datum)). option_map_or (λ d. false) o true) here))
found_apart word name (m ∷ below) e f here has =
    let both = neither (has_templates (length below + 1) && in_members word (members_of m)) (maps_name word below) e in
    by_value (value_at name m) refl both.0 (λ p. found_apart word name below both.1 f p has) here
  where
    by_value : (o : Option Datum) → value_at name m ≡ o → (has_templates (length below + 1) && in_members word (members_of m)) ≡ false → (found name below ≡ Some f → in_value word f.1 ≡ false) →
        or_else (option_map (λ v. (length below + 1, v)) o) (found name below) ≡ Some f → in_value word f.1 ≡ false
    by_value (Some v) is here_apart rest p =
        let same : (length below + 1, v) ≡ f = ap (λ (o : Option (ℕ × Datum)). unwrap_or o f) p in
        let has_here : has_templates (length below + 1) ≡ true = subst (λ (g : ℕ × Datum). has_templates g.0 ≡ true) (sym same) has in
        subst (λ (g : ℕ × Datum). in_value word g.1 ≡ false) same
        (map_apart word (is_at (slice_cmp nat_cmp name)) m v is (where_so (has_templates (length below + 1)) (in_members word (members_of m)) has_here here_apart))
    by_value None is here_apart rest p = rest p

-- the magic variables and the loop variable are no templates, nor is what is seen beside the registered results
scope_apart : (word : List ℕ) (layers : List Map) (magic variable : Map) → length layers ≡ 11 → maps_name word layers ≡ false → maps_name word (scope layers magic variable) ≡ false
scope_apart word layers magic variable eleven e =
    above (length layers) (in_members word (members_of variable)) (in_members word (members_of magic)) (maps_name word layers) eleven e

seen_one : (word : List ℕ) (entry : List ℕ × Datum) (layers : List Map) → length layers ≡ 11 → maps_name word layers ≡ false →
    (length (with_seen (Some entry) layers) ≡ 11) × (maps_name word (with_seen (Some entry) layers) ≡ false)
seen_one word entry [] eleven e = (eleven, e)
seen_one word entry (a ∷ []) eleven e = (eleven, e)
seen_one word entry (a ∷ b ∷ []) eleven e = (eleven, e)
seen_one word entry (a ∷ b ∷ c ∷ below) eleven e =
    let eight : length below ≡ 8 = omega (arith, eleven) in (
      eleven,
      ninth (length below) (has_templates (suc (suc (length below)) + 1) && in_members word (members_of a))
          (has_templates (suc (length below) + 1) && in_members word (members_of b)) (in_members word (members_of c))
          (in_members word (members_of (put entry.0 entry.1 c))) (maps_name word below) eight e,
    )

seen_apart : (word : List ℕ) (seen : Map) (layers : List Map) → length layers ≡ 11 → maps_name word layers ≡ false →
    (length (seen_in seen layers) ≡ 11) × (maps_name word (seen_in seen layers) ≡ false)
seen_apart word [] layers eleven e = (eleven, e)
seen_apart word (entry ∷ seen) layers eleven e = let one = seen_one word entry layers eleven e in seen_apart word seen (with_seen (Some entry) layers) one.0 one.1

-- two scopes over the same layers
over_layers : (word : List ℕ) (layers : List Map) (magic other variable : Map) → length layers ≡ 11 → maps_name word layers ≡ false → SameBut word magic other →
    AreApart word (scope layers magic variable) (scope layers other variable)
over_layers word layers magic other variable eleven e same =
    record {
      alike =
          λ name n.
          ap
          (λ (o : Option Datum).
          or_else (option_map (λ v. (length (magic ∷ layers) + 1, v)) (value_at name variable)) (or_else (option_map (λ v. (length layers + 1, v)) o) (found name layers)))
          (same name n);
      stored =
          λ name f here has.
          found_apart word name (scope layers other variable) (scope_apart word layers other variable eleven e) f here has;
    }

pub scopes_apart : (word : List ℕ) (layers : List Map) (magic other variable seen : Map) → layers_name word layers ≡ false → SameBut word magic other →
    AreApart word (sees layers magic variable seen) (sees layers other variable seen)
scopes_apart word layers magic other variable seen e same =
    let own = eleven_of (nat_eq (length layers) 11) (maps_name word layers) e in
    let known = seen_apart word seen layers (eqb-true (length layers) 11 own.0) own.1 in
    over_layers word (seen_in seen layers) magic other variable known.0 known.1 same
