-- Scopes that differ in what stands under one name among the magic variables, and in no template of which that name stands.
use Rattle.std.proofs.Common.{◌≡◌, ℕ, suc, ◌+◌, Bool, true, false, not, ◌&&◌, ◌||◌, nat_eq, List, [], ◌∷◌, Option, Some, None, unwrap_or, option_map, cond, length, refl, sym, ap, subst, arith, true≢false, eqb-true}
use Rattle.std.specs.Option.{option_map_or}
use Rattle.std.specs.Map.{lookup}
use Rattle.std.specs.BTreeMap.{is_at}
use Rattle.std.specs.Ordering.{nat_cmp}
use Rattle.std.specs.Cmp.Lexicographic.{slice_cmp}
use Rattle.std.specs.Str.{bytes_eq}
use Rattle.pb_value.specs.Datum.{Datum, members_of, put, value_at}
use Rattle.pb_layers.specs.Scope.{Map, found, or_else, has_templates, scope, with_seen}
use Rattle.pb_items.specs.FromConditions.{seen_in, sees}
use Rattle.pb_reach.specs.Apart.{SameBut, AreApart}
use Rattle.pb_mentions.specs.Mentions.{mentions, members_mention}
use Rattle.pb_reach.specs.Reach.{maps_mention, layers_mention}
use Rattle.pb_reach.proofs.Tests.{neither, where_so}
use Rattle.pb_reach.proofs.Unnamed.{value_unnamed}

-- a value of a map without the word is without it
map_apart : (word : List ℕ) (test : List ℕ → Bool) (m : Map) (v : Datum) → lookup test m ≡ Some v → members_mention word (members_of m) ≡ false → mentions word v ≡ false
map_apart word test [] v here e = absurd (true≢false (ap (λ (o : Option Datum). option_map_or (λ d. false) o true) here))
map_apart word test (m ∷ ms) v here e =
    let both = neither (mentions word m.1) (members_mention word (members_of ms)) e in by_test (test m.0) both.0 (λ p. map_apart word test ms v p both.1) here
  where
    by_test : (b : Bool) → mentions word m.1 ≡ false → (lookup test ms ≡ Some v → mentions word v ≡ false) → cond b (Some m.1) (lookup test ms) ≡ Some v → mentions word v ≡ false
    by_test true first rest p = subst (λ d. mentions word d ≡ false) (ap (λ (o : Option Datum). unwrap_or o v) p) first
    by_test false first rest p = rest p

found_apart : (word name : List ℕ) (maps : List Map) → maps_mention word maps ≡ false → (f : ℕ × Datum) → found name maps ≡ Some f → has_templates f.0 ≡ true → mentions word f.1 ≡ false
found_apart word name [] e f here has = absurd (true≢false (ap (λ (o : Option (ℕ × Datum)). option_map_or (λ d. false) o true) here))
found_apart word name (m ∷ below) e f here has =
    let both = neither (has_templates (length below + 1) && members_mention word (members_of m)) (maps_mention word below) e in
    by_value (value_at name m) refl both.0 (λ p. found_apart word name below both.1 f p has) here
  where
    by_value : (o : Option Datum) → value_at name m ≡ o → (has_templates (length below + 1) && members_mention word (members_of m)) ≡ false → (found name below ≡ Some f → mentions word f.1 ≡ false) →
        or_else (option_map (λ v. (length below + 1, v)) o) (found name below) ≡ Some f → mentions word f.1 ≡ false
    by_value (Some v) is here_apart rest p =
        let same : (length below + 1, v) ≡ f = ap (λ (o : Option (ℕ × Datum)). unwrap_or o f) p in
        let has_here : has_templates (length below + 1) ≡ true = subst (λ (g : ℕ × Datum). has_templates g.0 ≡ true) (sym same) has in
        subst (λ (g : ℕ × Datum). mentions word g.1 ≡ false) same
        (map_apart word (is_at (slice_cmp nat_cmp name)) m v is (where_so (has_templates (length below + 1)) (members_mention word (members_of m)) has_here here_apart))
    by_value None is here_apart rest p = rest p

-- the magic variables and the loop variable are no templates, nor is what is seen beside the registered results
pub above : (n : ℕ) (a b c : Bool) → n ≡ 11 → c ≡ false → ((has_templates (suc n + 1) && a) || ((has_templates (n + 1) && b) || c)) ≡ false
above n a b c is e = subst (λ k. ((has_templates (suc k + 1) && a) || ((has_templates (k + 1) && b) || c)) ≡ false) (sym is) e

scope_apart : (word : List ℕ) (layers : List Map) (magic variable : Map) → length layers ≡ 11 → maps_mention word layers ≡ false → maps_mention word (scope layers magic variable) ≡ false
scope_apart word layers magic variable eleven e =
    above (length layers) (members_mention word (members_of variable)) (members_mention word (members_of magic)) (maps_mention word layers) eleven e

pub ninth : (n : ℕ) (a b before after rest : Bool) → n ≡ 8 → (a || (b || ((has_templates (n + 1) && before) || rest))) ≡ false → (a || (b || ((has_templates (n + 1) && after) || rest))) ≡ false
ninth n a b before after rest is e =
    subst (λ k. (a || (b || ((has_templates (k + 1) && after) || rest))) ≡ false) (sym is) (subst (λ k. (a || (b || ((has_templates (k + 1) && before) || rest))) ≡ false) is e)

seen_one : (word : List ℕ) (entry : List ℕ × Datum) (layers : List Map) → length layers ≡ 11 → maps_mention word layers ≡ false →
    (length (with_seen (Some entry) layers) ≡ 11) × (maps_mention word (with_seen (Some entry) layers) ≡ false)
seen_one word entry [] eleven e = (eleven, e)
seen_one word entry (a ∷ []) eleven e = (eleven, e)
seen_one word entry (a ∷ b ∷ []) eleven e = (eleven, e)
seen_one word entry (a ∷ b ∷ c ∷ below) eleven e =
    let eight : length below ≡ 8 = omega (arith, eleven) in (
      eleven,
      ninth (length below) (has_templates (suc (suc (length below)) + 1) && members_mention word (members_of a))
          (has_templates (suc (length below) + 1) && members_mention word (members_of b)) (members_mention word (members_of c))
          (members_mention word (members_of (put entry.0 entry.1 c))) (maps_mention word below) eight e,
    )

seen_apart : (word : List ℕ) (seen : Map) (layers : List Map) → length layers ≡ 11 → maps_mention word layers ≡ false →
    (length (seen_in seen layers) ≡ 11) × (maps_mention word (seen_in seen layers) ≡ false)
seen_apart word [] layers eleven e = (eleven, e)
seen_apart word (entry ∷ seen) layers eleven e = let one = seen_one word entry layers eleven e in seen_apart word seen (with_seen (Some entry) layers) one.0 one.1

-- two scopes over the same layers
over_layers : (word : List ℕ) → bytes_eq [] word ≡ false → (layers : List Map) (magic other variable : Map) → length layers ≡ 11 → maps_mention word layers ≡ false → SameBut word magic other →
    AreApart word (scope layers magic variable) (scope layers other variable)
over_layers word some layers magic other variable eleven e same =
    record {
      alike =
          λ name n.
          ap
          (λ (o : Option Datum).
          or_else (option_map (λ v. (length (magic ∷ layers) + 1, v)) (value_at name variable)) (or_else (option_map (λ v. (length layers + 1, v)) o) (found name layers)))
          (same name n);
      stored =
          λ name f here has.
          value_unnamed word some f.1 (found_apart word name (scope layers other variable) (scope_apart word layers other variable eleven e) f here has);
    }

pub eleven_of : (t mention : Bool) → (not t || mention) ≡ false → (t ≡ true) × (mention ≡ false)
eleven_of true mention e = (refl, e)
eleven_of false mention e = absurd (true≢false e)

pub scopes_apart : (word : List ℕ) → bytes_eq [] word ≡ false → (layers : List Map) (magic other variable seen : Map) → layers_mention word layers ≡ false → SameBut word magic other →
    AreApart word (sees layers magic variable seen) (sees layers other variable seen)
scopes_apart word some layers magic other variable seen e same =
    let own = eleven_of (nat_eq (length layers) 11) (maps_mention word layers) e in
    let known = seen_apart word seen layers (eqb-true (length layers) 11 own.0) own.1 in
    over_layers word some (seen_in seen layers) magic other variable known.0 known.1 same
