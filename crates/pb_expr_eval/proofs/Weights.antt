-- How much there is to read: each call reads less than the one that makes it.
use Rattle.std.specs.Prelude.{if◌then◌else◌}
use Rattle.std.proofs.Common.{◌≡◌, Bool, true, false, ℕ, zero, suc, ◌+◌, ◌*◌, ◌-◌, ◌<◌, ◌≤◌, List, [], ◌∷◌, ◌++◌, Option, Some, None, length, get_or, refl, ap, arith, String, Global}
use Rattle.std.specs.Option.{option_map}
use Rattle.std.specs.Map.{lookup}
use Rattle.pb_value.specs.Datum.{Datum, null, boolean, int, text, list, dict, Items, no_items, item, Members, no_members, member, items_of, members_of, named, value_at}
use Rattle.pb_expr_syntax.specs.Tree.{Tree, nodes, trees_nodes, trees_of}
use Rattle.pb_layers.specs.Scope.{Map, found, or_else}
use Rattle.pb_template.specs.Computed.{template_of}
use Rattle.pb_template.specs.declared.template.Part.{Part}
use Rattle.pb_template.specs.declared.template.Part.TheVariants.{Plain, Code}

abbrev pub part_weight : Part → ℕ
part_weight (Plain s) = 1
part_weight (Code t) = nodes t + 1

abbrev pub parts_weight : List Part → ℕ
parts_weight [] = 0
parts_weight (p ∷ ps) = part_weight p + parts_weight ps

abbrev pub template_weight : Option (List Part) → ℕ
template_weight None = 0
template_weight (Some ps) = parts_weight ps

abbrev mutual
  pub weight : Datum → ℕ
  weight null = 1
  weight (boolean b) = 1
  weight (int z) = 1
  weight (text s) = template_weight (template_of s) + 1
  weight (list ds) = items_weight ds + 1
  weight (dict ms) = members_weight ms + 1

  pub items_weight : Items → ℕ
  items_weight no_items = 0
  items_weight (item d ds) = weight d + items_weight ds

  pub members_weight : Members → ℕ
  members_weight no_members = 0
  members_weight (member k d ms) = weight d + members_weight ms

abbrev pub map_weight : Map → ℕ
map_weight [] = 0
map_weight (m ∷ ms) = weight m.1 + map_weight ms

abbrev pub scope_weight : List Map → ℕ
scope_weight [] = 0
scope_weight (m ∷ ms) = map_weight m + scope_weight ms

-- what may be read in that many look-ups
unfoldable pub spent : List Map → ℕ → ℕ
spent scope levels = levels * (4 * scope_weight scope + 4)

-- a part is no more than the whole
pub nodes_at : (ts : List Tree) (i : ℕ) (t : Tree) → i < length ts → t ≡ get_or ts i t → nodes t ≤ trees_nodes (trees_of ts)
nodes_at [] i t lt e = absurd (omega arith)
nodes_at (x ∷ xs) zero t lt e = let n : nodes t ≡ nodes x = ap nodes e in omega arith
nodes_at (x ∷ xs) (suc i) t lt e = omega (arith, nodes_at xs i t (omega arith) e)

pub weight_at : (ds : List Datum) (i : ℕ) (d : Datum) → i < length ds → d ≡ get_or ds i d → weight d ≤ items_weight (items_of ds)
weight_at [] i d lt e = absurd (omega arith)
weight_at (x ∷ xs) zero d lt e = let n : weight d ≡ weight x = ap weight e in omega arith
weight_at (x ∷ xs) (suc i) d lt e = omega (arith, weight_at xs i d (omega arith) e)

pub part_weight_at : (ps : List Part) (i : ℕ) (p : Part) → i < length ps → p ≡ get_or ps i p → part_weight p ≤ parts_weight ps
part_weight_at [] i p lt e = absurd (omega arith)
part_weight_at (x ∷ xs) zero p lt e = let n : part_weight p ≡ part_weight x = ap part_weight e in omega arith
part_weight_at (x ∷ xs) (suc i) p lt e = omega (arith, part_weight_at xs i p (omega arith) e)

pub member_weight : (done : List (String Global × Datum)) (e : String Global × Datum) (more : List (String Global × Datum)) → weight e.1 ≤ members_weight (members_of (named (done ++ e ∷ more)))
member_weight [] e more = omega arith
member_weight (d ∷ done) e more = omega (arith, member_weight done e more)

stored_weight : (test : List ℕ → Bool) (m : Map) (d : Datum) → lookup test m ≡ Some d → weight d ≤ map_weight m
stored_weight test [] d e = cc
stored_weight test (x ∷ m) d e = by_test (test x.0) refl (stored_weight test m d) e
  where
    by_test : (b : Bool) → test x.0 ≡ b → (lookup test m ≡ Some d → weight d ≤ map_weight m) → (if b then Some x.1 else lookup test m) ≡ Some d → weight d ≤ weight x.1 + map_weight m
    by_test true t later h = let same : x.1 ≡ d = cc in let n : weight x.1 ≡ weight d = ap weight same in omega arith
    by_test false t later h = let n = later h in omega arith

found_here : (n : ℕ) (o : Option Datum) (other : Option (ℕ × Datum)) (f : ℕ × Datum) (w more : ℕ) → ((d : Datum) → o ≡ Some d → weight d ≤ w) → (other ≡ Some f → weight f.1 ≤ more) →
    or_else (option_map (λ v. (n, v)) o) other ≡ Some f → weight f.1 ≤ w + more
found_here n (Some d) other f w more here below h =
    let same : d ≡ f.1 = let p : (n, d) ≡ f = cc in ap (λ (q : ℕ × Datum). q.1) p in
    let m = here d refl in
    let k : weight d ≡ weight f.1 = ap weight same in
    omega arith
found_here n None other f w more here below h = let m = below h in omega arith

pub found_weight : (name : List ℕ) (scope : List Map) (f : ℕ × Datum) → found name scope ≡ Some f → weight f.1 ≤ scope_weight scope
found_weight name [] f e = cc
found_weight name (m ∷ below) f e = found_here (length below + 1) (value_at name m) (found name below) f (map_weight m) (scope_weight below) (stored_weight _ m) (found_weight name below f) e

-- a look-up costs more than what is found
pub look_up_spends : (scope : List Map) (levels w : ℕ) → 0 < levels → w ≤ scope_weight scope → spent scope (levels - 1) + (4 * w + 2) < spent scope levels + 1
unfolding spent
look_up_spends scope zero w lt le = absurd (omega arith)
look_up_spends scope (suc n) w lt le = let e : suc n - 1 ≡ n = omega arith in rw e (omega arith)
