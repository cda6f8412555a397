-- Layers that are searched in two parts.
use Rattle.std.proofs.Common.{◌≡◌, ℕ, Bool, true, false, ◌||◌, List, [], ◌∷◌, ◌++◌, drop, refl, ap, subst, ◌∙◌}
use Rattle.pb_layers.specs.Scope.{Map, layers}
use Rattle.pb_reach.specs.Reached.{leads_on, each_leads, layers_lead}

or_further : (a b c d : Bool) → (b || c) ≡ d → ((a || b) || c) ≡ (a || d)
or_further true b c d e = refl
or_further false b c d e = e

leads_append : (name : List ℕ) (ms ns : List Map) → (each_leads ms name || each_leads ns name) ≡ each_leads (ms ++ ns) name
leads_append name [] ns = refl
leads_append name (m ∷ ms) ns = or_further (leads_on name m) (each_leads ms name) (each_leads ns name) (each_leads (ms ++ ns) name) (leads_append name ms ns)

pub both_parts : (name : List ℕ) (defaults groups hosts facts plays roles blocks tasks set params extra : Map) (seen : List Map) (s l : Bool) → layers defaults groups hosts facts plays roles blocks tasks set params extra ≡ seen
    → s ≡ each_leads (extra ∷ params ∷ tasks ∷ blocks ∷ roles ∷ plays ∷ hosts ∷ []) name → l ≡ each_leads (drop 9 seen) name → (s || l) ≡ layers_lead seen name
both_parts name defaults groups hosts facts plays roles blocks tasks set params extra seen s l v e f =
    let high : List Map = extra ∷ params ∷ tasks ∷ blocks ∷ roles ∷ plays ∷ hosts ∷ [] in
    ap (λ (b : Bool). b || l) e ∙ ap (λ (b : Bool). each_leads high name || b) f
    ∙ subst (λ (ms : List Map). (each_leads high name || each_leads (drop 9 ms) name) ≡ layers_lead ms name) v (leads_append name high (groups ∷ defaults ∷ []))

-- the first part answers it, or the second one does
pub first_part : (s l r : Bool) → s ≡ true → (s || l) ≡ r → s ≡ r
first_part true l r e h = h
first_part false l r e h = absurd (let never : ⊥ = cc in never)

pub second_part : (s l r : Bool) → s ≡ false → (s || l) ≡ r → l ≡ r
second_part false l r e h = h
second_part true l r e h = absurd (let never : ⊥ = cc in never)
