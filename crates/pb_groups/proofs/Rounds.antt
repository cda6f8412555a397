-- Where ways go on without end, some group leads to itself: a way of as many steps as there are groups comes to some group twice.
use Rattle.std.proofs.Common.{◌≡◌, ◌<◌, ◌+◌, ◌++◌, ◌||◌, ℕ, zero, suc, Bool, true, false, List, [], ◌∷◌, length, inl, inr, ◌⊎◌, eqb, arith, refl, sym, ◌∙◌}
use Rattle.std.specs.List.{IsDistinct, list_any}
use Rattle.std.proofs.lemmas.Bool.{eqb-true}
use Rattle.std.proofs.lemmas.List.{length-append}
use Rattle.std.proofs.lemmas.List.Folds.{list_any-append}
use Rattle.std.proofs.lemmas.Cmp.{nat_eq_equiv}
use Rattle.std.proofs.lemmas.Map.Keys.{IsDistinct-push}
use Rattle.std.proofs.lemmas.Map.Steps.{length-le_from_distinct_below}
use Rattle.pb_groups.specs.declared.links.ChildLink.{ChildLink}
use Rattle.pb_groups.specs.Ways.{Way, IsChild, AreLinksBelow}
use Rattle.pb_groups.specs.Depths.{IsEndless, LeadsToItself}

-- the groups that a way comes to, from its first to its last
abbrev met : (links : List ChildLink) (steps from to : ℕ) → Way links steps from to → List ℕ
met links zero from to way = to ∷ []
met links (suc steps) from to way = met links steps from way.0 way.1 ++ to ∷ []

met_count : (links : List ChildLink) (steps from to : ℕ) → (way : Way links steps from to) → length (met links steps from to way) ≡ suc steps
met_count links zero from to way = refl
met_count links (suc steps) from to way = omega (arith, length-append (met links steps from way.0 way.1) (to ∷ []), met_count links steps from way.0 way.1)

or_back : (a b : Bool) → (a || b) ≡ true → (a ≡ true) ⊎ (b ≡ true)
or_back true b e = inl refl
or_back false b e = inr e

or_false : (a : Bool) → (a || false) ≡ true → a ≡ true
or_false true e = refl
or_false false e = e

alone : (q to : ℕ) → list_any (eqb q) (to ∷ []) ≡ true → q ≡ to
alone q to e = eqb-true q to (or_false _ e)

last_or_before : (q to : ℕ) → (before : Bool) → (before ≡ true) ⊎ (list_any (eqb q) (to ∷ []) ≡ true) → (before ≡ true) ⊎ (q ≡ to)
last_or_before q to before (inl e) = inl e
last_or_before q to before (inr e) = inr (alone q to e)

met_before : (links : List ChildLink) (steps from to q : ℕ) → (way : Way links (suc steps) from to) → list_any (eqb q) (met links (suc steps) from to way) ≡ true
    → (list_any (eqb q) (met links steps from way.0 way.1) ≡ true) ⊎ (q ≡ to)
met_before links steps from to q way e = last_or_before q to _ (or_back _ _ (sym (list_any-append (eqb q) (met links steps from way.0 way.1) (to ∷ [])) ∙ e))

-- from a group that a way comes to, a way goes to its end
one_step_on : (links : List ChildLink) (last to q : ℕ) → (before : Bool) → (before ≡ true → (k : ℕ) × Way links k q last) → IsChild links last to → (before ≡ true) ⊎ (q ≡ to) → (k : ℕ) × Way links k q to
one_step_on links last to q before on is (inl e) = let way = on e in (suc way.0, (last, way.1, is))
one_step_on links last to q before on is (inr e) = (zero, e)

goes_on : (links : List ChildLink) (steps from to q : ℕ) → (way : Way links steps from to) → list_any (eqb q) (met links steps from to way) ≡ true → (k : ℕ) × Way links k q to
goes_on links zero from to q way e = (zero, alone q to e)
goes_on links (suc steps) from to q way e = one_step_on links way.0 to q _ (goes_on links steps from way.0 q way.1) way.2 (met_before links steps from to q way e)

-- a way comes to no group twice, or some group leads to itself
one_more : (links : List ChildLink) (last to : ℕ) (before : List ℕ) (again : Bool) → list_any (eqb to) before ≡ again → (again ≡ true → (k : ℕ) × Way links k to last) → IsChild links last to
    → LeadsToItself links ⊎ IsDistinct eqb before → LeadsToItself links ⊎ IsDistinct eqb (before ++ to ∷ [])
one_more links last to before again is on child (inl round) = inl round
one_more links last to before true is on child (inr distinct) = let way = on refl in inl (to, way.0, (last, way.1, child))
one_more links last to before false is on child (inr distinct) = inr (IsDistinct-push nat_eq_equiv before to distinct is)

none_twice : IsDistinct eqb []
unfolding IsDistinct
none_twice = tt

once_or_round : (links : List ChildLink) (steps from to : ℕ) → (way : Way links steps from to) → LeadsToItself links ⊎ IsDistinct eqb (met links steps from to way)
once_or_round links zero from to way = inr (IsDistinct-push nat_eq_equiv [] to none_twice refl)
once_or_round links (suc steps) from to way =
    one_more links way.0 to (met links steps from way.0 way.1) (list_any (eqb to) (met links steps from way.0 way.1)) refl (goes_on links steps from way.0 to way.1) way.2
    (once_or_round links steps from way.0 way.1)

-- all groups that a way comes to are below the limit
below_so_far : (q to groups : ℕ) (before : Bool) → (before ≡ true → q < groups) → to < groups → (before ≡ true) ⊎ (q ≡ to) → q < groups
below_so_far q to groups before on w (inl e) = on e
below_so_far q to groups before on w (inr e) = omega (arith, w, e)

met_below : (links : List ChildLink) (groups : ℕ) → AreLinksBelow links groups → (steps from to q : ℕ) → (way : Way links steps from to) → to < groups
    → list_any (eqb q) (met links steps from to way) ≡ true → q < groups
met_below links groups within zero from to q way w e = omega (arith, w, alone q to e)
met_below links groups within (suc steps) from to q way w e =
    below_so_far q to groups _ (met_below links groups within steps from way.0 q way.1 (omega (arith, (within way.2.0 way.2.1).0, way.2.2))) w (met_before links steps from to q way e)

end_below : (links : List ChildLink) (groups : ℕ) → AreLinksBelow links groups → (steps from to : ℕ) → Way links (suc steps) from to → to < groups
end_below links groups within steps from to way = omega (arith, (within way.2.0 way.2.1).1, way.2.3)

round_of : (links : List ChildLink) (groups from to : ℕ) → AreLinksBelow links groups → (way : Way links groups from to) → to < groups → LeadsToItself links ⊎ IsDistinct eqb (met links groups from to way) → LeadsToItself links
round_of links groups from to within way w (inl round) = round
round_of links groups from to within way w (inr distinct) =
    absurd (omega (arith, length-le_from_distinct_below (met links groups from to way) groups distinct (λ q. met_below links groups within groups from to q way w), met_count links groups from to way))

pub leads_to_itself : (links : List ChildLink) (groups : ℕ) → 0 < groups → AreLinksBelow links groups → IsEndless links groups → LeadsToItself links
leads_to_itself links zero some within endless = absurd (omega (arith, some))
leads_to_itself links (suc n) some within endless =
    round_of links (suc n) endless.0 endless.1 within endless.2 (end_below links (suc n) within n endless.0 endless.1 endless.2) (once_or_round links (suc n) endless.0 endless.1 endless.2)
