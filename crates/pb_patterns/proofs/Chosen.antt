-- What the elements so far tell, one element after another.
use Rattle.std.proofs.Common.{◌≡◌, ℕ, ◌+◌, ◌<◌, ◌≤◌, ◌&&◌, ◌||◌, Bool, true, false, cond, List, [], ◌∷◌, ◌++◌, refl, sym, ◌∙◌, ap, subst, length, get_or, take, replicate, arith, map}
use Rattle.std.specs.Prelude.{filter, not, if◌then◌else◌}
use Rattle.std.specs.Simd.Lanes.{zip2}
use Rattle.std.proofs.lemmas.List.{take_more, take_all, get_or-replicate, length-replicate, map-append, append-nil}
use Rattle.std.proofs.lemmas.List.Folds.{list_any-append, list_all-append}
use Rattle.std.proofs.lemmas.List.Elements.{filter-append}
use Rattle.std.proofs.lemmas.Simd.{get_or-zip2, length-zip2}
use Rattle.pb_planes.specs.Set.{is_in, has_some}
use Rattle.pb_inventory.specs.InventoryOf.{InventoryOf}
use Rattle.pb_patterns.specs.declared.choice.Choice.{Choice}
use Rattle.pb_patterns.specs.declared.element.Element.{Element}
use Rattle.pb_patterns.specs.declared.element.Mark.{Mark}
use Rattle.pb_patterns.specs.declared.element.Mark.TheVariants.{Unmarked, Met, Excluded}
use Rattle.pb_patterns.specs.declared.selected.Selected.{Selected}
use Rattle.pb_patterns.specs.Sets.{element_set, each_host}
use Rattle.pb_patterns.specs.Selection.{Part, is_unmarked, is_met, is_excluded, in_some, in_each_met, has_unmarked, is_chosen, unmatched_of, part_of, selected_by}
use Rattle.pb_patterns.specs.Choosing.{IsBegun, IsAdded, chosen_by}
use Rattle.pb_patterns.proofs.SetLaws.{set_is, each_host-at, each_host-same, length-each_host}

or-false : (b : Bool) → (b || false) ≡ b
or-false true = refl
or-false false = refl

and-true : (b : Bool) → (b && true) ≡ b
and-true true = refl
and-true false = refl

-- a set of hosts that is joined with another, or met
pub joined_is : (n : ℕ) (f : ℕ → Bool) (hosts : List Bool) → length hosts ≡ n → zip2 (λ a b. a || b) (each_host n f) hosts ≡ each_host n (λ h. f h || is_in hosts h)
joined_is n f hosts size =
    set_is n (λ h. f h || is_in hosts h) _ (length-zip2 (λ a b. a || b) (each_host n f) hosts (length-each_host n f ∙ sym size) ∙ length-each_host n f)
    (λ h w. get_or-zip2 (λ a b. a || b) (each_host n f) hosts h false false false (omega (arith, w, length-each_host n f)) (omega (arith, w, size)) ∙ ap (λ b. b || is_in hosts h) (each_host-at n f h w))

pub met_is : (n : ℕ) (f : ℕ → Bool) (hosts : List Bool) → length hosts ≡ n → zip2 (λ a b. a && b) (each_host n f) hosts ≡ each_host n (λ h. f h && is_in hosts h)
met_is n f hosts size =
    set_is n (λ h. f h && is_in hosts h) _ (length-zip2 (λ a b. a && b) (each_host n f) hosts (length-each_host n f ∙ sym size) ∙ length-each_host n f)
    (λ h w. get_or-zip2 (λ a b. a && b) (each_host n f) hosts h false false false (omega (arith, w, length-each_host n f)) (omega (arith, w, size)) ∙ ap (λ b. b && is_in hosts h) (each_host-at n f h w))

pub less_is : (n : ℕ) (f : ℕ → Bool) (hosts : List Bool) → length hosts ≡ n → zip2 (λ a b. a && not b) (each_host n f) hosts ≡ each_host n (λ h. f h && not (is_in hosts h))
less_is n f hosts size =
    set_is n (λ h. f h && not (is_in hosts h)) _ (length-zip2 (λ a b. a && not b) (each_host n f) hosts (length-each_host n f ∙ sym size) ∙ length-each_host n f)
    (λ h w. get_or-zip2 (λ a b. a && not b) (each_host n f) hosts h false false false (omega (arith, w, length-each_host n f)) (omega (arith, w, size)) ∙ ap (λ b. b && not (is_in hosts h)) (each_host-at n f h w))

-- one part more
some_more : (marked : Mark → Bool) (ps : List Part) (p : Part) (h : ℕ) → in_some marked (ps ++ p ∷ []) h ≡ (in_some marked ps h || (marked p.mark && is_in p.set h))
some_more marked ps p h = list_any-append (λ p. marked p.mark && is_in p.set h) ps (p ∷ []) ∙ ap (λ b. in_some marked ps h || b) (or-false (marked p.mark && is_in p.set h))

each_more : (ps : List Part) (p : Part) (h : ℕ) → in_each_met (ps ++ p ∷ []) h ≡ (in_each_met ps h && (not (is_met p.mark) || is_in p.set h))
each_more ps p h = list_all-append (λ p. not (is_met p.mark) || is_in p.set h) ps (p ∷ []) ∙ ap (λ b. in_each_met ps h && b) (and-true (not (is_met p.mark) || is_in p.set h))

marked_more : (ps : List Part) (p : Part) → has_unmarked (ps ++ p ∷ []) ≡ (has_unmarked ps || is_unmarked p.mark)
marked_more ps p = list_any-append (λ p. is_unmarked p.mark) ps (p ∷ []) ∙ ap (λ b. has_unmarked ps || b) (or-false (is_unmarked p.mark))

abbrev pub IsChosen : ℕ → List Part → Choice → Type 0
IsChosen n ps choice =
    (choice.joined ≡ each_host n (in_some is_unmarked ps))
    × (choice.met ≡ each_host n (in_each_met ps))
    × (choice.excluded ≡ each_host n (in_some is_excluded ps))
    × (choice.has_unmarked ≡ has_unmarked ps)

replicate_is : (n : ℕ) (b : Bool) → replicate n b ≡ each_host n (λ h. b)
replicate_is n b = set_is n (λ h. b) (replicate n b) (length-replicate n b) (λ h w. get_or-replicate n h b false w)

pub chosen_begun : (n : ℕ) (choice : Choice) → IsBegun n choice → IsChosen n [] choice
chosen_begun n choice is =
    (ap (λ c. c.joined) is ∙ replicate_is n false, ap (λ c. c.met) is ∙ replicate_is n true, ap (λ c. c.excluded) is ∙ replicate_is n false, ap (λ c. c.has_unmarked) is)

some_same : (marked : Mark → Bool) (n : ℕ) (ps : List Part) (p : Part) (s : List Bool) → marked p.mark ≡ false → s ≡ each_host n (in_some marked ps) → s ≡ each_host n (in_some marked (ps ++ p ∷ []))
some_same marked n ps p s other is =
    is ∙ each_host-same n _ _ (λ h. sym (some_more marked ps p h ∙ ap (λ b. in_some marked ps h || (b && is_in p.set h)) other ∙ or-false (in_some marked ps h)))

some_grown : (marked : Mark → Bool) (n : ℕ) (ps : List Part) (p : Part) (s new : List Bool) → marked p.mark ≡ true → length p.set ≡ n → s ≡ each_host n (in_some marked ps)
    → new ≡ zip2 (λ a b. a || b) s p.set → new ≡ each_host n (in_some marked (ps ++ p ∷ []))
some_grown marked n ps p s new here size is grown =
    grown ∙ ap (λ s. zip2 (λ a b. a || b) s p.set) is ∙ joined_is n (in_some marked ps) p.set size
    ∙ each_host-same n _ _ (λ h. sym (some_more marked ps p h ∙ ap (λ b. in_some marked ps h || (b && is_in p.set h)) here))

each_same : (n : ℕ) (ps : List Part) (p : Part) (s : List Bool) → is_met p.mark ≡ false → s ≡ each_host n (in_each_met ps) → s ≡ each_host n (in_each_met (ps ++ p ∷ []))
each_same n ps p s other is =
    is ∙ each_host-same n _ _ (λ h. sym (each_more ps p h ∙ ap (λ b. in_each_met ps h && (not b || is_in p.set h)) other ∙ and-true (in_each_met ps h)))

each_grown : (n : ℕ) (ps : List Part) (p : Part) (s new : List Bool) → is_met p.mark ≡ true → length p.set ≡ n → s ≡ each_host n (in_each_met ps)
    → new ≡ zip2 (λ a b. a && b) s p.set → new ≡ each_host n (in_each_met (ps ++ p ∷ []))
each_grown n ps p s new here size is grown =
    grown ∙ ap (λ s. zip2 (λ a b. a && b) s p.set) is ∙ met_is n (in_each_met ps) p.set size
    ∙ each_host-same n _ _ (λ h. sym (each_more ps p h ∙ ap (λ b. in_each_met ps h && (not b || is_in p.set h)) here))

or-true : (b : Bool) → true ≡ (b || true)
or-true true = refl
or-true false = refl

abbrev one_part : List ℕ → Mark → List Bool → Part
one_part text mark s = record { text = text; mark = mark; set = s }

pub chosen_more : (n : ℕ) (ps : List Part) (text : List ℕ) (mark : Mark) (s : List Bool) (old new : Choice) → length s ≡ n → IsAdded mark s old new → IsChosen n ps old
    → IsChosen n (ps ++ record { text = text; mark = mark; set = s } ∷ []) new
chosen_more n ps text Unmarked s old new size is so_far = (
  some_grown is_unmarked n ps (one_part text Unmarked s) old.joined new.joined refl size so_far.0 (ap (λ c. c.joined) is),
  each_same n ps (one_part text Unmarked s) new.met refl (ap (λ c. c.met) is ∙ so_far.1),
  some_same is_excluded n ps (one_part text Unmarked s) new.excluded refl (ap (λ c. c.excluded) is ∙ so_far.2),
  ap (λ c. c.has_unmarked) is ∙ or-true (has_unmarked ps) ∙ sym (marked_more ps (one_part text Unmarked s)),
)
chosen_more n ps text Met s old new size is so_far = (
  some_same is_unmarked n ps (one_part text Met s) new.joined refl (ap (λ c. c.joined) is ∙ so_far.0),
  each_grown n ps (one_part text Met s) old.met new.met refl size so_far.1 (ap (λ c. c.met) is),
  some_same is_excluded n ps (one_part text Met s) new.excluded refl (ap (λ c. c.excluded) is ∙ so_far.2),
  ap (λ c. c.has_unmarked) is ∙ so_far.3 ∙ sym (marked_more ps (one_part text Met s) ∙ or-false (has_unmarked ps)),
)
chosen_more n ps text Excluded s old new size is so_far = (
  some_same is_unmarked n ps (one_part text Excluded s) new.joined refl (ap (λ c. c.joined) is ∙ so_far.0),
  each_same n ps (one_part text Excluded s) new.met refl (ap (λ c. c.met) is ∙ so_far.1),
  some_grown is_excluded n ps (one_part text Excluded s) old.excluded new.excluded refl size so_far.2 (ap (λ c. c.excluded) is),
  ap (λ c. c.has_unmarked) is ∙ so_far.3 ∙ sym (marked_more ps (one_part text Excluded s) ∙ or-false (has_unmarked ps)),
)

-- the whole
first_is : (n : ℕ) (ps : List Part) (b : Bool) → has_unmarked ps ≡ b
    → (if b then each_host n (in_some is_unmarked ps) else replicate n true) ≡ each_host n (λ h. in_some is_unmarked ps h || not (has_unmarked ps))
first_is n ps true e = each_host-same n _ _ (λ h. sym (ap (λ b. in_some is_unmarked ps h || not b) e ∙ or-false (in_some is_unmarked ps h)))
first_is n ps false e = replicate_is n true ∙ each_host-same n _ _ (λ h. or-true (in_some is_unmarked ps h) ∙ ap (λ b. in_some is_unmarked ps h || not b) (sym e))

pub chosen_whole : (n : ℕ) (ps : List Part) (choice : Choice) → IsChosen n ps choice → chosen_by n choice ≡ each_host n (is_chosen ps)
chosen_whole n ps choice so_far =
    ap (λ e. zip2 (λ a b. a && not b) (zip2 (λ a b. a && b) (if choice.has_unmarked then choice.joined else replicate n true) choice.met) e) so_far.2
    ∙ ap (λ m. zip2 (λ a b. a && not b) (zip2 (λ a b. a && b) (if choice.has_unmarked then choice.joined else replicate n true) m) (each_host n (in_some is_excluded ps))) so_far.1
    ∙ ap (λ j. zip2 (λ a b. a && not b) (zip2 (λ a b. a && b) (if choice.has_unmarked then j else replicate n true) (each_host n (in_each_met ps))) (each_host n (in_some is_excluded ps))) so_far.0
    ∙ ap (λ f. zip2 (λ a b. a && not b) (zip2 (λ a b. a && b) f (each_host n (in_each_met ps))) (each_host n (in_some is_excluded ps)))
    (ap (λ b. if b then each_host n (in_some is_unmarked ps) else replicate n true) so_far.3 ∙ first_is n ps (has_unmarked ps) refl)
    ∙ ap (λ f. zip2 (λ a b. a && not b) f (each_host n (in_some is_excluded ps))) (met_is n (λ h. in_some is_unmarked ps h || not (has_unmarked ps)) (each_host n (in_each_met ps)) (length-each_host n (in_each_met ps)))
    ∙ less_is n _ (each_host n (in_some is_excluded ps)) (length-each_host n (in_some is_excluded ps))
    ∙ set_is n (is_chosen ps) _ (length-each_host n _)
    (λ h w. each_host-at n _ h w
    ∙ ap (λ b. ((in_some is_unmarked ps h || not (has_unmarked ps)) && b) && not (is_in (each_host n (in_some is_excluded ps)) h)) (each_host-at n (in_each_met ps) h w)
    ∙ ap (λ b. ((in_some is_unmarked ps h || not (has_unmarked ps)) && in_each_met ps h) && not b) (each_host-at n (in_some is_excluded ps) h w))

-- the elements that mean no host
unmatched_one : (p : Part) (b : Bool) (old : List (List ℕ)) → has_some p.set ≡ b → (if b then old else old ++ p.text ∷ []) ≡ old ++ unmatched_of (p ∷ [])
unmatched_one p true old e = sym (ap (λ b. old ++ map (λ p. p.text) (cond (not b) (p ∷ []) [])) e ∙ append-nil old)
unmatched_one p false old e = sym (ap (λ b. old ++ map (λ p. p.text) (cond (not b) (p ∷ []) [])) e)

pub unmatched_more : (ps : List Part) (p : Part) (old new : List (List ℕ)) → old ≡ unmatched_of ps → new ≡ (if has_some p.set then old else old ++ p.text ∷ []) → new ≡ unmatched_of (ps ++ p ∷ [])
unmatched_more ps p old new is pushed =
    pushed ∙ unmatched_one p (has_some p.set) old refl ∙ ap (λ t. t ++ unmatched_of (p ∷ [])) is
    ∙ sym (ap (map (λ p. p.text)) (filter-append (λ p. not (has_some p.set)) ps (p ∷ [])) ∙ map-append (λ p. p.text) (filter (λ p. not (has_some p.set)) ps) (filter (λ p. not (has_some p.set)) (p ∷ [])))

abbrev selected_with : List Bool → List (List ℕ) → Selected
selected_with hosts unmatched = record { hosts = hosts; unmatched = unmatched }

-- what is known of the first elements
abbrev pub Selecting : InventoryOf → List Element → Choice → List (List ℕ) → Type 0
Selecting inventory es choice unmatched = IsChosen (length inventory.hosts) (map (part_of inventory) es) choice × (unmatched ≡ unmatched_of (map (part_of inventory) es))

pub selecting_begun : (inventory : InventoryOf) (n : ℕ) (choice : Choice) (unmatched : List (List ℕ)) → n ≡ length inventory.hosts → IsBegun n choice → unmatched ≡ [] → Selecting inventory [] choice unmatched
selecting_begun inventory n choice unmatched size begun none = (subst (λ n. IsChosen n [] choice) size (chosen_begun n choice begun), none)

pub selecting_more : (inventory : InventoryOf) (elements : List Element) (i m : ℕ) (element : Element) (s : List Bool) (old new : Choice) (unmatched more : List (List ℕ)) → m ≡ i + 1 → i < length elements
    → element ≡ get_or elements i element → length s ≡ length inventory.hosts → s ≡ element_set inventory element.what → IsAdded element.mark s old new
    → more ≡ (if has_some s then unmatched else unmatched ++ element.text ∷ []) → Selecting inventory (take i elements) old unmatched → Selecting inventory (take m elements) new more
selecting_more inventory elements i m element s old new unmatched more next w read size is added pushed so_far =
    let p = one_part element.text element.mark s in
    let same : p ≡ part_of inventory element = ap (one_part element.text element.mark) is in
    let cut : take m elements ≡ take i elements ++ element ∷ [] = ap (λ k. take k elements) next ∙ take_more elements i element w ∙ ap (λ e. take i elements ++ e ∷ []) (sym read) in
    let parts : map (part_of inventory) (take m elements) ≡ map (part_of inventory) (take i elements) ++ p ∷ [] =
    ap (map (part_of inventory)) cut ∙ map-append (part_of inventory) (take i elements) (element ∷ []) ∙ ap (λ (q : Part). map (part_of inventory) (take i elements) ++ q ∷ []) (sym same) in (
      subst (λ (ps : List Part). IsChosen (length inventory.hosts) ps new) (sym parts)
          (chosen_more (length inventory.hosts) (map (part_of inventory) (take i elements)) element.text element.mark s old new size added so_far.0),
      unmatched_more (map (part_of inventory) (take i elements)) p unmatched more so_far.1 pushed ∙ ap unmatched_of (sym parts),
    )

pub selecting_whole : (inventory : InventoryOf) (elements : List Element) (i n : ℕ) (choice : Choice) (hosts : List Bool) (unmatched : List (List ℕ)) → length elements ≤ i → n ≡ length inventory.hosts
    → hosts ≡ chosen_by n choice → Selecting inventory (take i elements) choice unmatched → record { hosts = hosts; unmatched = unmatched } ≡ selected_by inventory elements
selecting_whole inventory elements i n choice hosts unmatched all size is so_far =
    let ps = map (part_of inventory) (take i elements) in
    let are : hosts ≡ each_host (length inventory.hosts) (is_chosen ps) =
    is ∙ ap (λ n. chosen_by n choice) size ∙ chosen_whole (length inventory.hosts) ps choice so_far.0 in
    ap (λ (h : List Bool). selected_with h unmatched) are ∙ ap (λ (u : List (List ℕ)). selected_with (each_host (length inventory.hosts) (is_chosen ps)) u) so_far.1
    ∙ ap (λ (es : List Element). selected_by inventory es) (take_all i elements all)
