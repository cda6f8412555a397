-- What a play has at its places fits its tree.
use Rattle.std.proofs.Common.{◌≡◌, ℕ, suc, ◌+◌, Bool, true, false, ◌||◌, List, [], ◌∷◌, ◌++◌, map, Option, Some, None, Result, Ok, Err, refl, sym, ap, subst, ◌∙◌, length, length-append, append_assoc, arith, nat_lt}
use Rattle.std.specs.Prelude.{not, replicate, if◌then◌else◌}
use Rattle.std.specs.List.{All}
use Rattle.std.proofs.lemmas.List.{append-nil, map-append}
use Rattle.std.proofs.lemmas.List.Elements.{All-cons}
use Rattle.std.proofs.lemmas.Bool.Decides.{nat_tests}
use Rattle.pb_value.specs.Reading.{and_then}
use Rattle.pb_play_reading.specs.declared.play.Play.{Play}
use Rattle.pb_play.specs.Nodes as written
use Rattle.pb_play.specs.Nodes.{Written}
use Rattle.pb_tree.specs.Tree.{Nodes, Nothing, Flush, size_of}
use Rattle.pb_tree.specs.Walk.{is_empty}
use Rattle.pb_places.specs.Caught.{are_caught, caught_in, caught_places}
use Rattle.pb_places.specs.Place.{PlaceOf}
use Rattle.pb_handlers.specs.declared.naming.HandlerNames.{HandlerNames}
use Rattle.pb_roles.specs.Building.{Flushed, InheritedOf, TaskIn, inside, is_nothing, all_places, flush_from, flush_places, flushed_in, part_places, places_of, nodes_of, nodes_then, inherited_of, section_places, sections_then, task_of, tree_of}
use Rattle.pb_roles.specs.Seen.{alone, places_in, places_in_all}
use Rattle.pb_roles.specs.Plays.{IsBuilt, built, checked, expanded, expansion_of, has_too_many_places, head_of, is_too_deep, max_places, unless_unknown, within_limits}
use Rattle.pb_roles.specs.Expansion.{roles_of}
use Rattle.pb_roles.specs.Sections.{sections_of}
use Rattle.pb_roles.specs.Unknown.{unknown_of}
use Rattle.pb_roles.specs.declared.collected.Expansion.{Expansion}
use Rattle.pb_roles.specs.declared.fault.RoleFault.{RoleFault}
use Rattle.pb_roles.specs.declared.fault.RoleFault.TheVariants.{TooLarge}
use Rattle.pb_roles.specs.declared.files.RoleFiles.{RoleFiles}
use Rattle.pb_roles.specs.declared.collected.HandlerIn.{HandlerIn}
use Rattle.pb_roles.specs.declared.collected.Section.{Section}
use Rattle.pb_roles.specs.declared.sections.Expanded.{Expanded}
use Rattle.pb_roles.specs.declared.sections.Head.{Head}
use Rattle.pb_roles.specs.declared.sections.PlayKeys.{PlayKeys}
use Rattle.pb_roles.specs.declared.sections.Sections.{Sections}
use Rattle.pb_roles.proofs.Trees.{size_tree}

flush_many : (names : List HandlerNames) (is_caught : Bool) (n : ℕ) (handlers : List TaskIn) → length (flush_from names is_caught n handlers) ≡ length handlers
flush_many names is_caught n [] = refl
flush_many names is_caught n (h ∷ handlers) = ap suc (flush_many names is_caught (n + 1) handlers)

flush_caught : (names : List HandlerNames) (is_caught : Bool) (n : ℕ) (handlers : List TaskIn) → are_caught (flush_from names is_caught n handlers) ≡ replicate (length handlers) is_caught
flush_caught names is_caught n [] = refl
flush_caught names is_caught n (h ∷ handlers) = ap (λ (l : List Bool). is_caught ∷ l) (flush_caught names is_caught (n + 1) handlers)

-- each place of the nodes has its record
pub as_many : (flushed : Flushed) (inherited : InheritedOf) (is_caught : Bool) (w : Written) → length (places_of flushed inherited is_caught w) ≡ places_in (length flushed.handlers) w
as_many flushed inherited is_caught written.Nothing = refl
as_many flushed inherited is_caught (written.Task task rest) = omega (arith, as_many flushed inherited is_caught rest)
as_many flushed inherited is_caught (written.Block block body rescue always rest) =
    let b = as_many flushed (inside inherited block) (is_caught || not (is_nothing rescue)) body in
    let r = as_many flushed (inside inherited block) is_caught rescue in
    let a = as_many flushed (inside inherited block) is_caught always in
    let m = as_many flushed inherited is_caught rest in
    rw (length-append, length-append, length-append, b, r, a, m) refl
as_many flushed inherited is_caught (written.Flush rest) =
    rw (length-append, flush_many flushed.names is_caught 0 flushed.handlers, as_many flushed inherited is_caught rest) refl

none_is_empty : (w : Written) → is_empty (alone w) ≡ is_nothing w
none_is_empty written.Nothing = refl
none_is_empty (written.Task task rest) = refl
none_is_empty (written.Block block body rescue always rest) = refl
none_is_empty (written.Flush rest) = refl

four_caught : (bs rs es ms : List PlaceOf) (rest : List Bool)
    → (((are_caught bs ++ []) ++ (are_caught rs ++ [])) ++ (are_caught es ++ [])) ++ (are_caught ms ++ rest) ≡ are_caught (((bs ++ rs) ++ es) ++ ms) ++ rest
four_caught bs rs es ms rest = simp (map-append, append-nil, append_assoc) refl

two_caught : (fs ms : List PlaceOf) (rest : List Bool) → are_caught fs ++ (are_caught ms ++ rest) ≡ are_caught (fs ++ ms) ++ rest
two_caught fs ms rest = simp (map-append, append_assoc) refl

-- it says of a failure there what the tree says
caught_then : (flushed : Flushed) (inherited : InheritedOf) (is_caught : Bool) (w : Written) (rest : Nodes)
    → caught_in (length flushed.handlers) is_caught (nodes_then w rest) ≡ are_caught (places_of flushed inherited is_caught w) ++ caught_in (length flushed.handlers) is_caught rest
caught_then flushed inherited is_caught written.Nothing rest = refl
caught_then flushed inherited is_caught (written.Task task more) rest = ap (λ (l : List Bool). is_caught ∷ l) (caught_then flushed inherited is_caught more rest)
caught_then flushed inherited is_caught (written.Block block body rescue always more) rest =
    let b = caught_then flushed (inside inherited block) (is_caught || not (is_nothing rescue)) body Nothing in
    let r = caught_then flushed (inside inherited block) is_caught rescue Nothing in
    let a = caught_then flushed (inside inherited block) is_caught always Nothing in
    let m = caught_then flushed inherited is_caught more rest in
    rw (none_is_empty rescue, b, r, a, m)
    (four_caught (places_of flushed (inside inherited block) (is_caught || not (is_nothing rescue)) body) (places_of flushed (inside inherited block) is_caught rescue)
    (places_of flushed (inside inherited block) is_caught always) (places_of flushed inherited is_caught more) (caught_in (length flushed.handlers) is_caught rest))
caught_then flushed inherited is_caught (written.Flush more) rest =
    rw (caught_then flushed inherited is_caught more rest, sym (flush_caught flushed.names is_caught 0 flushed.handlers))
    (two_caught (flush_places flushed is_caught) (places_of flushed inherited is_caught more) (caught_in (length flushed.handlers) is_caught rest))

sections_many : (flushed : Flushed) (keys : PlayKeys) (sections : List Section) → length (part_places flushed keys sections) ≡ places_in_all (length flushed.handlers) sections
sections_many flushed keys [] = flush_many flushed.names false 0 flushed.handlers
sections_many flushed keys (s ∷ sections) =
    let a = as_many flushed (inherited_of keys s.origin) false s.nodes in
    let b = sections_many flushed keys sections in
    rw (append_assoc (places_of flushed (inherited_of keys s.origin) false s.nodes) (section_places flushed keys sections) (flush_places flushed false), length-append, a, b) refl

sections_caught : (flushed : Flushed) (keys : PlayKeys) (sections : List Section) (rest : Nodes)
    → caught_in (length flushed.handlers) false (sections_then sections (Flush rest)) ≡ are_caught (part_places flushed keys sections) ++ caught_in (length flushed.handlers) false rest
sections_caught flushed keys [] rest = ap (λ (l : List Bool). l ++ caught_in (length flushed.handlers) false rest) (sym (flush_caught flushed.names false 0 flushed.handlers))
sections_caught flushed keys (s ∷ sections) rest =
    caught_then flushed (inherited_of keys s.origin) false s.nodes (sections_then sections (Flush rest))
    ∙ ap (λ (l : List Bool). are_caught (places_of flushed (inherited_of keys s.origin) false s.nodes) ++ l) (sections_caught flushed keys sections rest)
    ∙ two_caught (places_of flushed (inherited_of keys s.origin) false s.nodes) (part_places flushed keys sections) (caught_in (length flushed.handlers) false rest)
    ∙ ap (λ (ps : List PlaceOf). are_caught ps ++ caught_in (length flushed.handlers) false rest)
    (sym (append_assoc (places_of flushed (inherited_of keys s.origin) false s.nodes) (section_places flushed keys sections) (flush_places flushed false)))

map_many : (keys : PlayKeys) (handlers : List HandlerIn) → length (map (task_of keys) handlers) ≡ length handlers
map_many keys [] = refl
map_many keys (h ∷ handlers) = ap suc (map_many keys handlers)

all_many : (play : Sections) → length (all_places play) ≡ size_of (tree_of play)
all_many play =
    let flushed = flushed_in play in
    let n : length flushed.handlers ≡ length play.handlers = map_many play.keys play.handlers in
    let a = sections_many flushed play.keys play.pre in
    let b = sections_many flushed play.keys play.tasks in
    let c = sections_many flushed play.keys play.post in
    rw (length-append, length-append, a, b, c, n) (sym (size_tree play))

three_caught : (ps ts qs : List PlaceOf) → are_caught ps ++ (are_caught ts ++ (are_caught qs ++ [])) ≡ are_caught ((ps ++ ts) ++ qs)
three_caught ps ts qs = simp (map-append, append-nil, append_assoc) refl

all_caught : (play : Sections) → are_caught (all_places play) ≡ caught_places (tree_of play)
all_caught play =
    let flushed = flushed_in play in
    let keys = play.keys in
    sym
    (ap (λ (n : ℕ). caught_in n false (nodes_of play)) (sym (map_many keys play.handlers))
    ∙ sections_caught flushed keys play.pre (sections_then play.tasks (Flush (sections_then play.post (Flush Nothing))))
    ∙ ap (λ (l : List Bool). are_caught (part_places flushed keys play.pre) ++ l)
    (sections_caught flushed keys play.tasks (sections_then play.post (Flush Nothing))
    ∙ ap (λ (l : List Bool). are_caught (part_places flushed keys play.tasks) ++ l) (sections_caught flushed keys play.post Nothing))
    ∙ three_caught (part_places flushed keys play.pre) (part_places flushed keys play.tasks) (part_places flushed keys play.post))

-- a play that is built is within the limits
not_left : (a b c : Bool) → a ≡ c → (c || b) ≡ false → a ≡ false
not_left a b true e h = cc
not_left a b false e h = e

not_right : (a b c : Bool) → b ≡ c → (a || c) ≡ false → b ≡ false
not_right true b c e h = cc
not_right false b c e h = e ∙ h

built_fits : (head : Head) (play : Sections) → (has_too_many_places play || is_too_deep play) ≡ false → IsBuilt (built head play)
built_fits head play h =
    let few : nat_lt max_places (size_of (tree_of play)) ≡ false = not_left (has_too_many_places play) (is_too_deep play) (has_too_many_places play) refl h in
    let flat = not_right (has_too_many_places play) (is_too_deep play) (is_too_deep play) refl h in
    record { few = grind (arith, nat_tests); flat = grind (arith, nat_tests); places = all_many play; caught = all_caught play }

abbrev pub limited : Bool → Expanded → Result Expanded RoleFault
limited large e = if large then Err TooLarge else Ok e

abbrev ok_all : List Expanded → Result (List Expanded) RoleFault
ok_all es = Ok es

within : (large : Bool) (x e : Expanded) → limited large x ≡ Ok e → (large ≡ false) × (x ≡ e)
within true x e is = absurd (let never : ⊥ = cc in never)
within false x e is = (refl, cc)

within_fits : (head : Head) (play : Sections) (e : Expanded) → within_limits head play ≡ Ok e → IsBuilt e
within_fits head play e is =
    let p = within (has_too_many_places play || is_too_deep play) (built head play) e is in subst IsBuilt p.1 (built_fits head play p.0)

unless_fits : (head : Head) (play : Sections) (e : Expanded) (found : Option (List ℕ)) → unless_unknown found (within_limits head play) ≡ Ok e → IsBuilt e
unless_fits head play e None r = within_fits head play e r
unless_fits head play e (Some name) r = absurd (let never : ⊥ = cc in never)

roles_fit : (r : Result Expansion RoleFault) (play : Play) (e : Expanded) → and_then r (λ met. checked (head_of play met) (sections_of play met)) ≡ Ok e → IsBuilt e
roles_fit (Ok met) play e is = unless_fits (head_of play met) (sections_of play met) e (unknown_of (sections_of play met)) is
roles_fit (Err f) play e is = absurd (let never : ⊥ = cc in never)

none_fit : (all : List Expanded) → ok_all [] ≡ Ok all → All IsBuilt all
none_fit all is = subst (All IsBuilt) (same all is) (λ k d below. absurd (let never : ⊥ = omega (arith, below) in never))
  where
    same : (xs : List Expanded) → ok_all [] ≡ Ok xs → [] ≡ xs
    same xs p = cc

both_fit : (a : Result Expanded RoleFault) (b : Result (List Expanded) RoleFault) (all : List Expanded) → and_then a (λ one. and_then b (λ rest. Ok (one ∷ rest))) ≡ Ok all
    → ((e : Expanded) → a ≡ Ok e → IsBuilt e) → ((es : List Expanded) → b ≡ Ok es → All IsBuilt es) → All IsBuilt all
both_fit (Ok e) (Ok es) all is h k = subst (All IsBuilt) (same (e ∷ es) all is) (All-cons IsBuilt e es (h e refl) (k es refl))
  where
    same : (xs ys : List Expanded) → ok_all xs ≡ Ok ys → xs ≡ ys
    same xs ys p = cc
both_fit (Ok e) (Err f) all is h k = absurd (let never : ⊥ = cc in never)
both_fit (Err f) b all is h k = absurd (let never : ⊥ = cc in never)

pub all_fit : (files : RoleFiles) (plays : List Play) (all : List Expanded) → expansion_of files plays ≡ Ok all → All IsBuilt all
unfolding expansion_of
all_fit files [] all is = none_fit all is
all_fit files (play ∷ plays) all is =
    both_fit (expanded files play) (expansion_of files plays) all is (λ e. roles_fit (roles_of files play.roles) play e) (all_fit files plays)

both_count : (a : Result Expanded RoleFault) (b : Result (List Expanded) RoleFault) (n : ℕ) (all : List Expanded)
    → and_then a (λ one. and_then b (λ rest. Ok (one ∷ rest))) ≡ Ok all → ((es : List Expanded) → b ≡ Ok es → length es ≡ n) → length all ≡ suc n
both_count (Ok e) (Ok es) n all is k = ap length (sym (same (e ∷ es) all is)) ∙ ap suc (k es refl)
  where
    same : (xs ys : List Expanded) → ok_all xs ≡ Ok ys → xs ≡ ys
    same xs ys p = cc
both_count (Ok e) (Err f) n all is k = cc
both_count (Err f) b n all is k = cc

none_count : (all : List Expanded) → ok_all [] ≡ Ok all → length all ≡ 0
none_count all is = ap length (sym (same all is))
  where
    same : (xs : List Expanded) → ok_all [] ≡ Ok xs → [] ≡ xs
    same xs p = cc

-- each play is there
pub all_count : (files : RoleFiles) (plays : List Play) (all : List Expanded) → expansion_of files plays ≡ Ok all → length all ≡ length plays
unfolding expansion_of
all_count files [] all is = none_count all is
all_count files (play ∷ plays) all is = both_count (expanded files play) (expansion_of files plays) (length plays) all is (all_count files plays)
