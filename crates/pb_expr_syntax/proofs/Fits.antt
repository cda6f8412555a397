-- What is left to be read fits the parts, so it can be read: some tokens complete it.
use Rattle.std.proofs.Common.{pos, ◌≡◌, ℕ, zero, suc, ◌++◌, Bool, true, false, List, [], ◌∷◌, Option, Some, None, refl, sym, ◌∙◌, ap, subst, cond, codes, ◌⊎◌, inl, inr, drop}
use Rattle.pb_expr_syntax.specs.declared.tree.Filter.{Filter}
use Rattle.pb_expr_syntax.specs.declared.tree.Filter.TheVariants as filter
use Rattle.pb_expr_syntax.specs.declared.grammar.Kind.{Kind}
use Rattle.pb_expr_syntax.specs.declared.grammar.Kind.TheVariants as kind
use Rattle.pb_expr_syntax.specs.declared.grammar.How.{How}
use Rattle.pb_expr_syntax.specs.declared.grammar.How.TheVariants.{Skip, Leaf, Call, Member, Defined}
use Rattle.pb_expr_syntax.specs.declared.grammar.Make.{Make}
use Rattle.pb_expr_syntax.specs.declared.grammar.Make.TheVariants as make
use Rattle.pb_expr_syntax.specs.declared.grammar.Rule.{Rule}
use Rattle.pb_expr_syntax.specs.declared.grammar.Rule.TheVariants as rule
use Rattle.pb_expr_syntax.specs.declared.grammar.Symbol.{Symbol}
use Rattle.pb_expr_syntax.specs.declared.grammar.Symbol.TheVariants.{Take, Go, Do}
use Rattle.pb_expr_syntax.specs.Choice.{choice}
use Rattle.pb_expr_syntax.specs.Machine.{head_of, State, StepsTo, TakesTo}
use Rattle.pb_expr_syntax.proofs.Leads.{makes_too}
use Rattle.std.specs.Str.{bytes_eq}
use Rattle.pb_expr_syntax.specs.Tree as tree
use Rattle.pb_expr_syntax.specs.Tree.{Tree, trees_of}
use Rattle.pb_expr_syntax.specs.Grammar as grammar
use Rattle.pb_expr_syntax.specs.Grammar.{Tok, Part, One, Many, Called, rules, nth, taken, made_any, leaf, Reads, IsSole, CanEnd}

pub data Shape : Type 0 where
  S : Shape
  M : Shape
  C : Shape

abbrev pub shape_of : Part → Shape
shape_of (One x) = S
shape_of (Many xs) = M
shape_of (Called f at) = C

-- the shapes of parts
abbrev pub shapes : List Part → List Shape
shapes [] = []
shapes (p ∷ ps) = shape_of p ∷ shapes ps

-- what a rule does to the parts: it adds one, changes one, or adds to a list
pub data Work : Type 0 where
  Adds : Work
  Changes : Work
  Extends : Work

abbrev pub work : Rule → Work
work rule.Expr = Adds
work rule.Or = Adds
work rule.Ors = Changes
work rule.And = Adds
work rule.Ands = Changes
work rule.Not = Adds
work rule.Cmp = Adds
work rule.Compared = Changes
work rule.Sum = Adds
work rule.Sums = Changes
work rule.Cat = Adds
work rule.Cats = Changes
work rule.Unary = Adds
work rule.Signed = Adds
work rule.Filters = Changes
work rule.Presence = Changes
work rule.Args = Extends
work rule.Items = Extends
work rule.More = Extends
work rule.Post = Adds
work rule.Tails = Changes
work rule.Word = Changes
work rule.Atom = Adds

abbrev pub into : Work → List Shape → List Shape
into Adds sh = sh
into Changes sh = S ∷ sh
into Extends sh = M ∷ sh

abbrev pub out : Work → List Shape → List Shape
out Adds sh = S ∷ sh
out Changes sh = S ∷ sh
out Extends sh = M ∷ sh

abbrev pub worked : Work → List Shape → Option (List Shape)
worked Adds sh = Some (S ∷ sh)
worked Changes (S ∷ sh) = Some (S ∷ sh)
worked Changes _ = None
worked Extends (M ∷ sh) = Some (M ∷ sh)
worked Extends _ = None

abbrev pub moved_make : Make → List Shape → Option (List Shape)
moved_make (make.Binary op) (S ∷ S ∷ sh) = Some (S ∷ sh)
moved_make make.Inverted (S ∷ sh) = Some (S ∷ sh)
moved_make make.Negated (S ∷ sh) = Some (S ∷ sh)
moved_make make.NoItems sh = Some (M ∷ sh)
moved_make make.Item (S ∷ M ∷ sh) = Some (M ∷ sh)
moved_make make.Filtered (M ∷ C ∷ S ∷ sh) = Some (S ∷ sh)
moved_make make.Listed (M ∷ sh) = Some (S ∷ sh)
moved_make make.Indexed (S ∷ S ∷ sh) = Some (S ∷ sh)
moved_make (make.Present present) (S ∷ sh) = Some (S ∷ sh)
moved_make _ _ = None

abbrev pub moved_take : How → List Shape → Option (List Shape)
moved_take Skip sh = Some sh
moved_take Leaf sh = Some (S ∷ sh)
moved_take Call sh = Some (C ∷ sh)
moved_take Member (S ∷ sh) = Some (S ∷ sh)
moved_take Member _ = None
moved_take Defined sh = Some sh

abbrev pub and_on : Option (List Shape) → (List Shape → Option (List Shape)) → Option (List Shape)
and_on None f = None
and_on (Some sh) f = f sh

abbrev pub moves : List Symbol → List Shape → Option (List Shape)
moves [] sh = Some sh
moves (Take k how ∷ ss) sh = and_on (moved_take how sh) (moves ss)
moves (Do m ∷ ss) sh = and_on (moved_make m sh) (moves ss)
moves (Go r ∷ ss) sh = and_on (worked (work r) sh) (moves ss)

-- the symbols make one tree of the parts
abbrev pub Fits : List Symbol → List Part → Type 0
Fits ss vs = moves ss (shapes vs) ≡ Some (S ∷ [])

and_on_step : (o : Option (List Shape)) (f g h : List Shape → Option (List Shape)) → ((u : List Shape) → h u ≡ and_on (f u) g) → and_on o h ≡ and_on (and_on o f) g
and_on_step None f g h e = refl
and_on_step (Some u) f g h e = e u

moves-append : (a ss : List Symbol) (sh : List Shape) → moves (a ++ ss) sh ≡ and_on (moves a sh) (moves ss)
moves-append [] ss sh = refl
moves-append (Take k how ∷ a) ss sh = and_on_step (moved_take how sh) (moves a) (moves ss) (moves (a ++ ss)) (λ u. moves-append a ss u)
moves-append (Do m ∷ a) ss sh = and_on_step (moved_make m sh) (moves a) (moves ss) (moves (a ++ ss)) (λ u. moves-append a ss u)
moves-append (Go r ∷ a) ss sh = and_on_step (worked (work r) sh) (moves a) (moves ss) (moves (a ++ ss)) (λ u. moves-append a ss u)

abbrev pub EachOf : (List Symbol → Type 0) → List (List Symbol) → Type 0
EachOf P [] = Unit {0}
EachOf P (x ∷ xs) = P x × EachOf P xs

each_nth : (P : List Symbol → Type 0) (xs : List (List Symbol)) (place : ℕ) (x : List Symbol) → EachOf P xs → nth xs place ≡ Some x → P x
each_nth P [] place x e h = cc
each_nth P (y ∷ ys) zero x e h = let same : y ≡ x = cc in subst P same e.0
each_nth P (y ∷ ys) (suc place) x e h = each_nth P ys place x e.1 h

abbrev Works : Rule → List Symbol → Type 0
Works r a = (sh : List Shape) → moves a (into (work r) sh) ≡ Some (out (work r) sh)

-- each alternative does its rule's work
all_work : (r : Rule) → EachOf (Works r) (rules r)
all_work rule.Expr = (λ sh. refl, tt)
all_work rule.Or = (λ sh. refl, tt)
all_work rule.Ors = (λ sh. refl, (λ sh. refl, tt))
all_work rule.And = (λ sh. refl, tt)
all_work rule.Ands = (λ sh. refl, (λ sh. refl, tt))
all_work rule.Not = (λ sh. refl, (λ sh. refl, tt))
all_work rule.Cmp = (λ sh. refl, tt)
all_work rule.Compared = (λ sh. refl, (λ sh. refl, (λ sh. refl, (λ sh. refl, (λ sh. refl, (λ sh. refl, (λ sh. refl, (λ sh. refl, (λ sh. refl, tt)))))))))
all_work rule.Sum = (λ sh. refl, tt)
all_work rule.Sums = (λ sh. refl, (λ sh. refl, (λ sh. refl, tt)))
all_work rule.Cat = (λ sh. refl, tt)
all_work rule.Cats = (λ sh. refl, (λ sh. refl, tt))
all_work rule.Unary = (λ sh. refl, tt)
all_work rule.Signed = (λ sh. refl, (λ sh. refl, tt))
all_work rule.Filters = (λ sh. refl, (λ sh. refl, (λ sh. refl, tt)))
all_work rule.Presence = (λ sh. refl, (λ sh. refl, tt))
all_work rule.Args = (λ sh. refl, (λ sh. refl, tt))
all_work rule.Items = (λ sh. refl, (λ sh. refl, tt))
all_work rule.More = (λ sh. refl, (λ sh. refl, tt))
all_work rule.Post = (λ sh. refl, tt)
all_work rule.Tails = (λ sh. refl, (λ sh. refl, (λ sh. refl, tt)))
all_work rule.Word = (λ sh. refl, (λ sh. refl, (λ sh. refl, (λ sh. refl, (λ sh. refl, (λ sh. refl, (λ sh. refl, (λ sh. refl, (λ sh. refl, tt)))))))))
all_work rule.Atom = (λ sh. refl, (λ sh. refl, (λ sh. refl, (λ sh. refl, (λ sh. refl, (λ sh. refl, (λ sh. refl, (λ sh. refl, tt))))))))

worked_is : (w : Work) (sh u : List Shape) → worked w sh ≡ Some u → (base : List Shape) × (sh ≡ into w base) × (out w base ≡ u)
worked_is Adds sh u e = let s : S ∷ sh ≡ u = cc in (sh, refl, s)
worked_is Changes (S ∷ sh) u e = let s : S ∷ sh ≡ u = cc in (sh, refl, s)
worked_is Changes [] u e = cc
worked_is Changes (M ∷ sh) u e = cc
worked_is Changes (C ∷ sh) u e = cc
worked_is Extends (M ∷ sh) u e = let s : M ∷ sh ≡ u = cc in (sh, refl, s)
worked_is Extends [] u e = cc
worked_is Extends (S ∷ sh) u e = cc
worked_is Extends (C ∷ sh) u e = cc

pub on_some : (o : Option (List Shape)) (f : List Shape → Option (List Shape)) (v : List Shape) → and_on o f ≡ Some v → (u : List Shape) × (o ≡ Some u) × (f u ≡ Some v)
on_some None f v e = cc
on_some (Some u) f v e = (u, refl, e)

pub fits_go : (r : Rule) (ss a : List Symbol) (vs : List Part) (place : ℕ) → nth (rules r) place ≡ Some a → Fits (Go r ∷ ss) vs → Fits (a ++ ss) vs
fits_go r ss a vs place is fit =
    let one = on_some (worked (work r) (shapes vs)) (moves ss) (S ∷ []) fit in
    let base = worked_is (work r) (shapes vs) one.0 one.1 in
    let does : moves a (shapes vs) ≡ Some one.0 = ap (moves a) base.1 ∙ each_nth (Works r) (rules r) place a (all_work r) is base.0 ∙ ap Some base.2 in
    moves-append a ss (shapes vs) ∙ ap (λ o. and_on o (moves ss)) does ∙ one.2

pub fits_take : (how : How) (t : Tok) (vs ws : List Part) → taken how t vs ≡ Some ws → moved_take how (shapes vs) ≡ Some (shapes ws)
fits_take Skip t vs ws e = let s : vs ≡ ws = cc in ap (λ q. Some (shapes q)) s
fits_take Leaf t vs ws e = let s : One (leaf t) ∷ vs ≡ ws = cc in ap (λ q. Some (shapes q)) s
fits_take Call t vs ws e = called (grammar.filter_of t.text) e
  where
    called : (o : Option Filter) → grammar.mapped t.at vs o ≡ Some ws → Some (C ∷ shapes vs) ≡ Some (shapes ws)
    called None h = cc
    called (Some f) h = let s : Called f t.at ∷ vs ≡ ws = cc in ap (λ q. Some (shapes q)) s
fits_take Member t (One x ∷ vs) ws e = let s : One (tree.Member x t.text) ∷ vs ≡ ws = cc in ap (λ q. Some (shapes q)) s
fits_take Member t [] ws e = cc
fits_take Member t (Many xs ∷ vs) ws e = cc
fits_take Member t (Called f at ∷ vs) ws e = cc
fits_take Defined t vs ws e = on (bytes_eq t.text (codes "defined")) e
  where
    on : (b : Bool) → cond b (Some vs) None ≡ Some ws → Some (shapes vs) ≡ Some (shapes ws)
    on true h = let s : vs ≡ ws = cc in ap (λ q. Some (shapes q)) s
    on false h = cc

-- what fits is made, with any number of arguments
pub makes_fit : (m : Make) (vs : List Part) (u : List Shape) → moved_make m (shapes vs) ≡ Some u → (ws : List Part) × (made_any m vs ≡ Some ws) × (shapes ws ≡ u)
makes_fit (make.Binary op) (One y ∷ One x ∷ vs) u e = let s : S ∷ shapes vs ≡ u = cc in (One (tree.Binary op x y) ∷ vs, refl, s)
makes_fit make.Inverted (One x ∷ vs) u e = let s : S ∷ shapes vs ≡ u = cc in (One (tree.Not x) ∷ vs, refl, s)
makes_fit make.Negated (One x ∷ vs) u e = let s : S ∷ shapes vs ≡ u = cc in (One (tree.Negate x) ∷ vs, refl, s)
makes_fit make.NoItems vs u e = let s : M ∷ shapes vs ≡ u = cc in (Many [] ∷ vs, refl, s)
makes_fit make.Item (One x ∷ Many xs ∷ vs) u e = let s : M ∷ shapes vs ≡ u = cc in (Many (xs ++ x ∷ []) ∷ vs, refl, s)
makes_fit make.Filtered (Many xs ∷ Called f at ∷ One x ∷ vs) u e = let s : S ∷ shapes vs ≡ u = cc in (One (tree.Apply f x (trees_of xs)) ∷ vs, refl, s)
makes_fit make.Listed (Many xs ∷ vs) u e = let s : S ∷ shapes vs ≡ u = cc in (One (tree.ListOf (trees_of xs)) ∷ vs, refl, s)
makes_fit make.Indexed (One y ∷ One x ∷ vs) u e = let s : S ∷ shapes vs ≡ u = cc in (One (tree.Index x y) ∷ vs, refl, s)
makes_fit (make.Present present) (One x ∷ vs) u e = let s : S ∷ shapes vs ≡ u = cc in (One (tree.IsDefined x present) ∷ vs, refl, s)
makes_fit _ _ u e = cc

-- a token of the kind
abbrev sample : Kind → Tok
sample k = record { kind = k; at = 0; text = codes "join"; number = pos 0 }

-- a rule reads some tokens, and what it makes has the shapes u
abbrev Completes : Rule → List Part → List Shape → Type 0
Completes r vs u = (ts : List Tok) × (ws : List Part) × (shapes ws ≡ u) × ((u : Tree) (ss : List Symbol) (more : List Tok) → Reads true (IsSole u) ss more ws → Reads true (IsSole u) (Go r ∷ ss) (ts ++ more) vs)

-- reading a name
abbrev ByName : Rule → Type 0
ByName r = (vs : List Part) (u : Tree) (ss : List Symbol) (more : List Tok) → Reads true (IsSole u) ss more (One (leaf (sample kind.Name)) ∷ vs) → Reads true (IsSole u) (Go r ∷ ss) (sample kind.Name ∷ more) vs

by_atom : ByName rule.Atom
by_atom vs u ss more rest = grammar.go 2 (Take kind.Name Leaf ∷ []) refl (grammar.take refl refl rest)

by_post : ByName rule.Post
by_post vs u ss more rest = grammar.go 0 (Go rule.Atom ∷ Go rule.Tails ∷ []) refl (by_atom vs u (Go rule.Tails ∷ ss) more (grammar.go 2 [] refl rest))

by_signed : ByName rule.Signed
by_signed vs u ss more rest = grammar.go 1 (Go rule.Post ∷ []) refl (by_post vs u ss more rest)

by_unary : ByName rule.Unary
by_unary vs u ss more rest = grammar.go 0 (Go rule.Signed ∷ Go rule.Filters ∷ []) refl (by_signed vs u (Go rule.Filters ∷ ss) more (grammar.go 2 [] refl rest))

by_cat : ByName rule.Cat
by_cat vs u ss more rest = grammar.go 0 (Go rule.Unary ∷ Go rule.Cats ∷ []) refl (by_unary vs u (Go rule.Cats ∷ ss) more (grammar.go 1 [] refl rest))

by_sum : ByName rule.Sum
by_sum vs u ss more rest = grammar.go 0 (Go rule.Cat ∷ Go rule.Sums ∷ []) refl (by_cat vs u (Go rule.Sums ∷ ss) more (grammar.go 2 [] refl rest))

by_cmp : ByName rule.Cmp
by_cmp vs u ss more rest = grammar.go 0 (Go rule.Sum ∷ Go rule.Compared ∷ []) refl (by_sum vs u (Go rule.Compared ∷ ss) more (grammar.go 8 [] refl rest))

by_not : ByName rule.Not
by_not vs u ss more rest = grammar.go 1 (Go rule.Cmp ∷ []) refl (by_cmp vs u ss more rest)

by_and : ByName rule.And
by_and vs u ss more rest = grammar.go 0 (Go rule.Not ∷ Go rule.Ands ∷ []) refl (by_not vs u (Go rule.Ands ∷ ss) more (grammar.go 1 [] refl rest))

by_or : ByName rule.Or
by_or vs u ss more rest = grammar.go 0 (Go rule.And ∷ Go rule.Ors ∷ []) refl (by_and vs u (Go rule.Ors ∷ ss) more (grammar.go 1 [] refl rest))

by_expr : ByName rule.Expr
by_expr vs u ss more rest = grammar.go 0 (Go rule.Or ∷ []) refl (by_or vs u ss more rest)

worked_same : (w : Work) (sh u : List Shape) → worked w sh ≡ Some u → (w ≡ Changes) ⊎ (w ≡ Extends) → sh ≡ u
worked_same Adds sh u e k = elim k [ inl h ↦ cc | inr h ↦ cc ]
worked_same Changes sh u e k = let at = worked_is Changes sh u e in at.1 ∙ at.2
worked_same Extends sh u e k = let at = worked_is Extends sh u e in at.1 ∙ at.2

added : (r : Rule) (vs : List Part) (u : List Shape) → worked Adds (shapes vs) ≡ Some u → ByName r → Completes r vs u
added r vs u e reads = let s : S ∷ shapes vs ≡ u = cc in (sample kind.Name ∷ [], One (leaf (sample kind.Name)) ∷ vs, s, reads vs)

nothing : (r : Rule) (vs : List Part) (u : List Shape) (place : ℕ) → shapes vs ≡ u → nth (rules r) place ≡ Some [] → Completes r vs u
nothing r vs u place e is = ([], vs, e, λ u ss more rest. grammar.go place [] is rest)

defined : Tok
defined = record { kind = kind.Name; at = 0; text = codes "defined"; number = pos 0 }

present : (vs : List Part) (u : List Shape) → worked Changes (shapes vs) ≡ Some u → Completes rule.Presence vs u
unfolding defined
present (One x ∷ vs) u e = let s : S ∷ shapes vs ≡ u = cc in (defined ∷ [], One (tree.IsDefined x true) ∷ vs, s, λ u ss more rest. grammar.go 1 (Take kind.Name Defined ∷ Do (make.Present true) ∷ []) refl (grammar.take refl refl (grammar.do_make refl rest)))
present [] u e = cc
present (Many xs ∷ vs) u e = cc
present (Called f at ∷ vs) u e = cc

word : (vs : List Part) (u : List Shape) → worked Changes (shapes vs) ≡ Some u → Completes rule.Word vs u
word (One x ∷ vs) u e = let s : S ∷ shapes vs ≡ u = cc in (sample kind.Name ∷ [], One (tree.Member x (codes "join")) ∷ vs, s, λ u ss more rest. grammar.go 0 (Take kind.Name Member ∷ []) refl (grammar.take refl refl rest))
word [] u e = cc
word (Many xs ∷ vs) u e = cc
word (Called f at ∷ vs) u e = cc

completes : (r : Rule) (vs : List Part) (u : List Shape) → worked (work r) (shapes vs) ≡ Some u → Completes r vs u
completes rule.Expr vs u e = added rule.Expr vs u e by_expr
completes rule.Or vs u e = added rule.Or vs u e by_or
completes rule.Ors vs u e = nothing rule.Ors vs u 1 (worked_same Changes (shapes vs) u e (inl refl)) refl
completes rule.And vs u e = added rule.And vs u e by_and
completes rule.Ands vs u e = nothing rule.Ands vs u 1 (worked_same Changes (shapes vs) u e (inl refl)) refl
completes rule.Not vs u e = added rule.Not vs u e by_not
completes rule.Cmp vs u e = added rule.Cmp vs u e by_cmp
completes rule.Compared vs u e = nothing rule.Compared vs u 8 (worked_same Changes (shapes vs) u e (inl refl)) refl
completes rule.Sum vs u e = added rule.Sum vs u e by_sum
completes rule.Sums vs u e = nothing rule.Sums vs u 2 (worked_same Changes (shapes vs) u e (inl refl)) refl
completes rule.Cat vs u e = added rule.Cat vs u e by_cat
completes rule.Cats vs u e = nothing rule.Cats vs u 1 (worked_same Changes (shapes vs) u e (inl refl)) refl
completes rule.Unary vs u e = added rule.Unary vs u e by_unary
completes rule.Signed vs u e = added rule.Signed vs u e by_signed
completes rule.Filters vs u e = nothing rule.Filters vs u 2 (worked_same Changes (shapes vs) u e (inl refl)) refl
completes rule.Presence vs u e = present vs u e
completes rule.Args vs u e = nothing rule.Args vs u 1 (worked_same Extends (shapes vs) u e (inr refl)) refl
completes rule.Items vs u e = nothing rule.Items vs u 1 (worked_same Extends (shapes vs) u e (inr refl)) refl
completes rule.More vs u e = nothing rule.More vs u 1 (worked_same Extends (shapes vs) u e (inr refl)) refl
completes rule.Post vs u e = added rule.Post vs u e by_post
completes rule.Tails vs u e = nothing rule.Tails vs u 2 (worked_same Changes (shapes vs) u e (inl refl)) refl
completes rule.Word vs u e = word vs u e
completes rule.Atom vs u e = added rule.Atom vs u e by_atom

pub single : (vs : List Part) → Some (shapes vs) ≡ Some (S ∷ []) → (t : Tree) × (vs ≡ One t ∷ [])
single [] e = cc
single (One t ∷ []) e = (t, refl)
single (Many xs ∷ vs) e = cc
single (Called f at ∷ vs) e = cc
single (One t ∷ q ∷ vs) e = cc

takes_sample : (k : Kind) (how : How) (vs : List Part) (u : List Shape) → moved_take how (shapes vs) ≡ Some u → (t : Tok) × (ws : List Part) × (t.kind ≡ k) × (taken how t vs ≡ Some ws)
takes_sample k Skip vs u e = (sample k, vs, refl, refl)
takes_sample k Leaf vs u e = (sample k, One (leaf (sample k)) ∷ vs, refl, refl)
takes_sample k Call vs u e = (sample k, Called filter.Join 0 ∷ vs, refl, refl)
takes_sample k Member (One x ∷ vs) u e = (sample k, One (tree.Member x (codes "join")) ∷ vs, refl, refl)
takes_sample k Member [] u e = cc
takes_sample k Member (Many xs ∷ vs) u e = cc
takes_sample k Member (Called f at ∷ vs) u e = cc
takes_sample k Defined vs u e = (record { kind = k; at = 0; text = codes "defined"; number = pos 0 }, vs, refl, refl)

-- some tokens complete what fits
pub completed : (ss : List Symbol) (vs : List Part) → Fits ss vs → CanEnd ss vs
completed [] vs fit = let one = single vs fit in ([], one.0, grammar.done (refl, one.1))
completed (Take k how ∷ ss) vs fit =
    let one = on_some (moved_take how (shapes vs)) (moves ss) (S ∷ []) fit in
    let took = takes_sample k how vs one.0 one.1 in
    let same : Some (shapes took.1) ≡ Some one.0 = sym (fits_take how took.0 vs took.1 took.3) ∙ one.1 in
    let rest = completed ss took.1 (ap (λ o. and_on o (moves ss)) same ∙ one.2) in
    (took.0 ∷ rest.0, rest.1, grammar.take took.2 took.3 rest.2)
completed (Do m ∷ ss) vs fit =
    let one = on_some (moved_make m (shapes vs)) (moves ss) (S ∷ []) fit in
    let does = makes_fit m vs one.0 one.1 in
    let rest = completed ss does.0 (ap (moves ss) does.2 ∙ one.2) in
    (rest.0, rest.1, grammar.do_make does.1 rest.2)
completed (Go r ∷ ss) vs fit =
    let one = on_some (worked (work r) (shapes vs)) (moves ss) (S ∷ []) fit in
    let does = completes r vs one.0 one.1 in
    let rest = completed ss does.1 (ap (moves ss) does.2 ∙ one.2) in
    (does.0 ++ rest.0, rest.1, does.3 rest.1 ss rest.0 rest.2)

-- a step keeps that the symbols fit the parts
pub fits_step : (tokens : List Tok) (symbol : Symbol) (old new : State) → Fits (symbol ∷ old.symbols) old.parts → StepsTo tokens symbol old new → Fits new.symbols new.parts
fits_step tokens (Go r) old new fit step =
    subst (λ (s : State). Fits s.symbols s.parts) (sym step.2) (fits_go r old.symbols step.0 old.parts (choice r (head_of (drop old.next tokens))) step.1 fit)
fits_step tokens (Do m) old new fit step =
    let one = on_some (moved_make m (shapes old.parts)) (moves old.symbols) (S ∷ []) fit in
    let does = makes_fit m old.parts one.0 one.1 in
    let also : made_any m old.parts ≡ Some step.0 = makes_too true m old.parts step.0 step.1 in
    let same : does.0 ≡ step.0 = some_same (sym does.1 ∙ also) in
    subst (λ (s : State). Fits s.symbols s.parts) (sym step.2) (ap (λ ws. moves old.symbols (shapes ws)) (sym same) ∙ ap (moves old.symbols) does.2 ∙ one.2)
  where
    some_same : {x y : List Part} → ◌≡◌ {A = Option (List Part)} (Some x) (Some y) → x ≡ y
    some_same e = cc
fits_step tokens (Take k how) old new fit step = by_rest (drop old.next tokens) step
  where
    by_rest : (rest : List Tok) → TakesTo rest k how old new → Fits new.symbols new.parts
    by_rest [] s = absurd s
    by_rest (t ∷ ts) s = subst (λ (u : State). Fits u.symbols u.parts) (sym s.3) (ap (λ o. and_on o (moves old.symbols)) (sym (fits_take how t old.parts s.1 s.2)) ∙ fit)
