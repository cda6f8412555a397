-- What symbols read begins as the tables say.
use Rattle.std.proofs.Common.{◌≡◌, ℕ, zero, suc, ◌++◌, ◌&&◌, ◌||◌, nat_eq, Bool, true, false, List, [], ◌∷◌, Option, Some, None, refl, sym, ◌∙◌, ap, subst}
use Rattle.pb_expr_syntax.specs.declared.grammar.Kind.{Kind}
use Rattle.pb_expr_syntax.specs.declared.grammar.Kind.TheVariants as kind
use Rattle.pb_expr_syntax.specs.declared.grammar.Rule.{Rule}
use Rattle.pb_expr_syntax.specs.declared.grammar.Symbol.{Symbol}
use Rattle.pb_expr_syntax.specs.declared.grammar.Symbol.TheVariants.{Take, Go, Do}
use Rattle.pb_expr_syntax.specs.Grammar.{Tok, Part, rules, nth, Reads, done, take, go, do_make}
use Rattle.pb_expr_syntax.specs.Machine.{head_of}
use Rattle.pb_expr_syntax.specs.Looks.{look_code, looks}
use Rattle.pb_expr_syntax.proofs.Tables.{member, nullable, first, every, implies, firsts, empties, is_plain, keeps, is_right, picks, all_right}

pub and_left : (a b : Bool) → (a && b) ≡ true → a ≡ true
and_left true b h = refl
and_left false b h = h

pub and_right : (a b : Bool) → (a && b) ≡ true → b ≡ true
and_right true b h = h
and_right false b h = cc

pub implies_of : (a b : Bool) → implies a b ≡ true → a ≡ true → b ≡ true
implies_of true b h p = h
implies_of false b h p = cc

-- what holds of all holds of each
pub every_nth : {A : Type 0} (p : A → Bool) (xs : List A) (place : ℕ) (x : A) → every p xs ≡ true → nth xs place ≡ Some x → p x ≡ true
every_nth p [] place x e h = cc
every_nth p (y ∷ ys) zero x e h = let same : y ≡ x = cc in subst (λ z. p z ≡ true) same (and_left (p y) (every p ys) e)
every_nth p (y ∷ ys) (suc place) x e h = every_nth p ys place x (and_right (p y) (every p ys) e) h

pub look_at : (h : Option Kind) → nth looks (look_code h) ≡ Some h
look_at None = refl
look_at (Some kind.Digits) = refl
look_at (Some kind.Text) = refl
look_at (Some kind.Name) = refl
look_at (Some kind.And) = refl
look_at (Some kind.Or) = refl
look_at (Some kind.Not) = refl
look_at (Some kind.In) = refl
look_at (Some kind.Is) = refl
look_at (Some kind.True) = refl
look_at (Some kind.False) = refl
look_at (Some kind.Null) = refl
look_at (Some kind.Equal) = refl
look_at (Some kind.NotEqual) = refl
look_at (Some kind.Less) = refl
look_at (Some kind.AtMost) = refl
look_at (Some kind.Greater) = refl
look_at (Some kind.AtLeast) = refl
look_at (Some kind.Plus) = refl
look_at (Some kind.Minus) = refl
look_at (Some kind.Tilde) = refl
look_at (Some kind.Bar) = refl
look_at (Some kind.Dot) = refl
look_at (Some kind.Comma) = refl
look_at (Some kind.Open) = refl
look_at (Some kind.Close) = refl
look_at (Some kind.ListOpen) = refl
look_at (Some kind.ListClose) = refl

pub every_look : (p : Option Kind → Bool) (h : Option Kind) → every p looks ≡ true → p h ≡ true
every_look p h e = every_nth p looks (look_code h) h e (look_at h)

-- whether a stack of symbols may begin with a token or the end
abbrev pub starts : List Symbol → Option Kind → Bool
starts [] h = nat_eq (look_code h) 0
starts (Take k how ∷ ss) h = nat_eq (look_code h) (look_code (Some k))
starts (Do m ∷ ss) h = starts ss h
starts (Go r ∷ ss) h = member (look_code h) (first r) || (nullable r && starts ss h)

regroup : (m n f e s : Bool) → (m || (n && (f || (e && s)))) ≡ ((m || (n && f)) || ((n && e) && s))
regroup true n f e s = refl
regroup false true f e s = refl
regroup false false f e s = refl

pub starts-append : (a ss : List Symbol) (h : Option Kind) → starts (a ++ ss) h ≡ (firsts a h || (empties a && starts ss h))
starts-append [] ss h = refl
starts-append (Take k how ∷ a) ss h = or_false _
  where
    or_false : (b : Bool) → b ≡ (b || false)
    or_false true = refl
    or_false false = refl
starts-append (Do m ∷ a) ss h = starts-append a ss h
starts-append (Go r ∷ a) ss h = ap (λ b. member (look_code h) (first r) || (nullable r && b)) (starts-append a ss h) ∙ regroup (member (look_code h) (first r)) (nullable r) (firsts a h) (empties a) (starts ss h)

pub same_code : (k : Kind) → nat_eq (look_code (Some k)) (look_code (Some k)) ≡ true
same_code kind.Digits = refl
same_code kind.Text = refl
same_code kind.Name = refl
same_code kind.And = refl
same_code kind.Or = refl
same_code kind.Not = refl
same_code kind.In = refl
same_code kind.Is = refl
same_code kind.True = refl
same_code kind.False = refl
same_code kind.Null = refl
same_code kind.Equal = refl
same_code kind.NotEqual = refl
same_code kind.Less = refl
same_code kind.AtMost = refl
same_code kind.Greater = refl
same_code kind.AtLeast = refl
same_code kind.Plus = refl
same_code kind.Minus = refl
same_code kind.Tilde = refl
same_code kind.Bar = refl
same_code kind.Dot = refl
same_code kind.Comma = refl
same_code kind.Open = refl
same_code kind.Close = refl
same_code kind.ListOpen = refl
same_code kind.ListClose = refl

or_weaker : (f e s m n : Bool) → (f || (e && s)) ≡ true → implies f m ≡ true → implies e n ≡ true → (m || (n && s)) ≡ true
or_weaker true e s true n h p q = refl
or_weaker true e s false n h p q = cc
or_weaker false true s true n h p q = refl
or_weaker false true s false true h p q = h
or_weaker false true s false false h p q = cc
or_weaker false false s m n h p q = cc

-- what is left is nothing, where no token is
abbrev pub Sure : (List Symbol → List Part → Type 0) → List Tok → Type 0
Sure Left [] = (ss : List Symbol) (vs : List Part) → Left ss vs → ss ≡ []
Sure Left (t ∷ ts) = Unit {0}

-- what the tests say of an alternative
pub test_of : (r : Rule) (place : ℕ) (a : List Symbol) → nth (rules r) place ≡ Some a → is_right r a ≡ true
test_of r place a is = every_nth (is_right r) (rules r) place a (and_left (every (is_right r) (rules r)) (every (picks r 0 (rules r)) looks) (all_right r)) is

pub begins_of : (r : Rule) (a : List Symbol) (h : Option Kind) → is_right r a ≡ true → implies (firsts a h) (member (look_code h) (first r)) ≡ true
begins_of r a h right = every_look (λ q. implies (firsts a q) (member (look_code q) (first r))) h (and_left (every (λ q. implies (firsts a q) (member (look_code q) (first r))) looks) (implies (empties a) (nullable r) && (is_plain a && keeps r a)) right)

rest_of : (r : Rule) (a : List Symbol) → is_right r a ≡ true → (implies (empties a) (nullable r) && (is_plain a && keeps r a)) ≡ true
rest_of r a right = and_right (every (λ q. implies (firsts a q) (member (look_code q) (first r))) looks) (implies (empties a) (nullable r) && (is_plain a && keeps r a)) right

pub nullable_of : (r : Rule) (a : List Symbol) → is_right r a ≡ true → implies (empties a) (nullable r) ≡ true
nullable_of r a right = and_left (implies (empties a) (nullable r)) (is_plain a && keeps r a) (rest_of r a right)

pub plain_of : (r : Rule) (a : List Symbol) → is_right r a ≡ true → is_plain a ≡ true
plain_of r a right = and_left (is_plain a) (keeps r a) (and_right (implies (empties a) (nullable r)) (is_plain a && keeps r a) (rest_of r a right))

pub keeps_of : (r : Rule) (a : List Symbol) → is_right r a ≡ true → keeps r a ≡ true
keeps_of r a right = and_right (is_plain a) (keeps r a) (and_right (implies (empties a) (nullable r)) (is_plain a && keeps r a) (rest_of r a right))

-- symbols that read tokens may begin with the first
pub starts_as_read : {Left : List Symbol → List Part → Type 0} {ss : List Symbol} {ts : List Tok} {vs : List Part} → Sure Left ts → Reads false Left ss ts vs → starts ss (head_of ts) ≡ true
starts_as_read sure (done {ss} {vs} left) = subst (λ xs. starts xs None ≡ true) (sym (sure ss vs left)) refl
starts_as_read sure (take {k} {how} {ss} {t} e w r) = subst (λ q. nat_eq (look_code (Some q)) (look_code (Some k)) ≡ true) (sym e) (same_code k)
starts_as_read sure (go {r} {ss} {ts} place alternative is reads) =
    let h : Option Kind = head_of ts in
    let right : is_right r alternative ≡ true = test_of r place alternative is in
    or_weaker (firsts alternative h) (empties alternative) (starts ss h) (member (look_code h) (first r)) (nullable r)
    (sym (starts-append alternative ss h) ∙ starts_as_read sure reads)
    (begins_of r alternative h right)
    (nullable_of r alternative right)
starts_as_read sure (do_make e reads) = starts_as_read sure reads
