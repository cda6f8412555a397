-- The parser ends: what is left of the symbols and the tokens falls at each step.
use Rattle.std.proofs.Common.{◌≡◌, ℕ, zero, suc, ◌+◌, ◌-◌, ◌*◌, ◌<◌, ◌≤◌, ◌++◌, ◌&&◌, not, nat_lt, if◌then◌else◌, add-one, Bool, true, false, List, [], ◌∷◌, Option, Some, None, refl, sym, ◌∙◌, ap, subst, drop, length, arith}
use Rattle.std.proofs.lemmas.Bool.Decides.{nat_tests}
use Rattle.pb_expr_syntax.specs.declared.grammar.Rule.{Rule}
use Rattle.pb_expr_syntax.specs.declared.grammar.Rule.TheVariants as rule
use Rattle.pb_expr_syntax.specs.declared.grammar.Symbol.{Symbol}
use Rattle.pb_expr_syntax.specs.declared.grammar.Symbol.TheVariants.{Take, Go, Do}
use Rattle.pb_expr_syntax.specs.Grammar.{Tok, rules, nth}
use Rattle.pb_expr_syntax.specs.Choice.{choice}
use Rattle.pb_expr_syntax.specs.Machine.{head_of, State, StepsTo, TakesTo}
use Rattle.pb_expr_syntax.proofs.Tables.{every}
use Rattle.pb_expr_syntax.proofs.Starts.{and_left, and_right, every_nth}

abbrev pub rank : Rule → ℕ
rank rule.Expr = 18
rank rule.Or = 17
rank rule.Ors = 1
rank rule.And = 15
rank rule.Ands = 1
rank rule.Not = 13
rank rule.Cmp = 12
rank rule.Compared = 1
rank rule.Sum = 10
rank rule.Sums = 1
rank rule.Cat = 8
rank rule.Cats = 1
rank rule.Unary = 6
rank rule.Signed = 4
rank rule.Filters = 1
rank rule.Presence = 1
rank rule.Args = 1
rank rule.Items = 21
rank rule.More = 1
rank rule.Post = 3
rank rule.Tails = 1
rank rule.Word = 1
rank rule.Atom = 1

abbrev pub weight : List Symbol → ℕ
weight [] = 0
weight (Take k how ∷ ss) = 1 + weight ss
weight (Do m ∷ ss) = 1 + weight ss
weight (Go r ∷ ss) = rank r + weight ss

abbrev pub fuel : List Symbol → ℕ → ℕ
fuel [] left = 32 * left
fuel (Take k how ∷ ss) left = 32 * (left - 1) + 1 + weight ss
fuel (Do m ∷ ss) left = 32 * left + 1 + weight ss
fuel (Go r ∷ ss) left = 32 * left + rank r + weight ss

abbrev pub is_take : List Symbol → Bool
is_take [] = false
is_take (Take k how ∷ ss) = true
is_take (Do m ∷ ss) = false
is_take (Go r ∷ ss) = false

abbrev pub is_lighter : Rule → List Symbol → Bool
is_lighter r a = nat_lt (weight a) (if is_take a then rank r + 32 else rank r)

-- at the end no alternative is chosen that takes a token
abbrev pub is_quiet : Option (List Symbol) → Bool
is_quiet None = true
is_quiet (Some a) = not (is_take a)

pub all_lighter : (r : Rule) → (every (is_lighter r) (rules r) && is_quiet (nth (rules r) (choice r None))) ≡ true
all_lighter rule.Expr = refl
all_lighter rule.Or = refl
all_lighter rule.Ors = refl
all_lighter rule.And = refl
all_lighter rule.Ands = refl
all_lighter rule.Not = refl
all_lighter rule.Cmp = refl
all_lighter rule.Compared = refl
all_lighter rule.Sum = refl
all_lighter rule.Sums = refl
all_lighter rule.Cat = refl
all_lighter rule.Cats = refl
all_lighter rule.Unary = refl
all_lighter rule.Signed = refl
all_lighter rule.Filters = refl
all_lighter rule.Presence = refl
all_lighter rule.Args = refl
all_lighter rule.Items = refl
all_lighter rule.More = refl
all_lighter rule.Post = refl
all_lighter rule.Tails = refl
all_lighter rule.Word = refl
all_lighter rule.Atom = refl

weight-append : (a ss : List Symbol) → weight (a ++ ss) ≡ weight a + weight ss
weight-append [] ss = omega arith
weight-append (Take k how ∷ a) ss = omega (arith, weight-append a ss)
weight-append (Do m ∷ a) ss = omega (arith, weight-append a ss)
weight-append (Go r ∷ a) ss = omega (arith, weight-append a ss)

-- with no Take on top
fuel_plain : (ss : List Symbol) (left : ℕ) → fuel ss left ≤ 32 * left + weight ss
fuel_plain [] left = omega arith
fuel_plain (Take k how ∷ ss) left = omega arith
fuel_plain (Do m ∷ ss) left = omega arith
fuel_plain (Go r ∷ ss) left = omega arith

below : (a b : ℕ) → nat_lt a b ≡ true → a < b
below a b h = grind (arith, nat_tests)

pub fuel_go : (r : Rule) (a ss : List Symbol) (left : ℕ) → is_lighter r a ≡ true → (is_take a ≡ true → 0 < left) → fuel (a ++ ss) left < fuel (Go r ∷ ss) left
fuel_go r [] ss left light room = let b : 0 < rank r = below 0 (rank r) light in omega (arith, fuel_plain ss left)
fuel_go r (Take k how ∷ a) ss left light room =
    let b : 1 + weight a < rank r + 32 = below (1 + weight a) (rank r + 32) light in
    let some : 0 < left = room refl in
    omega (arith, weight-append a ss)
fuel_go r (Do m ∷ a) ss left light room = let b : 1 + weight a < rank r = below (1 + weight a) (rank r) light in omega (arith, weight-append a ss)
fuel_go r (Go q ∷ a) ss left light room = let b : rank q + weight a < rank r = below (rank q + weight a) (rank r) light in omega (arith, weight-append a ss)

-- a state's fuel
abbrev pub left_of : List Tok → State → ℕ
left_of tokens s = length (drop s.next tokens)

quiet_end : (r : Rule) (ts : List Tok) (a : List Symbol) → nth (rules r) (choice r (head_of ts)) ≡ Some a → is_take a ≡ true → 0 < length ts
quiet_end r [] a is take =
    let quiet : is_quiet (nth (rules r) (choice r None)) ≡ true = and_right (every (is_lighter r) (rules r)) _ (all_lighter r) in
    let not_take : not (is_take a) ≡ true = subst (λ q. is_quiet q ≡ true) is quiet in
    let none : not true ≡ true = subst (λ b. not b ≡ true) take not_take in
    cc
quiet_end r (t ∷ ts) a is take = omega arith

length_suc : (tokens : List Tok) (next : ℕ) (t : Tok) (ts : List Tok) → drop next tokens ≡ t ∷ ts → length (drop next tokens) ≡ length (drop (suc next) tokens) + 1
length_suc [] zero t ts e = cc
length_suc [] (suc n) t ts e = cc
length_suc (x ∷ xs) zero t ts e = omega arith
length_suc (x ∷ xs) (suc n) t ts e = length_suc xs n t ts e

pub length_next : (tokens : List Tok) (next : ℕ) (t : Tok) (ts : List Tok) → drop next tokens ≡ t ∷ ts → length (drop next tokens) ≡ length (drop (next + 1) tokens) + 1
length_next tokens next t ts e = length_suc tokens next t ts e ∙ ap (λ n. length (drop n tokens) + 1) (sym (add-one next))

pub fuel_step : (tokens : List Tok) (symbol : Symbol) (old new : State) → StepsTo tokens symbol old new → fuel new.symbols (left_of tokens new) < fuel (symbol ∷ old.symbols) (left_of tokens old)
fuel_step tokens (Go r) old new step =
    let light : is_lighter r step.0 ≡ true = every_nth (is_lighter r) (rules r) (choice r (head_of (drop old.next tokens))) step.0 (and_left _ (is_quiet (nth (rules r) (choice r None))) (all_lighter r)) step.1 in
    subst (λ (s : State). fuel s.symbols (left_of tokens s) < fuel (Go r ∷ old.symbols) (left_of tokens old)) (sym step.2)
    (fuel_go r step.0 old.symbols (left_of tokens old) light (quiet_end r (drop old.next tokens) step.0 step.1))
fuel_step tokens (Do m) old new step =
    subst (λ (s : State). fuel s.symbols (left_of tokens s) < fuel (Do m ∷ old.symbols) (left_of tokens old)) (sym step.2) (omega (arith, fuel_plain old.symbols (left_of tokens old)))
fuel_step tokens (Take k how) old new step = by_rest (drop old.next tokens) refl step
  where
    by_rest : (rest : List Tok) → drop old.next tokens ≡ rest → TakesTo rest k how old new → fuel new.symbols (left_of tokens new) < fuel (Take k how ∷ old.symbols) (left_of tokens old)
    by_rest [] at s = absurd s
    by_rest (t ∷ ts) at s = subst (λ (u : State). fuel u.symbols (left_of tokens u) < fuel (Take k how ∷ old.symbols) (left_of tokens old)) (sym s.3)
        (omega (arith, fuel_plain old.symbols (length (drop (old.next + 1) tokens)), length_next tokens old.next t ts at))
