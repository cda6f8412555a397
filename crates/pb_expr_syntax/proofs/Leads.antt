-- A stack of symbols that is what is left to be read, and how each step keeps that.
use Rattle.std.proofs.Common.{length, ◌≡◌, ℕ, zero, suc, ◌+◌, ◌++◌, ◌&&◌, ◌||◌, nat_eq, Bool, true, false, List, [], ◌∷◌, Option, Some, None, refl, sym, ◌∙◌, ap, subst, cond, take, drop, arith, append_assoc, add-one, eqb-true}
use Rattle.pb_expr_syntax.specs.declared.grammar.Kind.{Kind}
use Rattle.pb_expr_syntax.specs.declared.grammar.How.{How}
use Rattle.pb_expr_syntax.specs.declared.grammar.Make.{Make}
use Rattle.pb_expr_syntax.specs.declared.grammar.Rule.{Rule}
use Rattle.pb_expr_syntax.specs.declared.grammar.Rule.TheVariants as rule
use Rattle.pb_expr_syntax.specs.declared.grammar.Symbol.{Symbol}
use Rattle.pb_expr_syntax.specs.declared.grammar.Symbol.TheVariants.{Take, Go, Do}
use Rattle.pb_expr_syntax.specs.Grammar as grammar
use Rattle.pb_expr_syntax.specs.Grammar.{Tok, Part, rules, nth, Reads, IsSole, taken, made, begin, makes, One, Many, Called, takes}
use Rattle.pb_expr_syntax.specs.Tree as tree
use Rattle.pb_expr_syntax.specs.declared.grammar.Make.TheVariants as make
use Rattle.pb_expr_syntax.specs.Tree.{Tree, trees_of}
use Rattle.pb_expr_syntax.specs.Choice.{choice}
use Rattle.pb_expr_syntax.specs.Looks.{looks}
use Rattle.pb_expr_syntax.proofs.Tables.{nullable, every, implies, firsts, empties, is_call, is_args, calls, follows, asks, keeps, is_right, picks, all_right}
use Rattle.pb_expr_syntax.specs.Machine.{head_of, State, StepsTo, TakesTo, CannotTake, Stops}
use Rattle.pb_expr_syntax.proofs.Starts.{and_left, and_right, implies_of, every_look, starts, starts-append, starts_as_read, Sure, test_of, keeps_of}

-- what may follow each rule in the stack is in the tables, and only arguments stand before the end of a filter
abbrev pub Good : List Symbol → Type 0
Good [] = Unit {0}
Good (Take k how ∷ ss) = Good ss
Good (Do m ∷ ss) = Good ss
Good (Go r ∷ ss) = ((h : Option Kind) → starts ss h ≡ true → follows r h ≡ true) × (calls ss ≡ true → is_args r ≡ true) × Good ss

or_mono : (f e s t : Bool) → (s ≡ true → t ≡ true) → (f || (e && s)) ≡ true → (f || (e && t)) ≡ true
or_mono true e s t g h = refl
or_mono false true s t g h = g h
or_mono false false s t g h = h

asks_of : (r : Rule) (a ss : List Symbol) (h : Option Kind) → (starts ss h ≡ true → follows r h ≡ true) → starts (a ++ ss) h ≡ true → asks r a h ≡ true
asks_of r a ss h g s = or_mono (firsts a h) (empties a) (starts ss h) (follows r h) g (sym (starts-append a ss h) ∙ s)

or_grouped : (c d e s : Bool) → (c || (d || (e && s))) ≡ ((c || d) || (e && s))
or_grouped true d e s = refl
or_grouped false d e s = refl

and_shared : (n c e s : Bool) → (n && (c || (e && s))) ≡ ((n && c) || ((n && e) && s))
and_shared true c e s = refl
and_shared false c e s = refl

pub calls-append : (a ss : List Symbol) → calls (a ++ ss) ≡ (calls a || (empties a && calls ss))
calls-append [] ss = refl
calls-append (Take k how ∷ a) ss = refl
calls-append (Do m ∷ a) ss = ap (λ b. is_call m || b) (calls-append a ss) ∙ or_grouped (is_call m) (calls a) (empties a) (calls ss)
calls-append (Go r ∷ a) ss = ap (λ b. nullable r && b) (calls-append a ss) ∙ and_shared (nullable r) (calls a) (empties a) (calls ss)

args_of : (r q : Rule) (a ss : List Symbol) → implies (calls a || (empties a && is_args r)) (is_args q) ≡ true → (calls ss ≡ true → is_args r ≡ true) → calls (a ++ ss) ≡ true → is_args q ≡ true
args_of r q a ss k g c = implies_of (calls a || (empties a && is_args r)) (is_args q) k (or_mono (calls a) (empties a) (calls ss) (is_args r) g (sym (calls-append a ss) ∙ c))

pub Good-append : (r : Rule) (a ss : List Symbol) → keeps r a ≡ true → ((h : Option Kind) → starts ss h ≡ true → follows r h ≡ true) → (calls ss ≡ true → is_args r ≡ true) → Good ss → Good (a ++ ss)
Good-append r [] ss k g c good = good
Good-append r (Take kind how ∷ a) ss k g c good = Good-append r a ss k g c good
Good-append r (Do m ∷ a) ss k g c good = Good-append r a ss k g c good
Good-append r (Go q ∷ a) ss k g c good =
    let args : Bool = implies (calls a || (empties a && is_args r)) (is_args q) in
    let more : (args && keeps r a) ≡ true = and_right (every (λ h'. implies (asks r a h') (follows q h')) looks) (args && keeps r a) k in (
      λ h s. implies_of (asks r a h) (follows q h) (every_look (λ h'. implies (asks r a h') (follows q h')) h (and_left _ (args && keeps r a) k)) (asks_of r a ss h (g h) s),
      args_of r q a ss (and_left args (keeps r a) more) c,
      Good-append r a ss (and_right args (keeps r a) more) g c good,
    )

picks_is : (r : Rule) (n : ℕ) (xs : List (List Symbol)) (place : ℕ) (a : List Symbol) (h : Option Kind) → picks r n xs h ≡ true → nth xs place ≡ Some a → asks r a h ≡ true → choice r h ≡ n + place
picks_is r n [] place a h p is asked = cc
picks_is r n (x ∷ xs) zero a h p is asked =
    let same : x ≡ a = cc in
    let at : choice r h ≡ n = eqb-true (choice r h) n (implies_of (asks r x h) (nat_eq (choice r h) n) (and_left _ (picks r (suc n) xs h) p) (subst (λ z. asks r z h ≡ true) (sym same) asked)) in
    omega arith
picks_is r n (x ∷ xs) (suc place) a h p is asked =
    let e : choice r h ≡ suc n + place = picks_is r (suc n) xs place a h (and_right (implies (asks r x h) (nat_eq (choice r h) n)) (picks r (suc n) xs h) p) is asked in
    omega arith

-- the next token chooses the alternative
pub choice_is : {Left : List Symbol → List Part → Type 0} (r : Rule) (ss a : List Symbol) (ts : List Tok) (vs : List Part) (place : ℕ) → Sure Left ts → Good (Go r ∷ ss) →
    nth (rules r) place ≡ Some a → Reads false Left (a ++ ss) ts vs → nth (rules r) (choice r (head_of ts)) ≡ Some a
choice_is r ss a ts vs place sure good is reads =
    let h : Option Kind = head_of ts in
    let asked : asks r a h ≡ true = asks_of r a ss h (good.0 h) (starts_as_read sure reads) in
    let all : every (picks r 0 (rules r)) looks ≡ true = and_right (every (is_right r) (rules r)) _ (all_right r) in
    let e : choice r h ≡ 0 + place = picks_is r 0 (rules r) place a h (every_look (picks r 0 (rules r)) h all) is asked in
    let e' : choice r h ≡ place = omega arith in
    subst (λ n. nth (rules r) n ≡ Some a) (sym e') is

-- an alternative keeps a stack good
pub good_go : (r : Rule) (ss a : List Symbol) (place : ℕ) → nth (rules r) place ≡ Some a → Good (Go r ∷ ss) → Good (a ++ ss)
good_go r ss a place is good = Good-append r a ss (keeps_of r a (test_of r place a is)) good.0 good.1 good.2

at_end : (h : Option Kind) → starts [] h ≡ true → follows rule.Expr h ≡ true
at_end h s = implies_of (starts [] h) (follows rule.Expr h) (every_look (λ q. implies (starts [] q) (follows rule.Expr q)) h refl) s

pub good_begin : Good begin
good_begin = (at_end, (λ c. absurd (not_true c)), tt)
  where
    not_true : false ≡ true → ⊥
    not_true e = cc

pub take_next : (tokens : List Tok) (next : ℕ) (t : Tok) (rest : List Tok) → drop next tokens ≡ t ∷ rest → take (next + 1) tokens ≡ take next tokens ++ t ∷ []
take_next tokens next t rest e = rw add-one (shorter tokens next e)
  where
    shorter : (xs : List Tok) (n : ℕ) → drop n xs ≡ t ∷ rest → take (suc n) xs ≡ take n xs ++ t ∷ []
    shorter [] zero e = cc
    shorter [] (suc n) e = cc
    shorter (x ∷ xs) zero e = cc
    shorter (x ∷ xs) (suc n) e = ap (λ ys. x ∷ ys) (shorter xs n e)

pub same_head : (xs ys : List Tok) → take 1 xs ≡ take 1 ys → head_of xs ≡ head_of ys
same_head [] [] e = refl
same_head [] (y ∷ ys) e = cc
same_head (x ∷ xs) [] e = cc
same_head (x ∷ xs) (y ∷ ys) e = cc

module _ (Left : List Symbol → List Part → Type 0) where
  go_only : {r : Rule} {ss : List Symbol} {ts : List Tok} {vs : List Part} → Sure Left ts → Good (Go r ∷ ss) → Reads false Left (Go r ∷ ss) ts vs →
      (a : List Symbol) × (nth (rules r) (choice r (head_of ts)) ≡ Some a) × Reads false Left (a ++ ss) ts vs
  go_only sure good (grammar.done {ss} {vs} left) = let none : ss ≡ [] = sure ss vs left in cc
  go_only sure good (grammar.go {r} {ss} {ts} {vs} place a is reads) = (a, choice_is r ss a ts vs place sure good is reads, reads)

  -- The whole tokens are read just where those from next on are read by the stack from the parts vs,
  -- and also with other tokens than those from next on, while the next one has the same kind.
  pub record Leads (tokens : List Tok) (next : ℕ) (ss : List Symbol) (vs : List Part) : Type 0 where
    pub sound : (more : List Tok) → Reads false Left ss more vs → Reads false Left begin (take next tokens ++ more) []
    pub only : (more : List Tok) → Sure Left more → head_of more ≡ head_of (drop next tokens) → Reads false Left begin (take next tokens ++ more) [] → Reads false Left ss more vs

  pub leads_begin : (tokens : List Tok) → Leads tokens 0 begin []
  leads_begin tokens = record {
    sound = λ more r. r;
    only = λ more sure e r. r;
  }

  pub leads_go : (tokens : List Tok) (next : ℕ) (r : Rule) (ss a : List Symbol) (vs : List Part) → Good (Go r ∷ ss) → Leads tokens next (Go r ∷ ss) vs →
      nth (rules r) (choice r (head_of (drop next tokens))) ≡ Some a → Leads tokens next (a ++ ss) vs
  leads_go tokens next r ss a vs good l is = record {
    sound = λ more reads. l.sound more (grammar.go (choice r (head_of (drop next tokens))) a is reads);
    only = λ more sure e reads.
        let found = go_only sure good (l.only more sure e reads) in
        let as' : nth (rules r) (choice r (head_of (drop next tokens))) ≡ Some found.0 = subst (λ h. nth (rules r) (choice r h) ≡ Some found.0) e found.1 in
        let same : found.0 ≡ a = cc in
        subst (λ q. Reads false Left (q ++ ss) more vs) same found.2;
  }

  -- no tokens that begin as these, up to the next one, are read
  abbrev pub IsDead : List Tok → ℕ → Type 0
  IsDead tokens next = (more : List Tok) → Sure Left more → take 1 more ≡ take 1 (drop next tokens) → Reads false Left begin (take next tokens ++ more) [] → ⊥

  pub dead_go : (tokens : List Tok) (next : ℕ) (r : Rule) (ss : List Symbol) (vs : List Part) → Good (Go r ∷ ss) → Leads tokens next (Go r ∷ ss) vs →
      nth (rules r) (choice r (head_of (drop next tokens))) ≡ None → IsDead tokens next
  dead_go tokens next r ss vs good l none more sure e reads =
      let e' : head_of more ≡ head_of (drop next tokens) = same_head more (drop next tokens) e in
      let found = go_only sure good (l.only more sure e' reads) in
      let some : nth (rules r) (choice r (head_of (drop next tokens))) ≡ Some found.0 = subst (λ h. nth (rules r) (choice r h) ≡ Some found.0) e' found.1 in
      cc

  -- what a token that is taken leaves
  pub take_out : {k : Kind} {how : How} {ss : List Symbol} {t : Tok} {ts : List Tok} {vs : List Part} → Reads false Left (Take k how ∷ ss) (t ∷ ts) vs →
      (ws : List Part) × (t.kind ≡ k) × (taken how t vs ≡ Some ws) × Reads false Left ss ts ws
  take_out (grammar.take {ws = ws} e w reads) = (ws, e, w, reads)

  take_not_end : {k : Kind} {how : How} {ss : List Symbol} {vs : List Part} → Sure Left [] → Reads false Left (Take k how ∷ ss) [] vs → ⊥
  take_not_end sure (grammar.done {ss} {vs} left) = let none : ss ≡ [] = sure ss vs left in cc

  pub make_out : {m : Make} {ss : List Symbol} {ts : List Tok} {vs : List Part} → Sure Left ts → Reads false Left (Do m ∷ ss) ts vs →
      (ws : List Part) × (made m vs ≡ Some ws) × Reads false Left ss ts ws
  make_out sure (grammar.done {ss} {vs} left) = let none : ss ≡ [] = sure ss vs left in cc
  make_out sure (grammar.do_make {ws = ws} w reads) = (ws, w, reads)

  pub leads_take : (tokens : List Tok) (next : ℕ) (k : Kind) (how : How) (ss : List Symbol) (vs ws : List Part) (t : Tok) (rest : List Tok) → Leads tokens next (Take k how ∷ ss) vs →
      drop next tokens ≡ t ∷ rest → t.kind ≡ k → taken how t vs ≡ Some ws → Leads tokens (next + 1) ss ws
  leads_take tokens next k how ss vs ws t rest l at kind took =
      let front : (more : List Tok) → take next tokens ++ (t ∷ more) ≡ take (next + 1) tokens ++ more = λ more. rw (take_next tokens next t rest at, append_assoc) refl in
      record {
        sound = λ more reads. subst (λ ts. Reads false Left begin ts []) (front more) (l.sound (t ∷ more) (grammar.take kind took reads));
        only = λ more sure e reads.
            let reads' : Reads false Left begin (take next tokens ++ (t ∷ more)) [] = subst (λ ts. Reads false Left begin ts []) (sym (front more)) reads in
            let out = take_out (l.only (t ∷ more) tt (ap head_of (sym at)) reads') in
            let same : out.0 ≡ ws = cc in
            subst (λ q. Reads false Left ss more q) same out.3;
      }

  pub dead_take : (tokens : List Tok) (next : ℕ) (k : Kind) (how : How) (ss : List Symbol) (vs : List Part) (t : Tok) (rest : List Tok) → Leads tokens next (Take k how ∷ ss) vs →
      drop next tokens ≡ t ∷ rest → (t.kind ≡ k → taken how t vs ≡ None) → IsDead tokens next
  dead_take tokens next k how ss vs t rest l at refused [] sure e reads = let e' : take 1 [] ≡ take 1 (t ∷ rest) = subst (λ ts. take 1 [] ≡ take 1 ts) at e in cc
  dead_take tokens next k how ss vs t rest l at refused (u ∷ more) sure e reads =
      let e' : take 1 (u ∷ more) ≡ take 1 (t ∷ rest) = subst (λ ts. take 1 (u ∷ more) ≡ take 1 ts) at e in
      let same : u ≡ t = cc in
      let out = take_out (l.only (u ∷ more) sure (same_head (u ∷ more) (drop next tokens) e) reads) in
      let none : taken how u vs ≡ None = subst (λ v. v.kind ≡ k → taken how v vs ≡ None) (sym same) refused out.1 in
      cc

  pub dead_take_end : (tokens : List Tok) (next : ℕ) (k : Kind) (how : How) (ss : List Symbol) (vs : List Part) → Leads tokens next (Take k how ∷ ss) vs →
      drop next tokens ≡ [] → IsDead tokens next
  dead_take_end tokens next k how ss vs l at [] sure e reads = take_not_end sure (l.only [] sure (ap head_of (sym at)) reads)
  dead_take_end tokens next k how ss vs l at (u ∷ more) sure e reads = let e' : take 1 (u ∷ more) ≡ take 1 [] = subst (λ ts. take 1 (u ∷ more) ≡ take 1 ts) at e in cc

  pub leads_make : (tokens : List Tok) (next : ℕ) (m : Make) (ss : List Symbol) (vs ws : List Part) → Leads tokens next (Do m ∷ ss) vs → made m vs ≡ Some ws → Leads tokens next ss ws
  leads_make tokens next m ss vs ws l is = record {
    sound = λ more reads. l.sound more (grammar.do_make is reads);
    only = λ more sure e reads.
        let out = make_out sure (l.only more sure e reads) in
        let same : out.0 ≡ ws = cc in
        subst (λ q. Reads false Left ss more q) same out.2;
  }

  pub dead_make : (tokens : List Tok) (next : ℕ) (m : Make) (ss : List Symbol) (vs : List Part) → Leads tokens next (Do m ∷ ss) vs → made m vs ≡ None → IsDead tokens next
  dead_make tokens next m ss vs l none more sure e reads =
      let out = make_out sure (l.only more sure (same_head more (drop next tokens) e) reads) in
      cc

  more_not_end : {t : Tok} {ts : List Tok} {vs : List Part} → Reads false Left [] (t ∷ ts) vs → ⊥
  more_not_end reads = elim reads [ ]

  pub dead_more : (tokens : List Tok) (next : ℕ) (vs : List Part) (t : Tok) (rest : List Tok) → Leads tokens next [] vs → drop next tokens ≡ t ∷ rest → IsDead tokens next
  dead_more tokens next vs t rest l at [] sure e reads = let e' : take 1 [] ≡ take 1 (t ∷ rest) = subst (λ ts. take 1 [] ≡ take 1 ts) at e in cc
  dead_more tokens next vs t rest l at (u ∷ more) sure e reads = more_not_end (l.only (u ∷ more) sure (same_head (u ∷ more) (drop next tokens) e) reads)

pub take_all : (tokens : List Tok) (next : ℕ) → drop next tokens ≡ [] → take next tokens ++ [] ≡ tokens
take_all [] zero e = refl
take_all [] (suc n) e = refl
take_all (x ∷ xs) zero e = cc
take_all (x ∷ xs) (suc n) e = ap (λ ys. x ∷ ys) (take_all xs n e)

pub sure_sole : (t : Tree) (more : List Tok) → Sure (IsSole t) more
sure_sole t [] = λ ss vs left. left.0
sure_sole t (u ∷ more) = tt

made_too : (m : Make) (vs ws : List Part) → made m vs ≡ Some ws → grammar.made_any m vs ≡ Some ws
made_too (make.Binary op) vs ws e = e
made_too make.Inverted vs ws e = e
made_too make.Negated vs ws e = e
made_too make.NoItems vs ws e = e
made_too make.Item vs ws e = e
made_too make.Listed vs ws e = e
made_too make.Indexed vs ws e = e
made_too (make.Present present) vs ws e = e
made_too make.Filtered (Many xs ∷ Called f at ∷ One x ∷ parts) ws e = if_some (takes f (length xs)) (One (tree.Apply f x (trees_of xs)) ∷ parts) ws e
  where
    if_some : (b : Bool) (us ws : List Part) → cond b (Some us) None ≡ Some ws → Some us ≡ Some ws
    if_some true us ws e = e
    if_some false us ws e = cc
made_too make.Filtered _ ws e = cc

pub makes_too : (any : Bool) (m : Make) (vs ws : List Part) → made m vs ≡ Some ws → makes any m vs ≡ Some ws
makes_too false m vs ws e = e
makes_too true m vs ws e = made_too m vs ws e

-- a step of the machine
pub good_step : (tokens : List Tok) (symbol : Symbol) (old new : State) → Good (symbol ∷ old.symbols) → StepsTo tokens symbol old new → Good new.symbols
good_step tokens (Go r) old new good step = subst (λ (s : State). Good s.symbols) (sym step.2) (good_go r old.symbols step.0 (choice r (head_of (drop old.next tokens))) step.1 good)
good_step tokens (Do m) old new good step = subst (λ (s : State). Good s.symbols) (sym step.2) good
good_step tokens (Take k how) old new good step = by_rest (drop old.next tokens) step
  where
    by_rest : (rest : List Tok) → TakesTo rest k how old new → Good new.symbols
    by_rest [] s = absurd s
    by_rest (t ∷ ts) s = subst (λ (u : State). Good u.symbols) (sym s.3) good

pub leads_step : (Left : List Symbol → List Part → Type 0) (tokens : List Tok) (symbol : Symbol) (old new : State) → Good (symbol ∷ old.symbols) → Leads Left tokens old.next (symbol ∷ old.symbols) old.parts → StepsTo tokens symbol old new → Leads Left tokens new.next new.symbols new.parts
leads_step Left tokens (Go r) old new good l step = subst (λ (s : State). Leads Left tokens s.next s.symbols s.parts) (sym step.2) (leads_go Left tokens old.next r old.symbols step.0 old.parts good l step.1)
leads_step Left tokens (Do m) old new good l step = subst (λ (s : State). Leads Left tokens s.next s.symbols s.parts) (sym step.2) (leads_make Left tokens old.next m old.symbols old.parts step.0 l step.1)
leads_step Left tokens (Take k how) old new good l step = by_rest (drop old.next tokens) refl step
  where
    by_rest : (rest : List Tok) → drop old.next tokens ≡ rest → TakesTo rest k how old new → Leads Left tokens new.next new.symbols new.parts
    by_rest [] at s = absurd s
    by_rest (t ∷ ts) at s = subst (λ (u : State). Leads Left tokens u.next u.symbols u.parts) (sym s.3) (leads_take Left tokens old.next k how old.symbols old.parts s.1 t ts l at s.0 s.2)

dead_take_any : (Left : List Symbol → List Part → Type 0) (tokens : List Tok) (k : Kind) (how : How) (old : State) → Leads Left tokens old.next (Take k how ∷ old.symbols) old.parts → CannotTake (drop old.next tokens) k how old → IsDead Left tokens old.next
dead_take_any Left tokens k how old l stop = by_rest (drop old.next tokens) refl stop
  where
    by_rest : (rest : List Tok) → drop old.next tokens ≡ rest → CannotTake rest k how old → IsDead Left tokens old.next
    by_rest [] at s = dead_take_end Left tokens old.next k how old.symbols old.parts l at
    by_rest (t ∷ ts) at s = dead_take Left tokens old.next k how old.symbols old.parts t ts l at s

-- where the machine stops, nothing goes on
pub dead_step : (Left : List Symbol → List Part → Type 0) (tokens : List Tok) (symbol : Symbol) (old : State) → Good (symbol ∷ old.symbols) → Leads Left tokens old.next (symbol ∷ old.symbols) old.parts → Stops tokens symbol old → IsDead Left tokens old.next
dead_step Left tokens (Go r) old good l stop = dead_go Left tokens old.next r old.symbols old.parts good l stop
dead_step Left tokens (Take k how) old good l stop = dead_take_any Left tokens k how old l stop
dead_step Left tokens (Do m) old good l stop = dead_make Left tokens old.next m old.symbols old.parts l stop
