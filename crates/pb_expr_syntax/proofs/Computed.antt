-- The tree that is computed is the one that is spelt.
use Rattle.std.proofs.Common.{◌≡◌, inl, inr, ℕ, zero, suc, ◌+◌, ◌*◌, ◌<◌, ◌≤◌, nat_le, Bool, true, false, List, [], ◌∷◌, Option, Some, None, refl, sym, ◌∙◌, ap, subst, drop, length, arith}
use Rattle.std.proofs.lemmas.Bool.Decides.{nat_tests}
use Rattle.std.specs.Prelude.{Result, Ok, Err, if◌then◌else◌}
use Rattle.std.specs.Option.{option_map}
use Rattle.pb_expr_syntax.specs.declared.fault.ExprFault.{ExprFault}
use Rattle.pb_expr_syntax.specs.declared.fault.ExprFault.TheVariants as fault
use Rattle.pb_expr_syntax.specs.declared.grammar.Make.{Make}
use Rattle.pb_expr_syntax.specs.declared.grammar.Make.TheVariants as make
use Rattle.pb_expr_syntax.specs.declared.grammar.Rule.{Rule}
use Rattle.pb_expr_syntax.specs.Views.{StopsAtEnd, CallFault, Points, Refuses}
use Rattle.pb_expr_syntax.specs.declared.grammar.How.{How}
use Rattle.pb_expr_syntax.specs.declared.grammar.Kind.{Kind}
use Rattle.pb_expr_syntax.specs.declared.grammar.Symbol.{Symbol}
use Rattle.pb_expr_syntax.specs.declared.grammar.Symbol.TheVariants.{Take, Go, Do}
use Rattle.pb_expr_syntax.specs.declared.parser.Refusal.{Refusal}
use Rattle.pb_expr_syntax.specs.declared.parser.Refusal.TheVariants.{Unexpected, Memory}
use Rattle.pb_expr_syntax.specs.Choice.{choice}
use Rattle.pb_expr_syntax.specs.Computed.{taken_from, stepped, sole, behind, goes, first_with, run, tree_of_tokens, not_deeper, tree_of_result, tree_of, pointed, called, stopped, left_over, stops, stops_first, run_to_fault, fault_of_tokens, fault_of_both, first_fault_of}
use Rattle.pb_expr_syntax.specs.Depth.{depth}
use Rattle.pb_expr_syntax.specs.Grammar.{Tok, Part, One, Many, Called, Spells, begin, rules, nth, taken, made, takes}
use Rattle.pb_expr_syntax.specs.Looks.{is_kind, look_code, looks}
use Rattle.pb_expr_syntax.specs.Machine.{State, head_of, StepsTo, Stops, TakesTo, CannotTake, went, took, built}
use Rattle.pb_expr_syntax.specs.Spelling.{spells, FirstFault, fault_of}
use Rattle.pb_expr_syntax.specs.Tokens.{tokens_of}
use Rattle.pb_expr_syntax.specs.Tree as tree
use Rattle.pb_expr_syntax.specs.Tree.{Tree, trees_of}
use Rattle.pb_expr_syntax.proofs.Fuel.{fuel, fuel_step, left_of}
use Rattle.pb_expr_syntax.proofs.Parsed.{Running, running_begin, running_step, dead_strict, none_at_end, spelt, spelt_only, refused_go, refused_take, refused_do, refused_more}
use Rattle.pb_expr_syntax.proofs.OneFault.{one_refusal, refused_none}
use Rattle.pb_expr_syntax.proofs.Fits.{S, Shape, shapes, moves, moved_make, on_some, single}
use Rattle.pb_expr_syntax.proofs.Starts.{look_at}

same_kind : (a b : Kind) → is_kind a b ≡ true → a ≡ b
same_kind a b e =
    let n : look_code (Some a) ≡ look_code (Some b) = grind (arith, nat_tests) in
    let s : Some (Some a) ≡ Some (Some b) = sym (look_at (Some a)) ∙ ap (nth looks) n ∙ look_at (Some b) in
    cc

kind_self : (a b : Kind) → a ≡ b → is_kind a b ≡ true
kind_self a b e =
    let n : look_code (Some a) ≡ look_code (Some b) = ap (λ k. look_code (Some k)) e in
    grind (arith, nat_tests)

-- a step that is computed is a step, and where none is computed there is none
abbrev Leads : List Tok → Symbol → State → Option State → Type 0
Leads tokens x old None = Stops tokens x old
Leads tokens x old (Some new) = StepsTo tokens x old new

abbrev TakeLeads : List Tok → Kind → How → State → Option State → Type 0
TakeLeads rest k how old None = CannotTake rest k how old
TakeLeads rest k how old (Some new) = TakesTo rest k how old new

take_parts : (t : Tok) (ts : List Tok) (k : Kind) (how : How) (old : State) (o : Option (List Part)) → t.kind ≡ k → taken how t old.parts ≡ o → TakeLeads (t ∷ ts) k how old (option_map (took old) o)
take_parts t ts k how old None same e = λ _. e
take_parts t ts k how old (Some ws) same e = (same, ws, e, refl)

take_kind : (t : Tok) (ts : List Tok) (k : Kind) (how : How) (old : State) (b : Bool) → is_kind t.kind k ≡ b → TakeLeads (t ∷ ts) k how old (if b then option_map (took old) (taken how t old.parts) else None)
take_kind t ts k how old true e = take_parts t ts k how old (taken how t old.parts) (same_kind t.kind k e) refl
take_kind t ts k how old false e = λ same. let yes_it_is : is_kind t.kind k ≡ true = kind_self t.kind k same in cc

take_is : (rest : List Tok) (k : Kind) (how : How) (old : State) → TakeLeads rest k how old (taken_from k how old rest)
take_is [] k how old = tt
take_is (t ∷ ts) k how old = take_kind t ts k how old (is_kind t.kind k) refl

take_leads : (tokens : List Tok) (k : Kind) (how : How) (old : State) (o : Option State) → TakeLeads (drop old.next tokens) k how old o → Leads tokens (Take k how) old o
take_leads tokens k how old None h = h
take_leads tokens k how old (Some new) h = h

go_is : (tokens : List Tok) (r : Rule) (old : State) (o : Option (List Symbol)) → nth (rules r) (choice r (head_of (drop old.next tokens))) ≡ o → Leads tokens (Go r) old (option_map (λ a. went a old) o)
go_is tokens r old None e = e
go_is tokens r old (Some a) e = (a, e, refl)

do_is : (tokens : List Tok) (m : Make) (old : State) (o : Option (List Part)) → made m old.parts ≡ o → Leads tokens (Do m) old (option_map (built old) o)
do_is tokens m old None e = e
do_is tokens m old (Some ws) e = (ws, e, refl)

stepped_is : (tokens : List Tok) (x : Symbol) (old : State) → Leads tokens x old (stepped tokens x old)
stepped_is tokens (Go r) old = go_is tokens r old (nth (rules r) (choice r (head_of (drop old.next tokens)))) refl
stepped_is tokens (Take k how) old = take_leads tokens k how old (taken_from k how old (drop old.next tokens)) (take_is (drop old.next tokens) k how old)
stepped_is tokens (Do m) old = do_is tokens m old (made m old.parts) refl

-- the one tree that the tokens spell, or that they spell none
abbrev Tells : List Tok → Option Tree → Type 0
Tells tokens None = (t : Tree) → Spells tokens t → ⊥
Tells tokens (Some u) = Spells tokens u × ((t : Tree) → Spells tokens t → t ≡ u)

tells_end : (tokens : List Tok) (next : ℕ) (vs : List Part) → Running tokens next [] vs → Tells tokens (sole (drop next tokens) vs)
tells_end tokens next vs r = by_rest (drop next tokens) refl
  where
    by_rest : (rest : List Tok) → drop next tokens ≡ rest → Tells tokens (sole rest vs)
    by_rest [] at =
        let one = single vs r.fits in
        subst (λ us. Tells tokens (sole [] us)) (sym one.1) (spelt tokens next vs one.0 r at one.1, λ t h. spelt_only tokens next vs one.0 t r at one.1 h)
    by_rest (t ∷ ts) at = none_at_end tokens next vs (Unexpected t.at) r (subst (λ us. StopsAtEnd (Unexpected t.at) us vs) (sym at) refl)

-- of the states behind one more step
abbrev Later : ℕ → List Tok → Type 0
Later n tokens = (new : State) → Running tokens new.next new.symbols new.parts → fuel new.symbols (left_of tokens new) < n → Tells tokens (run n tokens new)

tells_step : (n : ℕ) (tokens : List Tok) (x : Symbol) (old : State) (o : Option State) → Later n tokens → Running tokens old.next (x ∷ old.symbols) old.parts → fuel (x ∷ old.symbols) (left_of tokens old) < suc n → Leads tokens x old o → Tells tokens (goes (run n tokens) o)
tells_step n tokens x old None later r lt h = dead_strict tokens x old r h
tells_step n tokens x old (Some new) later r lt h = later new (running_step tokens x old new r h) (let e = fuel_step tokens x old new h in omega arith)

tells_first : (n : ℕ) (tokens : List Tok) (s : State) (all : List Symbol) → Later n tokens → Running tokens s.next all s.parts → fuel all (left_of tokens s) < suc n → Tells tokens (first_with (run n tokens) tokens s all)
tells_first n tokens s [] later r lt = tells_end tokens s.next s.parts r
tells_first n tokens s (x ∷ ss) later r lt = tells_step n tokens x (behind s ss) (stepped tokens x (behind s ss)) later r lt (stepped_is tokens x (behind s ss))

tells : (n : ℕ) (tokens : List Tok) → Later n tokens
tells zero tokens s r lt = absurd (omega arith)
tells (suc n) tokens s r lt = tells_first n tokens s s.symbols (tells n tokens) r lt

tells_tokens : (tokens : List Tok) → Tells tokens (tree_of_tokens tokens)
unfolding tree_of_tokens
tells_tokens tokens = tells (32 * length tokens + 32) tokens (record { next = 0; symbols = begin; parts = [] }) (running_begin tokens) (omega arith)

spelled : (tokens : List Tok) (o : Option Tree) (t : Tree) → Tells tokens o → Spells tokens t → o ≡ Some t
spelled tokens None t h s = absurd (h t s)
spelled tokens (Some u) t h s = ap Some (sym (h.1 t s))

-- the tree that a text spells is the one that is computed
pub tree_is : (text : List ℕ) (t : Tree) → spells text t → tree_of text ≡ Some t
unfolding tree_of
tree_is text t s =
    let le : nat_le (length text) 4096 ≡ true = let h = s.0 in grind (arith, nat_tests) in
    let deep : nat_le (depth t) 64 ≡ true = let h = s.4 in grind (arith, nat_tests) in
    let e : tree_of_tokens s.1 ≡ Some t = spelled s.1 (tree_of_tokens s.1) t (tells_tokens s.1) s.3 in
    rw (le, s.2, e, deep)

unspelled : (text : List ℕ) (tokens : List Tok) (o : Option Tree) → ((t : Tree) → spells text t → ⊥) → length text ≤ 4096 → tokens_of text ≡ Ok tokens → Tells tokens o → not_deeper o ≡ None
unspelled text tokens None none le e h = refl
unspelled text tokens (Some u) none le e h = by_depth (nat_le (depth u) 64) refl
  where
    by_depth : (b : Bool) → nat_le (depth u) 64 ≡ b → (if b then Some u else None) ≡ None
    by_depth true d = let within : depth u ≤ 64 = grind (arith, nat_tests) in absurd (none u (le, tokens, e, h.0, within))
    by_depth false d = refl

-- and where it spells none, none is computed
pub tree_is_none : (text : List ℕ) → ((t : Tree) → spells text t → ⊥) → tree_of text ≡ None
unfolding tree_of
tree_is_none text none = by_length (nat_le (length text) 4096) refl
  where
    by_tokens : (r : Result (List Tok) ExprFault) → length text ≤ 4096 → tokens_of text ≡ r → tree_of_result r ≡ None
    by_tokens (Err f) le e = refl
    by_tokens (Ok tokens) le e = unspelled text tokens (tree_of_tokens tokens) none le e (tells_tokens tokens)

    by_length : (b : Bool) → nat_le (length text) 4096 ≡ b → (if b then tree_of_result (tokens_of text) else None) ≡ None
    by_length true le = by_tokens (tokens_of text) (grind (arith, nat_tests)) refl
    by_length false le = refl

-- where a computed step isn't one, the fault that is computed is the machine's
pointed_is : (rest : List Tok) → Points (pointed rest) rest
pointed_is [] = tt
pointed_is (t ∷ ts) = refl

called_known : (vs : List Part) → called vs ≡ Memory → ⊥
called_known (Many xs ∷ Called f at ∷ vs) e = cc
called_known _ e = cc

by_call : (m : Make) (vs : List Part) (u : List Shape) → moved_make m (shapes vs) ≡ Some u → made m vs ≡ None → CallFault (called vs) m vs
by_call make.Filtered (Many xs ∷ Called f at ∷ One x ∷ vs) u fit none = (refl, wrong (takes f (length xs)) none)
  where
    wrong : (b : Bool) → (if b then Some (One (tree.Apply f x (trees_of xs)) ∷ vs) else None) ≡ None → b ≡ false
    wrong true e = cc
    wrong false e = refl
by_call (make.Binary op) (One y ∷ One x ∷ vs) u fit none = cc
by_call make.Inverted (One x ∷ vs) u fit none = cc
by_call make.Negated (One x ∷ vs) u fit none = cc
by_call make.NoItems vs u fit none = cc
by_call make.Item (One x ∷ Many xs ∷ vs) u fit none = cc
by_call make.Listed (Many xs ∷ vs) u fit none = cc
by_call make.Indexed (One y ∷ One x ∷ vs) u fit none = cc
by_call (make.Present present) (One x ∷ vs) u fit none = cc
by_call _ _ u fit none = cc

stopped_is : (tokens : List Tok) (x : Symbol) (old : State) → Running tokens old.next (x ∷ old.symbols) old.parts → Stops tokens x old → Refuses tokens (stopped tokens x old)
stopped_is tokens (Go r) old run stop = refused_go tokens r old (pointed (drop old.next tokens)) run stop (pointed_is (drop old.next tokens))
stopped_is tokens (Take k how) old run stop = refused_take tokens k how old (pointed (drop old.next tokens)) run stop (pointed_is (drop old.next tokens))
stopped_is tokens (Do m) old run stop =
    let one = on_some (moved_make m (shapes old.parts)) (moves old.symbols) (S ∷ []) run.fits in
    refused_do tokens m old (called old.parts) (called_known old.parts) run stop (by_call m old.parts one.0 one.1 stop)

-- the fault of the tokens, or that they spell a tree
abbrev Refused : List Tok → Option Refusal → Type 0
Refused tokens None = (t : Tree) × Spells tokens t
Refused tokens (Some e) = Refuses tokens e

refused_left : (tokens : List Tok) (next : ℕ) (vs : List Part) → Running tokens next [] vs → Refused tokens (left_over (drop next tokens))
refused_left tokens next vs r = by_rest (drop next tokens) refl
  where
    by_rest : (rest : List Tok) → drop next tokens ≡ rest → Refused tokens (left_over rest)
    by_rest [] at = let one = single vs r.fits in (one.0, spelt tokens next vs one.0 r at one.1)
    by_rest (t ∷ ts) at = refused_more tokens next vs (Unexpected t.at) r (subst (λ us. StopsAtEnd (Unexpected t.at) us vs) (sym at) refl)

abbrev LaterFault : ℕ → List Tok → Type 0
LaterFault n tokens = (new : State) → Running tokens new.next new.symbols new.parts → fuel new.symbols (left_of tokens new) < n → Refused tokens (run_to_fault n tokens new)

refused_by : (n : ℕ) (tokens : List Tok) (x : Symbol) (old : State) (o : Option State) → LaterFault n tokens → Running tokens old.next (x ∷ old.symbols) old.parts → fuel (x ∷ old.symbols) (left_of tokens old) < suc n → Leads tokens x old o → Refused tokens (stops (run_to_fault n tokens) (stopped tokens x old) o)
refused_by n tokens x old None later r lt h = stopped_is tokens x old r h
refused_by n tokens x old (Some new) later r lt h = later new (running_step tokens x old new r h) (let e = fuel_step tokens x old new h in omega arith)

refused_first : (n : ℕ) (tokens : List Tok) (s : State) (all : List Symbol) → LaterFault n tokens → Running tokens s.next all s.parts → fuel all (left_of tokens s) < suc n → Refused tokens (stops_first (run_to_fault n tokens) tokens s all)
refused_first n tokens s [] later r lt = refused_left tokens s.next s.parts r
refused_first n tokens s (x ∷ ss) later r lt = refused_by n tokens x (behind s ss) (stepped tokens x (behind s ss)) later r lt (stepped_is tokens x (behind s ss))

refused_in : (n : ℕ) (tokens : List Tok) → LaterFault n tokens
refused_in zero tokens s r lt = absurd (omega arith)
refused_in (suc n) tokens s r lt = refused_first n tokens s s.symbols (refused_in n tokens) r lt

refused_tokens : (tokens : List Tok) → Refused tokens (fault_of_tokens tokens)
unfolding fault_of_tokens
refused_tokens tokens = refused_in (32 * length tokens + 32) tokens (record { next = 0; symbols = begin; parts = [] }) (running_begin tokens) (omega arith)

-- of tokens that are refused, and of those that spell a tree
fault_refused : (tokens : List Tok) (e : Refusal) (o : Option Refusal) (u : Option Tree) → Refuses tokens e → Refused tokens o → fault_of_both o u ≡ Some (fault_of e)
fault_refused tokens e (Some d) u r h = ap (λ x. Some (fault_of x)) (one_refusal tokens d e h r)
fault_refused tokens e None u r h = absurd (refused_none tokens e h.0 r h.1)

fault_deep : (tokens : List Tok) (t : Tree) (o : Option Refusal) → Spells tokens t → 64 < depth t → Refused tokens o → fault_of_both o (Some t) ≡ Some fault.TooDeep
fault_deep tokens t (Some d) s deep h = absurd (refused_none tokens d t h s)
fault_deep tokens t None s deep h = let e : nat_le (depth t) 64 ≡ false = grind (arith, nat_tests) in rw e

-- the first fault of a text is the one that is computed
pub fault_is : (text : List ℕ) (e : ExprFault) → FirstFault text e → first_fault_of text ≡ Some e
unfolding first_fault_of
fault_is text e (inl h) = let b : nat_le (length text) 4096 ≡ false = let l = h.0 in grind (arith, nat_tests) in rw (b, h.1)
fault_is text e (inr (inl h)) = let b : nat_le (length text) 4096 ≡ true = let l = h.0 in grind (arith, nat_tests) in rw (b, h.1)
fault_is text e (inr (inr (inl h))) =
    let b : nat_le (length text) 4096 ≡ true = let l = h.0 in grind (arith, nat_tests) in
    rw (b, h.2, h.5, fault_refused h.1 h.3 (fault_of_tokens h.1) (tree_of_tokens h.1) h.4 (refused_tokens h.1))
fault_is text e (inr (inr (inr h))) =
    let b : nat_le (length text) 4096 ≡ true = let l = h.0 in grind (arith, nat_tests) in
    rw (b, h.2, h.6, spelled h.1 (tree_of_tokens h.1) h.3 (tells_tokens h.1) h.4, fault_deep h.1 h.3 (fault_of_tokens h.1) h.4 h.5 (refused_tokens h.1))
