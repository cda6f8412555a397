-- What the parser's states say of the tokens.
use Rattle.std.proofs.Common.{◌≡◌, ℕ, ◌+◌, ◌++◌, false, List, [], ◌∷◌, ◌⊎◌, inl, inr, Some, None, refl, sym, ap, subst, take, drop}
use Rattle.std.proofs.lemmas.List.{take-append-drop}
use Rattle.pb_expr_syntax.specs.declared.grammar.Kind.{Kind}
use Rattle.pb_expr_syntax.specs.declared.grammar.Kind.TheVariants as kind
use Rattle.pb_expr_syntax.specs.declared.grammar.How.{How}
use Rattle.pb_expr_syntax.specs.declared.grammar.How.TheVariants.{Skip}
use Rattle.pb_expr_syntax.specs.declared.grammar.Make.{Make}
use Rattle.pb_expr_syntax.specs.declared.grammar.Make.TheVariants as make
use Rattle.pb_expr_syntax.specs.declared.grammar.Rule.{Rule}
use Rattle.pb_expr_syntax.specs.declared.grammar.Symbol.{Symbol}
use Rattle.pb_expr_syntax.specs.declared.grammar.Symbol.TheVariants.{Take, Go, Do}
use Rattle.pb_expr_syntax.specs.declared.parser.Refusal.{Refusal}
use Rattle.pb_expr_syntax.specs.declared.parser.Refusal.TheVariants.{Unexpected, End, Memory}
use Rattle.pb_expr_syntax.specs.Tree.{Tree}
use Rattle.pb_expr_syntax.specs.Grammar as grammar
use Rattle.pb_expr_syntax.specs.Grammar.{Tok, Part, One, Many, Called, Reads, Spells, IsSole, CanEnd, IsWrong, begin, Begins, WrongCall, IsStuck, made, takes, rules, nth, taken}
use Rattle.pb_expr_syntax.specs.Choice.{choice}
use Rattle.pb_expr_syntax.specs.Machine.{head_of, State, StepsTo, TakesTo, CannotTake, Stops}
use Rattle.pb_expr_syntax.specs.Views.{CallFault, StopsWith, StopsAtEnd, Points, Names, Refuses, Faults, NotSole}
use Rattle.pb_expr_syntax.proofs.Leads.{Leads, leads_begin, leads_step, Good, good_begin, good_step, IsDead, dead_step, dead_more, take_next, take_all, take_out, sure_sole}
use Rattle.pb_expr_syntax.proofs.Fits.{Fits, Shape, S, shapes, moves, moved_make, on_some, fits_step, completed, single}
use Rattle.pb_expr_syntax.proofs.Calls.{args_of_wrong, args_looks, args_some, opened, wrong_none}

-- what the readings are about: the whole tokens, their beginning, or a wrong call
pub data Aim : Type 0 where
  Whole : Tree → Aim
  Begun : Aim
  Wrong : ℕ → Aim

abbrev pub aimed : Aim → List Symbol → List Part → Type 0
aimed (Whole t) = IsSole t
aimed Begun = CanEnd
aimed (Wrong at) = IsWrong at

-- the next token opens the arguments, and is taken
abbrev pub Opens : List Symbol → List Tok → Type 0
Opens (Take k Skip ∷ ss) (t ∷ ts) = t.kind ≡ k
Opens _ _ = ⊥

-- the parser runs: the stack reads what the tokens still need, and a wrong call that they end in is still to come
pub record Running (tokens : List Tok) (next : ℕ) (ss : List Symbol) (vs : List Part) : Type 0 where
  pub leads : (aim : Aim) → Leads (aimed aim) tokens next ss vs
  pub good : Good ss
  pub fits : Fits ss vs
  pub calls : (at : ℕ) → WrongCall (take next tokens) at → Reads false (IsWrong at) ss [] vs ⊎ Opens ss (drop next tokens)

pub running_begin : (tokens : List Tok) → Running tokens 0 begin []
running_begin tokens = record { leads = λ aim. leads_begin (aimed aim) tokens; good = good_begin; fits = refl; calls = λ at w. inl w }

opens_from : (ts : List Tok) (ss : List Symbol) → head_of ts ≡ Some kind.Open → Opens (opened ++ ss) ts
opens_from [] ss e = cc
opens_from (t ∷ ts) ss e = cc

-- no wrong call is passed over
calls_go : (rest : List Tok) (at : ℕ) (r : Rule) (ss a : List Symbol) (vs : List Part) → Good (Go r ∷ ss) → nth (rules r) (choice r (head_of rest)) ≡ Some a →
    Reads false (IsWrong at) (Go r ∷ ss) [] vs ⊎ Opens (Go r ∷ ss) rest → Reads false (IsWrong at) (a ++ ss) [] vs ⊎ Opens (a ++ ss) rest
calls_go rest at r ss a vs good is (inr o) = absurd o
calls_go rest at r ss a vs good is (inl reads) =
    let args = args_of_wrong at r ss vs good reads in
    elim (args_looks (head_of rest) a (subst (λ q. nth (rules q) (choice q (head_of rest)) ≡ Some a) args.0 is)) [
      | inl none ↦ inl (subst (λ q. Reads false (IsWrong at) (q ++ ss) [] vs) (sym none) args.1)
      | inr opens ↦ inr (subst (λ q. Opens (q ++ ss) rest) (sym opens.1) (opens_from rest ss opens.0))
    ]

calls_make : (at : ℕ) (m : Make) (ss : List Symbol) (vs ws : List Part) (rest : List Tok) → made m vs ≡ Some ws →
    Reads false (IsWrong at) (Do m ∷ ss) [] vs ⊎ Opens (Do m ∷ ss) rest → Reads false (IsWrong at) ss [] ws ⊎ Opens ss rest
calls_make at m ss vs ws rest is (inr o) = absurd o
calls_make at m ss vs ws rest is (inl (grammar.done wrong)) = let none : made m vs ≡ None = wrong_none at m ss vs wrong in cc
calls_make at m ss vs ws rest is (inl (grammar.do_make {ws = us} w reads)) = let same : us ≡ ws = cc in inl (subst (λ q. Reads false (IsWrong at) ss [] q) same reads)

calls_take : (tokens : List Tok) (next at : ℕ) (k : Kind) (how : How) (ss : List Symbol) (vs ws : List Part) (t : Tok) (rest : List Tok) → Leads (IsWrong at) tokens next (Take k how ∷ ss) vs →
    drop next tokens ≡ t ∷ rest → taken how t vs ≡ Some ws → WrongCall (take (next + 1) tokens) at → Reads false (IsWrong at) ss [] ws
calls_take tokens next at k how ss vs ws t rest l here took wrong =
    let out = take_out (IsWrong at) (l.only (t ∷ []) tt (ap head_of (sym here)) (subst (λ q. WrongCall q at) (take_next tokens next t rest here) wrong)) in
    let same : out.0 ≡ ws = cc in
    subst (λ q. Reads false (IsWrong at) ss [] q) same out.3

abbrev Calls : List Tok → State → Type 0
Calls tokens s = (at : ℕ) → WrongCall (take s.next tokens) at → Reads false (IsWrong at) s.symbols [] s.parts ⊎ Opens s.symbols (drop s.next tokens)

calls_step : (tokens : List Tok) (symbol : Symbol) (old new : State) → Running tokens old.next (symbol ∷ old.symbols) old.parts → StepsTo tokens symbol old new → Calls tokens new
calls_step tokens (Go r) old new run step = subst (Calls tokens) (sym step.2) (λ at w. calls_go (drop old.next tokens) at r old.symbols step.0 old.parts run.good step.1 (run.calls at w))
calls_step tokens (Do m) old new run step = subst (Calls tokens) (sym step.2) (λ at w. calls_make at m old.symbols old.parts step.0 (drop old.next tokens) step.1 (run.calls at w))
calls_step tokens (Take k how) old new run step = by_rest (drop old.next tokens) refl step
  where
    by_rest : (rest : List Tok) → drop old.next tokens ≡ rest → TakesTo rest k how old new → Calls tokens new
    by_rest [] here s = absurd s
    by_rest (t ∷ ts) here s = subst (Calls tokens) (sym s.3) (λ at w. inl (calls_take tokens old.next at k how old.symbols old.parts s.1 t ts (run.leads (Wrong at)) here s.2 w))

pub running_step : (tokens : List Tok) (symbol : Symbol) (old new : State) → Running tokens old.next (symbol ∷ old.symbols) old.parts → StepsTo tokens symbol old new → Running tokens new.next new.symbols new.parts
running_step tokens symbol old new run step = record {
  leads = λ aim. leads_step (aimed aim) tokens symbol old new run.good (run.leads aim) step;
  good = good_step tokens symbol old new run.good step;
  fits = fits_step tokens symbol old new run.fits step;
  calls = calls_step tokens symbol old new run step;
}

pub nothing_more : (ts : List Tok) → ts ++ [] ≡ ts
nothing_more [] = refl
nothing_more (t ∷ ts) = ap (λ us. t ∷ us) (nothing_more ts)

-- what is left, as it is said, is what the tokens so far lead to
so_far : (aim : Aim) (tokens : List Tok) (next : ℕ) (ss : List Symbol) (vs : List Part) → Running tokens next ss vs → aimed aim ss vs → Reads false (aimed aim) begin (take next tokens) []
so_far aim tokens next ss vs run left = subst (λ ts. Reads false (aimed aim) begin ts []) (nothing_more (take next tokens)) ((run.leads aim).sound [] (grammar.done left))

-- where nothing goes on, the tokens before are stuck
stuck : (tokens : List Tok) (next : ℕ) → ((aim : Aim) → IsDead (aimed aim) tokens next) → IsStuck (take next tokens) (drop next tokens)
stuck tokens next dead = by_rest (drop next tokens) refl
  where
    by_rest : (rest : List Tok) → drop next tokens ≡ rest → IsStuck (take next tokens) rest
    by_rest [] here = λ t reads. dead (Whole t) [] (sure_sole t []) (ap (take 1) (sym here)) (subst (λ ts. Spells ts t) (sym (nothing_more (take next tokens))) reads)
    by_rest (t ∷ ts) here = λ reads. dead Begun (t ∷ []) tt (ap (take 1) (sym here)) reads

-- a fault between the tokens before next and those from it on
refused : (tokens : List Tok) (next : ℕ) (ss : List Symbol) (vs : List Part) (e : Refusal) → Running tokens next ss vs → ((aim : Aim) → IsDead (aimed aim) tokens next) → Names e (take next tokens) (drop next tokens) → Refuses tokens e
refused tokens next ss vs e run dead names = (take next tokens, drop next tokens, sym (take-append-drop next tokens), so_far Begun tokens next ss vs run (completed ss vs run.fits), stuck tokens next dead, names)

-- where the last parts fit, only a wrong number of arguments stops
call_stops : (m : Make) (ss : List Symbol) (vs : List Part) (u : List Shape) (e : Refusal) → moved_make m (shapes vs) ≡ Some u → made m vs ≡ None → (e ≡ Memory → ⊥) → CallFault e m vs → (at : ℕ) × (e ≡ Unexpected at) × IsWrong at (Do m ∷ ss) vs
call_stops make.Filtered ss (Many xs ∷ Called f at ∷ One x ∷ vs) u Memory fit none known fault = absurd (known refl)
call_stops make.Filtered ss (Many xs ∷ Called f at ∷ One x ∷ vs) u End fit none known fault = (at, fault.0, (refl, fault.1))
call_stops make.Filtered ss (Many xs ∷ Called f at ∷ One x ∷ vs) u (Unexpected n) fit none known fault = (at, fault.0, (refl, fault.1))
call_stops (make.Binary op) ss (One y ∷ One x ∷ vs) u e fit none known fault = cc
call_stops make.Inverted ss (One x ∷ vs) u e fit none known fault = cc
call_stops make.Negated ss (One x ∷ vs) u e fit none known fault = cc
call_stops make.NoItems ss vs u e fit none known fault = cc
call_stops make.Item ss (One x ∷ Many xs ∷ vs) u e fit none known fault = cc
call_stops make.Listed ss (Many xs ∷ vs) u e fit none known fault = cc
call_stops make.Indexed ss (One y ∷ One x ∷ vs) u e fit none known fault = cc
call_stops (make.Present present) ss (One x ∷ vs) u e fit none known fault = cc
call_stops _ ss _ u e fit none known fault = cc

-- where a rule or a token stops the machine, no wrong call ends the tokens before
no_call_go : (tokens : List Tok) (q : Rule) (old : State) → Running tokens old.next (Go q ∷ old.symbols) old.parts → Stops tokens (Go q) old → (at : ℕ) → WrongCall (take old.next tokens) at → ⊥
no_call_go tokens q old run stop at w = elim (run.calls at w) [
  | inl reads ↦
      let args = args_of_wrong at q old.symbols old.parts run.good reads in
      args_some (head_of (drop old.next tokens)) (subst (λ r. nth (rules r) (choice r (head_of (drop old.next tokens))) ≡ None) args.0 stop)
  | inr opens ↦ absurd opens
]

taken_none : (k : Kind) (how : How) (ss : List Symbol) (old : State) (rest : List Tok) → Opens (Take k how ∷ ss) rest → CannotTake rest k how old → ⊥
taken_none k Skip ss old (t ∷ ts) opens stop = let none : Some old.parts ≡ None = stop opens in cc
taken_none k Skip ss old [] opens stop = absurd opens
taken_none k _ ss old _ opens stop = absurd opens

no_call_take : (tokens : List Tok) (k : Kind) (how : How) (old : State) → Running tokens old.next (Take k how ∷ old.symbols) old.parts → Stops tokens (Take k how) old → (at : ℕ) → WrongCall (take old.next tokens) at → ⊥
no_call_take tokens k how old run stop at w = elim (run.calls at w) [
  | inl reads ↦ not_taken reads
  | inr opens ↦ taken_none k how old.symbols old (drop old.next tokens) opens stop
]
  where
    not_taken : Reads false (IsWrong at) (Take k how ∷ old.symbols) [] old.parts → ⊥
    not_taken (grammar.done wrong) = absurd wrong

all_dead : (tokens : List Tok) (symbol : Symbol) (old : State) → Running tokens old.next (symbol ∷ old.symbols) old.parts → Stops tokens symbol old → (aim : Aim) → IsDead (aimed aim) tokens old.next
all_dead tokens symbol old run stop aim = dead_step (aimed aim) tokens symbol old run.good (run.leads aim) stop

pub refused_go : (tokens : List Tok) (q : Rule) (old : State) (e : Refusal) → Running tokens old.next (Go q ∷ old.symbols) old.parts → Stops tokens (Go q) old → Points e (drop old.next tokens) → Refuses tokens e
refused_go tokens q old e run stop points = refused tokens old.next (Go q ∷ old.symbols) old.parts e run (all_dead tokens (Go q) old run stop) (inr (no_call_go tokens q old run stop, points))

pub refused_take : (tokens : List Tok) (k : Kind) (how : How) (old : State) (e : Refusal) → Running tokens old.next (Take k how ∷ old.symbols) old.parts → Stops tokens (Take k how) old → Points e (drop old.next tokens) → Refuses tokens e
refused_take tokens k how old e run stop points = refused tokens old.next (Take k how ∷ old.symbols) old.parts e run (all_dead tokens (Take k how) old run stop) (inr (no_call_take tokens k how old run stop, points))

pub refused_do : (tokens : List Tok) (m : Make) (old : State) (e : Refusal) → (e ≡ Memory → ⊥) → Running tokens old.next (Do m ∷ old.symbols) old.parts → Stops tokens (Do m) old → CallFault e m old.parts → Refuses tokens e
refused_do tokens m old e known run stop fault =
    let one = on_some (moved_make m (shapes old.parts)) (moves old.symbols) (S ∷ []) run.fits in
    let call = call_stops m old.symbols old.parts one.0 e one.1 stop known fault in
    refused tokens old.next (Do m ∷ old.symbols) old.parts e run (all_dead tokens (Do m) old run stop)
    (inl (call.0, call.1, so_far (Wrong call.0) tokens old.next (Do m ∷ old.symbols) old.parts run call.2))

not_memory_at : (at : ℕ) → Unexpected at ≡ Memory → ⊥
not_memory_at at e = cc

not_memory_end : End ≡ Memory → ⊥
not_memory_end e = cc

pub refused_step : (tokens : List Tok) (symbol : Symbol) (old : State) (e : Refusal) → Running tokens old.next (symbol ∷ old.symbols) old.parts → StopsWith tokens symbol old e → Faults e (Refuses tokens e)
refused_step tokens symbol old Memory r s = tt
refused_step tokens (Go q) old End r s = refused_go tokens q old End r s.0 s.1
refused_step tokens (Take k how) old End r s = refused_take tokens k how old End r s.0 s.1
refused_step tokens (Do m) old End r s = refused_do tokens m old End not_memory_end r s.0 s.1
refused_step tokens (Go q) old (Unexpected at) r s = refused_go tokens q old (Unexpected at) r s.0 s.1
refused_step tokens (Take k how) old (Unexpected at) r s = refused_take tokens k how old (Unexpected at) r s.0 s.1
refused_step tokens (Do m) old (Unexpected at) r s = refused_do tokens m old (Unexpected at) (not_memory_at at) r s.0 s.1

-- at the end of the symbols
pub spelt : (tokens : List Tok) (next : ℕ) (vs : List Part) (t : Tree) → Running tokens next [] vs → drop next tokens ≡ [] → vs ≡ One t ∷ [] → Spells tokens t
spelt tokens next vs t r here is = subst (λ ts. Spells ts t) (take_all tokens next here) ((r.leads (Whole t)).sound [] (grammar.done (refl, is)))

sole_of : {t : Tree} {vs : List Part} → Reads false (IsSole t) [] [] vs → vs ≡ One t ∷ []
sole_of (grammar.done left) = left.1

pub spelt_only : (tokens : List Tok) (next : ℕ) (vs : List Part) (t u : Tree) → Running tokens next [] vs → drop next tokens ≡ [] → vs ≡ One t ∷ [] → Spells tokens u → u ≡ t
spelt_only tokens next vs t u r here is reads =
    let e : vs ≡ One u ∷ [] = sole_of ((r.leads (Whole u)).only [] (sure_sole u []) (ap head_of (sym here)) (subst (λ ts. Spells ts u) (sym (take_all tokens next here)) reads)) in
    cc

not_sole : (vs : List Part) (t : Tree) → vs ≡ One t ∷ [] → NotSole vs → ⊥
not_sole vs t e n = let m : NotSole (One t ∷ []) = subst NotSole e n in m

no_call_end : (tokens : List Tok) (next : ℕ) (vs : List Part) → Running tokens next [] vs → (at : ℕ) → WrongCall (take next tokens) at → ⊥
no_call_end tokens next vs run at w = elim (run.calls at w) [ inl reads ↦ no_reading reads | inr opens ↦ absurd opens ]
  where
    no_reading : Reads false (IsWrong at) [] [] vs → ⊥
    no_reading (grammar.done wrong) = absurd wrong

more_soon : (tokens : List Tok) (next : ℕ) (vs : List Part) (e : Refusal) → Running tokens next [] vs → StopsAtEnd e (drop next tokens) vs → ((aim : Aim) → IsDead (aimed aim) tokens next) × Points e (drop next tokens)
more_soon tokens next vs e r stop = by_rest (drop next tokens) refl stop
  where
    by_rest : (rest : List Tok) → drop next tokens ≡ rest → StopsAtEnd e rest vs → ((aim : Aim) → IsDead (aimed aim) tokens next) × Points e (drop next tokens)
    by_rest (t ∷ ts) here s = (λ aim. dead_more (aimed aim) tokens next vs t ts (r.leads aim) here, subst (Points e) (sym here) s)
    by_rest [] here s = let one = single vs r.fits in absurd (not_sole vs one.0 one.1 s)

pub refused_more : (tokens : List Tok) (next : ℕ) (vs : List Part) (e : Refusal) → Running tokens next [] vs → StopsAtEnd e (drop next tokens) vs → Refuses tokens e
refused_more tokens next vs e r stop =
    let more = more_soon tokens next vs e r stop in
    refused tokens next [] vs e r more.0 (inr (no_call_end tokens next vs r, more.1))

pub refused_end : (tokens : List Tok) (next : ℕ) (vs : List Part) (e : Refusal) → Running tokens next [] vs → Faults e (StopsAtEnd e (drop next tokens) vs) → Faults e (Refuses tokens e)
refused_end tokens next vs Memory r f = tt
refused_end tokens next vs End r f = refused_more tokens next vs End r f
refused_end tokens next vs (Unexpected at) r f = refused_more tokens next vs (Unexpected at) r f

nothing_spelt : (tokens : List Tok) (next : ℕ) → ((aim : Aim) → IsDead (aimed aim) tokens next) → (t : Tree) → Spells tokens t → ⊥
nothing_spelt tokens next dead t reads = dead (Whole t) (drop next tokens) (sure_sole t (drop next tokens)) refl (subst (λ ts. Spells ts t) (sym (take-append-drop next tokens)) reads)

pub dead_strict : (tokens : List Tok) (symbol : Symbol) (old : State) → Running tokens old.next (symbol ∷ old.symbols) old.parts → Stops tokens symbol old → (t : Tree) → Spells tokens t → ⊥
dead_strict tokens symbol old run stop = nothing_spelt tokens old.next (all_dead tokens symbol old run stop)

stops_of : (tokens : List Tok) (symbol : Symbol) (old : State) (e : Refusal) → StopsWith tokens symbol old e → Faults e (Stops tokens symbol old)
stops_of tokens symbol old Memory s = tt
stops_of tokens (Go q) old End s = s.0
stops_of tokens (Take k how) old End s = s.0
stops_of tokens (Do m) old End s = s.0
stops_of tokens (Go q) old (Unexpected at) s = s.0
stops_of tokens (Take k how) old (Unexpected at) s = s.0
stops_of tokens (Do m) old (Unexpected at) s = s.0

-- what is refused isn't spelt
pub none_step : (tokens : List Tok) (symbol : Symbol) (old : State) (e : Refusal) → Running tokens old.next (symbol ∷ old.symbols) old.parts → StopsWith tokens symbol old e → Faults e ((t : Tree) → Spells tokens t → ⊥)
none_step tokens symbol old Memory r s = tt
none_step tokens symbol old End r s = dead_strict tokens symbol old r (stops_of tokens symbol old End s)
none_step tokens symbol old (Unexpected at) r s = dead_strict tokens symbol old r (stops_of tokens symbol old (Unexpected at) s)

pub none_at_end : (tokens : List Tok) (next : ℕ) (vs : List Part) (e : Refusal) → Running tokens next [] vs → StopsAtEnd e (drop next tokens) vs → (t : Tree) → Spells tokens t → ⊥
none_at_end tokens next vs e r stop = nothing_spelt tokens next (more_soon tokens next vs e r stop).0

pub none_end : (tokens : List Tok) (next : ℕ) (vs : List Part) (e : Refusal) → Running tokens next [] vs → Faults e (StopsAtEnd e (drop next tokens) vs) → Faults e ((t : Tree) → Spells tokens t → ⊥)
none_end tokens next vs Memory r f = tt
none_end tokens next vs End r f = none_at_end tokens next vs End r f
none_end tokens next vs (Unexpected at) r f = none_at_end tokens next vs (Unexpected at) r f
