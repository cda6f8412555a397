-- The tree of tokens that don't name a word doesn't name it.
use Rattle.std.proofs.Common.{◌≡◌, ℕ, zero, suc, ◌+◌, ◌*◌, nat_le, Bool, true, false, ◌||◌, List, [], ◌∷◌, ◌++◌, Option, Some, None, Result, Ok, Err, IfOk, IfSome, if◌then◌else◌, option_map, codes, length, drop, refl}
use Rattle.std.specs.List.{list_any}
use Rattle.std.specs.Str.{bytes_eq}
use Rattle.pb_expr_syntax.specs.declared.fault.ExprFault.{ExprFault}
use Rattle.pb_expr_syntax.specs.declared.grammar.How.{How}
use Rattle.pb_expr_syntax.specs.declared.grammar.How.TheVariants as how
use Rattle.pb_expr_syntax.specs.declared.grammar.Kind.{Kind}
use Rattle.pb_expr_syntax.specs.declared.grammar.Make.{Make}
use Rattle.pb_expr_syntax.specs.declared.grammar.Make.TheVariants as make
use Rattle.pb_expr_syntax.specs.declared.grammar.Symbol.{Symbol}
use Rattle.pb_expr_syntax.specs.declared.grammar.Symbol.TheVariants.{Take, Go, Do}
use Rattle.pb_expr_syntax.specs.declared.tree.Filter.{Filter}
use Rattle.pb_expr_syntax.specs.Choice.{choice}
use Rattle.pb_expr_syntax.specs.Computed.{taken_from, stepped, sole, behind, goes, first_with, run, tree_of_tokens, not_deeper, tree_of_result, tree_of}
use Rattle.pb_expr_syntax.specs.Depth.{depth}
use Rattle.pb_expr_syntax.specs.Grammar.{Tok, Part, One, Many, Called, begin, rules, nth, filter_of, takes, mapped, taken, made}
use Rattle.pb_expr_syntax.specs.Looks.{is_kind}
use Rattle.pb_expr_syntax.specs.Machine.{State, head_of, went, took, built}
use Rattle.pb_expr_syntax.specs.Tokens.{tokens_of}
use Rattle.pb_expr_syntax.specs.Tree as tree
use Rattle.pb_expr_syntax.specs.Tree.{Tree, trees_of}
use Rattle.pb_reach.specs.Named.{in_tree, in_trees}
use Rattle.pb_mentions.specs.Mentions.{has_inside}
use Rattle.pb_reach.proofs.Tests.{neither, joined, swapped, none_behind}
use Rattle.pb_reach.proofs.Tokens.{in_token, tokens_unnamed}

-- a part of the parser names the word
abbrev in_part : List ℕ → Part → Bool
in_part word (One t) = in_tree word t
in_part word (Many ts) = in_trees word (trees_of ts)
in_part word (Called f at) = false

abbrev in_parts : List ℕ → List Part → Bool
in_parts word parts = list_any (in_part word) parts

abbrev PartsApart : List ℕ → Option (List Part) → Type 0
PartsApart word o = IfSome o (λ (ps : List Part). in_parts word ps ≡ false)

filter_apart : (word : List ℕ) (at : ℕ) (parts : List Part) (f : Option Filter) → in_parts word parts ≡ false → PartsApart word (mapped at parts f)
filter_apart word at parts None e = tt
filter_apart word at parts (Some f) e = e

tested_apart : (word : List ℕ) (test : Bool) (parts : List Part) → in_parts word parts ≡ false → PartsApart word (if test then Some parts else None)
tested_apart word true parts e = e
tested_apart word false parts e = tt

taken_apart : (word : List ℕ) (h : How) (t : Tok) (parts : List Part) → in_token word t ≡ false → in_parts word parts ≡ false → PartsApart word (taken h t parts)
taken_apart word how.Skip t parts token e = e
taken_apart word how.Leaf t parts token e = joined (in_token word t) (in_parts word parts) token e
taken_apart word how.Call t parts token e = filter_apart word t.at parts (filter_of t.text) e
taken_apart word how.Member t [] token e = tt
taken_apart word how.Member t (One x ∷ parts) token e = e
taken_apart word how.Member t (Many xs ∷ parts) token e = tt
taken_apart word how.Member t (Called f at ∷ parts) token e = tt
taken_apart word how.Defined t parts token e = tested_apart word (bytes_eq t.text (codes "defined")) parts e

-- one tree more
trees_more : (word : List ℕ) (xs : List Tree) (x : Tree) → in_tree word x ≡ false → in_trees word (trees_of xs) ≡ false → in_trees word (trees_of (xs ++ x ∷ [])) ≡ false
trees_more word [] x e f = joined (in_tree word x) false e refl
trees_more word (t ∷ ts) x e f =
    let both = neither (in_tree word t) (in_trees word (trees_of ts)) f in
    joined (in_tree word t) (in_trees word (trees_of (ts ++ x ∷ []))) both.0 (trees_more word ts x e both.1)

filtered_apart : (word : List ℕ) (fits : Bool) (f : Filter) (x : Tree) (xs : List Tree) (parts : List Part) → (in_trees word (trees_of xs) || (in_tree word x || in_parts word parts)) ≡ false →
    PartsApart word (if fits then Some (One (tree.Apply f x (trees_of xs)) ∷ parts) else None)
filtered_apart word true f x xs parts e = swapped (in_trees word (trees_of xs)) (in_tree word x) (in_parts word parts) e
filtered_apart word false f x xs parts e = tt

item_apart : (word : List ℕ) (x : Tree) (xs : List Tree) (parts : List Part) → (in_tree word x || (in_trees word (trees_of xs) || in_parts word parts)) ≡ false →
    in_parts word (Many (xs ++ x ∷ []) ∷ parts) ≡ false
item_apart word x xs parts e =
    let first = neither (in_tree word x) (in_trees word (trees_of xs) || in_parts word parts) e in
    let rest = neither (in_trees word (trees_of xs)) (in_parts word parts) first.1 in
    joined (in_trees word (trees_of (xs ++ x ∷ []))) (in_parts word parts) (trees_more word xs x first.0 rest.0) rest.1

made_apart : (word : List ℕ) (m : Make) (parts : List Part) → in_parts word parts ≡ false → PartsApart word (made m parts)
made_apart word (make.Binary op) (One y ∷ One x ∷ parts) e = swapped (in_tree word y) (in_tree word x) (in_parts word parts) e
made_apart word make.Inverted (One x ∷ parts) e = e
made_apart word make.Negated (One x ∷ parts) e = e
made_apart word make.NoItems parts e = e
made_apart word make.Item (One x ∷ Many xs ∷ parts) e = item_apart word x xs parts e
made_apart word make.Filtered (Many xs ∷ Called f at ∷ One x ∷ parts) e = filtered_apart word (takes f (length xs)) f x xs parts e
made_apart word make.Listed (Many xs ∷ parts) e = e
made_apart word make.Indexed (One y ∷ One x ∷ parts) e = swapped (in_tree word y) (in_tree word x) (in_parts word parts) e
made_apart word (make.Present present) (One x ∷ parts) e = e
made_apart word m parts e = tt

-- a step of the parser, from parts that don't name the word
abbrev StateApart : List ℕ → Option State → Type 0
StateApart word o = IfSome o (λ (s : State). in_parts word s.parts ≡ false)

went_apart : (word : List ℕ) (old : State) (a : Option (List Symbol)) → in_parts word old.parts ≡ false → StateApart word (option_map (λ a. went a old) a)
went_apart word old None e = tt
went_apart word old (Some a) e = e

took_apart : (word : List ℕ) (old : State) (parts : Option (List Part)) → PartsApart word parts → StateApart word (option_map (took old) parts)
took_apart word old None e = tt
took_apart word old (Some parts) e = e

built_apart : (word : List ℕ) (old : State) (parts : Option (List Part)) → PartsApart word parts → StateApart word (option_map (built old) parts)
built_apart word old None e = tt
built_apart word old (Some parts) e = e

kind_apart : (word : List ℕ) (is : Bool) (o : Option State) → StateApart word o → StateApart word (if is then o else None)
kind_apart word true o e = e
kind_apart word false o e = tt

take_apart : (word : List ℕ) (k : Kind) (h : How) (old : State) (rest : List Tok) → list_any (in_token word) rest ≡ false → in_parts word old.parts ≡ false → StateApart word (taken_from k h old rest)
take_apart word k h old [] tokens e = tt
take_apart word k h old (t ∷ ts) tokens e =
    kind_apart word (is_kind t.kind k) (option_map (took old) (taken h t old.parts))
    (took_apart word old (taken h t old.parts) (taken_apart word h t old.parts (neither (in_token word t) (list_any (in_token word) ts) tokens).0 e))

step_apart : (word : List ℕ) (tokens : List Tok) → list_any (in_token word) tokens ≡ false → (x : Symbol) (old : State) → in_parts word old.parts ≡ false → StateApart word (stepped tokens x old)
step_apart word tokens none (Go r) old e = went_apart word old (nth (rules r) (choice r (head_of (drop old.next tokens)))) e
step_apart word tokens none (Take k h) old e = take_apart word k h old (drop old.next tokens) (none_behind (in_token word) old.next tokens none) e
step_apart word tokens none (Do m) old e = built_apart word old (made m old.parts) (made_apart word m old.parts e)

-- and all of them
abbrev TreeApart : List ℕ → Option Tree → Type 0
TreeApart word o = IfSome o (λ (t : Tree). in_tree word t ≡ false)

sole_apart : (word : List ℕ) (rest : List Tok) (parts : List Part) → in_parts word parts ≡ false → TreeApart word (sole rest parts)
sole_apart word [] (One t ∷ []) e = (neither (in_tree word t) false e).0
sole_apart word rest parts e = tt

goes_apart : (word : List ℕ) (go : State → Option Tree) → ((s : State) → in_parts word s.parts ≡ false → TreeApart word (go s)) → (o : Option State) → StateApart word o → TreeApart word (goes go o)
goes_apart word go later None e = tt
goes_apart word go later (Some s) e = later s e

first_apart : (word : List ℕ) (tokens : List Tok) → list_any (in_token word) tokens ≡ false → (go : State → Option Tree) → ((s : State) → in_parts word s.parts ≡ false → TreeApart word (go s)) →
    (s : State) (symbols : List Symbol) → in_parts word s.parts ≡ false → TreeApart word (first_with go tokens s symbols)
first_apart word tokens none go later s [] e = sole_apart word (drop s.next tokens) s.parts e
first_apart word tokens none go later s (x ∷ ss) e = goes_apart word go later (stepped tokens x (behind s ss)) (step_apart word tokens none x (behind s ss) e)

run_apart : (word : List ℕ) (tokens : List Tok) → list_any (in_token word) tokens ≡ false → (n : ℕ) (s : State) → in_parts word s.parts ≡ false → TreeApart word (run n tokens s)
run_apart word tokens none zero s e = tt
run_apart word tokens none (suc n) s e = first_apart word tokens none (run n tokens) (run_apart word tokens none n) s s.symbols e

tree_apart : (word : List ℕ) (tokens : List Tok) → list_any (in_token word) tokens ≡ false → TreeApart word (tree_of_tokens tokens)
unfolding tree_of_tokens
tree_apart word tokens none = run_apart word tokens none (32 * length tokens + 32) (record { next = 0; symbols = begin; parts = [] }) refl

shallow : (word : List ℕ) (t : Tree) (fits : Bool) → in_tree word t ≡ false → TreeApart word (if fits then Some t else None)
shallow word t true e = e
shallow word t false e = tt

deep_apart : (word : List ℕ) (o : Option Tree) → TreeApart word o → TreeApart word (not_deeper o)
deep_apart word None e = tt
deep_apart word (Some t) e = shallow word t (nat_le (depth t) 64) e

result_apart : (word : List ℕ) (r : Result (List Tok) ExprFault) → IfOk r (λ (ts : List Tok). list_any (in_token word) ts ≡ false) → TreeApart word (tree_of_result r)
result_apart word (Err fault) e = tt
result_apart word (Ok tokens) e = deep_apart word (tree_of_tokens tokens) (tree_apart word tokens e)

short : (word : List ℕ) (fits : Bool) (o : Option Tree) → TreeApart word o → TreeApart word (if fits then o else None)
short word true o e = e
short word false o e = tt

-- so the expression of a text in which the word doesn't stand doesn't name it
pub tree_unnamed : (word : List ℕ) → bytes_eq [] word ≡ false → (text : List ℕ) → has_inside word text ≡ false → IfSome (tree_of text) (λ (t : Tree). in_tree word t ≡ false)
unfolding tree_of
tree_unnamed word some text e = short word (nat_le (length text) 4096) (tree_of_result (tokens_of text)) (result_apart word (tokens_of text) (tokens_unnamed word some text e))
