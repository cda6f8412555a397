-- A text in which a word doesn't stand names it in no expression, nor does a value of such texts.
use Rattle.std.proofs.Common.{◌≡◌, ℕ, zero, suc, ◌+◌, ◌-◌, Bool, true, false, List, [], ◌∷◌, Option, Some, None, Result, Ok, Err, IfOk, IfSome, if◌then◌else◌, option_map, drop, refl}
use Rattle.std.specs.List.{list_any}
use Rattle.std.specs.Option.{option_map_or}
use Rattle.std.specs.Str.{bytes_eq}
use Rattle.pb_value.specs.Datum.{Datum, null, boolean, int, text, list, dict, Items, no_items, item, Members, no_members, member}
use Rattle.pb_expr_syntax.specs.Computed.{tree_of}
use Rattle.pb_expr_syntax.specs.Tree.{Tree}
use Rattle.pb_expr_syntax.specs.declared.fault.ExprFault.{ExprFault}
use Rattle.pb_expr_syntax.specs.declared.fault.ExprFault.TheVariants.{Unexpected}
use Rattle.pb_template.specs.Computed.{part_in, some_with, parts_in, unless_bad, template_of}
use Rattle.pb_template.specs.Pieces.{begins_open, begins_refused, plain_front, code_size, code_with, code_front, front_at, Pieces, pieces_by, pieces_from, pieces_of}
use Rattle.pb_template.specs.declared.pieces.Front.{Front}
use Rattle.pb_template.specs.declared.pieces.Piece.{Piece}
use Rattle.pb_template.specs.declared.pieces.Piece.TheVariants as piece
use Rattle.pb_template.specs.declared.pieces.State.TheVariants.{Outside}
use Rattle.pb_template.specs.declared.template.Part.{Part}
use Rattle.pb_template.specs.declared.template.Part.TheVariants as part
use Rattle.pb_reach.specs.Named.{in_tree, in_part, in_text, in_value, in_items, in_members}
use Rattle.pb_mentions.specs.Mentions.{begins, has_inside, mentions, items_mention, members_mention}
use Rattle.pb_reach.proofs.Inside.{inside_take, inside_drop}
use Rattle.pb_reach.proofs.Parsed.{tree_unnamed}
use Rattle.pb_reach.proofs.Tests.{neither, joined}

-- a piece is an expression in whose text the word stands
abbrev in_piece : List ℕ → Piece → Bool
in_piece word (piece.Plain s) = false
in_piece word (piece.Code s) = has_inside word s

-- the front of a text doesn't pass a test
abbrev pub FrontWithout : (Piece → Bool) → Result Front ExprFault → Type 0
FrontWithout test r = IfOk r (λ (f : Front). test f.piece ≡ false)

code_apart : (word code : List ℕ) (n : Option ℕ) → has_inside word code ≡ false → FrontWithout (in_piece word) (code_with code n)
code_apart word code None e = tt
code_apart word code (Some n) e = inside_take word n code e

open_apart : (word bs : List ℕ) (is_open : Bool) → has_inside word bs ≡ false → FrontWithout (in_piece word) (if is_open then code_front bs else Ok (plain_front bs))
open_apart word bs true e = code_apart word (drop 2 bs) (code_size Outside (drop 2 bs)) (inside_drop word 2 bs e)
open_apart word bs false e = refl

pub refused_without : (test : Piece → Bool) (at : ℕ) (is_refused : Bool) (r : Result Front ExprFault) → FrontWithout test r → FrontWithout test (if is_refused then Err (Unexpected at) else r)
refused_without test at true r e = tt
refused_without test at false r e = e

front_apart : (word : List ℕ) (at : ℕ) (bs : List ℕ) → has_inside word bs ≡ false → FrontWithout (in_piece word) (front_at at bs)
front_apart word at bs e = refused_without (in_piece word) at (begins_refused bs) (if begins_open bs then code_front bs else Ok (plain_front bs)) (open_apart word bs (begins_open bs) e)

pub by_without : (test : Piece → Bool) (r : Result Front ExprFault) (behind : ℕ → Pieces) → FrontWithout test r → ((n : ℕ) → list_any test (behind n).0 ≡ false) →
    list_any test (pieces_by r behind).0 ≡ false
by_without test (Err fault) behind e others = refl
by_without test (Ok f) behind e others = joined (test f.piece) (list_any test (behind f.size).0) e (others f.size)

pieces_apart : (word : List ℕ) (taken at : ℕ) (bs : List ℕ) → has_inside word bs ≡ false → list_any (in_piece word) (pieces_from taken at bs).0 ≡ false
pieces_apart word zero at [] e = refl
pieces_apart word (suc taken) at [] e = refl
pieces_apart word (suc taken) at (b ∷ bs) e = pieces_apart word taken (at + 1) bs (neither (begins word (b ∷ bs)) (has_inside word bs) e).1
pieces_apart word zero at (b ∷ bs) e =
    by_without (in_piece word) (front_at at (b ∷ bs)) (λ size. pieces_from (size - 1) (at + 1) bs) (front_apart word at (b ∷ bs) e)
    (λ size. pieces_apart word (size - 1) (at + 1) bs (neither (begins word (b ∷ bs)) (has_inside word bs) e).1)

-- and so are the parts
coded_apart : (word : List ℕ) (o : Option Tree) → IfSome o (λ (t : Tree). in_tree word t ≡ false) → IfSome (option_map (λ t. part.Code t) o) (λ (p : Part). in_part word p ≡ false)
coded_apart word None e = tt
coded_apart word (Some t) e = e

part_apart : (word : List ℕ) → bytes_eq [] word ≡ false → (p : Piece) → in_piece word p ≡ false → IfSome (part_in p) (λ (q : Part). in_part word q ≡ false)
part_apart word some (piece.Plain s) e = refl
part_apart word some (piece.Code s) e = coded_apart word (tree_of s) (tree_unnamed word some s e)

-- nor do the parts of a template
abbrev pub PartsWithout : (Part → Bool) → Option (List Part) → Type 0
PartsWithout test o = IfSome o (λ (ps : List Part). list_any test ps ≡ false)

more_without : (test : Part → Bool) (p : Part) (ps : Option (List Part)) → test p ≡ false → PartsWithout test ps → PartsWithout test (option_map (λ qs. p ∷ qs) ps)
more_without test p None e others = tt
more_without test p (Some ps) e others = joined (test p) (list_any test ps) e others

pub with_without : (test : Part → Bool) (p : Option Part) (ps : Option (List Part)) → IfSome p (λ (q : Part). test q ≡ false) → PartsWithout test ps → PartsWithout test (some_with p ps)
with_without test None ps e others = tt
with_without test (Some p) ps e others = more_without test p ps e others

parts_apart : (word : List ℕ) → bytes_eq [] word ≡ false → (pieces : List Piece) → list_any (in_piece word) pieces ≡ false → PartsWithout (in_part word) (parts_in pieces)
parts_apart word some [] e = refl
parts_apart word some (p ∷ ps) e =
    let both = neither (in_piece word p) (list_any (in_piece word) ps) e in with_without (in_part word) (part_in p) (parts_in ps) (part_apart word some p both.0) (parts_apart word some ps both.1)

pub good_without : (test : Part → Bool) (fault : Option ExprFault) (parts : Option (List Part)) → PartsWithout test parts → PartsWithout test (unless_bad fault parts)
good_without test None parts e = e
good_without test (Some fault) parts e = tt

template_apart : (word : List ℕ) → bytes_eq [] word ≡ false → (s : List ℕ) → has_inside word s ≡ false → PartsWithout (in_part word) (template_of s)
unfolding template_of
template_apart word some s e = good_without (in_part word) (pieces_of s).1 (parts_in (pieces_of s).0) (parts_apart word some (pieces_of s).0 (pieces_apart word 0 0 s e))

no_part : (word : List ℕ) (parts : Option (List Part)) → PartsWithout (in_part word) parts → option_map_or (list_any (in_part word)) parts false ≡ false
no_part word None e = refl
no_part word (Some parts) e = e

pub text_unnamed : (word : List ℕ) → bytes_eq [] word ≡ false → (s : List ℕ) → has_inside word s ≡ false → in_text word s ≡ false
text_unnamed word some s e = no_part word (template_of s) (template_apart word some s e)

mutual
  pub value_unnamed : (word : List ℕ) → bytes_eq [] word ≡ false → (d : Datum) → mentions word d ≡ false → in_value word d ≡ false
  value_unnamed word some (text s) e = text_unnamed word some s e
  value_unnamed word some (list ds) e = items_unnamed word some ds e
  value_unnamed word some (dict ms) e = members_unnamed word some ms e
  value_unnamed word some null e = refl
  value_unnamed word some (boolean b) e = refl
  value_unnamed word some (int z) e = refl

  items_unnamed : (word : List ℕ) → bytes_eq [] word ≡ false → (ds : Items) → items_mention word ds ≡ false → in_items word ds ≡ false
  items_unnamed word some no_items e = refl
  items_unnamed word some (item d ds) e =
      let both = neither (mentions word d) (items_mention word ds) e in
      joined (in_value word d) (in_items word ds) (value_unnamed word some d both.0) (items_unnamed word some ds both.1)

  members_unnamed : (word : List ℕ) → bytes_eq [] word ≡ false → (ms : Members) → members_mention word ms ≡ false → in_members word ms ≡ false
  members_unnamed word some no_members e = refl
  members_unnamed word some (member k d ms) e =
      let both = neither (mentions word d) (members_mention word ms) e in
      joined (in_value word d) (in_members word ms) (value_unnamed word some d both.0) (members_unnamed word some ms both.1)
