-- A value in whose texts no expression begins is the same whatever names stand for.
use Rattle.std.proofs.Common.{◌≡◌, ℕ, zero, suc, ◌+◌, ◌-◌, Bool, true, false, ◌==◌, ◌&&◌, List, [], ◌∷◌, ◌++◌, Option, Some, None, Result, Ok, IfSome, if◌then◌else◌, codes, refl, sym, ap, ◌∙◌, true≢false}
use Rattle.std.specs.List.{list_any}
use Rattle.pb_value.specs.Datum.{Datum, null, boolean, int, text, list, dict, Items, no_items, item, Members, no_members, member}
use Rattle.pb_value.specs.Reading.{and_then, map_ok}
use Rattle.pb_template.specs.Computed.{part_in, parts_in, template_of}
use Rattle.pb_template.specs.Pieces.{begins_open, begins_refused, plain_front, code_front, front_at, pieces_from, pieces_of}
use Rattle.pb_template.specs.declared.pieces.Piece.{Piece}
use Rattle.pb_template.specs.declared.pieces.Piece.TheVariants as piece
use Rattle.pb_template.specs.declared.template.Part.{Part}
use Rattle.pb_template.specs.declared.template.Part.TheVariants as part
use Rattle.pb_operators.specs.declared.fault.EvalFault.{EvalFault}
use Rattle.pb_operators.specs.Values.{text_within}
use Rattle.pb_items.specs.FromExprEval.{Names, shown, render, templated, rendered, rendered_items, rendered_members}
use Rattle.pb_mentions.specs.Mentions.{begins, has_inside, mentions, items_mention, members_mention}
use Rattle.pb_reach.proofs.Tests.{neither}
use Rattle.pb_reach.proofs.Unnamed.{FrontWithout, refused_without, by_without, PartsWithout, with_without, good_without}

abbrev is_code : Piece → Bool
is_code (piece.Plain s) = false
is_code (piece.Code s) = true

and_true : (t : Bool) → (t && true) ≡ t
and_true true = refl
and_true false = refl

-- an expression begins where its braces stand
opens : (bs : List ℕ) → begins (codes "{{") bs ≡ begins_open bs
opens [] = refl
opens (b ∷ []) = refl
opens (b ∷ c ∷ bs) = ap (λ t. b == 123 && t) (and_true (c == 123))

open_plain : (bs : List ℕ) (is_open : Bool) → is_open ≡ false → FrontWithout is_code (if is_open then code_front bs else Ok (plain_front bs))
open_plain bs true e = absurd (true≢false e)
open_plain bs false e = refl

front_plain : (at : ℕ) (bs : List ℕ) → begins_open bs ≡ false → FrontWithout is_code (front_at at bs)
front_plain at bs e = refused_without is_code at (begins_refused bs) (if begins_open bs then code_front bs else Ok (plain_front bs)) (open_plain bs (begins_open bs) e)

pieces_plain : (taken at : ℕ) (bs : List ℕ) → has_inside (codes "{{") bs ≡ false → list_any is_code (pieces_from taken at bs).0 ≡ false
pieces_plain zero at [] e = refl
pieces_plain (suc taken) at [] e = refl
pieces_plain (suc taken) at (b ∷ bs) e = pieces_plain taken (at + 1) bs (neither (begins (codes "{{") (b ∷ bs)) (has_inside (codes "{{") bs) e).1
pieces_plain zero at (b ∷ bs) e =
    let both = neither (begins (codes "{{") (b ∷ bs)) (has_inside (codes "{{") bs) e in
    by_without is_code (front_at at (b ∷ bs)) (λ size. pieces_from (size - 1) (at + 1) bs) (front_plain at (b ∷ bs) (sym (opens (b ∷ bs)) ∙ both.0))
    (λ size. pieces_plain (size - 1) (at + 1) bs both.1)

-- and so no part of it is one
abbrev has_code : Part → Bool
has_code (part.Plain s) = false
has_code (part.Code t) = true

part_plain : (p : Piece) → is_code p ≡ false → IfSome (part_in p) (λ (q : Part). has_code q ≡ false)
part_plain (piece.Plain s) e = refl
part_plain (piece.Code s) e = absurd (true≢false e)

parts_plain : (pieces : List Piece) → list_any is_code pieces ≡ false → PartsWithout has_code (parts_in pieces)
parts_plain [] e = refl
parts_plain (p ∷ ps) e = let both = neither (is_code p) (list_any is_code ps) e in with_without has_code (part_in p) (parts_in ps) (part_plain p both.0) (parts_plain ps both.1)

template_plain : (s : List ℕ) → has_inside (codes "{{") s ≡ false → PartsWithout has_code (template_of s)
unfolding template_of
template_plain s e = good_without has_code (pieces_of s).1 (parts_in (pieces_of s).0) (parts_plain (pieces_of s).0 (pieces_plain 0 0 s e))

-- what parts without an expression give
shown_still : (names others : Names) (ps : List Part) → list_any has_code ps ≡ false → shown names ps ≡ shown others ps
shown_still names others [] e = refl
shown_still names others (part.Plain s ∷ ps) e = ap (λ (r : Result (List ℕ) EvalFault). map_ok (λ t. s ++ t) r) (shown_still names others ps e)
shown_still names others (part.Code t ∷ ps) e = absurd (true≢false e)

render_still : (names others : Names) (ps : List Part) → list_any has_code ps ≡ false → render names ps ≡ render others ps
render_still names others [] e = refl
render_still names others (part.Plain s ∷ ps) e = ap (λ (r : Result (List ℕ) EvalFault). and_then r text_within) (shown_still names others (part.Plain s ∷ ps) e)
render_still names others (part.Code t ∷ ps) e = absurd (true≢false e)

templated_still : (names others : Names) (parts : Option (List Part)) → PartsWithout has_code parts → templated names parts ≡ templated others parts
templated_still names others None e = refl
templated_still names others (Some ps) e = render_still names others ps e

mutual
  pub rendered_still : (names others : Names) (d : Datum) → mentions (codes "{{") d ≡ false → rendered names d ≡ rendered others d
  rendered_still names others (text s) e = templated_still names others (template_of s) (template_plain s e)
  rendered_still names others (list ds) e = rw (items_still names others ds e) refl
  rendered_still names others (dict ms) e = rw (members_still names others ms e) refl
  rendered_still names others null e = refl
  rendered_still names others (boolean b) e = refl
  rendered_still names others (int z) e = refl

  items_still : (names others : Names) (ds : Items) → items_mention (codes "{{") ds ≡ false → rendered_items names ds ≡ rendered_items others ds
  items_still names others no_items e = refl
  items_still names others (item d ds) e =
      let both = neither (mentions (codes "{{") d) (items_mention (codes "{{") ds) e in
      rw (rendered_still names others d both.0, items_still names others ds both.1) refl

  members_still : (names others : Names) (ms : Members) → members_mention (codes "{{") ms ≡ false → rendered_members names ms ≡ rendered_members others ms
  members_still names others no_members e = refl
  members_still names others (member k d ms) e =
      let both = neither (mentions (codes "{{") d) (members_mention (codes "{{") ms) e in
      rw (rendered_still names others d both.0, members_still names others ms both.1) refl
