-- A value without expressions in its texts gives itself, whatever names stand for.
use Rattle.std.specs.Prelude.{if◌then◌else◌, nat_le}
use Rattle.std.proofs.Common.{◌≡◌, ℕ, Bool, true, false, ◌&&◌, ◌||◌, not, ◌==◌, List, [], ◌∷◌, Some, Ok, Err, refl, ap, sym, ◌∙◌, length, append-nil, zero, suc, ◌<◌, arith}
use Rattle.pb_value.specs.Datum.{Datum, null, boolean, int, text, list, dict, Items, no_items, item, Members, no_members, member, items_of, members_of, list_of, entries_of}
use Rattle.pb_value.specs.Limits.{max_text}
use Rattle.pb_value.specs.Reading.{and_then, map_ok}
use Rattle.pb_layers.specs.Scope.{Map, found, has_templates}
use Rattle.pb_layers.specs.Marked.{is_read_as_stored}
use Rattle.pb_operators.specs.declared.fault.EvalFault.TheVariants.{TooLarge}
use Rattle.pb_operators.specs.Values.{Value, text_within}
use Rattle.pb_template.specs.Computed.{template_of}
use Rattle.pb_template.specs.Pieces.{plain_size}
use Rattle.pb_template.specs.Plain.{is_plain_text, is_plain, items_plain, members_plain}
use Rattle.pb_template.proofs.Untouched.{plain_parts, plain_template}
use Rattle.pb_expr_eval.specs.Value.{Names}
use Rattle.pb_expr_eval.specs.Rendering.{templated, render, rendered, rendered_items, rendered_members}
use Rattle.pb_expr_eval.specs.Scoped.{read_as, names_in}

and_first : (x y : Bool) → (x && y) ≡ true → x ≡ true
and_first true y h = refl
and_first false y h = cc

and_second : (x y : Bool) → (x && y) ≡ true → y ≡ true
and_second true y h = h
and_second false y h = cc

or_second : (x y : Bool) → y ≡ true → (x || y) ≡ true
or_second true y h = refl
or_second false y h = h

within : (s : List ℕ) → nat_le (length s) max_text ≡ true → text_within s ≡ Ok (text s)
within s short = ap (λ t. if t then Ok (text s) else Err TooLarge) short

one_part : (names : Names) (s : List ℕ) → nat_le (length s) max_text ≡ true → render names (plain_parts s) ≡ Ok (text s)
one_part names [] short = refl
one_part names (b ∷ bs) short = ap text_within (append-nil (b ∷ bs)) ∙ within (b ∷ bs) short

plain_text : (names : Names) (s : List ℕ) → is_plain_text s ≡ true → templated names (template_of s) ≡ Ok (text s)
plain_text names s plain =
    ap (templated names) (plain_template s (and_second (nat_le (length s) max_text) (plain_size s == length s) plain))
    ∙ one_part names s (and_first (nat_le (length s) max_text) (plain_size s == length s) plain)

items_back : (ds : Items) → items_of (list_of ds) ≡ ds
items_back no_items = refl
items_back (item d ds) = ap (item d) (items_back ds)

members_back : (ms : Members) → members_of (entries_of ms) ≡ ms
members_back no_members = refl
members_back (member k d ms) = ap (member k d) (members_back ms)

mutual
  pub plain_rendered : (names : Names) (d : Datum) → is_plain d ≡ true → rendered names d ≡ Ok d
  plain_rendered names null plain = refl
  plain_rendered names (boolean b) plain = refl
  plain_rendered names (int z) plain = refl
  plain_rendered names (text s) plain = plain_text names s plain
  plain_rendered names (list ds) plain = ap (map_ok (λ es. list (items_of es))) (plain_items names ds plain) ∙ ap (λ es. Ok (list es)) (items_back ds)
  plain_rendered names (dict ms) plain = ap (map_ok (λ es. dict (members_of es))) (plain_members names ms plain) ∙ ap (λ es. Ok (dict es)) (members_back ms)

  plain_items : (names : Names) (ds : Items) → items_plain ds ≡ true → rendered_items names ds ≡ Ok (list_of ds)
  plain_items names no_items plain = refl
  plain_items names (item d ds) plain =
      ap (λ r. and_then r (λ e. map_ok (λ es. e ∷ es) (rendered_items names ds))) (plain_rendered names d (and_first (is_plain d) (items_plain ds) plain))
      ∙ ap (map_ok (λ es. d ∷ es)) (plain_items names ds (and_second (is_plain d) (items_plain ds) plain))

  plain_members : (names : Names) (ms : Members) → members_plain ms ≡ true → rendered_members names ms ≡ Ok (entries_of ms)
  plain_members names no_members plain = refl
  plain_members names (member k d ms) plain =
      ap (λ r. and_then r (λ e. map_ok (λ es. (k, e) ∷ es) (rendered_members names ms))) (plain_rendered names d (and_first (is_plain d) (members_plain ms) plain))
      ∙ ap (map_ok (λ es. (k, d) ∷ es)) (plain_members names ms (and_second (is_plain d) (members_plain ms) plain))

either_way : (templates plain : Bool) (made kept : Value) → (plain ≡ true → made ≡ kept) → (not templates || plain) ≡ true → (if templates then made else kept) ≡ kept
either_way false plain made kept same h = refl
either_way true plain made kept same h = same h

-- a name whose layer has no templates, or whose value is plain, is read as it is stored
pub known_name : (scope : List Map) (levels : ℕ) (name : List ℕ) (f : ℕ × Datum) → 0 < levels → found name scope ≡ Some f → is_read_as_stored (found name scope) ≡ true
    → names_in scope levels name ≡ Ok f.1
known_name scope zero name f lt e h = absurd (omega arith)
known_name scope (suc n) name f lt e h =
    ap (read_as (rendered (names_in scope n)) name) e
    ∙ either_way (has_templates f.0) (is_plain f.1) (rendered (names_in scope n) f.1) (Ok f.1) (plain_rendered (names_in scope n) f.1) (ap is_read_as_stored (sym e) ∙ h)

pub plain_name : (scope : List Map) (levels : ℕ) (name : List ℕ) (f : ℕ × Datum) → 0 < levels → found name scope ≡ Some f → is_plain f.1 ≡ true
    → names_in scope levels name ≡ Ok f.1
plain_name scope zero name f lt e plain = absurd (omega arith)
plain_name scope (suc n) name f lt e plain =
    ap (read_as (rendered (names_in scope n)) name) e
    ∙ either_way (has_templates f.0) (is_plain f.1) (rendered (names_in scope n) f.1) (Ok f.1) (plain_rendered (names_in scope n) f.1) (or_second (not (has_templates f.0)) (is_plain f.1) plain)
