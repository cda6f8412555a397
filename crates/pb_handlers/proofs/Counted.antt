-- Which handlers count.
use Rattle.std.proofs.Common.{◌≡◌, ℕ, ◌+◌, ◌<◌, Bool, true, false, List, [], ◌∷◌, length, get_or, set, drop, refl, sym, ap, ◌∙◌, arith}
use Rattle.std.specs.Prelude.{◌||◌, not, if◌then◌else◌}
use Rattle.std.specs.Str.{bytes_eq}
use Rattle.std.proofs.lemmas.List.{drop_more, drop-set}
use Rattle.pb_handlers.specs.Index.{with_word}
use Rattle.pb_handlers.proofs.Lookups.{known_word}
use Rattle.std.specs.List.{list_any}
use Rattle.pb_handlers.specs.declared.naming.HandlerNames.{HandlerNames}
use Rattle.pb_handlers.specs.Naming.{is_named, counting, kept, last_named}

one_kept : (b : Bool) (h : HandlerNames) (xs ys : List HandlerNames) → xs ≡ ys → (if not b then h ∷ xs else xs) ≡ (if b then ys else h ∷ ys)
one_kept true h xs ys e = e
one_kept false h xs ys e = ap (λ x. h ∷ x) e

pub counting_keeps : (handlers : List HandlerNames) → kept (counting handlers) handlers ≡ last_named handlers
counting_keeps [] = refl
counting_keeps (h ∷ hs) = one_kept (list_any (is_named h.name) hs) h _ _ (counting_keeps hs)

-- one handler more, in front of those that were looked at
pub one_counted : (handlers : List HandlerNames) (counts : List Bool) (later : List (List ℕ)) (h : HandlerNames) (i : ℕ) (is_new : Bool) → length counts ≡ length handlers → i < length handlers
    → h ≡ get_or handlers i h → drop (i + 1) counts ≡ counting (drop (i + 1) handlers) → ((word : List ℕ) → list_any (bytes_eq word) later ≡ list_any (is_named word) (drop (i + 1) handlers))
    → is_new ≡ not (list_any (bytes_eq h.name) later) → drop i (set counts i is_new) ≡ counting (drop i handlers)
one_counted handlers counts later h i is_new long l e counted seen f =
    drop-set counts i is_new (omega (arith, l, long))
    ∙ ap (λ b. b ∷ drop (i + 1) counts) (f ∙ ap not (seen h.name))
    ∙ ap (λ x. not (list_any (is_named h.name) (drop (i + 1) handlers)) ∷ x) counted
    ∙ ap counting (sym (drop_more handlers i h l ∙ ap (λ x. x ∷ drop (i + 1) handlers) (sym e)))

pub one_seen : (handlers : List HandlerNames) (later new : List (List ℕ)) (h : HandlerNames) (i : ℕ) → i < length handlers → h ≡ get_or handlers i h
    → ((word : List ℕ) → list_any (bytes_eq word) later ≡ list_any (is_named word) (drop (i + 1) handlers)) → new ≡ with_word h.name later
    → (word : List ℕ) → list_any (bytes_eq word) new ≡ list_any (is_named word) (drop i handlers)
one_seen handlers later new h i l e seen f word =
    ap (list_any (bytes_eq word)) f ∙ known_word word h.name later (list_any (bytes_eq h.name) later) refl
    ∙ ap (λ b. bytes_eq word h.name || b) (seen word)
    ∙ ap (list_any (is_named word)) (sym (drop_more handlers i h l ∙ ap (λ x. x ∷ drop (i + 1) handlers) (sym e)))
