-- Notes of many hosts beside their histories.
use Rattle.std.proofs.Common.{◌≡◌, ℕ, ◌-◌, ◌<◌, Bool, false, List, [], ◌∷◌, ◌++◌, length, get_or, set, map, slice_get, Some, refl, sym, ap, subst, ◌∙◌, arith}
use Rattle.std.proofs.lemmas.List.{map-set, get_or-map, length-map, get_or_default, length-append}
use Rattle.pb_handlers.specs.Pending.{Noted, Notified, Ran, is_pending, marks_after}
use Rattle.pb_handlers.specs.Notes.{notes_after, history_at, with_noted, closed, unmarked_all}
use Rattle.pb_handlers.proofs.Bits.{cleared_marks, notified_marks, ran_marks, mark_at}
use Rattle.pb_tree.specs.Walk.{noted}

-- a host's marks in notes of histories
pub marks_of_host : (n host : ℕ) (histories : List (List Noted)) → host < length (notes_after n histories) → get_or (notes_after n histories) host [] ≡ marks_after n (history_at histories host)
marks_of_host n host histories l = get_or-map (marks_after n) histories host [] [] (omega (arith, l, length-map histories (marks_after n)))

-- one host's marks after one thing more
pub noted_marks : (n host : ℕ) (noted : Noted) (histories : List (List Noted)) → set (notes_after n histories) host (marks_after n (history_at histories host ++ noted ∷ [])) ≡ notes_after n (with_noted host noted histories)
noted_marks n host noted histories = sym (map-set (marks_after n) histories host (history_at histories host ++ noted ∷ []))

pub host_notified : (n host : ℕ) (histories : List (List Noted)) (notes : List (List Bool)) (mine new : List Bool) (handlers : List ℕ) → notes ≡ notes_after n histories → host < length notes
    → mine ≡ get_or notes host mine → new ≡ noted mine handlers → set notes host new ≡ notes_after n (with_noted host (Notified handlers) histories)
host_notified n host histories notes mine new handlers e l m f =
    let read : mine ≡ marks_after n (history_at histories host) =
    m ∙ get_or_default notes host mine [] l ∙ ap (λ x. get_or x host []) e ∙ marks_of_host n host histories (subst (λ x. host < length x) e l) in
    ap (λ x. set x host new) e
    ∙ ap (set (notes_after n histories) host) (f ∙ ap (λ x. noted x handlers) read ∙ notified_marks n (history_at histories host) handlers)
    ∙ noted_marks n host (Notified handlers) histories

pub host_ran : (n host : ℕ) (histories : List (List Noted)) (notes : List (List Bool)) (mine new : List Bool) (handler : ℕ) → notes ≡ notes_after n histories → host < length notes
    → mine ≡ get_or notes host mine → new ≡ set mine handler false → set notes host new ≡ notes_after n (with_noted host (Ran handler) histories)
host_ran n host histories notes mine new handler e l m f =
    let read : mine ≡ marks_after n (history_at histories host) =
    m ∙ get_or_default notes host mine [] l ∙ ap (λ x. get_or x host []) e ∙ marks_of_host n host histories (subst (λ x. host < length x) e l) in
    ap (λ x. set x host new) e
    ∙ ap (set (notes_after n histories) host) (f ∙ ap (λ x. set x handler false) read ∙ ran_marks n (history_at histories host) handler)
    ∙ noted_marks n host (Ran handler) histories

-- what is marked on a host is pending there
pub marked_pends : (n host handler : ℕ) (histories : List (List Noted)) (notes : List (List Bool)) (mine : List Bool) → notes ≡ notes_after n histories → host < length notes
    → mine ≡ get_or notes host [] → handler < n → get_or mine handler false ≡ is_pending handler (history_at histories host)
marked_pends n host handler histories notes mine e l m h =
    ap (λ x. get_or x handler false) (m ∙ ap (λ x. get_or x host []) e ∙ marks_of_host n host histories (subst (λ x. host < length x) e l))
    ∙ mark_at n handler (history_at histories host) h

-- the last step of a place
get_last : (above : List ℕ) (handler : ℕ) → slice_get (above ++ handler ∷ []) (length above) ≡ Some handler
get_last [] handler = refl
get_last (x ∷ above) handler = get_last above handler

same_some : (x y : ℕ) → Some x ≡ Some y → x ≡ y
same_some x y e = cc

pub last_is_handler : (above : List ℕ) (handler h : ℕ) (place : List ℕ) → place ≡ above ++ handler ∷ [] → Some h ≡ slice_get place (length place - 1) → h ≡ handler
last_is_handler above handler h place e f =
    let at : length (above ++ handler ∷ []) - 1 ≡ length above = omega (arith, length-append above (handler ∷ [])) in
    same_some h handler (f ∙ ap (λ p. slice_get p (length p - 1)) e ∙ ap (slice_get (above ++ handler ∷ [])) at ∙ get_last above handler)

-- every host's history begun anew
pub closed_notes : (n : ℕ) (histories : List (List Noted)) → map unmarked_all (notes_after n histories) ≡ notes_after n (closed histories)
closed_notes n [] = refl
closed_notes n (history ∷ histories) = rw (cleared_marks n history, closed_notes n histories) refl

pub all_closed : (n : ℕ) (histories : List (List Noted)) (notes : List (List Bool)) → notes ≡ notes_after n histories → map unmarked_all notes ≡ notes_after n (closed histories)
all_closed n histories notes e = ap (map unmarked_all) e ∙ closed_notes n histories
