-- Handlers that answer to words, by their marks.
use Rattle.std.proofs.Common.{◌≡◌, ℕ, zero, suc, ◌+◌, ◌<◌, Bool, true, false, List, [], ◌∷◌, ◌++◌, length, get_or, take, map, refl, sym, ap, ◌∙◌, arith}
use Rattle.std.specs.Prelude.{◌||◌, not, if◌then◌else◌, replicate}
use Rattle.std.specs.List.{list_any}
use Rattle.std.proofs.lemmas.List.{ext_get_or, length-map, take_more}
use Rattle.std.proofs.lemmas.List.Folds.{list_any-append}
use Rattle.pb_tree.specs.Walk.{noted}
use Rattle.pb_handlers.specs.declared.naming.HandlerNames.{HandlerNames}
use Rattle.pb_handlers.specs.Pending.{is_among, marks_after}
use Rattle.pb_handlers.specs.Naming.{answers_to, is_notified, notified_from}
use Rattle.pb_handlers.specs.Index.{WordsOf, numbers_under, answers_at, IsIndex, marked_from}
use Rattle.pb_handlers.proofs.Bits.{length-noted, noted_at, first_marks, same_number}

if_ap : (b : Bool) (n : ℕ) (xs ys zs : List ℕ) → xs ≡ ys → (if b then n ∷ xs else xs) ≡ (if b then n ∷ ys else ys)
if_ap true n xs ys zs e = ap (λ x. n ∷ x) e
if_ap false n xs ys zs e = e

marked_all : (words : List (List ℕ)) (n : ℕ) (handlers : List HandlerNames) → marked_from n (map (is_notified words) handlers) ≡ notified_from words n handlers
marked_all words n [] = refl
marked_all words n (h ∷ hs) = if_ap (is_notified words h) n _ _ [] (marked_all words (n + 1) hs)

pub notified_marked : (words : List (List ℕ)) (handlers : List HandlerNames) → marked_from 0 (map (is_notified words) handlers) ≡ notified_from words 0 handlers
notified_marked words handlers = marked_all words 0 handlers

-- at first no word was looked at
pub none_marked : (handlers : List HandlerNames) → replicate (length handlers) false ≡ map (is_notified []) handlers
none_marked [] = refl
none_marked (h ∷ hs) = ap (λ x. false ∷ x) (none_marked hs)

answers_get : (word : List ℕ) (handlers : List HandlerNames) (k : ℕ) (h : HandlerNames) → k < length handlers → answers_at word handlers k ≡ answers_to word (get_or handlers k h)
answers_get word [] k h l = absurd (omega (arith, l))
answers_get word (x ∷ xs) zero h l = refl
answers_get word (x ∷ xs) (suc k) h l = answers_get word xs k h (omega (arith, l))

or_last : (a b : Bool) → (a || b) ≡ (a || (b || false))
or_last true b = refl
or_last false true = refl
or_last false false = refl

notified_word : (words : List (List ℕ)) (word : List ℕ) (h : HandlerNames) → (is_notified words h || answers_to word h) ≡ is_notified (words ++ word ∷ []) h
notified_word words word h = or_last (is_notified words h) (answers_to word h) ∙ sym (list_any-append (λ w. answers_to w h) words (word ∷ []))

mark_get : (words : List (List ℕ)) (handlers : List HandlerNames) (k : ℕ) → k < length handlers → (marked : Bool) → marked ≡ get_or (map (is_notified words) handlers) k false → (word : List ℕ)
    → (marked || answers_at word handlers k) ≡ get_or (map (is_notified (words ++ word ∷ [])) handlers) k false
mark_get words [] k l marked e word = absurd (omega (arith, l))
mark_get words (h ∷ hs) zero l marked e word = rw e (notified_word words word h)
mark_get words (h ∷ hs) (suc k) l marked e word = mark_get words hs k (omega (arith, l)) marked e word

-- the numbers beside one word more are marked
pub word_marked : (words : List (List ℕ)) (word : List ℕ) (handlers : List HandlerNames) (index : WordsOf) → IsIndex handlers index
    → noted (map (is_notified words) handlers) (numbers_under word index) ≡ map (is_notified (words ++ word ∷ [])) handlers
word_marked words word handlers index is =
    let numbers = numbers_under word index in
    let old = map (is_notified words) handlers in
    let long = length-noted numbers old ∙ length-map handlers (is_notified words) in
    ext_get_or false (noted old numbers) (map (is_notified (words ++ word ∷ [])) handlers)
    (long ∙ sym (length-map handlers (is_notified (words ++ word ∷ []))))
    (λ k l. noted_at numbers old k (omega (arith, l, length-noted numbers old))
    ∙ ap (λ b. get_or old k false || b) (is word k)
    ∙ mark_get words handlers k (omega (arith, l, long)) (get_or old k false) refl word)

-- ---- whether there is a handler at all
none_answers : (word : List ℕ) (handlers : List HandlerNames) → ((k : ℕ) → answers_at word handlers k ≡ false) → list_any (answers_to word) handlers ≡ false
none_answers word [] f = refl
none_answers word (h ∷ hs) f = rw (f 0, none_answers word hs (λ k. f (suc k))) refl

or_true : (a : Bool) → (a || true) ≡ true
or_true true = refl
or_true false = refl

some_answers : (word : List ℕ) (handlers : List HandlerNames) (k : ℕ) → answers_at word handlers k ≡ true → list_any (answers_to word) handlers ≡ true
some_answers word [] k e = cc
some_answers word (h ∷ hs) zero e = rw e refl
some_answers word (h ∷ hs) (suc k) e = rw (some_answers word hs k e) (or_true (answers_to word h))

abbrev pub is_none_of : List ℕ → Bool
is_none_of [] = true
is_none_of (k ∷ ks) = false

pub has_none : (word : List ℕ) (handlers : List HandlerNames) (index : WordsOf) → IsIndex handlers index → numbers_under word index ≡ [] → list_any (answers_to word) handlers ≡ false
has_none word handlers index is e = none_answers word handlers (λ k. sym (is word k) ∙ ap (is_among k) e)

pub has_first : (word : List ℕ) (handlers : List HandlerNames) (index : WordsOf) (k : ℕ) (ks : List ℕ) → IsIndex handlers index → numbers_under word index ≡ k ∷ ks → list_any (answers_to word) handlers ≡ true
has_first word handlers index k ks is e = some_answers word handlers k (sym (is word k) ∙ ap (is_among k) e ∙ ap (λ b. b || is_among k ks) (same_number k))

pub has_numbers : (word : List ℕ) (handlers : List HandlerNames) (index : WordsOf) (ks : List ℕ) → IsIndex handlers index → numbers_under word index ≡ ks → not (is_none_of ks) ≡ list_any (answers_to word) handlers
has_numbers word handlers index [] is e = sym (has_none word handlers index is e)
has_numbers word handlers index (k ∷ ks) is e = sym (has_first word handlers index k ks is e)

pub empty_is : (ks : List ℕ) (r : Bool) → (r ≡ true → ks ≡ []) → (ks ≡ [] → r ≡ true) → r ≡ is_none_of ks
empty_is [] r f g = g refl
empty_is (k ∷ ks) true f g = let e = f refl in cc
empty_is (k ∷ ks) false f g = refl

pub none_first : (n : ℕ) (handlers : List HandlerNames) → n ≡ length handlers → marks_after n [] ≡ map (is_notified []) handlers
none_first n handlers e = sym (first_marks n) ∙ ap (λ j. replicate j false) e ∙ none_marked handlers

pub word_step : (words : List (List ℕ)) (i : ℕ) (word : List ℕ) (handlers : List HandlerNames) (index : WordsOf) (old new : List Bool) → i < length words → word ≡ get_or words i word → IsIndex handlers index
    → old ≡ map (is_notified (take i words)) handlers → new ≡ noted old (numbers_under word index) → new ≡ map (is_notified (take (i + 1) words)) handlers
word_step words i word handlers index old new l e is f g =
    g ∙ ap (λ x. noted x (numbers_under word index)) f ∙ word_marked (take i words) word handlers index is
    ∙ ap (λ ws. map (is_notified ws) handlers) (ap (λ x. take i words ++ x ∷ []) e ∙ sym (take_more words i word l))
