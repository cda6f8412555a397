-- An index of words, with a number more beside one of them.
use Rattle.std.proofs.Common.{◌≡◌, ℕ, zero, suc, ◌+◌, ◌<◌, Bool, true, false, List, [], ◌∷◌, ◌++◌, length, get_or, set, take, cond, refl, sym, ap, subst, ◌∙◌, ◌≤◌, arith}
use Rattle.std.specs.Prelude.{◌&&◌, ◌||◌, not, Some, None, slice_get, nat_eq, nat_lt, if◌then◌else◌, position, unwrap_or}
use Rattle.std.specs.List.{list_any, position_or_len}
use Rattle.std.specs.Str.{bytes_eq}
use Rattle.std.proofs.lemmas.List.{take_more, length-take-le}
use Rattle.std.proofs.lemmas.List.Folds.{list_any-append}
use Rattle.std.proofs.lemmas.Bool.Decides.{nat_tests, same_from_decides, Decides-like}
use Rattle.std.proofs.lemmas.Slice.Eq.{bytes_eq-Decides}
use Rattle.pb_handlers.proofs.Bits.{other_number, next_number}
use Rattle.pb_handlers.specs.declared.naming.HandlerNames.{HandlerNames}
use Rattle.pb_handlers.specs.Pending.{is_among}
use Rattle.pb_handlers.specs.Naming.{answers_to}
use Rattle.pb_handlers.specs.Index.{with_word, under, answers_at}

-- ---- equal words
same_words : (a b : List ℕ) → bytes_eq a b ≡ true → a ≡ b
same_words a b e = (bytes_eq-Decides a b).0 e

bytes_eq-sym : (x y : List ℕ) → bytes_eq x y ≡ bytes_eq y x
bytes_eq-sym x y = same_from_decides _ _ (bytes_eq-Decides x y) (Decides-like _ (λ e. sym e) (λ e. sym e) (bytes_eq-Decides y x))

-- ---- what stands beside a word
found_one : (b : Bool) (m : List ℕ) (ms : List (List ℕ)) (p n : ℕ) (rest : List ℕ) → cond (not b) (1 + p) 0 < suc n → (p < n → rest ≡ get_or ms p []) → (if b then m else rest) ≡ get_or (m ∷ ms) (cond (not b) (1 + p) 0) []
found_one true m ms p n rest l f = refl
found_one false m ms p n rest l f = let next : suc p ≡ 1 + p = omega arith in subst (λ j. rest ≡ get_or (m ∷ ms) j []) next (f (omega (arith, l)))

found_in_none : (i : ℕ) → [] ≡ get_or {A = List ℕ} [] i []
found_in_none i = refl

pub under_found : (word : List ℕ) (words numbers : List (List ℕ)) → position_or_len (bytes_eq word) words < length words → under word words numbers ≡ get_or numbers (position_or_len (bytes_eq word) words) []
under_found word [] numbers l = absurd (omega (arith, l))
under_found word (x ∷ words) [] l = found_in_none (position_or_len (bytes_eq word) (x ∷ words))
under_found word (x ∷ words) (m ∷ numbers) l =
    found_one (bytes_eq word x) m numbers (position_or_len (bytes_eq word) words) (length words) (under word words numbers) l (under_found word words numbers)

missing_one : (b : Bool) (m : List ℕ) (p n : ℕ) (rest : List ℕ) → suc n ≤ cond (not b) (1 + p) 0 → (n ≤ p → rest ≡ []) → (if b then m else rest) ≡ []
missing_one true m p n rest l f = absurd (omega (arith, l))
missing_one false m p n rest l f = f (omega (arith, l))

pub under_missing : (word : List ℕ) (words numbers : List (List ℕ)) → length words ≤ position_or_len (bytes_eq word) words → under word words numbers ≡ []
under_missing word [] numbers l = refl
under_missing word (x ∷ words) [] l = refl
under_missing word (x ∷ words) (m ∷ numbers) l =
    missing_one (bytes_eq word x) m (position_or_len (bytes_eq word) words) (length words) (under word words numbers) l (under_missing word words numbers)

-- a place that is found, and one that isn't
found_or : (i p n : ℕ) (b : Bool) → nat_lt p n ≡ b → cond b (Some p) None ≡ Some i → (p < n) × (p ≡ i)
found_or i p n true e f = (grind (arith, nat_tests), cc)
found_or i p n false e f = cc

pub under_some : (word : List ℕ) (words numbers : List (List ℕ)) (i : ℕ) → position (bytes_eq word) words ≡ Some i → under word words numbers ≡ get_or numbers i []
under_some word words numbers i e =
    let f = found_or i (position_or_len (bytes_eq word) words) (length words) (nat_lt (position_or_len (bytes_eq word) words) (length words)) refl e in
    under_found word words numbers f.0 ∙ ap (λ j. get_or numbers j []) f.1

none_or : (p n : ℕ) (b : Bool) → nat_lt p n ≡ b → cond b (Some p) None ≡ None → n ≤ p
none_or p n true e f = cc
none_or p n false e f = grind (arith, nat_tests)

pub under_none : (word : List ℕ) (words numbers : List (List ℕ)) → position (bytes_eq word) words ≡ None → under word words numbers ≡ []
under_none word words numbers e =
    under_missing word words numbers (none_or (position_or_len (bytes_eq word) words) (length words) (nat_lt (position_or_len (bytes_eq word) words) (length words)) refl e)

pub unwrap_get : (numbers : List (List ℕ)) (i : ℕ) → unwrap_or (slice_get numbers i) [] ≡ get_or numbers i []
unwrap_get [] i = refl
unwrap_get (m ∷ numbers) zero = refl
unwrap_get (m ∷ numbers) (suc i) = unwrap_get numbers i

-- ---- a number more beside a word
within_one : (b : Bool) (p n : ℕ) (rest : Bool) → (b || rest) ≡ true → (rest ≡ true → p < n) → cond (not b) (1 + p) 0 < suc n
within_one true p n rest e f = omega arith
within_one false p n rest e f = let l = f e in omega (arith, l)

pub known_within : (word : List ℕ) (words : List (List ℕ)) → list_any (bytes_eq word) words ≡ true → position_or_len (bytes_eq word) words < length words
known_within word [] e = cc
known_within word (x ∷ words) e = within_one (bytes_eq word x) (position_or_len (bytes_eq word) words) (length words) (list_any (bytes_eq word) words) e (known_within word words)

pub is_known : (new known : Bool) → new ≡ not known → new ≡ false → known ≡ true
is_known new true e f = refl
is_known new false e f = cc

pub is_fresh : (new known : Bool) → new ≡ not known → new ≡ true → known ≡ false
is_fresh new true e f = cc
is_fresh new false e f = refl

pub words_stay : (word : List ℕ) (words : List (List ℕ)) → list_any (bytes_eq word) words ≡ true → with_word word words ≡ words
words_stay word words e = ap (λ b. if b then words else words ++ word ∷ []) e

pub words_grow : (word : List ℕ) (words : List (List ℕ)) → list_any (bytes_eq word) words ≡ false → with_word word words ≡ words ++ word ∷ []
words_grow word words e = ap (λ b. if b then words else words ++ word ∷ []) e

or_none : (a : Bool) → (a || false) ≡ a
or_none true = refl
or_none false = refl

last_among : (k n : ℕ) (ms : List ℕ) → is_among k (ms ++ n ∷ []) ≡ (is_among k ms || nat_eq k n)
last_among k n ms = list_any-append (nat_eq k) ms (n ∷ []) ∙ ap (λ b. is_among k ms || b) (or_none (nat_eq k n))

none_more : (a b : Bool) (c : Bool) → b ≡ false → a ≡ (a || (b && c))
none_more a b c e = rw e (sym (or_none a))

is_other : (a b c : List ℕ) (d : Bool) → bytes_eq a b ≡ true → bytes_eq c b ≡ d → bytes_eq a c ≡ d
is_other a b c d e f = bytes_eq-sym a c ∙ subst (λ x. bytes_eq c x ≡ d) (sym (same_words a b e)) f

not_first : (a b : Bool) → (a || b) ≡ false → (a ≡ false) × (b ≡ false)
not_first true b e = cc
not_first false b e = (refl, e)

-- a word that is new stands at the end
new_here : (b : Bool) (k n : ℕ) → is_among k (if b then n ∷ [] else []) ≡ (false || (b && nat_eq k n))
new_here true k n = or_none (nat_eq k n)
new_here false k n = refl

new_one : (b : Bool) (other word x : List ℕ) (k n : ℕ) (mine new old : List ℕ) → bytes_eq other x ≡ b → bytes_eq word x ≡ false
    → is_among k new ≡ (is_among k old || (bytes_eq other word && nat_eq k n))
    → is_among k (if b then mine else new) ≡ (is_among k (if b then mine else old) || (bytes_eq other word && nat_eq k n))
new_one true other word x k n mine new old e f g = none_more (is_among k mine) (bytes_eq other word) (nat_eq k n) (is_other other x word false e f)
new_one false other word x k n mine new old e f g = g

pub added_new : (other word : List ℕ) (words numbers : List (List ℕ)) (k n : ℕ) → length words ≡ length numbers → list_any (bytes_eq word) words ≡ false
    → is_among k (under other (words ++ word ∷ []) (numbers ++ (n ∷ []) ∷ [])) ≡ (is_among k (under other words numbers) || (bytes_eq other word && nat_eq k n))
added_new other word [] [] k n l e = new_here (bytes_eq other word) k n
added_new other word [] (m ∷ numbers) k n l e = absurd (omega (arith, l))
added_new other word (x ∷ words) [] k n l e = absurd (omega (arith, l))
added_new other word (x ∷ words) (m ∷ numbers) k n l e =
    let f = not_first (bytes_eq word x) (list_any (bytes_eq word) words) e in
    new_one (bytes_eq other x) other word x k n m _ _ refl f.0 (added_new other word words numbers k n (omega (arith, l)) f.1)

-- a word that is known
known_here : (b : Bool) (other word x : List ℕ) (k n : ℕ) (mine old : List ℕ) → bytes_eq other x ≡ b → bytes_eq word x ≡ true
    → is_among k (if b then mine ++ n ∷ [] else old) ≡ (is_among k (if b then mine else old) || (bytes_eq other word && nat_eq k n))
known_here true other word x k n mine old e f = last_among k n mine ∙ ap (λ b. is_among k mine || (b && nat_eq k n)) (sym (is_other other x word true e f))
known_here false other word x k n mine old e f =
    none_more (is_among k old) (bytes_eq other word) (nat_eq k n) (bytes_eq-sym other word ∙ is_other word x other false f e)

known_one : (c : Bool) (other word x : List ℕ) (words numbers : List (List ℕ)) (mine : List ℕ) (k n p : ℕ) → bytes_eq word x ≡ c
    → (c ≡ false → is_among k (under other words (set numbers p (get_or numbers p [] ++ n ∷ []))) ≡ (is_among k (under other words numbers) || (bytes_eq other word && nat_eq k n)))
    → is_among k (under other (x ∷ words) (set (mine ∷ numbers) (cond (not c) (1 + p) 0) (get_or (mine ∷ numbers) (cond (not c) (1 + p) 0) [] ++ n ∷ [])))
    ≡ (is_among k (under other (x ∷ words) (mine ∷ numbers)) || (bytes_eq other word && nat_eq k n))
known_one true other word x words numbers mine k n p e f = known_here (bytes_eq other x) other word x k n mine (under other words numbers) refl e
known_one false other word x words numbers mine k n p e f =
    let next : suc p ≡ 1 + p = omega arith in
    subst (λ j. is_among k (under other (x ∷ words) (set (mine ∷ numbers) j (get_or (mine ∷ numbers) j [] ++ n ∷ []))) ≡ (is_among k (under other (x ∷ words) (mine ∷ numbers)) || (bytes_eq other word && nat_eq k n)))
    next (new_one (bytes_eq other x) other word x k n mine _ _ refl e (f refl))

rest_known : (a b : Bool) → (a || b) ≡ true → a ≡ false → b ≡ true
rest_known true b e f = cc
rest_known false b e f = e

pub added_known : (other word : List ℕ) (words numbers : List (List ℕ)) (k n : ℕ) → length words ≡ length numbers → list_any (bytes_eq word) words ≡ true
    → is_among k (under other words (set numbers (position_or_len (bytes_eq word) words) (get_or numbers (position_or_len (bytes_eq word) words) [] ++ n ∷ [])))
    ≡ (is_among k (under other words numbers) || (bytes_eq other word && nat_eq k n))
added_known other word [] numbers k n l e = cc
added_known other word (x ∷ words) [] k n l e = absurd (omega (arith, l))
added_known other word (x ∷ words) (m ∷ numbers) k n l e =
    known_one (bytes_eq word x) other word x words numbers m k n (position_or_len (bytes_eq word) words) refl
    (λ f. added_known other word words numbers k n (omega (arith, l)) (rest_known (bytes_eq word x) (list_any (bytes_eq word) words) e f))

-- ---- a word's number
is_within : (b : Bool) (p n : ℕ) (rest : Bool) → cond (not b) (1 + p) 0 < suc n → (p < n → rest ≡ true) → (b || rest) ≡ true
is_within true p n rest l f = refl
is_within false p n rest l f = f (omega (arith, l))

within_known : (word : List ℕ) (words : List (List ℕ)) → position_or_len (bytes_eq word) words < length words → list_any (bytes_eq word) words ≡ true
within_known word [] l = absurd (omega (arith, l))
within_known word (x ∷ words) l = is_within (bytes_eq word x) (position_or_len (bytes_eq word) words) (length words) (list_any (bytes_eq word) words) l (within_known word words)

pub known_some : (word : List ℕ) (words : List (List ℕ)) (n : ℕ) → Some n ≡ position (bytes_eq word) words → list_any (bytes_eq word) words ≡ true
known_some word words n e =
    within_known word words (found_or n (position_or_len (bytes_eq word) words) (length words) (nat_lt (position_or_len (bytes_eq word) words) (length words)) refl (sym e)).0

one_below : (b : Bool) (p n : ℕ) → p ≤ n → cond (not b) (1 + p) 0 ≤ suc n
one_below true p n l = omega arith
one_below false p n l = omega (arith, l)

place_below : (word : List ℕ) (words : List (List ℕ)) → position_or_len (bytes_eq word) words ≤ length words
place_below word [] = omega arith
place_below word (x ∷ words) = one_below (bytes_eq word x) (position_or_len (bytes_eq word) words) (length words) (place_below word words)

pub number_none : (word : List ℕ) (words : List (List ℕ)) → None ≡ position (bytes_eq word) words → length words ≡ position_or_len (bytes_eq word) words
number_none word words e =
    let least = none_or (position_or_len (bytes_eq word) words) (length words) (nat_lt (position_or_len (bytes_eq word) words) (length words)) refl (sym e) in
    let most = place_below word words in
    omega (arith, least, most)

missing_fresh : (any : Bool) (p n : ℕ) → (any ≡ true → p < n) → n ≤ p → any ≡ false
missing_fresh true p n f l = let less = f refl in absurd (omega (arith, l, less))
missing_fresh false p n f l = refl

pub fresh_none : (word : List ℕ) (words : List (List ℕ)) → None ≡ position (bytes_eq word) words → list_any (bytes_eq word) words ≡ false
fresh_none word words e =
    missing_fresh (list_any (bytes_eq word) words) (position_or_len (bytes_eq word) words) (length words) (known_within word words)
    (none_or (position_or_len (bytes_eq word) words) (length words) (nat_lt (position_or_len (bytes_eq word) words) (length words)) refl (sym e))

-- ---- a topic and a handler more
or_swap : (a b c d : Bool) → ((a || (b && d)) || (c && d)) ≡ (a || ((b || c) && d))
or_swap true b c d = refl
or_swap false true c true = refl
or_swap false true true false = refl
or_swap false true false false = refl
or_swap false false c d = refl

pub topic_more : (word topic name : List ℕ) (topics : List (List ℕ)) (a d : Bool)
    → ((a || ((bytes_eq word name || list_any (bytes_eq word) topics) && d)) || (bytes_eq word topic && d)) ≡ (a || ((bytes_eq word name || list_any (bytes_eq word) (topics ++ topic ∷ [])) && d))
topic_more word topic name topics a d =
    or_swap a (bytes_eq word name || list_any (bytes_eq word) topics) (bytes_eq word topic) d
    ∙ ap (λ b. a || (b && d)) (or_three (bytes_eq word name) (list_any (bytes_eq word) topics) (bytes_eq word topic)
    ∙ ap (λ b. bytes_eq word name || b) (sym (list_any-append (bytes_eq word) topics (topic ∷ [])))) where
      or_three : (a b c : Bool) → ((a || b) || c) ≡ (a || (b || (c || false)))
      or_three true b c = refl
      or_three false true c = refl
      or_three false false true = refl
      or_three false false false = refl

pub handler_more : (word : List ℕ) (handlers : List HandlerNames) (h : HandlerNames) (k : ℕ) → answers_at word (handlers ++ h ∷ []) k ≡ (answers_at word handlers k || (answers_to word h && nat_eq k (length handlers)))
handler_more word [] h zero = one (answers_to word h) where
  one : (a : Bool) → a ≡ (false || (a && true))
  one true = refl
  one false = refl
handler_more word [] h (suc k) = one (answers_to word h) (nat_eq (suc k) 0) (other_number (suc k) 0 (λ e. omega (arith, e))) where
  one : (a b : Bool) → b ≡ false → false ≡ (a && b)
  one true b e = sym e
  one false b e = refl
handler_more word (x ∷ handlers) h zero = one (answers_to word x) (answers_to word h) (nat_eq 0 (suc (length handlers))) (other_number 0 (suc (length handlers)) (λ e. omega (arith, e))) where
  one : (a b c : Bool) → c ≡ false → a ≡ (a || (b && c))
  one a true c e = rw e (sym (or_none a))
  one a false c e = sym (or_none a)
handler_more word (x ∷ handlers) h (suc k) = handler_more word handlers h k ∙ ap (λ b. answers_at word handlers k || (answers_to word h && b)) (sym (next_number k (length handlers)))

pub one_more : (word : List ℕ) (handlers : List HandlerNames) (h : HandlerNames) (i k : ℕ) (new old : Bool) → i < length handlers → h ≡ get_or handlers i h
    → new ≡ (old || (answers_to word h && nat_eq k i)) → old ≡ answers_at word (take i handlers) k → new ≡ answers_at word (take (i + 1) handlers) k
one_more word handlers h i k new old l e f g =
    f ∙ ap (λ b. b || (answers_to word h && nat_eq k i)) g
    ∙ ap (λ j. answers_at word (take i handlers) k || (answers_to word h && nat_eq k j)) (sym (length-take-le i handlers (omega (arith, l))))
    ∙ sym (handler_more word (take i handlers) h k)
    ∙ ap (λ hs. answers_at word hs k) (ap (λ x. take i handlers ++ x ∷ []) e ∙ sym (take_more handlers i h l))

-- ---- a word more among those that came
or_both : (a b : Bool) → (a || (b || false)) ≡ (b || a)
or_both true true = refl
or_both true false = refl
or_both false true = refl
or_both false false = refl

same_then : (a b : Bool) → (b ≡ true → a ≡ true) → a ≡ (b || a)
same_then a true f = f refl
same_then a false f = refl

pub known_word : (word name : List ℕ) (words : List (List ℕ)) (is_known : Bool) → list_any (bytes_eq name) words ≡ is_known
    → list_any (bytes_eq word) (if is_known then words else words ++ name ∷ []) ≡ (bytes_eq word name || list_any (bytes_eq word) words)
known_word word name words true e = same_then (list_any (bytes_eq word) words) (bytes_eq word name) (λ f. subst (λ x. list_any (bytes_eq x) words ≡ true) (sym (same_words word name f)) e)
known_word word name words false e = list_any-append (bytes_eq word) words (name ∷ []) ∙ or_both (list_any (bytes_eq word) words) (bytes_eq word name)
