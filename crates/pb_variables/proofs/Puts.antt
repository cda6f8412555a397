-- Values that come under some names come over what stands below as they come among the values in order that stand over it.
use Rattle.std.proofs.Common.{◌≡◌, ℕ, Bool, true, false, cond, List, [], ◌∷◌, Ordering, Less, Equal, Greater, nat_cmp, refl, sym, ap, subst, ◌∙◌}
use Rattle.std.specs.Prelude.{Option, Some, None}
use Rattle.std.specs.Cmp.Lexicographic.{slice_cmp}
use Rattle.std.specs.List.{AllByRecursion}
use Rattle.std.specs.List.Sorted.{IsStrictlySortedBy}
use Rattle.std.specs.Map.{keys_of}
use Rattle.std.specs.Ordering.{is_eq, match_ordering, ordering_reverse}
use Rattle.std.proofs.lemmas.Cmp.{nat_list_cmp_total}
use Rattle.std.proofs.lemmas.Map.Text.{is_eq-slice_cmp}
use Rattle.std.proofs.lemmas.Slice.Eq.{bytes_eq-Decides}
use Rattle.pb_value.specs.Datum.{Datum, put, value_at}
use Rattle.pb_value.proofs.Puts.{value_at-put, value_at-put_other}
use Rattle.pb_layers.specs.Scope.{Map}
use Rattle.pb_facts.specs.Facts.{put_all}
use Rattle.pb_facts.specs.Update.{IsOrdered, LeadsTo}
use Rattle.pb_variables.specs.Between.{put_found, put_names}
use Rattle.pb_variables.proofs.Renewing.{put_again, put_apart}

pub same_names : (j k : List ℕ) → is_eq (slice_cmp nat_cmp j k) ≡ true → j ≡ k
same_names j k e = (bytes_eq-Decides j k).0 (sym (is_eq-slice_cmp j k) ∙ e)

pub never_both : (found : Option Datum) (x : Datum) → found ≡ None → found ≡ Some x → ⊥
never_both found x e f = cc

-- ---- a value below others: under a name that none of them has it comes as well over them
past_at : (k : List ℕ) (x : Datum) (e : List ℕ × Datum) (es m : Map) (b : Bool) → is_eq (slice_cmp nat_cmp k e.0) ≡ b → cond b (Some e.1) (value_at k es) ≡ None
    → ((n : Map) → value_at k es ≡ None → put_all es (put k x n) ≡ put k x (put_all es n)) → put_all es (put e.0 e.1 (put k x m)) ≡ put k x (put_all es (put e.0 e.1 m))
past_at k x e es m true t f rest = cc
past_at k x e es m false t f rest = ap (put_all es) (sym (put_apart k e.0 e.1 x m t)) ∙ rest (put e.0 e.1 m) f

pub put_past : (k : List ℕ) (x : Datum) (es m : Map) → value_at k es ≡ None → put_all es (put k x m) ≡ put k x (put_all es m)
put_past k x [] m f = refl
put_past k x (e ∷ es) m f = past_at k x e es m (is_eq (slice_cmp nat_cmp k e.0)) refl f (put_past k x es)

-- and under a name that one of them has it is not seen
under_at : (k : List ℕ) (x y : Datum) (e : List ℕ × Datum) (es m : Map) (b : Bool) → is_eq (slice_cmp nat_cmp k e.0) ≡ b → cond b (Some e.1) (value_at k es) ≡ Some y
    → ((n : Map) → value_at k es ≡ Some y → put_all es (put k x n) ≡ put_all es n) → put_all es (put e.0 e.1 (put k x m)) ≡ put_all es (put e.0 e.1 m)
under_at k x y e es m true t f rest =
    ap (λ (j : List ℕ). put_all es (put e.0 e.1 (put j x m))) (same_names k e.0 t) ∙ ap (put_all es) (put_again e.0 e.1 x m)
under_at k x y e es m false t f rest = ap (put_all es) (sym (put_apart k e.0 e.1 x m t)) ∙ rest (put e.0 e.1 m) f

pub put_under : (k : List ℕ) (x y : Datum) (es m : Map) → value_at k es ≡ Some y → put_all es (put k x m) ≡ put_all es m
put_under k x y [] m f = cc
put_under k x y (e ∷ es) m f = under_at k x y e es m (is_eq (slice_cmp nat_cmp k e.0)) refl f (put_under k x y es)

-- ---- names in order
below_all : (j k : List ℕ) (es : Map) → slice_cmp nat_cmp j k ≡ Less → AllByRecursion (λ y. slice_cmp nat_cmp k y ≡ Less) (keys_of es) → AllByRecursion (λ y. slice_cmp nat_cmp j y ≡ Less) (keys_of es)
below_all j k [] o h = tt
below_all j k (e ∷ es) o h = (nat_list_cmp_total.trans j k e.0 o h.0, below_all j k es o h.1)

none_below : (k : List ℕ) (es : Map) → AllByRecursion (λ y. slice_cmp nat_cmp k y ≡ Less) (keys_of es) → value_at k es ≡ None
none_below k [] h = refl
none_below k (e ∷ es) h = ap (λ (o : Ordering). cond (is_eq o) (Some e.1) (value_at k es)) h.0 ∙ none_below k es h.1

put_keeps : (P : List ℕ → Type 0) (es : Map) (k : List ℕ) (v : Datum) → P k → AllByRecursion P (keys_of es) → AllByRecursion P (keys_of (put k v es))
put_keeps P [] k v p h = (p, tt)
put_keeps P (e ∷ es) k v p h = by_order (slice_cmp nat_cmp k e.0) (put_keeps P es k v p h.1)
  where
    by_order : (o : Ordering) → AllByRecursion P (keys_of (put k v es)) → AllByRecursion P (keys_of (match_ordering o ((k, v) ∷ e ∷ es) ((e.0, v) ∷ es) (e ∷ put k v es)))
    by_order Less rest = (p, h)
    by_order Equal rest = h
    by_order Greater rest = (h.0, rest)

put_by_order : (e : List ℕ × Datum) (es : Map) (k : List ℕ) (v : Datum) (o : Ordering) → slice_cmp nat_cmp k e.0 ≡ o → AllByRecursion (λ y. slice_cmp nat_cmp e.0 y ≡ Less) (keys_of es)
    → IsOrdered es → IsOrdered (put k v es) → IsOrdered (match_ordering o ((k, v) ∷ e ∷ es) ((e.0, v) ∷ es) (e ∷ put k v es))
unfolding IsStrictlySortedBy
put_by_order e es k v Less o h s rest = ((o, below_all k e.0 es o h), (h, s))
put_by_order e es k v Equal o h s rest = (h, s)
put_by_order e es k v Greater o h s rest =
    let above : slice_cmp nat_cmp e.0 k ≡ Less = nat_list_cmp_total.antisymm e.0 k ∙ ap ordering_reverse o in
    (put_keeps (λ y. slice_cmp nat_cmp e.0 y ≡ Less) es k v above h, rest)

pub put_ordered : (es : Map) (k : List ℕ) (v : Datum) → IsOrdered es → IsOrdered (put k v es)
unfolding IsStrictlySortedBy
put_ordered [] k v h = (tt, tt)
put_ordered (e ∷ es) k v h = put_by_order e es k v (slice_cmp nat_cmp k e.0) refl h.0 h.1 (put_ordered es k v h.1)

-- ---- a value among values in order: it comes over all that they come over
over_at : (k : List ℕ) (x : Datum) (e : List ℕ × Datum) (es m : Map) (o : Ordering) → slice_cmp nat_cmp k e.0 ≡ o → AllByRecursion (λ y. slice_cmp nat_cmp e.0 y ≡ Less) (keys_of es)
    → put_all (put k x es) (put e.0 e.1 m) ≡ put k x (put_all es (put e.0 e.1 m))
    → put_all (match_ordering o ((k, x) ∷ e ∷ es) ((e.0, x) ∷ es) (e ∷ put k x es)) m ≡ put k x (put_all es (put e.0 e.1 m))
over_at k x e es m Less o h rest = put_past k x (e ∷ es) m (none_below k (e ∷ es) (o, below_all k e.0 es o h))
over_at k x e es m Equal o h rest =
    let same : k ≡ e.0 = same_names k e.0 (ap is_eq o) in
    ap (put_all es) (sym (put_again e.0 x e.1 m)) ∙ put_past e.0 x es (put e.0 e.1 m) (none_below e.0 es h)
    ∙ ap (λ (j : List ℕ). put j x (put_all es (put e.0 e.1 m))) (sym same)
over_at k x e es m Greater o h rest = rest

pub put_over : (k : List ℕ) (x : Datum) (es m : Map) → IsOrdered es → put_all (put k x es) m ≡ put k x (put_all es m)
unfolding IsStrictlySortedBy
put_over k x [] m h = refl
put_over k x (e ∷ es) m h = over_at k x e es m (slice_cmp nat_cmp k e.0) refl h.0 (put_over k x es (put e.0 e.1 m) h.1)

-- ---- what was set, over others and below the extra variables
abbrev between : Map → Map → Map → Map
between extra set base = put_all extra (put_all set base)

pub found_at : (extra set base : Map) (k : List ℕ) (given found : Option Datum) → value_at k extra ≡ given → IsOrdered set → put_found k given found (between extra set base) ≡ between extra (put_found k None found set) base
found_at extra set base k (Some given) None e h = refl
found_at extra set base k None None e h = refl
found_at extra set base k (Some given) (Some x) e h = sym (put_under k x given extra (put_all set base) e) ∙ ap (put_all extra) (sym (put_over k x set base h))
found_at extra set base k None (Some x) e h = sym (put_past k x extra (put_all set base) e) ∙ ap (put_all extra) (sym (put_over k x set base h))

pub found_ordered : (set : Map) (k : List ℕ) (found : Option Datum) → IsOrdered set → IsOrdered (put_found k None found set)
found_ordered set k None h = h
found_ordered set k (Some x) h = put_ordered set k x h

names_between : (extra t set base : Map) (log : List (List ℕ × Option Datum)) → IsOrdered set → put_names extra t log (between extra set base) ≡ between extra (put_names [] t log set) base
names_between extra t set base [] h = refl
names_between extra t set base (b ∷ log) h =
    ap (put_names extra t log) (found_at extra set base b.0 (value_at b.0 extra) (value_at b.0 t) refl h)
    ∙ names_between extra t (put_found b.0 None (value_at b.0 t) set) base log (found_ordered set b.0 (value_at b.0 t) h)

-- ---- a value that is put where it stands changes nothing
here_at : (k : List ℕ) (x : Datum) (e : List ℕ × Datum) (es : Map) (o : Ordering) → slice_cmp nat_cmp k e.0 ≡ o → cond (is_eq o) (Some e.1) (value_at k es) ≡ Some x
    → AllByRecursion (λ y. slice_cmp nat_cmp e.0 y ≡ Less) (keys_of es) → (value_at k es ≡ Some x → put k x es ≡ es)
    → match_ordering o ((k, x) ∷ e ∷ es) ((e.0, x) ∷ es) (e ∷ put k x es) ≡ e ∷ es
here_at k x e es Less o f h rest = absurd (never_both (value_at k es) x (none_below k es (below_all k e.0 es o h)) f)
here_at k x e es Equal o f h rest =
    let same : x ≡ e.1 = cc in
    ap (λ (d : Datum). (e.0, d) ∷ es) same
here_at k x e es Greater o f h rest = ap (λ (t : Map). e ∷ t) (rest f)

pub put_here : (k : List ℕ) (x : Datum) (es : Map) → IsOrdered es → value_at k es ≡ Some x → put k x es ≡ es
unfolding IsStrictlySortedBy
put_here k x [] h f = cc
put_here k x (e ∷ es) h f = here_at k x e es (slice_cmp nat_cmp k e.0) refl f h.0 (put_here k x es h.1)

-- ---- values that stand in one map come in any order
turn_at : (j k : List ℕ) (x y : Datum) (t m : Map) (b : Bool) → is_eq (slice_cmp nat_cmp j k) ≡ b → value_at j t ≡ Some y → value_at k t ≡ Some x → put j y (put k x m) ≡ put k x (put j y m)
turn_at j k x y t m true e f g =
    let same : j ≡ k = same_names j k e in
    let both : Some y ≡ Some x = sym f ∙ ap (λ (name : List ℕ). value_at name t) same ∙ g in
    let value : y ≡ x = cc in
    ap (λ (name : List ℕ). put name y (put k x m)) same ∙ ap (λ (d : Datum). put k d (put k x m)) value
    ∙ sym (ap (λ (name : List ℕ). put k x (put name y m)) same ∙ ap (λ (d : Datum). put k x (put k d m)) value)
turn_at j k x y t m false e f g = put_apart j k x y m e

turned : (t m : Map) (k : List ℕ) (x : Datum) (j : List ℕ) (found : Option Datum) → value_at k t ≡ Some x → value_at j t ≡ found → put_found j None found (put k x m) ≡ put k x (put_found j None found m)
turned t m k x j None g f = refl
turned t m k x j (Some y) g f = turn_at j k x y t m (is_eq (slice_cmp nat_cmp j k)) refl f g

names_past : (t m : Map) (log : List (List ℕ × Option Datum)) (k : List ℕ) (x : Datum) → value_at k t ≡ Some x → put_names [] t log (put k x m) ≡ put k x (put_names [] t log m)
names_past t m [] k x g = refl
names_past t m (b ∷ log) k x g =
    ap (put_names [] t log) (turned t m k x b.0 (value_at b.0 t) g refl) ∙ names_past t (put_found b.0 None (value_at b.0 t) m) log k x g

-- ---- what came under names stands there in the end, maybe in place of what came there first
stays_at : (k : List ℕ) (x : Datum) (s : Map) (j : List ℕ) (v : Datum) (b : Bool) → is_eq (slice_cmp nat_cmp k j) ≡ b → value_at k s ≡ Some x → (y : Datum) × (value_at k (put j v s) ≡ Some y)
stays_at k x s j v true e f = (v, ap (λ (name : List ℕ). value_at name (put j v s)) (same_names k j e) ∙ value_at-put j v s)
stays_at k x s j v false e f = (x, value_at-put_other k j v s e ∙ f)

-- values came under these names, one after another
abbrev pub PutsTo : List (List ℕ × Option Datum) → Map → Map → Type 0
PutsTo [] was now = was ≡ now
PutsTo (b ∷ log) was now = (value : Datum) × PutsTo log (put b.0 value was) now

pub leads_puts : (log : List (List ℕ × Option Datum)) (s t : Map) → LeadsTo log s t → PutsTo log s t
leads_puts [] s t l = l
leads_puts (b ∷ log) s t l = (l.0, leads_puts log (put b.0 l.0 s) t l.2)

pub stays : (k : List ℕ) (x : Datum) (log : List (List ℕ × Option Datum)) (s t : Map) → value_at k s ≡ Some x → PutsTo log s t → (y : Datum) × (value_at k t ≡ Some y)
stays k x [] s t f l = (x, ap (λ (m : Map). value_at k m) (sym l) ∙ f)
stays k x (b ∷ log) s t f l =
    let still = stays_at k x s b.0 l.0 (is_eq (slice_cmp nat_cmp k b.0)) refl f in
    stays k still.0 log (put b.0 l.0 s) t still.1 l.1

pub puts_ordered : (log : List (List ℕ × Option Datum)) (s t : Map) → PutsTo log s t → IsOrdered s → IsOrdered t
puts_ordered [] s t l h = subst (λ (m : Map). IsOrdered m) l h
puts_ordered (b ∷ log) s t l h = puts_ordered log (put b.0 l.0 s) t l.1 (put_ordered s b.0 l.0 h)

-- so what stands there in the end can come at once
name_put : (t s : Map) (k : List ℕ) (v : Datum) (log : List (List ℕ × Option Datum)) (found : Option Datum) → value_at k t ≡ found → IsOrdered t → put_names [] t log (put k v s) ≡ t
    → ((y : Datum) × (value_at k t ≡ Some y)) → put_names [] t log (put_found k None found s) ≡ t
name_put t s k v log None f h rest still = absurd (never_both (value_at k t) still.0 f still.1)
name_put t s k v log (Some w) f h rest still =
    ap (put_names [] t log) (sym (put_again k w v s)) ∙ names_past t (put k v s) log k w f ∙ ap (put k w) rest ∙ put_here k w t h f

pub names_put : (log : List (List ℕ × Option Datum)) (s t : Map) → PutsTo log s t → IsOrdered s → put_names [] t log s ≡ t
names_put [] s t l h = l
names_put (b ∷ log) s t l h =
    let later = put b.0 l.0 s in
    let rises = put_ordered s b.0 l.0 h in
    name_put t s b.0 l.0 log (value_at b.0 t) refl (puts_ordered log later t l.1 rises) (names_put log later t l.1 rises)
    (stays b.0 l.0 log later t (value_at-put b.0 l.0 s) l.1)

-- ---- what is known of a host follows what was set
pub set_follows : (extra s t base : Map) (log : List (List ℕ × Option Datum)) → IsOrdered s → LeadsTo log s t → put_names extra t log (put_all extra (put_all s base)) ≡ put_all extra (put_all t base)
set_follows extra s t base log h l =
    names_between extra t s base log h ∙ ap (λ (set : Map). between extra set base) (names_put log s t (leads_puts log s t l) h)
