-- Facts that come among those gathered come among a host's variables, unless an extra variable or what was set has their name.
use Rattle.std.proofs.Common.{◌≡◌, ◌++◌, ℕ, Bool, true, false, List, [], ◌∷◌, nat_cmp, refl, sym, ap, subst, ◌∙◌}
use Rattle.std.specs.Prelude.{Option, Some, None, unwrap_or, codes}
use Rattle.std.specs.Option.{option_or}
use Rattle.std.specs.Cmp.Lexicographic.{slice_cmp}
use Rattle.std.specs.Ordering.{is_eq}
use Rattle.pb_value.specs.Datum.{Datum, dict, members_of, named, put, value_at}
use Rattle.pb_layers.specs.Scope.{Map}
use Rattle.pb_facts.specs.Facts.{FactsOf, put_all, gathered_layer, known_of}
use Rattle.pb_facts.specs.Update.{IsOrdered, LeadsTo, GatheredUnder, IsBetween}
use Rattle.pb_facts.specs.declared.update.FactsUndo.{FactsUndo}
use Rattle.pb_facts.specs.declared.update.FactsUndo.TheVariants.{Nothing, Stood, Gathered}
use Rattle.pb_variables.specs.Between.{put_found, put_names, put_facts, with_all, follows}
use Rattle.pb_variables.proofs.Puts.{PutsTo, leads_puts, same_names, put_past, put_under, put_ordered, found_at, found_ordered, names_put, set_follows}
use Rattle.pb_variables.proofs.Renewing.{put_again, put_apart}

-- ---- a value below others comes as well over them where none of them has its name, and else it is not seen
comes_over : (over m : Map) (k : List ℕ) (given below found : Option Datum) → value_at k over ≡ given → put_found k (option_or given below) found (put_all over m) ≡ put_all over (put_found k below found m)
comes_over over m k (Some given) (Some below) found e = refl
comes_over over m k (Some given) None None e = refl
comes_over over m k (Some given) None (Some x) e = sym (put_under k x given over m e)
comes_over over m k None (Some below) found e = refl
comes_over over m k None None None e = refl
comes_over over m k None None (Some x) e = sym (put_past k x over m e)

fact_at : (extra set layer base : Map) (k : List ℕ) (found : Option Datum) → IsOrdered layer
    → put_found k (option_or (value_at k extra) (value_at k set)) found (put_all extra (put_all set (put_all layer base))) ≡ put_all extra (put_all set (put_all (put_found k None found layer) base))
fact_at extra set layer base k found h =
    comes_over extra (put_all set (put_all layer base)) k (value_at k extra) (value_at k set) found refl ∙ ap (put_all extra) (found_at set layer base k (value_at k set) found refl h)

facts_below : (extra set t layer base : Map) (log : List (List ℕ × Option Datum)) → IsOrdered layer
    → put_facts extra set t log (put_all extra (put_all set (put_all layer base))) ≡ put_all extra (put_all set (put_all (put_names [] t log layer) base))
facts_below extra set t layer base [] h = refl
facts_below extra set t layer base (b ∷ log) h =
    ap (put_facts extra set t log) (fact_at extra set layer base b.0 (value_at b.0 t) h)
    ∙ facts_below extra set t (put_found b.0 None (value_at b.0 t) layer) base log (found_ordered layer b.0 (value_at b.0 t) h)

-- ---- what came among the facts came into their layer, and at last all of them under one name
puts_last : (log : List (List ℕ × Option Datum)) (s t : Map) (k : List ℕ) (x : Datum) → PutsTo log s t → PutsTo (log ++ (k, None) ∷ []) s (put k x t)
puts_last [] s t k x l = (x, ap (put k x) l)
puts_last (b ∷ log) s t k x l = (l.0, puts_last log (put b.0 l.0 s) t k x l.1)

-- what stood under that name before is not seen
below_last : (j k : List ℕ) (v y : Datum) (m : Map) (b : Bool) → is_eq (slice_cmp nat_cmp j k) ≡ b → (z : Datum) × (put j v (put k y m) ≡ put k z (put j v m))
below_last j k v y m true e =
    let same : j ≡ k = same_names j k e in
    (v, subst (λ (name : List ℕ). put j v (put name y m) ≡ put name v (put j v m)) same (put_again j v y m ∙ sym (put_again j v v m)))
below_last j k v y m false e = (y, put_apart j k y v m e)

puts_over : (log : List (List ℕ × Option Datum)) (s t : Map) (k : List ℕ) (x y : Datum) → PutsTo log s t → PutsTo (log ++ (k, None) ∷ []) (put k y s) (put k x t)
puts_over [] s t k x y l = (x, put_again k x y s ∙ ap (put k x) l)
puts_over (b ∷ log) s t k x y l =
    let below = below_last b.0 k l.0 y s (is_eq (slice_cmp nat_cmp b.0 k)) refl in
    (l.0, subst (λ (m : Map). PutsTo (log ++ (k, None) ∷ []) m (put k x t)) (sym below.1) (puts_over log (put b.0 l.0 s) t k x below.0 l.1))

layer_puts : (log : List (List ℕ × Option Datum)) (was : Option Map) (facts : Map) → LeadsTo log (unwrap_or was []) facts → PutsTo (with_all log) (gathered_layer was) (gathered_layer (Some facts))
layer_puts log None facts l = puts_last log [] facts (codes "ansible_facts") (dict (members_of facts)) (leads_puts log [] facts l)
layer_puts log (Some m) facts l = puts_over log m facts (codes "ansible_facts") (dict (members_of facts)) (dict (members_of m)) (leads_puts log m facts l)

pub gathered_puts : (log : List (List ℕ × Option Datum)) (was now : Option Map) → GatheredUnder log was now → PutsTo (with_all log) (gathered_layer was) (gathered_layer now)
gathered_puts log was now g = subst (λ (gathered : Option Map). PutsTo (with_all log) (gathered_layer was) (gathered_layer gathered)) (sym g.3) (layer_puts log was g.1 g.2)

pub layer_ordered : (was : Option Map) → IsOrdered (unwrap_or was []) → IsOrdered (gathered_layer was)
layer_ordered None h = h
layer_ordered (Some m) h = put_ordered m (codes "ansible_facts") (dict (members_of m)) h

-- ---- what is known of a host follows what it learnt
facts_follow : (extra set base : Map) (log : List (List ℕ × Option Datum)) (was now : Option Map) → GatheredUnder log was now
    → put_facts extra set (gathered_layer now) (with_all log) (put_all extra (put_all set (put_all (gathered_layer was) base))) ≡ put_all extra (put_all set (put_all (gathered_layer now) base))
facts_follow extra set base log was now g =
    let rises = layer_ordered was g.0 in
    facts_below extra set (gathered_layer now) (gathered_layer was) base (with_all log) rises
    ∙ ap (λ (layer : Map). put_all extra (put_all set (put_all layer base))) (names_put (with_all log) (gathered_layer was) (gathered_layer now) (gathered_puts log was now g) rises)

pub known_follows : (groups own extra : Map) (was now : FactsOf) (past : FactsUndo) → IsBetween past was now → follows extra now past (known_of groups own was extra) ≡ known_of groups own now extra
known_follows groups own extra was now Nothing h = ap (λ (facts : FactsOf). known_of groups own facts extra) h
known_follows groups own extra was now (Stood log) h =
    set_follows extra was.set now.set (put_all (gathered_layer was.gathered) (put_all own groups)) (named log.items) h.1 h.2
    ∙ ap (λ (gathered : Option Map). put_all extra (put_all now.set (put_all (gathered_layer gathered) (put_all own groups)))) h.0
known_follows groups own extra was now (Gathered stood facts layer) h =
    ap
    (put_facts extra now.set (gathered_layer now.gathered) (with_all (named facts.items)))
    (set_follows extra was.set now.set (put_all (gathered_layer was.gathered) (put_all own groups)) (named stood.items) h.0 h.1)
    ∙ facts_follow extra now.set (put_all own groups) (named facts.items) was.gathered now.gathered h.2
