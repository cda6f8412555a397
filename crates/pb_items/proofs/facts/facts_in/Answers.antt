use Rattle.std.proofs.Common.{◌≡◌, ℕ, List, [], ◌∷◌, ◌++◌, map, string_bytes, string_cmp, ap, sym, subst, ◌∙◌, append_assoc}
use Rattle.std.specs.List.Sorted.{IsStrictlySortedBy}
use Rattle.std.specs.Map.{keys_of}
use Rattle.pb_value.specs.Datum.{Datum, named}
use Rattle.pb_value.specs.Reading.{map_ok}
use Rattle.pb_expr_eval.proofs.Members.{Entry, put_after, keys_join}
use Rattle.pb_items.specs.Facts.{facts_of}
use Rattle.pb_items.proofs.Rendered.{facts_of-step}
use Rattle.pb_items.proofs.facts.facts_in.Goals as goal

pub loop-name-preserved : goal.loop-name-preserved
loop-name-preserved c =
    let l = c.loop-name in
    let done = l.invariant.0 in
    let e : Entry = (c.in-Some.name.now, c.in-Some.value.now) in
    let left = c.next.new.self in
    let scope = c.args.scope.now in
    let x : Datum = c.in_ok-value.value in
    let k : List ℕ = string_bytes e.0 in
    let named_so : string_bytes c.in_ok-clone.field-0 ≡ k = c.in_ok-clone.ensures.cases in
    let step : done ++ l.name-iterator ≡ (done ++ e ∷ []) ++ left = ap (λ es. done ++ es) c.in-Some.ensures.steps ∙ sym (append_assoc done (e ∷ []) left) in
    let sorted : IsStrictlySortedBy string_cmp (keys_of (done ++ e ∷ left)) = subst (λ es. IsStrictlySortedBy string_cmp (keys_of (done ++ es))) c.in-Some.ensures.steps l.invariant.2 in
    let last : c.insert.new.self ≡ l.rendered ++ (k, x) ∷ [] = c.in_ok-insert.ensures.ok ∙ rw named_so (put_after done l.rendered e left x l.invariant.3 sorted) in (
      done ++ e ∷ [],
      l.invariant.1 ∙ ap named step,
      subst (λ es. IsStrictlySortedBy string_cmp (keys_of es)) step l.invariant.2,
      ap (map (λ (m : List ℕ × Datum). m.0)) last ∙ keys_join done l.rendered e x l.invariant.3,
      l.invariant.4 ∙ ap (λ es. map_ok (λ xs. l.rendered ++ xs) (facts_of scope (named es))) c.in-Some.ensures.steps
          ∙ facts_of-step scope e left l.rendered x c.in_ok-value.ensures.value
          ∙ ap (λ out. map_ok (λ xs. out ++ xs) (facts_of scope (named left))) (sym last),
    )
