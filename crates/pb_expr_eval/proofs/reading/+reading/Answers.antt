use Rattle.std.proofs.Common.{◌≡◌, ◌+◌, ◌*◌, ◌-◌, ◌<◌, ◌≤◌, ℕ, true, List, [], ◌∷◌, ◌++◌, Some, Ok, IfOk, string_bytes, sym, ap, ◌∙◌, subst, append_assoc, string_cmp, map, drop, arith}
use Rattle.std.proofs.lemmas.List.{drop_more}
use Rattle.std.proofs.lemmas.Result.{IfOk-weaker, IfErr-weaker}
use Rattle.std.specs.List.Sorted.{IsStrictlySortedBy}
use Rattle.std.specs.Map.{keys_of}
use Rattle.pb_value.specs.Datum.{Datum, named, items_of, members_of, put}
use Rattle.pb_value.specs.Reading.{map_ok}
use Rattle.pb_expr_syntax.specs.Tree.{nodes}
use Rattle.pb_layers.specs.Scope.{found, has_templates}
use Rattle.pb_template.specs.Plain.{is_plain}
use Rattle.pb_expr_eval.specs.Rendering.{rendered, rendered_members, shown, text_in}
use Rattle.pb_expr_eval.specs.Scoped.{names_in}
use Rattle.pb_expr_eval.proofs.Members.{Entry, map_ok-none, put_after, rendered_members-step, keys_join, shown_step}
use Rattle.pb_expr_eval.proofs.Read.{taken, made_value, made_fault, shown_value, shown_fault}
use Rattle.pb_expr_eval.proofs.Steps.{rendered_name}
use Rattle.pb_expr_eval.proofs.Unrendered.{plain_rendered}
use Rattle.pb_expr_eval.proofs.Weights.{spent, part_weight, weight, items_weight, members_weight, nodes_at, weight_at, part_weight_at, member_weight, found_weight, look_up_spends}
use Rattle.pb_expr_eval.proofs.reading.+reading.Goals as goal

pub values-value-requires : goal.values-value-requires
values-value-requires t c =
    let w = nodes_at c.args.items.now c.loop-item.item-index c.item-item.result c.loop-item-test.true c.item-item.is in
    let h : spent c.args.scope.now c.args.levels + (4 * nodes c.item-item.result + 2) < t = omega (arith, w) in
    (h, tt)

pub shown-show-requires : goal.shown-show-requires
shown-show-requires t c =
    let w = part_weight_at c.args.parts.now c.loop-part.part-index c.part-item.result c.loop-part-test.true c.part-item.is in
    let h : spent c.args.scope.now c.args.levels + (4 * part_weight c.part-item.result + 1) < t = omega (arith, w) in
    (h, tt)

pub rendered_items-rendered-requires : goal.rendered_items-rendered-requires
rendered_items-rendered-requires t c =
    let w = weight_at c.as_slice-item-items.result.now c.loop-item.item-index c.item-item.result c.loop-item-test.true c.item-item.is in
    let v : weight c.item-item.result ≤ items_weight (items_of c.args.stored.now) = subst (λ ds. weight c.item-item.result ≤ items_weight (items_of ds)) c.as_slice-item-items.ensures w in
    let h : spent c.args.scope.now c.args.levels + (4 * weight c.item-item.result + 2) < t = omega (arith, v) in
    (h, tt)

pub rendered_members-rendered-requires : goal.rendered_members-rendered-requires
rendered_members-rendered-requires t c =
    let l = c.loop-key in
    let done = l.invariant.0 in
    let e : Entry = (c.in-Some.key.now, c.in-Some.member.now) in
    let left = c.next.new.self in
    let all : c.args.stored.now ≡ named (done ++ e ∷ left) = l.invariant.1 ∙ ap (λ es. named (done ++ es)) c.in-Some.ensures.steps in
    let v : weight e.1 ≤ members_weight (members_of c.args.stored.now) = subst (λ ms. weight e.1 ≤ members_weight (members_of ms)) (sym all) (member_weight done e left) in
    let h : spent c.args.scope.now c.args.levels + (4 * weight c.in-Some.member.now + 2) < t = omega (arith, v) in
    (h, tt)

pub rendered_members-loop-key-preserved : goal.rendered_members-loop-key-preserved
rendered_members-loop-key-preserved t c =
    let l = c.loop-key in
    let done = l.invariant.0 in
    let e : Entry = (c.in-Some.key.now, c.in-Some.member.now) in
    let left = c.next.new.self in
    let k : List ℕ = string_bytes e.0 in
    let read = taken (λ d. put k d l.values) c.rendered.result c.put.new.to c.in_ok-put.ensures.value in
    let x : Datum = read.0 in
    let value_so = subst (λ r. IfOk r (λ v. rendered (names_in c.args.scope.now c.args.levels) e.1 ≡ Ok v)) read.1 c.rendered.ensures.value in
    let step : done ++ l.key-iterator ≡ (done ++ e ∷ []) ++ left = ap (λ es. done ++ es) c.in-Some.ensures.steps ∙ sym (append_assoc done (e ∷ []) left) in
    let sorted : IsStrictlySortedBy string_cmp (keys_of (done ++ e ∷ left)) = subst (λ es. IsStrictlySortedBy string_cmp (keys_of (done ++ es))) c.in-Some.ensures.steps l.invariant.2 in
    let last : c.put.new.to ≡ l.values ++ (k, x) ∷ [] = sym read.2 ∙ put_after done l.values e left x l.invariant.3 sorted in (
      done ++ e ∷ [],
      l.invariant.1 ∙ ap named step,
      subst (λ es. IsStrictlySortedBy string_cmp (keys_of es)) step l.invariant.2,
      ap (map (λ (m : List ℕ × Datum). m.0)) last ∙ keys_join done l.values e x l.invariant.3,
      l.invariant.4 ∙ ap (λ es. map_ok (λ xs. l.values ++ xs) (rendered_members (names_in c.args.scope.now c.args.levels) (members_of (named es)))) c.in-Some.ensures.steps
          ∙ rendered_members-step (names_in c.args.scope.now c.args.levels) e left l.values x value_so
          ∙ ap (λ out. map_ok (λ xs. out ++ xs) (rendered_members (names_in c.args.scope.now c.args.levels) (members_of (named left)))) (sym last),
    )

pub read-rendered-requires : goal.read-rendered-requires
read-rendered-requires t c =
    let f : found c.args.name.now c.args.scope.now ≡ Some (c.in-Some.found.layer, c.in-Some.found.value.now) = sym c.in-Some.ensures in
    let w = look_up_spends c.args.scope.now c.args.levels (weight c.in-Some.found.value.now) (omega arith) (found_weight c.args.name.now c.args.scope.now (c.in-Some.found.layer, c.in-Some.found.value.now) f) in
    let h : spent c.args.scope.now (c.args.levels - 1) + (4 * weight c.in-Some.found.value.now + 2) < t = omega (arith, w) in
    (h, tt)

pub read-returns-else-is_plain-clause-value : goal.read-returns-else-is_plain-clause-value
read-returns-else-is_plain-clause-value t c =
    let f : found c.args.name.now c.args.scope.now ≡ Some (c.in-Some.found.layer, c.in-Some.found.value.now) = sym c.in-Some.ensures in
    let true_so : has_templates c.in-Some.found.layer ≡ true = cc in
    let step = rendered_name c.args.scope.now c.args.levels c.args.name.now (c.in-Some.found.layer, c.in-Some.found.value.now) (omega arith) f true_so in
    made_value c.made.result c.rendered.result (names_in c.args.scope.now c.args.levels c.args.name.now) c.made.ensures (IfOk-weaker c.rendered.result _ _ (λ v h. step ∙ h) c.rendered.ensures.value)

pub read-returns-else-is_plain-clause-fault : goal.read-returns-else-is_plain-clause-fault
read-returns-else-is_plain-clause-fault t c =
    let f : found c.args.name.now c.args.scope.now ≡ Some (c.in-Some.found.layer, c.in-Some.found.value.now) = sym c.in-Some.ensures in
    let true_so : has_templates c.in-Some.found.layer ≡ true = cc in
    let step = rendered_name c.args.scope.now c.args.levels c.args.name.now (c.in-Some.found.layer, c.in-Some.found.value.now) (omega arith) f true_so in
    made_fault c.made.result c.rendered.result (names_in c.args.scope.now c.args.levels c.args.name.now) c.made.ensures (IfErr-weaker c.rendered.result _ _ (λ e h other. step ∙ h other) c.rendered.ensures.fault)

pub rendered_members-loop-key-init : goal.rendered_members-loop-key-init
rendered_members-loop-key-init t c =
    let names = names_in c.args.scope.now c.args.levels in
    let same : c.into_iter-key-iterator.result ≡ c.iter-key-items.result = cc (c.into_iter-key-iterator.ensures.into_iter_gives) in
    let all : c.args.stored.now ≡ named c.into_iter-key-iterator.result = sym c.iter-key-items.ensures.entries ∙ ap named (sym same) in
    let none : c.new-values.result ≡ [] = c.new-values.ensures in (
      [],
      all,
      subst (λ es. IsStrictlySortedBy string_cmp (keys_of es)) (sym same) c.iter-key-items.ensures.ordered,
      ap (λ (out : List (List ℕ × Datum)). map (λ (m : List ℕ × Datum). m.0) out) none,
      ap (λ (ms : List (List ℕ × Datum)). rendered_members names (members_of ms)) all
          ∙ sym (map_ok-none (rendered_members names (members_of (named c.into_iter-key-iterator.result))))
          ∙ ap (λ (out : List (List ℕ × Datum)). map_ok (λ xs. out ++ xs) (rendered_members names (members_of (named c.into_iter-key-iterator.result)))) (sym none),
    )

pub rendered-returns-then-is_plain-clause-value : goal.rendered-returns-then-is_plain-clause-value
rendered-returns-then-is_plain-clause-value t c =
    let plain : is_plain c.args.stored.now ≡ true = cc in
    IfOk-weaker c.copied.result _ _ (λ v h. plain_rendered (names_in c.args.scope.now c.args.levels) c.args.stored.now plain ∙ ap Ok (sym h)) c.copied.ensures.value

pub show-returns-in-Code-clause-value : goal.show-returns-in-Code-clause-value
show-returns-in-Code-clause-value t c =
    let names = names_in c.args.scope.now c.args.levels in
    rw c.in-Code.is (IfOk-weaker c.append.result _ _
    (λ u h. shown_value names c.in-Code.expr c.operand.result (string_bytes c.args.to.now) (string_bytes c.append.new.to) c.operand.ensures.value h) c.append.ensures.value)

pub show-returns-in-Code-clause-fault : goal.show-returns-in-Code-clause-fault
show-returns-in-Code-clause-fault t c =
    let names = names_in c.args.scope.now c.args.levels in
    rw c.in-Code.is (IfErr-weaker c.append.result _ _
    (λ e h other. shown_fault names c.in-Code.expr c.operand.result e c.operand.ensures.value c.operand.ensures.fault other (h other)) c.append.ensures.fault)

pub shown-loop-part-preserved : goal.shown-loop-part-preserved
shown-loop-part-preserved t c =
    let names = names_in c.args.scope.now c.args.levels in
    let parts = c.args.parts.now in
    let at = c.loop-part.part-index in
    let part = c.part-item.result in
    let cut : drop at parts ≡ part ∷ drop (at + 1) parts = drop_more parts at part c.loop-part-test.true ∙ ap (λ p. p ∷ drop (at + 1) parts) (sym c.part-item.is) in
    c.loop-part.invariant
    ∙ ap (λ ps. map_ok (λ s. string_bytes c.loop-part.text ++ s) (shown names ps)) cut
    ∙ shown_step (string_bytes c.loop-part.text) (string_bytes c.show.new.to) (text_in names part) (shown names (drop (at + 1) parts)) c.in_ok-show.ensures.value
