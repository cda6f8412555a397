use Rattle.std.proofs.Common.{◌≡◌, List, [], ◌∷◌, ◌++◌, length, String, Global, string_cmp, sym, ap, subst, ◌∙◌, append_assoc}
use Rattle.std.specs.List.Sorted.{IsStrictlySortedBy}
use Rattle.std.specs.Map.{keys_of}
use Rattle.pb_value.proofs.KeptNames.{ordered_as, length-spelled, length-keys, spelled_next, nothing_left}
use Rattle.pb_value.specs.Datum.{Datum, named}
use Rattle.pb_value.specs.Names.{spelled}
use Rattle.pb_value.proofs.names.copied_names.Goals as goal

abbrev Entry : Type 0
Entry = String Global × Datum

pub loop-name-preserved : goal.loop-name-preserved
loop-name-preserved c =
    let l = c.loop-name in
    let done = l.invariant.0 in
    let e : Entry = (c.in-Some.name.now, c.in-Some._value.now) in
    let left = c.next.new.self in
    let step : done ++ l.name-iterator ≡ (done ++ e ∷ []) ++ left = ap (λ es. done ++ es) c.in-Some.ensures.steps ∙ sym (append_assoc done (e ∷ []) left) in (
      done ++ e ∷ [],
      l.invariant.1 ∙ ap named step,
      subst (λ (es : List Entry). IsStrictlySortedBy string_cmp (keys_of es)) step l.invariant.2,
      ap spelled c.in_ok-push.ensures.items ∙ spelled_next l.names.items c.in_ok-clone.field-0 done e l.invariant.3 c.in_ok-clone.ensures.cases,
    )

pub returns-clause-ordered : goal.returns-clause-ordered
returns-clause-ordered c =
    let l = c.loop-name in
    let all : l.invariant.0 ++ l.name-iterator ≡ l.invariant.0 = nothing_left l.invariant.0 l.name-iterator c.in-None.ensures.steps.0 in
    ordered_as l.names.items l.invariant.0 l.invariant.3 (subst (λ (es : List Entry). IsStrictlySortedBy string_cmp (keys_of es)) all l.invariant.2)

pub returns-clause-few : goal.returns-clause-few
returns-clause-few c =
    let l = c.loop-name in
    let all : l.invariant.0 ++ l.name-iterator ≡ l.invariant.0 = nothing_left l.invariant.0 l.name-iterator c.in-None.ensures.steps.0 in
    sym (length-spelled l.names.items) ∙ (ap length l.invariant.3 ∙ (length-keys (named l.invariant.0) ∙ ap length (sym (l.invariant.1 ∙ ap named all))))
