use Rattle.std.proofs.Common.{◌≡◌, List, Global, Vec, length, refl, sym, ap, subst, ◌∙◌}
use Rattle.pb_value.proofs.Stored.{Entry, few_named, few_ordered, many_named, kept_named, kept_whole, for_ok, seen_ok, seen_before, seen_stays, seen_absent, seen_err, kept_same}
use Rattle.pb_value.specs.Datum.{Datum, named}
use Rattle.pb_value.specs.Names.{kept}
use Rattle.pb_value.proofs.val.Dict.replace.Goals.{in-Few, in-Many, in-Named}
use Rattle.pb_value.proofs.val.Dict.replace.Goals as goal

pub put_in-requires : goal.put_in-requires
put_in-requires c = few_ordered c.self.inside.store c.in-Few.row c.in-Few.is c.self.invariant.0

pub returns-clause-ok : goal.returns-clause-ok
returns-clause-ok c =
    let same : c.make_way.new.self ≡ c.args.self.now = c.in_ok-make_way.ensures.same in
    elim c.match-self.branch [
      | in-Few w ↦ rw (w.result-is, w.self-inside-is)
          (seen_ok w.put_in.result w.in-Few.row.items w.put_in.new.row.items c.args.self.now c.args.name c.args.value (few_named c.self.inside.store w.in-Few.row c.make_way.new.self c.args.self.now w.in-Few.is c.self.view_is same) w.put_in.ensures.entries)
      | in-Many w ↦ rw (w.result-is, w.self-inside-is)
          (seen_ok w.plant.result w.in-Many.tree.entries w.plant.new.tree.entries c.args.self.now c.args.name c.args.value (many_named c.self.inside.store w.in-Many.tree c.make_way.new.self c.args.self.now w.in-Many.is c.self.view_is same) w.plant.ensures.entries)
      | in-Named w ↦
          let old : List Entry = kept w.in-Named.gone w.in-Named.names w.deref_mut.result.now.items in
          let new : List Entry = kept w.in-Named.gone w.in-Named.names w.put_kept.new.values.items in
          let seen : named old ≡ c.args.self.now =
          ap (λ (vs : Vec Datum Global). named (kept w.in-Named.gone w.in-Named.names vs.items)) w.deref_mut.ensures.value
          ∙ (kept_named c.self.inside.store w.in-Named.names w.in-Named.values w.in-Named.gone c.make_way.new.self w.in-Named.is c.self.view_is ∙ same) in
          rw (w.result-is, w.self-inside-is) (seen_ok w.put_kept.result old new c.args.self.now c.args.name c.args.value seen w.put_kept.ensures.entries)
    ]

pub returns-clause-before : goal.returns-clause-before
returns-clause-before c =
    let same : c.make_way.new.self ≡ c.args.self.now = c.in_ok-make_way.ensures.same in
    elim c.match-self.branch [
      | in-Few w ↦ rw w.result-is
          (seen_before w.put_in.result w.in-Few.row.items w.put_in.new.row.items c.args.self.now c.args.name c.args.value (few_named c.self.inside.store w.in-Few.row c.make_way.new.self c.args.self.now w.in-Few.is c.self.view_is same) w.put_in.ensures.before)
      | in-Many w ↦ rw w.result-is
          (seen_before w.plant.result w.in-Many.tree.entries w.plant.new.tree.entries c.args.self.now c.args.name c.args.value (many_named c.self.inside.store w.in-Many.tree c.make_way.new.self c.args.self.now w.in-Many.is c.self.view_is same) w.plant.ensures.before)
      | in-Named w ↦
          let old : List Entry = kept w.in-Named.gone w.in-Named.names w.deref_mut.result.now.items in
          let new : List Entry = kept w.in-Named.gone w.in-Named.names w.put_kept.new.values.items in
          let seen : named old ≡ c.args.self.now =
          ap (λ (vs : Vec Datum Global). named (kept w.in-Named.gone w.in-Named.names vs.items)) w.deref_mut.ensures.value
          ∙ (kept_named c.self.inside.store w.in-Named.names w.in-Named.values w.in-Named.gone c.make_way.new.self w.in-Named.is c.self.view_is ∙ same) in
          rw w.result-is (seen_before w.put_kept.result old new c.args.self.now c.args.name c.args.value seen w.put_kept.ensures.before)
    ]

pub returns-clause-stays : goal.returns-clause-stays
returns-clause-stays c =
    let same : c.make_way.new.self ≡ c.args.self.now = c.in_ok-make_way.ensures.same in
    elim c.match-self.branch [
      | in-Few w ↦ rw (w.result-is, w.self-inside-is)
          (seen_stays w.put_in.result w.in-Few.row.items w.put_in.new.row.items c.args.self.now c.args.name c.args.value (few_named c.self.inside.store w.in-Few.row c.make_way.new.self c.args.self.now w.in-Few.is c.self.view_is same) w.put_in.ensures.stays)
      | in-Many w ↦ rw (w.result-is, w.self-inside-is)
          (seen_stays w.plant.result w.in-Many.tree.entries w.plant.new.tree.entries c.args.self.now c.args.name c.args.value (many_named c.self.inside.store w.in-Many.tree c.make_way.new.self c.args.self.now w.in-Many.is c.self.view_is same) w.plant.ensures.stays)
      | in-Named w ↦
          let old : List Entry = kept w.in-Named.gone w.in-Named.names w.deref_mut.result.now.items in
          let new : List Entry = kept w.in-Named.gone w.in-Named.names w.put_kept.new.values.items in
          let seen : named old ≡ c.args.self.now =
          ap (λ (vs : Vec Datum Global). named (kept w.in-Named.gone w.in-Named.names vs.items)) w.deref_mut.ensures.value
          ∙ (kept_named c.self.inside.store w.in-Named.names w.in-Named.values w.in-Named.gone c.make_way.new.self w.in-Named.is c.self.view_is ∙ same) in
          rw (w.result-is, w.self-inside-is) (seen_stays w.put_kept.result old new c.args.self.now c.args.name c.args.value seen (for_ok w.put_kept.result w.put_kept.ensures.stays))
    ]

pub returns-clause-absent : goal.returns-clause-absent
returns-clause-absent c =
    let same : c.make_way.new.self ≡ c.args.self.now = c.in_ok-make_way.ensures.same in
    elim c.match-self.branch [
      | in-Few w ↦ rw w.result-is
          (seen_absent w.put_in.result w.in-Few.row.items w.put_in.new.row.items c.args.self.now c.args.name c.args.value (few_named c.self.inside.store w.in-Few.row c.make_way.new.self c.args.self.now w.in-Few.is c.self.view_is same) w.put_in.ensures.absent)
      | in-Many w ↦ rw w.result-is
          (seen_absent w.plant.result w.in-Many.tree.entries w.plant.new.tree.entries c.args.self.now c.args.name c.args.value (many_named c.self.inside.store w.in-Many.tree c.make_way.new.self c.args.self.now w.in-Many.is c.self.view_is same) w.plant.ensures.absent)
      | in-Named w ↦
          let old : List Entry = kept w.in-Named.gone w.in-Named.names w.deref_mut.result.now.items in
          let new : List Entry = kept w.in-Named.gone w.in-Named.names w.put_kept.new.values.items in
          let seen : named old ≡ c.args.self.now =
          ap (λ (vs : Vec Datum Global). named (kept w.in-Named.gone w.in-Named.names vs.items)) w.deref_mut.ensures.value
          ∙ (kept_named c.self.inside.store w.in-Named.names w.in-Named.values w.in-Named.gone c.make_way.new.self w.in-Named.is c.self.view_is ∙ same) in
          rw w.result-is (seen_absent w.put_kept.result old new c.args.self.now c.args.name c.args.value seen w.put_kept.ensures.absent)
    ]

pub returns-clause-err : goal.returns-clause-err
returns-clause-err c =
    let same : c.make_way.new.self ≡ c.args.self.now = c.in_ok-make_way.ensures.same in
    elim c.match-self.branch [
      | in-Few w ↦ rw (w.result-is, w.self-inside-is)
          (seen_err w.put_in.result w.in-Few.row.items w.put_in.new.row.items c.args.self.now c.args.name c.args.value (few_named c.self.inside.store w.in-Few.row c.make_way.new.self c.args.self.now w.in-Few.is c.self.view_is same) w.put_in.ensures.err)
      | in-Many w ↦ rw (w.result-is, w.self-inside-is)
          (seen_err w.plant.result w.in-Many.tree.entries w.plant.new.tree.entries c.args.self.now c.args.name c.args.value (many_named c.self.inside.store w.in-Many.tree c.make_way.new.self c.args.self.now w.in-Many.is c.self.view_is same) w.plant.ensures.err)
      | in-Named w ↦
          let old : List Entry = kept w.in-Named.gone w.in-Named.names w.deref_mut.result.now.items in
          let new : List Entry = kept w.in-Named.gone w.in-Named.names w.put_kept.new.values.items in
          let seen : named old ≡ c.args.self.now =
          ap (λ (vs : Vec Datum Global). named (kept w.in-Named.gone w.in-Named.names vs.items)) w.deref_mut.ensures.value
          ∙ (kept_named c.self.inside.store w.in-Named.names w.in-Named.values w.in-Named.gone c.make_way.new.self w.in-Named.is c.self.view_is ∙ same) in
          rw (w.result-is, w.self-inside-is) (seen_err w.put_kept.result old new c.args.self.now c.args.name c.args.value seen (kept_same w.put_kept.result w.in-Named.gone w.in-Named.names w.deref_mut.result.now w.put_kept.new.values w.put_kept.ensures.err))
    ]

pub invariant_of-self : goal.invariant_of-self
invariant_of-self c = elim c.match-self.branch [
  | in-Few w ↦ rw w.self-inside-is (w.put_in.ensures.ordered, refl)
  | in-Many w ↦ rw w.self-inside-is (w.plant.ensures.ordered, refl)
  | in-Named w ↦
      let whole = kept_whole c.self.inside.store w.in-Named.names w.in-Named.values w.in-Named.gone w.in-Named.is c.self.invariant.1 in
      let before = subst (λ (vs : Vec Datum Global). length vs.items ≡ length (kept w.in-Named.gone w.in-Named.names vs.items)) (sym w.deref_mut.ensures.value) whole in
      rw w.self-inside-is (w.put_kept.ensures.ordered, w.put_kept.ensures.all ∙ (before ∙ sym w.put_kept.ensures.stays))
]
