use Rattle.std.proofs.Common.{Bool, List, String, Global, string_bytes, string_cmp, nat_cmp, refl, sym, ap, subst, ◌∙◌, Vec}
use Rattle.std.specs.BTreeMap.{is_at}
use Rattle.std.specs.Cmp.Lexicographic.{slice_cmp}
use Rattle.std.specs.List.Sorted.{IsStrictlySortedBy}
use Rattle.std.specs.Map.{keys_of, remove_entry}
use Rattle.pb_value.proofs.Named.{named-remove_entry}
use Rattle.pb_value.proofs.Ordered.{cut_ordered}
use Rattle.pb_value.proofs.Stored.{many_ordered, kept_sorted}
use Rattle.pb_value.specs.Datum.{Datum, named}
use Rattle.pb_value.specs.Names.{kept}
use Rattle.pb_value.proofs.val.Dict.remove.Goals.{in-Few, in-Many, in-Named}
use Rattle.pb_value.proofs.val.Dict.remove.Goals as goal

pub returns : goal.returns
returns c =
    elim c.match-self.branch [
      | in-Few w ↦ rw (w.self-inside-is, ← c.self.view_is, w.in-Few.is) (ap named w.take_out.ensures.entries ∙ named-remove_entry c.args.name.now w.in-Few.row.items)
      | in-Many w ↦ rw (w.self-inside-is, ← c.self.view_is, w.in-Many.is) (ap named w.remove.ensures.entries ∙ named-remove_entry c.args.name.now w.in-Many.tree.entries)
      | in-Named w ↦ rw (w.self-inside-is, ← c.self.view_is, w.in-Named.is)
          (ap named w.strike.ensures.entries ∙ named-remove_entry c.args.name.now (kept w.in-Named.gone w.in-Named.names w.deref_mut.result.now.items)
          ∙ ap (λ (vs : Vec Datum Global). remove_entry (is_at (slice_cmp nat_cmp c.args.name.now)) (named (kept w.in-Named.gone w.in-Named.names vs.items))) w.deref_mut.ensures.value)
    ]

pub invariant_of-self : goal.invariant_of-self
invariant_of-self c =
    let test : String Global → Bool = is_at (λ (k : String Global). slice_cmp nat_cmp c.args.name.now (string_bytes k)) in
    elim c.match-self.branch [
      | in-Few w ↦ rw w.self-inside-is (w.take_out.ensures.ordered, refl)
      | in-Many w ↦ rw w.self-inside-is (
        subst (λ (es : List (String Global × Datum)). IsStrictlySortedBy string_cmp (keys_of es)) (sym w.remove.ensures.entries)
            (cut_ordered test w.in-Many.tree.entries (many_ordered c.self.inside.store w.in-Many.tree w.in-Many.is c.self.invariant.0)),
        refl,
      )
      | in-Named w ↦ rw w.self-inside-is (
        subst (λ (es : List (String Global × Datum)). IsStrictlySortedBy string_cmp (keys_of es)) (sym w.strike.ensures.entries)
            (cut_ordered test (kept w.in-Named.gone w.in-Named.names w.deref_mut.result.now.items)
            (subst (λ (vs : Vec Datum Global). IsStrictlySortedBy string_cmp (keys_of (kept w.in-Named.gone w.in-Named.names vs.items))) (sym w.deref_mut.ensures.value)
            (kept_sorted c.self.inside.store w.in-Named.names w.in-Named.values w.in-Named.gone w.in-Named.is c.self.invariant.0))),
        w.strike.ensures.all,
      )
    ]
