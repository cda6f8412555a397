-- What hosts learn one after another, and what was before is what is put back.
use Rattle.std.proofs.Common.{◌≡◌, ℕ, List, [], ◌∷◌, ◌++◌, length, refl, sym, ◌∙◌, ap, subst, arith}
use Rattle.std.specs.Prelude.{Option, Some, None, IfSome, option_to_list, slice_get, slice_set}
use Rattle.std.specs.Option.{option_map_or}
use Rattle.pb_ids.specs.declared.numbers.HostNo.{HostNo}
use Rattle.pb_facts.specs.Book.{row_of}
use Rattle.pb_facts.specs.Facts.{FactsOf, no_facts}
use Rattle.pb_facts.specs.Update.{IsBetween, IsUndo}
use Rattle.pb_facts.specs.declared.update.FactsUpdate.{FactsUpdate}
use Rattle.pb_facts.specs.declared.update.FactsUndo.{FactsUndo}
use Rattle.pb_facts.specs.declared.update.FactsUndo.TheVariants.{Nothing as NoUndo}
use Rattle.pb_host.specs.Host.{HostOf, knows}
use Rattle.pb_host.specs.Turned.{applies}
use Rattle.pb_hosts.specs.declared.turned.HostUpdate.{HostUpdate}
use Rattle.pb_hosts.specs.Hosts.{change}
use Rattle.pb_hosts.specs.Applied.{AppliedAt, LeadsTo, learnt_in, with_update}
use Rattle.pb_hosts.proofs.InTurn.{get_set, learnt_there}
use Rattle.pb_hosts.proofs.Reported.{put_back, nobody}

-- ---- one host
set_back : (update : FactsUpdate) (row after : HostOf) → after ≡ applies update row → knows row.facts after ≡ row
set_back update row after a = ap (knows row.facts) a

pub applied_some : (update : FactsUpdate) (rows new : List HostOf) (h : ℕ) (row after : HostOf) (past : FactsUndo) → slice_get rows h ≡ Some row → new ≡ slice_set rows h after → after ≡ applies update row → IsUndo past row.facts after.facts → IsBetween past row.facts after.facts
    → AppliedAt h past rows new
applied_some update rows new h row after past at n a is between =
    let there : slice_get new h ≡ Some after = ap (λ (all : List HostOf). slice_get all h) n ∙ get_set rows h row after at in (
      row.facts,
      subst (λ (o : Option HostOf). IfSome o (λ (r : HostOf). IsUndo past row.facts r.facts)) (sym there) is,
      sym (ap (λ (all : List HostOf). change all h (knows row.facts)) n ∙ put_back rows h row after (knows row.facts) at (set_back update row after a)),
      subst (λ (was : FactsOf). IsBetween past was (row_of (learnt_in new) h)) (sym (learnt_there rows h row at))
          (subst (λ (now : FactsOf). IsBetween past row.facts now) (sym (learnt_there new h after there)) between),
    )

pub applied_none : (rows new : List HostOf) (h : ℕ) → slice_get rows h ≡ None → new ≡ rows → AppliedAt h NoUndo rows new
applied_none rows new h at n =
    let nowhere : slice_get new h ≡ None = ap (λ (all : List HostOf). slice_get all h) n ∙ at in (
      no_facts,
      subst (λ (o : Option HostOf). IfSome o (λ (r : HostOf). IsUndo NoUndo no_facts r.facts)) (sym nowhere) tt,
      sym n ∙ sym (nobody new h (knows no_facts) nowhere),
      sym (ap (λ (all : List HostOf). row_of (learnt_in all) h) n),
    )

pub back_some : (rows new : List HostOf) (h : ℕ) (row after : HostOf) (past : FactsUndo) → slice_get rows h ≡ Some row → new ≡ slice_set rows h after → ((facts : FactsOf) → IsUndo past facts row.facts → after ≡ knows facts row) → (was : List HostOf)
    → AppliedAt h past was rows → new ≡ was
back_some rows new h row after past at n back was applied =
    n
    ∙ ap (slice_set rows h) (back applied.0 (subst (λ (o : Option HostOf). IfSome o (λ (r : HostOf). IsUndo past applied.0 r.facts)) at applied.1))
    ∙ sym (applied.2 ∙ ap (λ (o : Option HostOf). option_map_or (λ (r : HostOf). slice_set rows h (knows applied.0 r)) o rows) at)

pub back_none : (rows new : List HostOf) (h : ℕ) (past : FactsUndo) → slice_get rows h ≡ None → new ≡ rows → (was : List HostOf) → AppliedAt h past was rows → new ≡ was
back_none rows new h past at n was applied = n ∙ sym (applied.2 ∙ nobody rows h (knows applied.0) at)

-- ---- the log
leads_more : (log : List (HostNo × FactsUndo)) (before : HostNo × FactsUndo) (was mid now : List HostOf) → LeadsTo log was mid → AppliedAt before.0.0 before.1 mid now → LeadsTo (log ++ before ∷ []) was now
leads_more [] before was mid now l s = (now, subst (λ (rows : List HostOf). AppliedAt before.0.0 before.1 rows now) (sym l) s, refl)
leads_more (b ∷ log) before was mid now l s = (l.0, l.1, leads_more log before l.0 mid now l.2 s)

leads_less : (log : List (HostNo × FactsUndo)) (before : HostNo × FactsUndo) (was now new : List HostOf) → LeadsTo (log ++ before ∷ []) was now → ((mid : List HostOf) → AppliedAt before.0.0 before.1 mid now → new ≡ mid) → LeadsTo log was new
leads_less [] before was now new l back = sym (back was (subst (λ (rows : List HostOf). AppliedAt before.0.0 before.1 was rows) l.2 l.1))
leads_less (b ∷ log) before was now new l back = (l.0, l.1, leads_less log before l.0 now new l.2 back)

-- a host learnt something, and what was before was put down
pub leads_on : (old new : List (HostNo × FactsUndo)) (before : HostNo × FactsUndo) (rows now : List HostOf) → new ≡ old ++ before ∷ [] → AppliedAt before.0.0 before.1 rows now → (was : List HostOf) → LeadsTo old was rows → LeadsTo new was now
leads_on old new before rows now n s was l = subst (λ (log : List (HostNo × FactsUndo)). LeadsTo log was now) (sym n) (leads_more old before was rows now l s)

-- the last of them is as it was before
pub leads_back : (found : Option (HostNo × FactsUndo)) (last : HostNo × FactsUndo) (all left : List (HostNo × FactsUndo)) (rows new : List HostOf) → all ≡ left ++ option_to_list found → found ≡ Some last
    → ((was : List HostOf) → AppliedAt last.0.0 last.1 was rows → new ≡ was) → (was : List HostOf) → LeadsTo all was rows → LeadsTo left was new
leads_back found last all left rows new a f back was l =
    let pushed : all ≡ left ++ last ∷ [] = a ∙ ap (λ (o : Option (HostNo × FactsUndo)). left ++ option_to_list o) f in
    leads_less left last was rows new (subst (λ (log : List (HostNo × FactsUndo)). LeadsTo log was rows) pushed l) back

pub leads_end : (left : List (HostNo × FactsUndo)) (was rows : List HostOf) → length left ≡ 0 → LeadsTo left was rows → rows ≡ was
leads_end [] was rows e l = sym l
leads_end (x ∷ left) was rows e l = absurd (omega (arith, e))

-- nobody learnt anything, and nothing was put down
pub leads_same : (old new : List (HostNo × FactsUndo)) (rows now : List HostOf) → new ≡ old → now ≡ rows → (was : List HostOf) → LeadsTo old was rows → LeadsTo new was now
leads_same old new rows now n s was l = subst (λ (log : List (HostNo × FactsUndo)). LeadsTo log was now) (sym n) (subst (λ (all : List HostOf). LeadsTo old was all) (sym s) l)

-- what was learnt since an empty log came to this
pub leads_first : (first log : List (HostNo × FactsUndo)) (rows now : List HostOf) → first ≡ [] → ((was : List HostOf) → LeadsTo first was rows → LeadsTo log was now) → LeadsTo log rows now
leads_first first log rows now e came = came rows (subst (λ (all : List (HostNo × FactsUndo)). LeadsTo all rows rows) (sym e) refl)

-- one host of those that learn something
pub update_step : (all rest : List HostUpdate) (applied : HostUpdate) (rows now whole : List HostOf) → all ≡ applied ∷ rest → now ≡ change rows applied.host.0 (applies applied.update) → with_update all rows ≡ whole
    → with_update rest now ≡ whole
update_step all rest applied rows now whole a n w = ap (with_update rest) n ∙ subst (λ (ns : List HostUpdate). with_update ns rows ≡ whole) a w

-- or one host more behind them
pub update_more : (all : List HostUpdate) (n : HostUpdate) (rows : List HostOf) → with_update (all ++ n ∷ []) rows ≡ change (with_update all rows) n.host.0 (applies n.update)
update_more [] n rows = refl
update_more (m ∷ all) n rows = update_more all n (change rows m.host.0 (applies m.update))
