-- Hosts learn something, one after another; and what was before, so that it can be put back, and tells what lies between.
use Rattle.std.specs.Prelude.{◌≡◌, ◌≢◌, ℕ, List, [], ◌∷◌, ◌++◌, map, IfSome, slice_get}
use Rattle.pb_ids.specs.declared.numbers.HostNo.{HostNo}
use Rattle.pb_facts.specs.Book.{row_of}
use Rattle.pb_facts.specs.Facts.{FactsOf}
use Rattle.pb_facts.specs.Update.{IsUndo, IsBetween}
use Rattle.pb_facts.specs.declared.update.FactsUndo.{FactsUndo}
use Rattle.pb_host.specs.Host.{HostOf, knows}
use Rattle.pb_host.specs.Turned.{applies}
use Rattle.pb_hosts.specs.declared.turned.HostUpdate.{HostUpdate}
use Rattle.pb_hosts.specs.Hosts.{change}

-- the rows once hosts have learnt this, one after another
abbrev pub with_update : List HostUpdate → List HostOf → List HostOf
with_update [] rows = rows
with_update (n ∷ all) rows = with_update all (change rows n.host.0 (applies n.update))

-- what the hosts of these rows have learnt
abbrev pub learnt_in : List HostOf → List FactsOf
learnt_in rows = map (λ (row : HostOf). row.facts) rows

-- a host learnt something, before which this was, and which tells what lies between; a number that is no host's changes nothing
abbrev pub AppliedAt : ℕ → FactsUndo → List HostOf → List HostOf → Type 0
AppliedAt h past was now =
    (facts : FactsOf) × IfSome (slice_get now h) (λ (row : HostOf). IsUndo past facts row.facts) × (was ≡ change now h (knows facts)) × IsBetween past (row_of (learnt_in was) h) (row_of (learnt_in now) h)

-- rows became others as these hosts learnt something, in order
abbrev pub LeadsTo : List (HostNo × FactsUndo) → List HostOf → List HostOf → Type 0
LeadsTo [] was now = was ≡ now
LeadsTo (before ∷ log) was now = (mid : List HostOf) × AppliedAt before.0.0 before.1 was mid × LeadsTo log mid now

-- of what hosts have learnt, by their numbers, this one's alone became another, and this lies between
abbrev pub LearnsOne : ℕ → FactsUndo → List FactsOf → List FactsOf → Type 0
LearnsOne h past before now = ((other : ℕ) → other ≢ h → row_of now other ≡ row_of before other) × IsBetween past (row_of before h) (row_of now h)

-- these hosts learnt something, one after another, and no other did
abbrev pub LearnInTurn : List (HostNo × FactsUndo) → List FactsOf → List FactsOf → Type 0
LearnInTurn [] before now = before ≡ now
LearnInTurn (one ∷ log) before now = (mid : List FactsOf) × LearnsOne one.0.0 one.1 before mid × LearnInTurn log mid now

-- this host learnt something, which is put down behind what stands in the log
abbrev pub LearnsLast : HostNo → List (HostNo × FactsUndo) → List (HostNo × FactsUndo) → List FactsOf → List FactsOf → Type 0
LearnsLast host old new before now = (past : FactsUndo) × LearnsOne host.0 past before now × (new ≡ old ++ (host, past) ∷ [])
