-- What hosts learn of what they are given: it is made before a row changes, so that memory that is refused changes nothing, and once for each host.
use Rattle.std.specs.Prelude.{◌≡◌, ◌≢◌, ⊤, ℕ, ◌==◌, Bool, List, [], ◌∷◌, IfSome, slice_get, slice_set}
use Rattle.pb_facts.specs.Facts.{FactsOf, with_given}
use Rattle.pb_facts.specs.Update.{applied}
use Rattle.pb_facts.specs.declared.update.FactsUpdate.{FactsUpdate}
use Rattle.pb_host.specs.FromTaskVars.{DelegatedFacts}
use Rattle.pb_host.specs.Host.{HostOf}
use Rattle.pb_hosts.specs.declared.turned.HostUpdate.{HostUpdate}
use Rattle.pb_hosts.specs.Applied.{with_update}
use Rattle.pb_hosts.specs.Giving.{takes}
use Rattle.pb_hosts.specs.Hosts.{change}

-- what a host learns by a gift
abbrev pub IsGift : DelegatedFacts → HostUpdate → Type 0
IsGift gift given = (given.host.0 ≡ gift.host.0) × ((facts : FactsOf) → applied given.update facts ≡ with_given gift.gives gift.facts facts)

-- for this host
abbrev pub is_for : ℕ → HostUpdate → Bool
is_for host one = one.host.0 == host

-- none of these is for this host
abbrev pub AreApartFrom : ℕ → List HostUpdate → Type 0
AreApartFrom host [] = ⊤
AreApartFrom host (one ∷ all) = (one.host.0 ≢ host) × AreApartFrom host all

-- each of these is for another host
abbrev pub AreOnce : List HostUpdate → Type 0
AreOnce [] = ⊤
AreOnce (one ∷ all) = AreApartFrom one.host.0 all × AreOnce all

-- the one at this place has become another for the same host, which learns this, too, behind what it learnt by the one that stood there
abbrev pub IsJoinedTo : FactsUpdate → ℕ → List HostUpdate → List HostUpdate → HostUpdate → Type 0
IsJoinedTo next at old new one =
    (both : HostUpdate) × (new ≡ slice_set old at both) × (both.host.0 ≡ one.host.0) × ((facts : FactsOf) → applied both.update facts ≡ applied next (applied one.update facts))

-- where there is one at this place; of a number past the end nothing is said
abbrev pub IsJoinedAt : FactsUpdate → ℕ → List HostUpdate → List HostUpdate → Type 0
IsJoinedAt next at old new = IfSome (slice_get old at) (IsJoinedTo next at old new)

-- one gift more: the rows come to what they were to come to, and then this is given
abbrev pub IsTaken : DelegatedFacts → List HostUpdate → List HostUpdate → Type 0
IsTaken gift old new = AreOnce new × ((rows : List HostOf) → with_update new rows ≡ change (with_update old rows) gift.host.0 (takes gift))
