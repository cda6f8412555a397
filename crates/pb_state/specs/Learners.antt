-- The hosts that learnt something, one after another, as a log tells; and how `hostvars` follows them where each did so once.
use Rattle.std.specs.Prelude.{◌≡◌, ℕ, ◌==◌, nat_lt, Bool, true, false, not, ◌&&◌, List, [], ◌∷◌, Option, Some, None, refl}
use Rattle.std.specs.List.{list_any}
use Rattle.pb_ids.specs.declared.numbers.HostNo.{HostNo}
use Rattle.pb_facts.specs.Facts.{FactsOf}
use Rattle.pb_facts.specs.declared.update.FactsUndo.{FactsUndo}
use Rattle.pb_facts.specs.declared.update.FactsUndo.TheVariants.{Nothing as NoUndo}
use Rattle.pb_value.specs.Datum.{Datum}
use Rattle.pb_inventory.specs.InventoryOf.{InventoryOf}
use Rattle.pb_variables.specs.Magic.{hostvars, hosts_magic}
use Rattle.pb_hosts.specs.Applied.{LearnInTurn}

-- an entry of the log is of the host with this number
abbrev pub has_number : ℕ → HostNo × FactsUndo → Bool
has_number number one = one.0.0 == number

-- whether a host is among those that learnt something
abbrev pub is_among : List (HostNo × FactsUndo) → ℕ → Bool
is_among log number = list_any (has_number number) log

-- none of the hosts is among those behind it
abbrev pub each_once : List (HostNo × FactsUndo) → Bool
each_once [] = true
each_once (one ∷ log) = not (is_among log one.0.0) && each_once log

-- the numbers of hosts rise, each over that of the last one: then each stands there once
abbrev pub is_higher : Option HostNo → HostNo → Bool
is_higher None host = true
is_higher (Some last) host = nat_lt last.0 host.0

-- the numbers of the hosts in a log rise, the first over that of the last host before it, if there was one
abbrev pub rises : Option HostNo → List (HostNo × FactsUndo) → Bool
rises last [] = true
rises last (one ∷ log) = is_higher last one.0 && rises (Some one.0) log

-- the magic variable `hostvars`, old and new, where hosts have learnt this now, one after another
abbrev pub IsRenewedInTurn : InventoryOf → List (List ℕ × Datum) → List (HostNo × FactsUndo) → List FactsOf → List (List ℕ × Datum) → List (List ℕ × Datum) → Type 0
IsRenewedInTurn inventory extra log now old new =
    (before : List FactsOf) → LearnInTurn log before now → old ≡ hosts_magic (hostvars inventory extra before) → new ≡ hosts_magic (hostvars inventory extra now)

-- ---- rows
abbrev pub learner : ℕ → HostNo × FactsUndo
learner host = (record { 0 = host }, NoUndo)

-- numbers rise where each is over the one before it
they_rise : rises None (learner 1 ∷ learner 3 ∷ learner 4 ∷ []) ≡ true
they_rise = refl

one_twice : rises None (learner 1 ∷ learner 3 ∷ learner 3 ∷ []) ≡ false
one_twice = refl

-- in whatever order hosts stand there, each may do so once
in_any_order : each_once (learner 3 ∷ learner 1 ∷ learner 4 ∷ []) ≡ true
in_any_order = refl

not_twice : each_once (learner 3 ∷ learner 1 ∷ learner 3 ∷ []) ≡ false
not_twice = refl
