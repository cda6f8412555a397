-- The facts of each host, by its number.
use Rattle.std.specs.Prelude.{ℕ, List, Option, Some, None, slice_set, slice_index_or}
use Rattle.pb_value.specs.Datum.{Datum, value_at}
use Rattle.pb_facts.specs.Facts.{FactsOf, no_facts, with_registered}

-- what a host has learnt
abbrev pub row_of : List FactsOf → ℕ → FactsOf
row_of book host = slice_index_or book host no_facts

-- a host's facts are changed, and no other's
abbrev pub changed_at : List FactsOf → ℕ → (FactsOf → FactsOf) → List FactsOf
changed_at book host change = slice_set book host (change (row_of book host))

-- what stands under a name of one host is registered for another, if anything does
abbrev pub shared_value : List ℕ → Option Datum → FactsOf → FactsOf
shared_value name None facts = facts
shared_value name (Some value) facts = with_registered (Some name) value facts

-- what was set or registered under a name for the first is registered for the second, if anything was; gathered facts are not
abbrev pub shared : List ℕ → FactsOf → FactsOf → FactsOf
shared name from to = shared_value name (value_at name from.set) to
