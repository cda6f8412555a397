-- The names of results that are decided as a task starts, in byte order.
use Rattle.std.specs.Prelude.{ℕ, List, [], ◌∷◌, codes}

-- of one that says something
abbrev pub said_names : List (List ℕ)
said_names = codes "changed" ∷ codes "failed" ∷ codes "msg" ∷ []

-- of one that gives facts
abbrev pub facts_names : List (List ℕ)
facts_names = codes "ansible_facts" ∷ codes "changed" ∷ codes "failed" ∷ []

-- of an item that is left out
abbrev pub skipped_names : List (List ℕ)
skipped_names = codes "changed" ∷ codes "failed" ∷ codes "skip_reason" ∷ codes "skipped" ∷ []
