-- The sizes of a play's batches (Ansible's documentation, "Controlling playbook execution: strategies and more", "Setting the batch size with serial").
use Rattle.std.specs.Prelude.{ℕ, zero, suc, pos, negsuc, ◌-◌, ◌*◌, ◌/◌, max, min, List, [], ◌∷◌}
use Rattle.pb_batches.specs.declared.serial.Entry.{Entry}
use Rattle.pb_batches.specs.declared.serial.Entry.TheVariants.{Number, Percent}

-- how many of a play's n hosts an entry asks for: a number of 0 or less for all that are left, a percentage for one at least
abbrev pub asked : ℕ → ℕ → Entry → ℕ
asked n left (Number (pos zero)) = left
asked n left (Number (pos (suc k))) = suc k
asked n left (Number (negsuc k)) = left
asked n left (Percent q) = max 1 (n * q / 100)

-- how many hosts the next batch of a play of n hosts has: all that are left where there is no entry, and never more than these
abbrev pub first_size : ℕ → ℕ → List Entry → ℕ
first_size n left [] = left
first_size n left (entry ∷ entries) = min left (asked n left entry)

-- the last entry repeats
abbrev pub entries_behind : List Entry → List Entry
entries_behind [] = []
entries_behind (entry ∷ []) = entry ∷ []
entries_behind (entry ∷ next ∷ entries) = next ∷ entries

-- so many batches at most, as long as hosts are left
abbrev pub sizes_from : ℕ → ℕ → ℕ → List Entry → List ℕ
sizes_from zero n left entries = []
sizes_from (suc most) n zero entries = []
sizes_from (suc most) n (suc left) entries =
    first_size n (suc left) entries ∷ sizes_from most n (suc left - first_size n (suc left) entries) (entries_behind entries)

-- the sizes of the batches of n hosts: as many batches are enough, since none is empty
abbrev pub batch_sizes : List Entry → ℕ → List ℕ
batch_sizes entries n = sizes_from n n n entries
