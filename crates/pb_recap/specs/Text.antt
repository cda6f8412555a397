-- The text of the recap: a heading, and a line for each host that has a count. A host's name is printed as it is.
use Rattle.std.specs.Prelude.{ℕ, List, [], ◌∷◌, ◌++◌, codes, decimal}
use Rattle.pb_host.specs.declared.host.Counts.{Counts}
use Rattle.pb_recap.specs.Hosts.{hosts_with_count}

-- a label, and a count behind it in decimal digits
abbrev pub shown : List ℕ → ℕ → List ℕ
shown label count = label ++ decimal count

-- the line of a host: its name, and all of its counts, also those that are 0
abbrev pub host_line : List ℕ → Counts → List ℕ
host_line name counts =
    name ++ shown (codes " : ok=") counts.ok ++ shown (codes " changed=") counts.changed ++ shown (codes " unreachable=") counts.unreachable
    ++ shown (codes " failed=") counts.failed ++ shown (codes " skipped=") counts.skipped ++ shown (codes " rescued=") counts.rescued
    ++ shown (codes " ignored=") counts.ignored ++ codes "\n"

abbrev pub host_lines : List (List ℕ × Counts) → List ℕ
host_lines [] = []
host_lines (host ∷ hosts) = host_line host.0 host.1 ++ host_lines hosts

-- the whole text; names and counts stand in host order
abbrev pub recap_text : List (List ℕ) → List Counts → List ℕ
recap_text names all = codes "PLAY RECAP\n" ++ host_lines (hosts_with_count names all)
