-- The hosts with a count, from one host on.
use Rattle.std.proofs.Common.{◌≡◌, ℕ, zero, suc, ◌+◌, List, [], ◌∷◌, ◌++◌, drop, length, refl, sym, ap, ◌∙◌, append_assoc, add-one}
use Rattle.std.specs.Prelude.{Some, slice_get}
use Rattle.serde_json.specs.Data.{Members, put}
use Rattle.pb_host.specs.declared.host.Counts.{Counts}
use Rattle.pb_recap.specs.Hosts.{hosts_with_count, host_if_counted}
use Rattle.pb_recap.specs.Text.{host_line, host_lines}
use Rattle.pb_recap.specs.Stats.{with_hosts, counts_data}

hosts_none : (names : List (List ℕ)) → hosts_with_count names [] ≡ []
hosts_none [] = refl
hosts_none (name ∷ names) = refl

none_from : (i : ℕ) → drop {A = Counts} i [] ≡ []
none_from zero = refl
none_from (suc i) = refl

hosts_step : (names : List (List ℕ)) (all : List Counts) (i : ℕ) (name : List ℕ) → slice_get names i ≡ Some name
    → hosts_with_count (drop i names) (drop i all) ≡ host_if_counted name (slice_get all i) ++ hosts_with_count (drop (suc i) names) (drop (suc i) all)
hosts_step [] all i name e = cc
hosts_step (n ∷ names) [] zero name e = sym (hosts_none names)
hosts_step (n ∷ names) [] (suc i) name e = hosts_none (drop i names) ∙ sym (hosts_none (drop (suc i) names))
hosts_step (n ∷ names) (counts ∷ all) zero name e = let same : n ≡ name = cc in rw same refl
hosts_step (n ∷ names) (counts ∷ all) (suc i) name e = hosts_step names all i name e

lines_append : (hosts more : List (List ℕ × Counts)) → host_lines (hosts ++ more) ≡ host_lines hosts ++ host_lines more
lines_append [] more = refl
lines_append (host ∷ hosts) more = ap (λ rest. host_line host.0 host.1 ++ rest) (lines_append hosts more) ∙ sym (append_assoc (host_line host.0 host.1) (host_lines hosts) (host_lines more))

with_append : (members : Members) (hosts more : List (List ℕ × Counts)) → with_hosts members (hosts ++ more) ≡ with_hosts (with_hosts members hosts) more
with_append ms [] more = refl
with_append ms (host ∷ hosts) more = with_append (put host.0 (counts_data host.1) ms) hosts more

pub lines_after : (names : List (List ℕ)) (all : List Counts) (i : ℕ) (name before : List ℕ) → slice_get names i ≡ Some name
    → (before ++ host_lines (host_if_counted name (slice_get all i))) ++ host_lines (hosts_with_count (drop (i + 1) names) (drop (i + 1) all))
    ≡ before ++ host_lines (hosts_with_count (drop i names) (drop i all))
lines_after names all i name before e =
    rw (add-one, hosts_step names all i name e)
    (append_assoc before _ _ ∙ ap (λ rest. before ++ rest) (sym (lines_append (host_if_counted name (slice_get all i)) (hosts_with_count (drop (suc i) names) (drop (suc i) all)))))

pub with_after : (names : List (List ℕ)) (all : List Counts) (i : ℕ) (name : List ℕ) (members : Members) → slice_get names i ≡ Some name
    → with_hosts (with_hosts members (host_if_counted name (slice_get all i))) (hosts_with_count (drop (i + 1) names) (drop (i + 1) all))
    ≡ with_hosts members (hosts_with_count (drop i names) (drop i all))
with_after names all i name members e =
    rw (add-one, hosts_step names all i name e) (sym (with_append members (host_if_counted name (slice_get all i)) (hosts_with_count (drop (suc i) names) (drop (suc i) all))))

-- past the last name there is no host
pub hosts_past : (names : List (List ℕ)) (all : List Counts) → hosts_with_count (drop (length names) names) (drop (length names) all) ≡ []
hosts_past [] all = refl
hosts_past (name ∷ names) [] = hosts_none (drop (length names) names)
hosts_past (name ∷ names) (counts ∷ all) = hosts_past names all
