-- The rows of a batch that opens.
use Rattle.std.proofs.Common.{◌≡◌, ℕ, zero, suc, ◌<◌, ◌≤◌, Bool, true, false, ◌||◌, List, [], ◌∷◌, length, map, refl, ap, arith, cond}
use Rattle.std.specs.List.{list_any}
use Rattle.std.proofs.lemmas.List.Sums.{sum_by-cons, count_by-le-length}
use Rattle.pb_tree.specs.Tree.{TreeOf}
use Rattle.pb_hosts.specs.Batches.{play_host_count, joins, room_behind, joined_first}
use Rattle.pb_host.specs.Host.{HostOf, is_play_host, is_waiting, as_play_begins}

pub few_play_hosts : (hosts : List Bool) (rows : List HostOf) → play_host_count hosts rows ≤ length rows
few_play_hosts hosts rows = count_by-le-length (is_play_host hosts) rows

one_on : (b : Bool) → b ≡ true → suc zero ≡ cond b 1 0
one_on true e = refl
one_on false e = cc

pub some_play_host : (hosts : List Bool) (rows : List HostOf) → list_any (is_play_host hosts) rows ≡ true → 0 < play_host_count hosts rows
some_play_host hosts [] e = cc
some_play_host hosts (row ∷ rows) e = by_row (is_play_host hosts row) refl (λ f. some_play_host hosts rows f) e
  where
    by_row : (b : Bool) → is_play_host hosts row ≡ b → (list_any (is_play_host hosts) rows ≡ true → 0 < play_host_count hosts rows) → (b || list_any (is_play_host hosts) rows) ≡ true → 0 < play_host_count hosts (row ∷ rows)
    by_row true is rest f =
        let one = one_on (is_play_host hosts row) is in
        let on = sum_by-cons (λ (r : HostOf). cond (is_play_host hosts r) 1 0) row rows in
        omega (arith, one, on)
    by_row false is rest f =
        let more = rest f in
        let on = sum_by-cons (λ (r : HostOf). cond (is_play_host hosts r) 1 0) row rows in
        omega (arith, more, on)

-- the rows of a batch that opens: a row for each host
pub length-joined : (tree : TreeOf) (room : ℕ) (rows : List HostOf) → length (joined_first tree room rows) ≡ length rows
length-joined tree room [] = refl
length-joined tree room (row ∷ rows) = ap suc (length-joined tree (room_behind room row.awaits_batch) rows)

-- of whom those join that wait
pub joins_waits : (room : ℕ) (awaits_batch : Bool) → joins room awaits_batch ≡ true → awaits_batch ≡ true
joins_waits room true e = refl
joins_waits room false e = cc

pub waiting_called : (hosts : List Bool) (rows : List HostOf) → map is_waiting (map (as_play_begins hosts) rows) ≡ map (is_play_host hosts) rows
waiting_called hosts [] = refl
waiting_called hosts (row ∷ rows) = ap (λ (rest : List Bool). is_play_host hosts row ∷ rest) (waiting_called hosts rows)
