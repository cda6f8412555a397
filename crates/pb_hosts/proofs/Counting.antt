-- Whether some host runs, by the count of those that stand where they run.
use Rattle.std.proofs.Common.{◌≡◌, ◌≢◌, not, ℕ, ◌+◌, Bool, true, false, List, [], ◌∷◌, map, refl, ap, arith, cond, ne_eqb}
use Rattle.std.specs.Prelude.{Option, Some, None, is_some, option_map, nat_eq, count_by}
use Rattle.std.specs.List.{list_any}
use Rattle.std.proofs.lemmas.List.Sums.{sum_by-cons}
use Rattle.pb_strategies.specs.Hosts.{runs_in}
use Rattle.pb_host.specs.declared.host.Running.{Running}
use Rattle.pb_host.specs.Host.{HostOf}
use Rattle.pb_host.specs.Runs.{is_running}
use Rattle.pb_host.specs.Standing.{standing}
use Rattle.pb_hosts.specs.Hosts.{one_if}

one_is : (b : Bool) → one_if b ≡ cond b 1 0
one_is true = refl
one_is false = refl

abbrev place_of : Option Running → Option ℕ
place_of run = option_map (λ (r : Running). r.place) run

runs_somewhere : (run : Option Running) → is_some (place_of run) ≡ is_some run
runs_somewhere None = refl
runs_somewhere (Some r) = refl

count_on : (row : HostOf) (rows : List HostOf) → count_by is_some (runs_in (map standing (row ∷ rows))) ≡ one_if (is_running row) + count_by is_some (runs_in (map standing rows))
count_on row rows =
    let one = one_is (is_some (place_of row.running)) in
    let same = ap one_if (runs_somewhere row.running) in
    let on = sum_by-cons (λ (r : Option ℕ). cond (is_some r) 1 0) (place_of row.running) (runs_in (map standing rows)) in
    omega (arith, one, same, on)

-- some host runs where they are not none
pub some_runs : (rows : List HostOf) (n : ℕ) → n ≡ count_by is_some (runs_in (map standing rows)) → not (nat_eq n 0) ≡ list_any is_running rows
some_runs [] n k = rw k refl
some_runs (row ∷ rows) n k = by_row (is_running row) refl (λ m f. some_runs rows m f)
  where
    by_row : (b : Bool) → is_running row ≡ b → ((m : ℕ) → m ≡ count_by is_some (runs_in (map standing rows)) → not (nat_eq m 0) ≡ list_any is_running rows) → not (nat_eq n 0) ≡ list_any is_running (row ∷ rows)
    by_row true e rest =
        let some : n ≢ 0 = let one = ap one_if e in let on = count_on row rows in omega (arith, one, on, k) in
        rw e (ap not (ne_eqb n 0 some))
    by_row false e rest = rw e (rest n (let none = ap one_if e in let on = count_on row rows in omega (arith, none, on, k)))
