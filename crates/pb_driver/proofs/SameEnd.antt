-- Whether two runs of one plan ended in the same.
use Rattle.std.proofs.Common.{◌≡◌, ◌<◌, ◌⊎◌, inl, inr, ℕ, zero, suc, ◌+◌, List, [], ◌∷◌, length, map, refl, sym, ◌∙◌, ap, subst, arith}
use Rattle.std.specs.Prelude.{Option, Some, None, slice_get}
use Rattle.std.specs.Option.{option_map_or}
use Rattle.pb_hosts.proofs.FirstRows.{length-first}
use Rattle.pb_audit.specs.Audit.{start_under, end_of, end_under}
use Rattle.pb_engine.proofs.Laws.{ends_together}
use Rattle.pb_facts.proofs.Each.{layer_gathers}
use Rattle.pb_facts.specs.Facts.{FactsOf, no_facts, gathered_layer, gathered_in}
use Rattle.pb_ids.specs.declared.numbers.HostNo.{HostNo}
use Rattle.pb_host.specs.declared.host.Counts.{Counts}
use Rattle.pb_host.specs.Host.{HostOf, none_counted}
use Rattle.pb_plan.specs.Plan.{PlanOf}
use Rattle.pb_state.specs.declared.event.Event.{Event}
use Rattle.pb_state.specs.Machine.{after}
use Rattle.pb_state.specs.Run.{state_from}
use Rattle.pb_state.specs.State.{State}
use Rattle.pb_state.proofs.Steps.{hosts_stay}
use Rattle.pb_value.specs.Datum.{Datum}
use Rattle.pb_driver.specs.SameEnd.{IsSameAt, IsFirstApart, EndsSame}

-- ---- two hosts' facts are known by their two layers
pub layers_tell : (one two : FactsOf) → gathered_layer one.gathered ≡ gathered_layer two.gathered → one.set ≡ two.set → one ≡ two
layers_tell one two layers sets =
    let gathered : one.gathered ≡ two.gathered = sym (layer_gathers one.gathered) ∙ ap gathered_in layers ∙ layer_gathers two.gathered in
    subst (λ (m : List (List ℕ × Datum)). one ≡ record two { set = m }) sets (subst (λ (g : Option (List (List ℕ × Datum))). one ≡ record one { gathered = g }) gathered refl)

-- ---- there is a row for each host, under any forks
rows_from : (plan : PlanOf) (s : State) (trail : List Event) → length (state_from plan s trail).rows ≡ length s.rows
rows_from plan s [] = refl
rows_from plan s (e ∷ es) = rows_from plan (after plan s e) es ∙ hosts_stay plan s e

pub rows_under : (plan : PlanOf) (forks : ℕ) (trail : List Event) (s : State) → s ≡ end_under plan forks trail → length s.rows ≡ length plan.inventory.hosts
rows_under plan forks trail s is = ap (λ (t : State). length t.rows) is ∙ rows_from plan (start_under plan forks) trail ∙ length-first 0 (length plan.inventory.hosts)

-- a host's counts stand at its number in the list of all
pub count_at : (rows : List HostOf) (host : ℕ) (counts : List Counts) (count : Counts) → counts ≡ map (λ (row : HostOf). row.counts) rows → slice_get counts host ≡ Some count
    → option_map_or (λ (row : HostOf). row.counts) (slice_get rows host) none_counted ≡ count
count_at rows host counts count is found = in_rows rows host (ap (λ (all : List Counts). slice_get all host) (sym is) ∙ found)
  where
    in_rows : (rows : List HostOf) (host : ℕ) → slice_get (map (λ (row : HostOf). row.counts) rows) host ≡ Some count → option_map_or (λ (row : HostOf). row.counts) (slice_get rows host) none_counted ≡ count
    in_rows [] host found = cc
    in_rows (row ∷ rows) zero found = cc
    in_rows (row ∷ rows) (suc host) found = in_rows rows host found

-- ---- the loop
below_or : (h n : ℕ) → h < n + 1 → (h < n) ⊎ (h ≡ n)
below_or zero zero below = inr refl
below_or zero (suc n) below = inl (omega arith)
below_or (suc h) zero below = absurd (omega (arith, below))
below_or (suc h) (suc n) below = up (below_or h n (omega (arith, below)))
  where
    up : (h < n) ⊎ (h ≡ n) → (suc h < suc n) ⊎ (suc h ≡ suc n)
    up (inl less) = inl (omega (arith, less))
    up (inr same) = inr (ap suc same)

pub same_more : (s t : State) (n : ℕ) → ((host : ℕ) → host < n → IsSameAt s t host) → IsSameAt s t n → (host : ℕ) → host < n + 1 → IsSameAt s t host
same_more s t n before here host below = either (below_or host n below)
  where
    either : (host < n) ⊎ (host ≡ n) → IsSameAt s t host
    either (inl less) = before host less
    either (inr same) = subst (IsSameAt s t) (sym same) here

-- ---- two whole runs under fixed outcomes
pub same_rows : (s t : State) → s.rows ≡ t.rows → (host : ℕ) → IsSameAt s t host
same_rows s t rows host =
    record {
      facts = ap (λ (all : List HostOf). option_map_or (λ (row : HostOf). row.facts) (slice_get all host) no_facts) rows;
      counts = ap (λ (all : List HostOf). option_map_or (λ (row : HostOf). row.counts) (slice_get all host) none_counted) rows;
    }

pub first_of_ends : (plan : PlanOf) (trail : List Event) (own forks : ℕ) (other : List Event) (s t : State) (found : Option HostNo) → own ≡ plan.forks → s ≡ end_under plan own trail → t ≡ end_under plan forks other
    → IsFirstApart plan s t found → IsFirstApart plan (end_of plan trail) (end_under plan forks other) found
first_of_ends plan trail own forks other s t found same is also first =
    subst (λ (u : State). IsFirstApart plan u (end_under plan forks other) found) (is ∙ ap (λ (n : ℕ). end_under plan n trail) same)
    (subst (λ (u : State). IsFirstApart plan s u found) also first)

ends_same : (plan : PlanOf) (trail : List Event) (forks : ℕ) (other : List Event) (found : Option HostNo) → IsFirstApart plan (end_of plan trail) (end_under plan forks other) found
    → EndsSame plan trail forks other found
ends_same plan trail forks other None first f linear independent one two = refl
ends_same plan trail forks other (Some host) first f linear independent one two =
    absurd
    (first.2
    (same_rows (end_of plan trail) (end_under plan forks other)
    (ends_together plan f plan.forks 256 trail linear independent one ∙ sym (ends_together plan f forks 256 other linear independent two)) host.0))

pub same_of_ends : (plan : PlanOf) (trail : List Event) (own forks : ℕ) (other : List Event) (s t : State) (found : Option HostNo) → own ≡ plan.forks → s ≡ end_under plan own trail → t ≡ end_under plan forks other
    → IsFirstApart plan s t found → EndsSame plan trail forks other found
same_of_ends plan trail own forks other s t found same is also first = ends_same plan trail forks other found (first_of_ends plan trail own forks other s t found same is also first)
