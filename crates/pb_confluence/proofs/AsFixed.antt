-- The facts and the recap of a run whose outcomes are fixed.
use Rattle.std.proofs.Common.{◌≡◌, ◌<◌, ◌∙◌, ℕ, zero, suc, ◌+◌, List, [], ◌∷◌, length, map, refl, sym, ap, arith}
use Rattle.std.specs.Prelude.{Option, Some, slice_get}
use Rattle.std.specs.List.{range_with_len}
use Rattle.std.specs.Option.{option_map_or}
use Rattle.pb_facts.specs.Facts.{no_facts}
use Rattle.pb_host.specs.declared.host.Counts.{Counts}
use Rattle.pb_host.specs.Host.{HostOf}
use Rattle.pb_recap.proofs.Counted.{recap_of_run}
use Rattle.pb_state.specs.State.{State}
use Rattle.pb_state.proofs.Held.{hosts_run, host_has_row}
use Rattle.pb_confluence.specs.Alone.{alone}
use Rattle.pb_confluence.specs.Ends.{facts_in, RunsEndAsFixed}
use Rattle.pb_confluence.specs.Together.{together}
use Rattle.pb_confluence.proofs.AloneEnds.{ends_alone}
use Rattle.pb_confluence.proofs.Ends.{ends_together}
use Rattle.pb_confluence.proofs.Forks.{counts_together, whole_of}

found_row : (rows : List HostOf) (h : ℕ) → h < length rows → (row : HostOf) × (slice_get rows h ≡ Some row)
found_row [] h below = absurd (omega (arith, below))
found_row (row ∷ rows) zero below = (row, refl)
found_row (row ∷ rows) (suc h) below = found_row rows h (omega (arith, below))

-- a list that is made by numbers, from n on
numbered_from : (f : HostOf → Counts) (g : ℕ → Counts) (n : ℕ) (rows : List HostOf) → ((h : ℕ) (row : HostOf) → slice_get rows h ≡ Some row → f row ≡ g (n + h))
    → map f rows ≡ map g (range_with_len n (length rows))
numbered_from f g n [] on = refl
numbered_from f g n (row ∷ rows) on =
    let first : n + 0 ≡ n = omega arith in
    ap (λ (c : Counts). c ∷ map f rows) (on 0 row refl ∙ ap g first)
    ∙ ap (λ (cs : List Counts). g n ∷ cs)
    (numbered_from f g (n + 1) rows (λ h other found. on (suc h) other found ∙ ap g (let next : n + suc h ≡ (n + 1) + h = omega arith in next)))

pub runs_end_as_fixed : RunsEndAsFixed
runs_end_as_fixed plan pool trail s =
    record {
      together =
          λ f linear independent run.
          let rows : s.rows ≡ together plan f = ap (λ (t : State). t.rows) (sym run.run.ends) ∙ ends_together plan f plan.forks pool trail linear independent (whole_of plan f pool trail s run) in record {
            rows = rows;
            facts = λ host. ap (λ (all : List HostOf). facts_in all host) rows;
            counts = counts_together plan f pool trail s linear independent run;
          };
      alone =
          λ f uncoupled independent run early.
          let each = ends_alone plan f pool trail s uncoupled independent run early in record {
            facts =
                λ host below.
                let there = found_row s.rows host (host_has_row plan pool trail s host run.run below) in
                ap (λ (found : Option HostOf). option_map_or (λ (row : HostOf). row.facts) found no_facts) there.1 ∙ (each host there.0 there.1).0;
            counts =
                sym (recap_of_run plan pool trail s run.run)
                ∙ numbered_from (λ (row : HostOf). row.counts) (λ (host : ℕ). (alone plan f host).counts) 0 s.rows
                (λ h row found. (each h row found).1 ∙ ap (λ (host : ℕ). (alone plan f host).counts) (let same : h ≡ 0 + h = omega arith in same))
                ∙ ap (λ (n : ℕ). map (λ (host : ℕ). (alone plan f host).counts) (range_with_len 0 n)) (hosts_run plan pool trail s run.run);
          };
    }
