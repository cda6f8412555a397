-- Where all hosts go through a playbook together: plays, batches and places in rising order, and at each place every host by itself. There are no events,
-- no tickets, no forks and no throttle (Ansible's documentation, "Controlling playbook execution: strategies and more").
use Rattle.std.specs.Prelude.{ℕ, zero, suc, ◌+◌, Bool, List, [], ◌∷◌, map, length, if◌then◌else◌}
use Rattle.std.specs.List.{list_any}
use Rattle.pb_batches.specs.Sizes.{batch_sizes}
use Rattle.pb_tree.specs.Tree.{size_of}
use Rattle.pb_plan.specs.Plan.{PlayOf, PlanOf}
use Rattle.pb_hosts.specs.Batches.{has_batch_left, play_host_count, joined_first}
use Rattle.pb_hosts.specs.Hosts.{has_hosts}
use Rattle.pb_hosts.specs.Turn.{BatchOf, has_done_run_once, turned}
use Rattle.pb_host.specs.Host.{HostOf, first_rows, is_at, as_play_begins, left, runs_once_at}
use Rattle.pb_host.specs.Runs.{is_in}
use Rattle.pb_confluence.specs.Fixed.{Fixed}
use Rattle.pb_confluence.specs.Effect.{complete}

-- ---- a place
-- hosts in order, up to the first that does the task for all
abbrev pub until_played_out : ℕ → (HostOf → HostOf) → List HostOf → List HostOf
until_played_out p does [] = []
until_played_out p does (row ∷ rows) = does row ∷ (if has_done_run_once p (does row) then rows else until_played_out p does rows)

-- each of these hosts does the task; or where it is done once, those up to the first that does it for all
abbrev pub by_each : Bool → ℕ → (HostOf → HostOf) → List HostOf → List HostOf
by_each once p does rows = if once then until_played_out p does rows else map does rows

-- what the place p does to the hosts, before anything of it goes from one to the others
abbrev pub at_place : PlanOf → Fixed → ℕ → PlayOf → ℕ → List HostOf → List HostOf
at_place plan f number play p rows = by_each (runs_once_at play p) p (complete plan f number play p) rows

-- then what one host did goes to the others, and hosts are halted
abbrev pub visited : PlanOf → Fixed → ℕ → PlayOf → ℕ → BatchOf → BatchOf
visited plan f number play p batch = turned plan.inventory play p (record { rows = at_place plan f number play p batch.rows; sizes_left = batch.sizes_left })

-- so many places in rising order, from p on; one at which nobody stands is passed over
abbrev pub at_places : PlanOf → Fixed → ℕ → PlayOf → ℕ → ℕ → BatchOf → BatchOf
at_places plan f number play zero p batch = batch
at_places plan f number play (suc n) p batch =
    at_places plan f number play n (p + 1) (if list_any (is_at p) batch.rows then visited plan f number play p batch else batch)

-- ---- a batch
-- it opens for the first hosts that wait, and goes through all places
abbrev pub in_batch : PlanOf → Fixed → ℕ → PlayOf → ℕ → List ℕ → List HostOf → BatchOf
in_batch plan f number play size sizes_left rows =
    at_places plan f number play (size_of play.tree) 0 (record { rows = joined_first play.tree size rows; sizes_left = sizes_left })

-- Where no host of it is left, nothing comes behind it. Else the play goes on with its next batch, unless hosts were halted, and then later plays come.
abbrev pub behind : Bool → Bool → List HostOf → List HostOf → List HostOf → List HostOf
behind some more over next then_plays = if some then (if more then next else then_plays) else over

-- the batches of these sizes, and behind them the plays that come then
abbrev pub at_batches : PlanOf → Fixed → ℕ → PlayOf → (List HostOf → List HostOf) → List ℕ → List HostOf → List HostOf
at_batches plan f number play plays [] rows = plays rows
at_batches plan f number play plays (size ∷ sizes_left) rows =
    behind (list_any is_in (in_batch plan f number play size sizes_left rows).rows) (has_batch_left (in_batch plan f number play size sizes_left rows).sizes_left)
    (map left (in_batch plan f number play size sizes_left rows).rows)
    (at_batches plan f number play plays sizes_left (map left (in_batch plan f number play size sizes_left rows).rows))
    (plays (map left (in_batch plan f number play size sizes_left rows).rows))

-- ---- plays
-- the batches of a play that begins: its hosts are those of its own that are active now
abbrev pub in_play : PlanOf → Fixed → ℕ → PlayOf → (List HostOf → List HostOf) → List HostOf → List HostOf
in_play plan f number play plays rows =
    at_batches plan f number play plays (batch_sizes play.serial (play_host_count play.hosts rows)) (map (as_play_begins play.hosts) rows)

-- plays, of which the first has this number; one without hosts is passed over
abbrev pub at_plays : PlanOf → Fixed → ℕ → List PlayOf → List HostOf → List HostOf
at_plays plan f number [] rows = rows
at_plays plan f number (play ∷ plays) rows =
    if has_hosts rows play then in_play plan f number play (λ more. at_plays plan f (number + 1) plays more) rows else at_plays plan f (number + 1) plays rows

-- the whole playbook
abbrev pub together : PlanOf → Fixed → List HostOf
together plan f = at_plays plan f 0 plan.plays (first_rows 0 (length plan.inventory.hosts))
