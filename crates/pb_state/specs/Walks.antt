-- Where the hosts of a batch are: each at the place to which its answers lead in the tree of the play that is open
-- (Ansible's documentation, "Controlling playbook execution: strategies").
use Rattle.std.specs.Prelude.{◌≡◌, ℕ, ◌+◌, true, false, List, [], ◌∷◌, Option, Some, None}
use Rattle.pb_tree.specs.Tree.{TreeOf}
use Rattle.pb_tree.specs.Walk.{reach}
use Rattle.pb_state.specs.declared.event.Event.{Event}
use Rattle.pb_plan.specs.Plan.{PlayOf, PlanOf}
use Rattle.pb_host.specs.Host.{HostOf, place_of, next_place}
use Rattle.pb_state.specs.State.{State}
use Rattle.pb_state.specs.Machine.{open_play}
use Rattle.pb_state.specs.Run.{state_after_under}

-- the place to which a host's answers lead it in this tree; none where it has walked to its end
abbrev pub walks_in : TreeOf → HostOf → Option ℕ
walks_in tree row = place_of (reach tree row.answers)

-- a host of the batch is where its answers lead in this tree, and any other is nowhere
pub record IsWalked (tree : TreeOf) (row : HostOf) : Type 0 where
  pub next : row.in_batch ≡ true → next_place row ≡ walks_in tree row
  pub whose : row.in_batch ≡ true → row.tree ≡ tree
  pub away : row.in_batch ≡ false → next_place row ≡ None

-- the same of all these hosts
abbrev pub AreWalked : TreeOf → List HostOf → Type 0
AreWalked tree [] = Unit {0}
AreWalked tree (row ∷ rows) = IsWalked tree row × AreWalked tree rows

-- in the play whose batch is open
abbrev pub IsTracked : PlanOf → State → Type 0
IsTracked plan s = (play : PlayOf) → open_play plan s ≡ Some play → AreWalked play.tree s.rows

-- these rows have the numbers of their hosts, of which the first has the number h
abbrev pub AreNumbered : ℕ → List HostOf → Type 0
AreNumbered h [] = Unit {0}
AreNumbered h (row ∷ rows) = (row.host ≡ h) × AreNumbered (h + 1) rows

-- wherever events lead from the first state on
abbrev pub RowsStay : Type 0
RowsStay = (plan : PlanOf) (forks pool : ℕ) (trail : List Event) → AreNumbered 0 (state_after_under plan forks pool trail).rows

-- and there each host of the open batch is where its answers lead it
abbrev pub WalksLead : Type 0
WalksLead = (plan : PlanOf) (forks pool : ℕ) (trail : List Event) → IsTracked plan (state_after_under plan forks pool trail)
